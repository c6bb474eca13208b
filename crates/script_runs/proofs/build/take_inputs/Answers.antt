use Rattle.std.proofs.Common.{◌+◌, map, refl, ap, ◌∙◌, arith}
use Rattle.vfs_model.specs.State.{Fault}
use Rattle.fingerprint_norms.specs.Meaning.{input_of}
use Rattle.script_report.specs.Lines.{no_counts, taking, tells}
use Rattle.script_runs.specs.Taking.{counts_of}
use Rattle.script_runs.proofs.LeadLemmas.{leads-none, on-err}
use Rattle.script_runs.proofs.TakeLemmas.{input-leads, input-stops, all-taken}
use Rattle.script_runs.proofs.build.take_inputs.Goals as goal

pub take_input-requires-clause-few : goal.take_input-requires-clause-few
take_input-requires-clause-few g c = let few = c.requires.few in let here = c.loop-input-test.true in let n = c.loop-input.invariant.counted in omega (arith, few, here, n)

pub loop-input-init : goal.loop-input-init
loop-input-init g c = record {
  done = λ all. leads-none g.V.Versions.version g.V.Versions.count c.args.machine.now c.args.caller (taking c.args.caller all (map input_of c.args.inputs.now) no_counts);
  counted = refl;
  room = omega arith;
}

pub loop-input-preserved : goal.loop-input-preserved
loop-input-preserved g c =
    let taken = rw c.in-Some.is at c.in_ok-take_input.ensures.done in
    let counted = rw c.in-Some.is at c.in_ok-take_input.ensures.counted in
    let room = c.take_input.ensures.room in
    let b = c.loop-input.invariant.room in
    record {
      done = input-leads g.V.Versions.version g.V.Versions.count c.args.machine.now c.loop-input.machine c.take_input.new.machine c.args.caller c.args.inputs.now c.loop-input.input-index c.input-item.result (counts_of c.loop-input.counts) (λ more. more (counts_of c.in-Some.more)) c.loop-input-test.true c.input-item.is c.loop-input.invariant.done taken;
      counted = counted ∙ ap (λ n. n + 1) c.loop-input.invariant.counted;
      room = omega (arith, room, b);
    }

pub returns-in-None-clause-done : goal.returns-in-None-clause-done
returns-in-None-clause-done g c =
    let taken = rw c.in-None.is at c.in_ok-take_input.ensures.done in
    input-leads g.V.Versions.version g.V.Versions.count c.args.machine.now c.loop-input.machine c.take_input.new.machine c.args.caller c.args.inputs.now c.loop-input.input-index c.input-item.result (counts_of c.loop-input.counts) (λ more. tells Fault) c.loop-input-test.true c.input-item.is c.loop-input.invariant.done taken

pub returns-in_err-take_input-clause-broken : goal.returns-in_err-take_input-clause-broken
returns-in_err-take_input-clause-broken g c =
    on-err c.from_residual.result _ (input-stops g.V.Versions.version g.V.Versions.count c.args.machine.now c.loop-input.machine c.take_input.new.machine c.args.caller c.args.inputs.now c.loop-input.input-index c.input-item.result (counts_of c.loop-input.counts) c.loop-input-test.true c.input-item.is c.loop-input.invariant.done c.in_err-take_input.ensures.broken)

pub returns-clause-done : goal.returns-clause-done
returns-clause-done g c =
    all-taken g.V.Versions.version g.V.Versions.count c.args.machine.now c.loop-input.machine c.args.caller c.args.inputs.now c.loop-input.input-index (counts_of c.loop-input.counts) (omega (arith, c.loop-input-test.false)) c.loop-input.invariant.done
