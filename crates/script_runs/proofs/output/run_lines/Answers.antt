use Rattle.std.proofs.Common.{suc, ◌<◌, List, ◌∷◌, [], length, take, drop, sym, subst, arith, rules}
use Rattle.std.proofs.lemmas.Result.{err_from_is_err_and}
use Rattle.script_text.specs.declared.script.Line.{Line}
use Rattle.script_runs.specs.Printing.{CanRun}
use Rattle.script_runs.specs.Running.{RunsLines, BreaksLines}
use Rattle.script_runs.proofs.PrefixLemmas.{Each-get, split-at, take-next}
use Rattle.script_runs.proofs.RunLemmas.{lines-none, lines-then, lines-break}
use Rattle.script_runs.proofs.output.run_lines.Goals as goal

pub put_line-requires : goal.put_line-requires
put_line-requires g c =
    let here : c.loop-line.line-index < length c.args.lines.now = c.loop-line-test.true in
    let room = c.loop-line.invariant.room in (
      search rules,
      (
        Each-get CanRun c.args.lines.now c.loop-line.line-index c.line-item.result c.requires.lines here c.line-item.is,
        omega (arith, here, room),
      ),
    )

pub loop-line-init : goal.loop-line-init
loop-line-init g c = record {
  run = lines-none g.V.Versions.version g.V.Versions.count c.args.machine.now (g.K.Sink.told c.args.sink.now);
  room = let room = c.requires.room in omega (arith, room);
  later = omega arith;
}

pub loop-line-preserved : goal.loop-line-preserved
loop-line-preserved g c =
    let before = c.loop-line.invariant in
    let lines = c.args.lines.now in
    let i = c.loop-line.line-index in
    let line = c.line-item.result in
    let here : i < length lines = c.loop-line-test.true in
    let room = before.room in
    let spends = c.in_ok-put_line.ensures.room in
    let later = before.later in
    let later_too = c.put_line.ensures.later in
    record {
      run =
          subst (λ (ls : List Line). RunsLines g.V.Versions.version g.V.Versions.count c.args.machine.now c.put_line.new.machine ls (g.K.Sink.told c.args.sink.now) (g.K.Sink.told c.put_line.new.sink)) (sym (take-next lines i line here c.line-item.is))
          (lines-then g.V.Versions.version g.V.Versions.count c.args.machine.now c.loop-line.machine c.put_line.new.machine (take i lines) (line ∷ []) _ _ _ before.run c.in_ok-put_line.ensures.ok);
      room = omega (arith, here, room, spends);
      later = omega (arith, later, later_too);
    }

pub returns-in_err-put_line-clause-err : goal.returns-in_err-put_line-clause-err
returns-in_err-put_line-clause-err g c =
    let p = err_from_is_err_and c.from_residual.result c.from_residual.ensures.1 in
    let before = c.loop-line.invariant in
    let lines = c.args.lines.now in
    let i = c.loop-line.line-index in
    let line = c.line-item.result in
    let e = c.in_err-put_line.field-0.0 in
    rw (p.1, p.2)
    (subst (λ (ls : List Line). BreaksLines g.V.Versions.version g.V.Versions.count c.args.machine.now c.put_line.new.machine ls (g.K.Sink.told c.args.sink.now) (g.K.Sink.told c.put_line.new.sink) e)
    (sym (split-at lines i line c.loop-line-test.true c.line-item.is))
    (lines-break g.V.Versions.version g.V.Versions.count c.args.machine.now c.loop-line.machine c.put_line.new.machine (take i lines) (line ∷ []) (drop (suc i) lines) _ _ _ e before.later before.run c.in_err-put_line.ensures.err))
