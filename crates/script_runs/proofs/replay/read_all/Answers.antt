use Rattle.std.proofs.Common.{◌+◌, refl, arith}
use Rattle.std.specs.Prelude.{Some, None}
use Rattle.vfs_model.specs.State.{CallRead}
use Rattle.vfs_machine.specs.Steps.{readed_reply}
use Rattle.script_report.specs.Stages.{Reads}
use Rattle.script_runs.proofs.HashingLemmas.{front-read}
use Rattle.script_runs.proofs.CallLemmas.{calls-of}
use Rattle.script_runs.proofs.LeadLemmas.{more-read, stopped-read, leads-stop, on-err}
use Rattle.script_runs.proofs.replay.read_all.Goals as goal

pub hash_on-requires-clause-front : goal.hash_on-requires-clause-front
hash_on-requires-clause-front g c = λ _ _. front-read g.V.Versions.version g.V.Versions.count c.loop-count.machine c.read.new.self c.args.caller c.loop-count.front.count c.loop-count.front.digests c.read.result (rw c.in-Saw.is refl) c.case-case.ensures.sound c.read.ensures.called c.loop-count.invariant.hashed

pub returns-in_err-hash_on-in-Saw-clause-broken : goal.returns-in_err-hash_on-in-Saw-clause-broken
returns-in_err-hash_on-in-Saw-clause-broken g c =
    on-err c.from_residual.result _
    (stopped-read g.V.Versions.version g.V.Versions.count c.args.machine.now c.loop-count.machine c.read.new.self c.args.caller c.loop-count.count c.read.result (calls-of g.V.Versions.version g.V.Versions.count c.loop-count.machine c.read.new.self (CallRead c.args.caller) (readed_reply c.read.result) c.read.ensures.called) c.loop-count.invariant.done)

pub returns-in-NoMemory-clause-broken : goal.returns-in-NoMemory-clause-broken
returns-in-NoMemory-clause-broken g c = stopped-read g.V.Versions.version g.V.Versions.count c.args.machine.now c.loop-count.machine c.read.new.self c.args.caller c.loop-count.count c.read.result (calls-of g.V.Versions.version g.V.Versions.count c.loop-count.machine c.read.new.self (CallRead c.args.caller) (readed_reply c.read.result) c.read.ensures.called) c.loop-count.invariant.done

pub loop-count-preserved : goal.loop-count-preserved
loop-count-preserved g c = record {
  done = more-read g.V.Versions.version g.V.Versions.count c.args.machine.now c.loop-count.machine c.read.new.self c.args.caller c.loop-count.count c.read.result (λ next. Reads c.args.caller (c.loop-count.count + 1) next) (rw c.in-Saw.is refl) (λ next. rw c.in-Saw.is refl) (calls-of g.V.Versions.version g.V.Versions.count c.loop-count.machine c.read.new.self (CallRead c.args.caller) (readed_reply c.read.result) c.read.ensures.called) c.loop-count.invariant.done;
  room = let more = c.read.ensures.called.spends in let before = c.loop-count.invariant.room in omega (arith, more, before);
  hashed = c.in_ok-hash_on-in-Saw.ensures;
}

pub returns-clause-broken : goal.returns-clause-broken
returns-clause-broken g c = λ next. leads-stop g.V.Versions.version g.V.Versions.count c.args.machine.now c.loop-count.machine c.args.caller (Reads c.args.caller 0 next) _ (c.loop-count.invariant.done next)

pub returns-in-Done-clause-done : goal.returns-in-Done-clause-done
returns-in-Done-clause-done g c = more-read g.V.Versions.version g.V.Versions.count c.args.machine.now c.loop-count.machine c.read.new.self c.args.caller c.loop-count.count c.read.result (λ next. next (Some c.loop-count.count)) (rw c.in-Done.is refl) (λ next. rw c.in-Done.is refl) (calls-of g.V.Versions.version g.V.Versions.count c.loop-count.machine c.read.new.self (CallRead c.args.caller) (readed_reply c.read.result) c.read.ensures.called) c.loop-count.invariant.done

pub returns-in-Done-clause-hashed : goal.returns-in-Done-clause-hashed
returns-in-Done-clause-hashed g c = front-read g.V.Versions.version g.V.Versions.count c.loop-count.machine c.read.new.self c.args.caller c.loop-count.front.count c.loop-count.front.digests c.read.result (rw c.in-Done.is refl) c.case-case.ensures.sound c.read.ensures.called c.loop-count.invariant.hashed

pub returns-in-NoScan-clause-done : goal.returns-in-NoScan-clause-done
returns-in-NoScan-clause-done g c = more-read g.V.Versions.version g.V.Versions.count c.args.machine.now c.loop-count.machine c.read.new.self c.args.caller c.loop-count.count c.read.result (λ next. next (Some c.loop-count.count)) (rw c.in-NoScan.is refl) (λ next. rw c.in-NoScan.is refl) (calls-of g.V.Versions.version g.V.Versions.count c.loop-count.machine c.read.new.self (CallRead c.args.caller) (readed_reply c.read.result) c.read.ensures.called) c.loop-count.invariant.done

pub returns-in-NoScan-clause-hashed : goal.returns-in-NoScan-clause-hashed
returns-in-NoScan-clause-hashed g c = front-read g.V.Versions.version g.V.Versions.count c.loop-count.machine c.read.new.self c.args.caller c.loop-count.front.count c.loop-count.front.digests c.read.result (rw c.in-NoScan.is refl) c.case-case.ensures.sound c.read.ensures.called c.loop-count.invariant.hashed

pub returns-in-Fault-clause-done : goal.returns-in-Fault-clause-done
returns-in-Fault-clause-done g c = more-read g.V.Versions.version g.V.Versions.count c.args.machine.now c.loop-count.machine c.read.new.self c.args.caller c.loop-count.count c.read.result (λ next. next (None)) (rw c.in-Fault.is refl) (λ next. rw c.in-Fault.is refl) (calls-of g.V.Versions.version g.V.Versions.count c.loop-count.machine c.read.new.self (CallRead c.args.caller) (readed_reply c.read.result) c.read.ensures.called) c.loop-count.invariant.done

pub returns-in-Fault-clause-hashed : goal.returns-in-Fault-clause-hashed
returns-in-Fault-clause-hashed g c = front-read g.V.Versions.version g.V.Versions.count c.loop-count.machine c.read.new.self c.args.caller c.loop-count.front.count c.loop-count.front.digests c.read.result (rw c.in-Fault.is refl) c.case-case.ensures.sound c.read.ensures.called c.loop-count.invariant.hashed
