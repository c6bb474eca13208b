use Rattle.std.proofs.Common.{◌≡◌, true, refl, arith}
use Rattle.vfs_model.specs.State.{CallDeliver, NothingPending}
use Rattle.vfs_machine.specs.Steps.{delivered_reply}
use Rattle.script_runs.proofs.CallLemmas.{calls-of}
use Rattle.script_runs.proofs.LeadLemmas.{is_delivery, more-delivered, more-spent, all-delivered, stopped-delivery}
use Rattle.script_runs.proofs.replay.settle.Goals.{in-Event, in-Cleared}
use Rattle.script_runs.proofs.replay.settle.Goals as goal

pub overflow_add-count : goal.overflow_add-count
overflow_add-count g c = let i = c.loop-count.invariant.counted in let r = c.requires in omega (arith, i, r)

pub overflow_add-count-in-Cleared : goal.overflow_add-count-in-Cleared
overflow_add-count-in-Cleared g c = let i = c.loop-count.invariant.counted in let r = c.requires in omega (arith, i, r)

pub returns-in-Nothing-clause-done : goal.returns-in-Nothing-clause-done
returns-in-Nothing-clause-done g c = all-delivered g.V.Versions.version g.V.Versions.count c.args.machine.now c.loop-count.machine c.deliver.new.self c.loop-count.count (calls-of g.V.Versions.version g.V.Versions.count c.loop-count.machine c.deliver.new.self CallDeliver NothingPending c.in-Nothing.ensures.called) c.loop-count.invariant.done

pub returns-in-NoMemory-clause-broken : goal.returns-in-NoMemory-clause-broken
returns-in-NoMemory-clause-broken g c = stopped-delivery g.V.Versions.version g.V.Versions.count c.args.machine.now c.loop-count.machine c.deliver.new.self c.loop-count.count (delivered_reply c.deliver.result) (calls-of g.V.Versions.version g.V.Versions.count c.loop-count.machine c.deliver.new.self CallDeliver (delivered_reply c.deliver.result) c.deliver.ensures.called) c.loop-count.invariant.done

-- the same goal three times: the path that was delivered is dropped, or has nothing to drop, or there is none
pub loop-count-preserved-after-deliver : goal.loop-count-preserved-after-deliver
loop-count-preserved-after-deliver g c =
    let before = c.loop-count.invariant in
    let is : is_delivery c.deliver.result ≡ true =
    elim c.match-deliver.branch [
      | in-Event w ↦ rw w.in-Event.is refl
      | in-Cleared w ↦ rw w.in-Cleared.is refl
    ] in
    let spent = more-spent c.deliver.result _ _ _ _ is c.deliver.ensures.counts in
    let a = before.counted in
    let b = before.room in
    let done = more-delivered g.V.Versions.version g.V.Versions.count c.args.machine.now c.loop-count.machine c.deliver.new.self c.loop-count.count c.deliver.result is (calls-of g.V.Versions.version g.V.Versions.count c.loop-count.machine c.deliver.new.self CallDeliver (delivered_reply c.deliver.result) c.deliver.ensures.called) before.done in
    record {
      done =
          elim c.match-deliver.branch [
            | in-Event w ↦ rw w.count-is done
            | in-Cleared w ↦ rw w.count-is done
          ];
      counted =
          elim c.match-deliver.branch [
            | in-Event w ↦ rw w.count-is (omega (arith, spent.0, spent.1, a))
            | in-Cleared w ↦ rw w.count-is (omega (arith, spent.0, spent.1, a))
          ];
      room = omega (arith, spent.0, spent.1, b);
    }

pub loop-count-preserved-after-deliver-2 : goal.loop-count-preserved-after-deliver-2
loop-count-preserved-after-deliver-2 g c =
    let before = c.loop-count.invariant in
    let is : is_delivery c.deliver.result ≡ true =
    elim c.match-deliver.branch [
      | in-Event w ↦ rw w.in-Event.is refl
      | in-Cleared w ↦ rw w.in-Cleared.is refl
    ] in
    let spent = more-spent c.deliver.result _ _ _ _ is c.deliver.ensures.counts in
    let a = before.counted in
    let b = before.room in
    let done = more-delivered g.V.Versions.version g.V.Versions.count c.args.machine.now c.loop-count.machine c.deliver.new.self c.loop-count.count c.deliver.result is (calls-of g.V.Versions.version g.V.Versions.count c.loop-count.machine c.deliver.new.self CallDeliver (delivered_reply c.deliver.result) c.deliver.ensures.called) before.done in
    record {
      done =
          elim c.match-deliver.branch [
            | in-Event w ↦ rw w.count-is done
            | in-Cleared w ↦ rw w.count-is done
          ];
      counted =
          elim c.match-deliver.branch [
            | in-Event w ↦ rw w.count-is (omega (arith, spent.0, spent.1, a))
            | in-Cleared w ↦ rw w.count-is (omega (arith, spent.0, spent.1, a))
          ];
      room = omega (arith, spent.0, spent.1, b);
    }

pub loop-count-preserved : goal.loop-count-preserved
loop-count-preserved g c =
    let before = c.loop-count.invariant in
    let is : is_delivery c.deliver.result ≡ true =
    elim c.match-deliver.branch [
      | in-Event w ↦ rw w.in-Event.is refl
      | in-Cleared w ↦ rw w.in-Cleared.is refl
    ] in
    let spent = more-spent c.deliver.result _ _ _ _ is c.deliver.ensures.counts in
    let a = before.counted in
    let b = before.room in
    let done = more-delivered g.V.Versions.version g.V.Versions.count c.args.machine.now c.loop-count.machine c.deliver.new.self c.loop-count.count c.deliver.result is (calls-of g.V.Versions.version g.V.Versions.count c.loop-count.machine c.deliver.new.self CallDeliver (delivered_reply c.deliver.result) c.deliver.ensures.called) before.done in
    record {
      done =
          elim c.match-deliver.branch [
            | in-Event w ↦ rw w.count-is done
            | in-Cleared w ↦ rw w.count-is done
          ];
      counted =
          elim c.match-deliver.branch [
            | in-Event w ↦ rw w.count-is (omega (arith, spent.0, spent.1, a))
            | in-Cleared w ↦ rw w.count-is (omega (arith, spent.0, spent.1, a))
          ];
      room = omega (arith, spent.0, spent.1, b);
    }
