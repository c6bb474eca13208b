use Rattle.std.proofs.Common.{arith, ℕ}
use Rattle.std.proofs.lemmas.List.{length-take, length-drop}
use Rattle.vfs_io.proofs.Prefixes.{Appends-more}
use Rattle.vfs_io.proofs.standard.StdSinkSink.put.Goals as goal

pub loop-done-preserved : goal.loop-done-preserved
loop-done-preserved g c =
    let before = c.loop-done.invariant in
    let written = c.in-Ok.ensures in record {
      appended = Appends-more _ _ _ c.loop-done.done c.in-Ok.count c.args.piece.now before.appended written.bytes;
      within = omega (arith, written.bound, before.within, length-take {A = ℕ}, length-drop {A = ℕ});
      no_fault = before.no_fault;
    }
