use Rattle.std.proofs.Common.{◌≡◌, ◌-◌, ◌≤◌, length, take}
use Rattle.std.specs.Io.KnownBytes.{Appends}
use Rattle.vfs_io.proofs.standard.StdSinkSink.put.Given as goal

abbrev pub invariant-loop-done : goal.invariant-loop-done
invariant-loop-done g l = record {
  appended : Appends l.fn.self.bytes (g.W.Write.contents l.self-inside.writer) (take l.done l.piece);
  within : l.done ≤ length l.piece;
  no_fault : l.self-inside.faults.count ≡ l.fn.self.faults;
}

abbrev pub decreases-loop-done : goal.decreases-loop-done
decreases-loop-done g l = length l.piece - l.done
