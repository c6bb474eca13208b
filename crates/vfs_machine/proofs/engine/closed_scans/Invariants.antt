use Rattle.std.proofs.Common.{◌≡◌, None, replicate}
use Rattle.vfs_machine.proofs.engine.closed_scans.Given as goal

abbrev pub invariant-loop-i : goal.invariant-loop-i
invariant-loop-i l = l.scans.items ≡ replicate l.i None
