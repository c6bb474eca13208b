use Rattle.std.proofs.Common.{◌≡◌, length}
use Rattle.scan_walk.proofs.tests.scans_are_read_by_their_numbers.Given as goal

-- there are two scans
abbrev pub invariant-loop-at : goal.invariant-loop-at
invariant-loop-at g l = length l.scans.items ≡ 2
