use Rattle.std.proofs.Common.{◌≡◌, ◌++◌, length}
use Rattle.hash_workers.specs.Ahead.{promised}
use Rattle.hash_workers.proofs.ahead.wait_until.Given as goal

-- what was found and what is still promised are together the same
abbrev pub invariant-loop-hashing : goal.invariant-loop-hashing
invariant-loop-hashing g l = l.digests.items ++ promised l.hashing.items ≡ l.initial.digests.items ++ promised l.initial.hashing.items

abbrev pub decreases-loop-hashing : goal.decreases-loop-hashing
decreases-loop-hashing g l = length l.hashing.items
