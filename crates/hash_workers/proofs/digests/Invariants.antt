use Rattle.std.proofs.Common.{◌≡◌, ◌*◌, map, take}
use Rattle.vfs_model.specs.World.{digest_of_bytes}
use Rattle.hash_workers.proofs.digests.Given as goal

-- the digests of the contents in the runs so far
abbrev pub invariant-loop-run : goal.invariant-loop-run
invariant-loop-run g l = l.all.items ≡ map digest_of_bytes (take (l.run-index * l.size) l.contents)
