use Rattle.std.proofs.Common.{◌≡◌, map, take}
use Rattle.vfs_model.specs.World.{digest_of_bytes}
use Rattle.vfs_machine.proofs.tests.digests_of.Given as goal

-- the digests of the contents so far
abbrev pub invariant-loop-bytes : goal.invariant-loop-bytes
invariant-loop-bytes l = l.digests.items ≡ map digest_of_bytes (take l.bytes-index l.fn.contents)
