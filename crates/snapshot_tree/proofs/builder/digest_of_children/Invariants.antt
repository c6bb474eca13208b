use Rattle.std.proofs.Common.{take}
use Rattle.vfs_model.specs.Fingerprint.{digest_bytes}
use Rattle.merkle_hash.specs.DirHasher.{HasTaken}
use Rattle.snapshot_tree.specs.Meaning.{children_in}
use Rattle.snapshot_tree.proofs.builder.digest_of_children.Given as goal

-- the hasher has taken the children so far
abbrev pub invariant-loop-child : goal.invariant-loop-child
invariant-loop-child l = HasTaken l.hasher (digest_bytes (children_in (take l.child-index l.children)))
