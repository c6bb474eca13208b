use Rattle.std.proofs.Common.{◌≡◌, drop}
use Rattle.vfs_model.specs.Paths.{place}
use Rattle.vfs_model.specs.Snapshot.{sub}
use Rattle.snapshot_tree.specs.Meaning.{meaning_of}
use Rattle.snapshot_tree.proofs.snapshot.Snapshot.below.Given as goal

-- what is left of the way leads from here to the same part
abbrev pub invariant-loop-i : goal.invariant-loop-i
invariant-loop-i l = sub l.case (meaning_of l.fn.self) (drop l.fn.from (place l.case l.path)) ≡ sub l.case (meaning_of l.here) (drop l.i (place l.case l.path))
