use Rattle.std.proofs.Common.{◌≡◌, ◌++◌, take, drop}
use Rattle.vfs_model.specs.Paths.{place}
use Rattle.vfs_model.specs.Retained.{dirs_from}
use Rattle.snapshot_tree.specs.Meaning.{meaning_of}
use Rattle.snapshot_tree.specs.Pieces.{places_of}
use Rattle.snapshot_tree.proofs.snapshot.Snapshot.dirs_above.Given as goal

-- the directories so far, and those from here on
abbrev pub invariant-loop-depth : goal.invariant-loop-depth
invariant-loop-depth l =
    places_of l.case l.dirs.items ++ dirs_from l.case (take l.depth (place l.case l.e)) (meaning_of l.here) (drop l.depth (place l.case l.e))
    ≡ dirs_from l.case (take l.from (place l.case l.e)) (meaning_of l.self) (drop l.from (place l.case l.e))
