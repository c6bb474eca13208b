use Rattle.std.proofs.Common.{◌≡◌, ◌++◌, take, drop}
use Rattle.vfs_model.specs.Paths.{place}
use Rattle.vfs_model.specs.Retained.{insert_dir}
use Rattle.snapshot_tree.specs.Pieces.{places_of}
use Rattle.snapshot_hierarchy.proofs.flat.add_dir.Given as goal

-- the directory goes behind those that were passed
abbrev pub invariant-loop-i : goal.invariant-loop-i
invariant-loop-i l =
    insert_dir (place l.case l.dir) (places_of l.case l.fn.dirs.items)
    ≡ places_of l.case (take l.i l.dirs.items) ++ insert_dir (place l.case l.dir) (places_of l.case (drop l.i l.dirs.items))
