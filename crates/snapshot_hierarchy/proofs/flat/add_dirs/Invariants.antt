use Rattle.std.proofs.Common.{◌≡◌, take}
use Rattle.vfs_model.specs.Retained.{insert_dirs}
use Rattle.snapshot_tree.specs.Pieces.{places_of}
use Rattle.snapshot_hierarchy.proofs.flat.add_dirs.Given as goal

-- the first of them are still to come
abbrev pub invariant-loop-i : goal.invariant-loop-i
invariant-loop-i l =
    insert_dirs (places_of l.case (take l.i l.more)) (places_of l.case l.dirs.items)
    ≡ insert_dirs (places_of l.case l.more) (places_of l.case l.fn.dirs.items)
