use Rattle.std.proofs.Common.{◌≡◌, take}
use Rattle.vfs_model.specs.Paths.{place}
use Rattle.vfs_model.specs.Retained.{ancestors, insert_dirs}
use Rattle.snapshot_tree.specs.Pieces.{places_of}
use Rattle.snapshot_hierarchy.proofs.flat.add_ancestors.Given as goal

-- those nearer to the root are still to come
abbrev pub invariant-loop-n : goal.invariant-loop-n
invariant-loop-n l =
    insert_dirs (take l.n (ancestors (place l.case l.path))) (places_of l.case l.dirs.items)
    ≡ insert_dirs (ancestors (place l.case l.path)) (places_of l.case l.fn.dirs.items)
