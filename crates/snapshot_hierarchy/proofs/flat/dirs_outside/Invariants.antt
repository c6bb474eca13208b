use Rattle.std.proofs.Common.{◌≡◌, take, filter, not}
use Rattle.vfs_model.specs.Paths.{place, is_at_or_above}
use Rattle.snapshot_tree.specs.Pieces.{places_of}
use Rattle.snapshot_hierarchy.proofs.flat.dirs_outside.Given as goal

abbrev pub invariant-loop-dir : goal.invariant-loop-dir
invariant-loop-dir l = places_of l.case l.left.items ≡ filter (λ d. not (is_at_or_above (place l.case l.path) d)) (places_of l.case (take l.dir-index l.dirs))
