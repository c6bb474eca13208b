use Rattle.std.proofs.Common.{◌≡◌, take}
use Rattle.vfs_model.specs.Paths.{place}
use Rattle.vfs_model.specs.Retained.{all_pairs_left}
use Rattle.snapshot_tree.specs.Pieces.{pairs_of, places_of}
use Rattle.snapshot_hierarchy.specs.Flat.{opened_dirs}
use Rattle.snapshot_hierarchy.proofs.flat.pairs_left.Given as goal

abbrev pub invariant-loop-pair : goal.invariant-loop-pair
invariant-loop-pair l = record {
  pairs : pairs_of l.case l.left.items ≡ all_pairs_left l.case (place l.case l.path) (pairs_of l.case (take l.pair-index l.pairs));
  opened : places_of l.case l.opened.items ≡ opened_dirs l.case (place l.case l.path) (pairs_of l.case (take l.pair-index l.pairs));
}
