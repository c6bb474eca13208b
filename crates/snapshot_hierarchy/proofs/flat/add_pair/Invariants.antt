use Rattle.std.proofs.Common.{◌≡◌, ◌++◌, take, drop}
use Rattle.vfs_model.specs.Retained.{insert_pair}
use Rattle.snapshot_tree.specs.Pieces.{pair_of, pairs_of}
use Rattle.snapshot_hierarchy.proofs.flat.add_pair.Given as goal

-- the pair goes behind those that were passed
abbrev pub invariant-loop-i : goal.invariant-loop-i
invariant-loop-i l =
    insert_pair (pair_of l.case l.pair) (pairs_of l.case l.fn.pairs.items)
    ≡ pairs_of l.case (take l.i l.pairs.items) ++ insert_pair (pair_of l.case l.pair) (pairs_of l.case (drop l.i l.pairs.items))
