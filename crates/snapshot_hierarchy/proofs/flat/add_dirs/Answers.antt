use Rattle.std.proofs.Common.{◌∙◌, arith}
use Rattle.snapshot_tree.specs.Pieces.{places_of}
use Rattle.snapshot_hierarchy.proofs.InsertLemmas.{insert_dirs-next}
use Rattle.snapshot_hierarchy.proofs.flat.add_dirs.Goals as goal

pub loop-i-preserved : goal.loop-i-preserved
loop-i-preserved c =
    insert_dirs-next c.args.case c.args.more.now c.loop-i.i c.index-more-i.result (places_of c.args.case c.loop-i.dirs.items) _ (omega arith) (omega arith) c.index-more-i.is c.in_ok-add_dir.ensures
    ∙ c.loop-i.invariant
