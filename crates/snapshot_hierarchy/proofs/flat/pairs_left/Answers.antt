use Rattle.std.proofs.Common.{◌∙◌, ◌++◌, ap, sym}
use Rattle.vfs_model.specs.Paths.{place}
use Rattle.vfs_model.specs.Retained.{pairs_left, dirs_left}
use Rattle.snapshot_tree.specs.Pieces.{pair_of}
use Rattle.snapshot_hierarchy.proofs.LeftLemmas.{all_pairs_left-next, opened_dirs-next}
use Rattle.snapshot_hierarchy.proofs.flat.pairs_left.Goals as goal

pub loop-pair-preserved : goal.loop-pair-preserved
loop-pair-preserved c =
    let at = place c.args.case c.args.path.now in
    record {
      pairs = c.in_ok-add_left.ensures.pairs
          ∙ ap (λ l. l ++ pairs_left c.args.case at (pair_of c.args.case c.pair-item.result)) c.loop-pair.invariant.pairs
          ∙ sym (all_pairs_left-next c.args.case at c.args.pairs.now c.loop-pair.pair-index c.pair-item.result c.loop-pair-test.true c.pair-item.is);
      opened = c.in_ok-add_left.ensures.opened
          ∙ ap (λ l. l ++ dirs_left c.args.case at (pair_of c.args.case c.pair-item.result)) c.loop-pair.invariant.opened
          ∙ sym (opened_dirs-next c.args.case at c.args.pairs.now c.loop-pair.pair-index c.pair-item.result c.loop-pair-test.true c.pair-item.is);
    }
