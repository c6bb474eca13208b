use Rattle.std.proofs.Common.{◌∙◌, ◌&&◌, not, sym, rules, tests}
use Rattle.std.proofs.lemmas.Iterator.{YieldsList-from_slice}
use Rattle.std.proofs.lemmas.Iterator.Search.{any_from_yields_List}
use Rattle.vfs_model.specs.Paths.{Path, place, is_at_or_above}
use Rattle.vfs_model.specs.Retained.{Pair}
use Rattle.snapshot_tree.specs.declared.pieces.Pair.{Pair as PairValue}
use Rattle.snapshot_tree.specs.Pieces.{pair_of}
use Rattle.snapshot_hierarchy.proofs.FindLemmas.{list_any-map}
use Rattle.snapshot_hierarchy.proofs.flat.is_covered.Goals as goal

pub returns : goal.returns
returns c =
    let at : Path = place c.args.case c.args.path.now in
    any_from_yields_List (λ (q : PairValue). is_at_or_above (place c.args.case q.path) at && not (is_at_or_above at (place c.args.case q.path))) _ _ c.any.result c.any.ensures.ran (YieldsList-from_slice c.args.pairs.now cc) (λ x b q k. search (rules, tests))
    ∙ sym (list_any-map (λ (r : Pair). is_at_or_above r.path at && not (is_at_or_above at r.path)) (pair_of c.args.case) c.args.pairs.now)
