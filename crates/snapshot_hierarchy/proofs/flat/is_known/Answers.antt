use Rattle.std.proofs.Common.{◌∙◌, sym, rules, tests}
use Rattle.std.proofs.lemmas.Iterator.{YieldsList-from_slice}
use Rattle.std.proofs.lemmas.Iterator.Search.{any_from_yields_List}
use Rattle.vfs_model.specs.Paths.{Path, place, is_same_place}
use Rattle.snapshot_hierarchy.proofs.FindLemmas.{list_any-map}
use Rattle.snapshot_hierarchy.proofs.flat.is_known.Goals as goal

pub returns : goal.returns
returns c =
    let at : Path = place c.args.case c.args.path.now in
    any_from_yields_List (λ (d : Path). is_same_place (place c.args.case d) at) _ _ c.any.result c.any.ensures.ran (YieldsList-from_slice c.args.dirs.now cc) (λ x b q k. search (rules, tests))
    ∙ sym (list_any-map (λ (d : Path). is_same_place d at) (place c.args.case) c.args.dirs.now)
