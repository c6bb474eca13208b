use Rattle.std.proofs.Common.{◌∙◌, rules, tests, ap}
use Rattle.std.proofs.lemmas.Iterator.{YieldsList-from_slice}
use Rattle.std.proofs.lemmas.Iterator.Search.{any_from_yields_List}
use Rattle.vfs_model.specs.Paths.{Path, place, is_related}
use Rattle.vfs_model.specs.State.{KeptPrint, is_touched}
use Rattle.fingerprint_norms.specs.declared.input.Seen.{Seen as SeenValue}
use Rattle.kept_fingerprints.proofs.InputLemmas.{touched-is}
use Rattle.kept_fingerprints.proofs.kept.Kept.is_related.Goals as goal

pub returns : goal.returns
returns c =
    let at : Path = place c.args.case c.args.path.now in
    any_from_yields_List (λ (v : SeenValue). is_related at (place c.args.case v.input.root)) _ _ c.any.result c.any.ensures.ran (YieldsList-from_slice c.self.inside.seen.items (c.iter.ensures.rest ∙ c.deref.ensures.value)) (λ x b q k. search (rules, tests))
    ∙ touched-is c.args.case at c.self.inside.seen.items
    ∙ ap (λ (k : KeptPrint). is_touched c.args.case at k) c.self.view_is
