use Rattle.std.proofs.Common.{◌∙◌, rules, ap, not, filter}
use Rattle.std.proofs.lemmas.Fn.{filter_same}
use Rattle.vfs_model.specs.Paths.{place}
use Rattle.vfs_model.specs.State.{KeptPrint, is_touched}
use Rattle.kept_fingerprints.proofs.list.KeptFingerprints.drop_related.Goals as goal

pub returns : goal.returns
returns c =
    filter_same _ (λ (k : KeptPrint). not (is_touched c.args.case (place c.args.case c.args.path.now) k)) _ (λ x b f' k. search rules) _ _ c.retain.ensures.filtered
    ∙ ap (filter (λ (k : KeptPrint). not (is_touched c.args.case (place c.args.case c.args.path.now) k))) c.self.view_is
