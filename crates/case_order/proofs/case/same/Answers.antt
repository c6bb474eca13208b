use Rattle.std.proofs.Common.{◌∙◌, ap}
use Rattle.std.specs.Ordering.{is_eq}
use Rattle.std.proofs.lemmas.Map.Text.{is_eq-slice_cmp}
use Rattle.vfs_model.specs.Paths.{folded_name}
use Rattle.case_order.proofs.case.same.Goals as goal

pub returns-clause-value : goal.returns-clause-value
returns-clause-value c =
    c.is_eq.ensures ∙ ap is_eq c.order.ensures.value ∙ is_eq-slice_cmp (folded_name c.args.case c.args.a.now) (folded_name c.args.case c.args.b.now)
