use Rattle.std.proofs.Common.{◌∙◌, ap, arith}
use Rattle.vfs_model.specs.State.{glance}
use Rattle.snapshot_hierarchy.specs.Flat.{first_over}
use Rattle.snapshot_hierarchy.proofs.FindLemmas.{first-short, part-of_first, part-of_none}
use Rattle.snapshot_hierarchy.proofs.flat.FlatRetainRetain.find.Goals as goal

pub glance-requires : goal.glance-requires
glance-requires c =
    let first = c.in_ok-pair.ensures ∙ ap (first_over c.self.inside.case c.args.path.now) c.deref.ensures.value in
    let short = first-short c.self.inside.case c.args.path.now c.self.inside.pairs.items c.in_ok-pair.pair.now first in
    omega (arith, c.len.ensures.names)

pub returns-in_err-pair : goal.returns-in_err-pair
returns-in_err-pair c =
    let first = c.in_err-pair.ensures ∙ ap (first_over c.self.inside.case c.args.path.now) c.deref.ensures.value in
    rw (c.from_residual.ensures, ← c.self.view_is) (ap glance (part-of_none c.self.inside.case c.args.path.now c.self.inside.pairs.items first))

pub returns : goal.returns
returns c =
    let first = c.in_ok-pair.ensures ∙ ap (first_over c.self.inside.case c.args.path.now) c.deref.ensures.value in
    rw (← c.self.view_is) (c.glance.ensures ∙ (rw c.len.ensures.names (ap glance (part-of_first c.self.inside.case c.args.path.now c.self.inside.pairs.items c.in_ok-pair.pair.now first))))
