use Rattle.std.proofs.Common.{◌∙◌, ap, sym, Some, arith}
use Rattle.std.specs.Prelude.{is_some}
use Rattle.vfs_model.specs.Paths.{place}
use Rattle.snapshot_tree.specs.Pieces.{pairs_of}
use Rattle.snapshot_hierarchy.specs.Flat.{first_over}
use Rattle.snapshot_hierarchy.proofs.FindLemmas.{first-short, on-error, part-of_first, part-of_none, part-tree}
use Rattle.snapshot_hierarchy.proofs.flat.FlatRetainRetain.part.Goals as goal

pub sub-requires : goal.sub-requires
sub-requires c =
    let first = c.in-Some.ensures ∙ ap (first_over c.self.inside.case c.args.path.now) c.deref.ensures.value in
    let short = first-short c.self.inside.case c.args.path.now c.self.inside.pairs.items c.in-Some.pair.now first in
    omega (arith, c.len.ensures.names)

pub returns-in_ok-part-in-Some-clause-found : goal.returns-in_ok-part-in-Some-clause-found
returns-in_ok-part-in-Some-clause-found c =
    let first = c.in-Some.ensures ∙ ap (first_over c.self.inside.case c.args.path.now) c.deref.ensures.value in
    rw (← c.self.view_is) (ap Some c.in_ok-part-in-Some.ensures ∙ (rw c.len.ensures.names (part-of_first c.self.inside.case c.args.path.now c.self.inside.pairs.items c.in-Some.pair.now first)))

pub returns-in_ok-part-in-Some-clause-tree : goal.returns-in_ok-part-in-Some-clause-tree
returns-in_ok-part-in-Some-clause-tree c =
    let first = c.in-Some.ensures ∙ ap (first_over c.self.inside.case c.args.path.now) c.deref.ensures.value in
    let whole = part-tree c.self.inside.case (pairs_of c.self.inside.case c.self.inside.pairs.items) (place c.self.inside.case c.args.path.now) _ c.self.invariant.trees (part-of_first c.self.inside.case c.args.path.now c.self.inside.pairs.items c.in-Some.pair.now first) in
    rw (← c.self.view_is, c.in_ok-part-in-Some.ensures, c.len.ensures.names) whole

pub returns-in_err-part-in-Some-clause-last : goal.returns-in_err-part-in-Some-clause-last
returns-in_err-part-in-Some-clause-last c =
    let first = c.in-Some.ensures ∙ ap (first_over c.self.inside.case c.args.path.now) c.deref.ensures.value in
    rw (← c.self.view_is) (on-error c.from_residual.result (ap is_some (sym (part-of_first c.self.inside.case c.args.path.now c.self.inside.pairs.items c.in-Some.pair.now first))))

pub returns-in-None-clause-found : goal.returns-in-None-clause-found
returns-in-None-clause-found c =
    let first = c.in-None.ensures ∙ ap (first_over c.self.inside.case c.args.path.now) c.deref.ensures.value in
    rw (← c.self.view_is) (part-of_none c.self.inside.case c.args.path.now c.self.inside.pairs.items first)
