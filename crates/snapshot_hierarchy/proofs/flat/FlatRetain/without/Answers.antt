use Rattle.std.proofs.Common.{◌∙◌, List, filter, not, ap, sym, subst}
use Rattle.vfs_model.specs.Paths.{Path, place, is_at_or_above}
use Rattle.vfs_model.specs.Retained.{IsInShape, insert_dirs, all_pairs_left}
use Rattle.vfs_laws.proofs.ShapeLemmas.{after_invalidation-in_shape}
use Rattle.snapshot_tree.specs.declared.pieces.Pair.{Pair as PairValue}
use Rattle.snapshot_tree.specs.Pieces.{pairs_of, places_of}
use Rattle.snapshot_hierarchy.specs.Flat.{holding, lists_of, opened_dirs}
use Rattle.snapshot_hierarchy.proofs.LeftLemmas.{lists-left}
use Rattle.snapshot_hierarchy.proofs.flat.FlatRetain.without.Goals as goal

pub invariant_of-result : goal.invariant_of-result
invariant_of-result c =
    let case = c.self.inside.case in
    let at = place c.self.inside.case c.args.path.now in
    let left = lists-left case at c.self.inside.pairs.items c.in_ok-pairs.pairs.items c.self.inside.dirs.items c.in_ok-pairs.opened.items c.in_ok-dirs.dirs.items c.add_dirs.new.dirs.items
    (c.in_ok-pairs.ensures.pairs ∙ ap (λ (l : List PairValue). all_pairs_left case at (pairs_of case l)) c.deref.ensures.value)
    (c.in_ok-pairs.ensures.opened ∙ ap (λ (l : List PairValue). opened_dirs case at (pairs_of case l)) c.deref.ensures.value)
    (c.in_ok-dirs.ensures ∙ ap (λ (l : List Path). filter (λ d. not (is_at_or_above at d)) (places_of case l)) c.deref-2.ensures.value)
    (c.in_ok-add_dirs.ensures ∙ ap (λ (l : List Path). insert_dirs (places_of case l) (places_of case c.in_ok-dirs.dirs.items)) c.deref-3.ensures.value) in
    subst (IsInShape case) (sym left) (after_invalidation-in_shape case at (lists_of case c.self.inside.pairs.items c.self.inside.dirs.items) c.self.invariant)

pub returns-clause-left : goal.returns-clause-left
returns-clause-left c =
    let case = c.self.inside.case in
    let at = place c.self.inside.case c.args.path.now in
    let left = lists-left case at c.self.inside.pairs.items c.in_ok-pairs.pairs.items c.self.inside.dirs.items c.in_ok-pairs.opened.items c.in_ok-dirs.dirs.items c.add_dirs.new.dirs.items
    (c.in_ok-pairs.ensures.pairs ∙ ap (λ (l : List PairValue). all_pairs_left case at (pairs_of case l)) c.deref.ensures.value)
    (c.in_ok-pairs.ensures.opened ∙ ap (λ (l : List PairValue). opened_dirs case at (pairs_of case l)) c.deref.ensures.value)
    (c.in_ok-dirs.ensures ∙ ap (λ (l : List Path). filter (λ d. not (is_at_or_above at d)) (places_of case l)) c.deref-2.ensures.value)
    (c.in_ok-add_dirs.ensures ∙ ap (λ (l : List Path). insert_dirs (places_of case l) (places_of case c.in_ok-dirs.dirs.items)) c.deref-3.ensures.value) in
    rw (← c.self.view_is) (ap (holding case) left)
