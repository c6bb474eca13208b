use Rattle.std.proofs.Common.{◌≡◌, ◌∙◌, ap, sym, subst}
use Rattle.vfs_model.specs.declared.Case.{Case}
use Rattle.vfs_model.specs.Paths.{place}
use Rattle.vfs_model.specs.Retained.{IsInShape, insert_dirs, known_above, insert_pair, after_invalidation}
use Rattle.vfs_laws.proofs.ShapeLemmas.{after_store-in_shape}
use Rattle.snapshot_tree.specs.Meaning.{meaning_of}
use Rattle.snapshot_tree.specs.Pieces.{pairs_of, places_of}
use Rattle.snapshot_hierarchy.specs.Held.{Held}
use Rattle.snapshot_hierarchy.specs.Flat.{holding, lists_of}
use Rattle.snapshot_hierarchy.proofs.LeftLemmas.{lists-stored}
use Rattle.snapshot_hierarchy.proofs.flat.FlatRetain.with.Goals as goal

pub returns-clause-kept : goal.returns-clause-kept
returns-clause-kept c =
    let old = c.args.self.now in
    let at = place old.case c.args.path.now in
    let s = meaning_of c.args.snapshot in
    let left = c.pairs.view_is ∙ c.in_ok-pairs.ensures.left in
    let case : c.case-case.result ≡ old.case = c.case-case.ensures.case in
    let lists : lists_of old.case c.pairs.inside.pairs.items c.pairs.inside.dirs.items ≡ after_invalidation old.case at old.retained =
    subst (λ (k : Case). lists_of k c.pairs.inside.pairs.items c.pairs.inside.dirs.items ≡ after_invalidation old.case at old.retained) (ap (λ (h : Held). h.case) left) (ap (λ (h : Held). h.retained) left) in
    let known : places_of old.case c.add_known.new.dirs.items ≡ insert_dirs (known_above at s) (places_of old.case c.pairs.inside.dirs.items) = rw case at c.in_ok-add_known.ensures in
    let kept : pairs_of old.case c.add_pair.new.pairs.items ≡ insert_pair (record { path = at; snapshot = s }) (pairs_of old.case c.pairs.inside.pairs.items) = rw (case, c.in_ok-path.ensures) at c.in_ok-add_pair.ensures in
    (λ i. holding (case i) (lists_of (case i) c.add_pair.new.pairs.items c.add_known.new.dirs.items))
    ∙ ap (holding old.case) (lists-stored old.case at s old.retained c.pairs.inside.pairs.items c.add_pair.new.pairs.items c.pairs.inside.dirs.items c.add_known.new.dirs.items c.requires.free lists known kept)

pub invariant_of-result : goal.invariant_of-result
invariant_of-result c =
    let old = c.args.self.now in
    subst (λ (h : Held). IsInShape h.case h.retained) (sym (returns-clause-kept c)) (after_store-in_shape old.case (place old.case c.args.path.now) (meaning_of c.args.snapshot) old.retained c.requires.tree c.case-case.ensures.shape)
