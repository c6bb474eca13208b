-- What is found after an invalidation and after a store.
use Rattle.std.proofs.Common.{◌≡◌, ◌⊎◌, true, false, cond, not, List, [], ◌∷◌, ◌++◌, length, drop, filter, refl, sym, ap, ◌∙◌, subst, Some, None, append_assoc, append-nil, inl, inr}
use Rattle.std.proofs.lemmas.Bool.{both_ways, or_right, or_parts, or_from, and_from, false_from_ne_true, not_from_false, or_cases}
use Rattle.std.specs.List.{AllByRecursion as Each}
use Rattle.std.proofs.Math.Seq.{drop-append_seam}
use Rattle.vfs_model.specs.declared.Case.{Case}
use Rattle.vfs_model.specs.Paths.{Path, is_at_or_above, is_related}
use Rattle.vfs_model.specs.Snapshot.{Snapshot, sub, IsTree}
use Rattle.vfs_model.specs.Retained.{Pair, Retained, part_of, precedes, insert_pair, pieces, pairs_left, all_pairs_left, is_covered, after_store, AreInLine}
use Rattle.vfs_laws.proofs.Splits.{split, split_or}
use Rattle.vfs_laws.proofs.PathLemmas.{at_or_above-append, at_or_above-trans, above_both}
use Rattle.vfs_laws.proofs.OrderLemmas.{precedes-unrelated}
use Rattle.vfs_laws.proofs.NameLemmas.{each-weaker, some-is}
use Rattle.vfs_laws.proofs.RetainedLemmas.{IsPiece, pieces-are, each-append, sub-append, rest-is}

-- a part that is found is that of some pair of the list, of which all holds that holds of each
pub record IsFrom (case : Case) (P : Pair → Type 0) (x : Path) (f : Snapshot) : Type 0 where
  pub pair : Pair
  pub holds : P pair
  pub above : is_at_or_above pair.path x ≡ true
  pub part : sub case pair.snapshot (drop (length pair.path) x) ≡ f

-- a part that is found is that of a pair of the list, at or above the place
pub part-from : (case : Case) (P : Pair → Type 0) (rs : List Pair) (x : Path) (f : Snapshot) → Each P rs → part_of case rs x ≡ Some f → IsFrom case P x f
part-from case P [] x f h e = absurd (none f e)
  where
    none : (f : Snapshot) → None ≡ Some f → ⊥
    none f e = cc
part-from case P (r ∷ rs) x f h e =
    split (is_at_or_above r.path x)
    (λ s. record { pair = r; holds = h.0; above = s; part = some-is _ f (rw s at e) })
    (λ s. part-from case P rs x f h.1 (rw s at e))

part_of-append : (case : Case) (rs qs : List Pair) (x : Path) (f : Snapshot) → part_of case (rs ++ qs) x ≡ Some f → (part_of case rs x ≡ Some f) ⊎ (part_of case qs x ≡ Some f)
part_of-append case [] qs x f e = inr e
part_of-append case (r ∷ rs) qs x f e =
    split (is_at_or_above r.path x)
    (λ s. inl (rw s (rw s at e)))
    (λ s. split_or (part_of-append case rs qs x f (rw s at e)) (λ h. inl (rw s h)) (λ h. inr h))

-- what an invalidation leaves of a pair is part of it, and has nothing to do with e
pub pairs_left-are : (case : Case) (e : Path) (r : Pair) → IsTree case r.snapshot → Each (IsPiece case r.path r.snapshot e) (pairs_left case e r)
pairs_left-are case e r tree =
    split (is_at_or_above e r.path)
    (λ s. rw s tt)
    (λ s. split (is_at_or_above r.path e)
    (λ t. rw (s, t) (subst (λ z. Each (IsPiece case r.path r.snapshot z) (pieces case r.path r.snapshot (drop (length r.path) e))) (rest-is r.path e t)
    (pieces-are case r.path r.snapshot (drop (length r.path) e) tree)))
    (λ t. rw (s, t) (record { names = []; path_is = sym (append-nil r.path); snapshot_is = refl; unrelated = or_from _ _ s t }, tt)))

-- a place below one that has nothing to do with e has nothing to do with e
unrelated-below : (e q x : Path) → is_related e q ≡ false → is_at_or_above q x ≡ true → is_related e x ≡ false
unrelated-below e q x off on = false_from_ne_true _ (λ h. both_ways (is_related e q) off (split_or (or_cases _ _ h) (λ a. above_both e q x a on) (λ b. or_right _ _ (at_or_above-trans q x e on b))))

-- nothing is found at a place that has to do with the path that was invalidated
pub after_invalidation-related : (case : Case) (e : Path) (rs : List Pair) (x : Path) (f : Snapshot) → Each (λ (r : Pair). IsTree case r.snapshot) rs → part_of case (all_pairs_left case e rs) x ≡ Some f → is_related e x ≡ false
after_invalidation-related case e rs x f trees found =
    let from = part-from case (λ q. is_related e q.path ≡ false) (all_pairs_left case e rs) x f (each rs trees) found in
    unrelated-below e from.pair.path x from.holds from.above
  where
    each : (rs : List Pair) → Each (λ (r : Pair). IsTree case r.snapshot) rs → Each (λ (q : Pair). is_related e q.path ≡ false) (all_pairs_left case e rs)
    each [] trees = tt
    each (r ∷ rs) trees = each-append _ (pairs_left case e r) _ (each-weaker _ _ (λ q h. h.unrelated) _ (pairs_left-are case e r trees.0)) (each rs trees.1)

-- what is found was found before
pub after_invalidation-before : (case : Case) (e : Path) (rs : List Pair) (x : Path) (f : Snapshot) → Each (λ (r : Pair). IsTree case r.snapshot) rs → AreInLine rs → part_of case (all_pairs_left case e rs) x ≡ Some f → part_of case rs x ≡ Some f
after_invalidation-before case e [] x f trees apart found = found
after_invalidation-before case e (r ∷ rs) x f trees apart found =
    split_or (part_of-append case (pairs_left case e r) _ x f found)
    (λ h.
    let from = part-from case (IsPiece case r.path r.snapshot e) (pairs_left case e r) x f (pairs_left-are case e r trees.0) h in
    let y = from.holds.names in let z = drop (length from.pair.path) x in
    let x_is : r.path ++ (y ++ z) ≡ x = sym (append_assoc r.path y z) ∙ ap (λ p. p ++ z) (sym from.holds.path_is) ∙ rest-is from.pair.path x from.above in
    let is : sub case r.snapshot (y ++ z) ≡ f = sub-append case r.snapshot y z ∙ ap (λ s. sub case s z) (sym from.holds.snapshot_is) ∙ from.part in
    subst (λ p. part_of case (r ∷ rs) p ≡ Some f) x_is
    (rw (at_or_above-append r.path (y ++ z), drop-append_seam r.path (y ++ z), is) refl))
    (λ h.
    let old = after_invalidation-before case e rs x f trees.1 apart.1 h in
    let from = part-from case (λ q. is_related r.path q.path ≡ false) rs x f (each-weaker _ _ (λ q h. precedes-unrelated r.path q.path h) rs apart.0) old in
    let off : is_at_or_above r.path x ≡ false = false_from_ne_true _ (λ on. both_ways _ from.holds (above_both r.path from.pair.path x on from.above)) in
    rw off old)

-- ---- a store

part_of-insert_on : (case : Case) (r : Pair) (rs : List Pair) (x : Path) → is_at_or_above r.path x ≡ true → Each (λ (q : Pair). is_at_or_above q.path x ≡ false) rs → part_of case (insert_pair r rs) x ≡ Some (sub case r.snapshot (drop (length r.path) x))
part_of-insert_on case r [] x on off = rw on refl
part_of-insert_on case r (q ∷ rs) x on off =
    split (precedes r.path q.path)
    (λ s. rw (s, on) refl)
    (λ s. rw (s, off.0) (part_of-insert_on case r rs x on off.1))

part_of-insert_off : (case : Case) (r : Pair) (rs : List Pair) (x : Path) → is_at_or_above r.path x ≡ false → part_of case (insert_pair r rs) x ≡ part_of case rs x
part_of-insert_off case r [] x off = rw off refl
part_of-insert_off case r (q ∷ rs) x off =
    split (precedes r.path q.path)
    (λ s. rw (s, off) refl)
    (λ s. rw s (ap (λ o. cond (is_at_or_above q.path x) (Some (sub case q.snapshot (drop (length q.path) x))) o) (part_of-insert_off case r rs x off)))

part_of-filter : (case : Case) (p : Path) (rs : List Pair) (x : Path) → is_at_or_above p x ≡ false → part_of case (filter (λ (r : Pair). not (is_at_or_above p r.path)) rs) x ≡ part_of case rs x
part_of-filter case p [] x off = refl
part_of-filter case p (r ∷ rs) x off =
    split (is_at_or_above p r.path)
    (λ s.
    let t : is_at_or_above r.path x ≡ false = false_from_ne_true _ (λ on. both_ways _ off (at_or_above-trans p r.path x s on)) in
    rw (s, t) (part_of-filter case p rs x off))
    (λ s. rw s (ap (λ o. cond (is_at_or_above r.path x) (Some (sub case r.snapshot (drop (length r.path) x))) o) (part_of-filter case p rs x off)))

-- where a pair stands strictly above, nothing changes; else the part of the new pair is found at or below it, and elsewhere what was
pub after_store-at : (case : Case) (p : Path) (s : Snapshot) (retained : Retained) (x : Path) → is_covered retained.pairs p ≡ false → is_at_or_above p x ≡ true → part_of case (after_store p s retained).pairs x ≡ Some (sub case s (drop (length p) x))
after_store-at case p s retained x free on =
    rw free (part_of-insert_on case (record { path = p; snapshot = s }) _ x on (each retained.pairs free))
  where
    each : (rs : List Pair) → is_covered rs p ≡ false → Each (λ (q : Pair). is_at_or_above q.path x ≡ false) (filter (λ (r : Pair). not (is_at_or_above p r.path)) rs)
    each [] free = tt
    each (r ∷ rs) free =
        split (is_at_or_above p r.path)
        (λ t. rw t (each rs (or_parts _ _ free).1))
        (λ t. rw t (false_from_ne_true _ (λ u. both_ways _ (or_parts _ _ free).0 (and_from _ _ (strictly r u t) (not_from_false _ t))), each rs (or_parts _ _ free).1))
      where
        strictly : (r : Pair) → is_at_or_above r.path x ≡ true → is_at_or_above p r.path ≡ false → is_at_or_above r.path p ≡ true
        strictly r u t = split_or (or_cases _ _ (above_both p r.path x on u)) (λ a. absurd (both_ways _ t a)) (λ b. b)

-- elsewhere than at and below its place, a store leaves what is found
pub after_store-elsewhere : (case : Case) (p : Path) (s : Snapshot) (retained : Retained) (x : Path) → is_at_or_above p x ≡ false → part_of case (after_store p s retained).pairs x ≡ part_of case retained.pairs x
after_store-elsewhere case p s retained x off =
    split (is_covered retained.pairs p)
    (λ t. rw t refl)
    (λ t. rw t (part_of-insert_off case _ _ x off ∙ part_of-filter case p retained.pairs x off))
