-- An edit changes what is at a place only where one of its events is at or above the place.
use Rattle.std.proofs.Common.{◌≡◌, ℕ, Bool, true, false, cond, List, [], ◌∷◌, ◌++◌, map, refl, ap, subst, inl, inr, ◌⊎◌, find, filter, Some}
use Rattle.std.proofs.lemmas.Bool.{and_parts, or_parts, both_ways, not-false}
use Rattle.vfs_model.specs.declared.Case.{Case}
use Rattle.vfs_model.specs.Paths.{Path, folded_name, place, is_at_or_above, is_same_place}
use Rattle.vfs_model.specs.World.{World, Entry, at}
use Rattle.vfs_model.specs.Edit.{Edit, Write, Mkdir, Remove, Move, apply, events, is_told, entry_after_write, entry_after_move, is_missing, status_there}
use Rattle.vfs_laws.proofs.Splits.{split, split_or}
use Rattle.vfs_laws.proofs.PathLemmas.{same_place-true, at_or_above-refl, at_or_above-append}

-- where two lists differ only in entries that the test refuses, it finds the same
find-map : {X : Type 0} (p : X → Bool) (f : X → X) → ((e : X) → (f e ≡ e) ⊎ ((p e ≡ false) × (p (f e) ≡ false))) → (xs : List X) → find p (map f xs) ≡ find p xs
find-map p f h [] = refl
find-map p f h (e ∷ xs) =
    split_or (h e)
    (λ s. λ i. cond (p (s i)) (Some (s i)) (find-map p f h xs i))
    (λ n. rw (n.0, n.1) (find-map p f h xs))

find-append : {X : Type 0} (p : X → Bool) (xs : List X) (e : X) → p e ≡ false → find p (xs ++ e ∷ []) ≡ find p xs
find-append p [] e n = rw n refl
find-append p (x ∷ xs) e n = ap (λ r. cond (p x) (Some x) r) (find-append p xs e n)

find-filter : {X : Type 0} (p : X → Bool) (k : X → Bool) → ((e : X) → k e ≡ false → p e ≡ false) → (xs : List X) → find p (filter k xs) ≡ find p xs
find-filter p k h [] = refl
find-filter p k h (e ∷ xs) =
    split (k e)
    (λ s. rw s (ap (λ r. cond (p e) (Some e) r) (find-filter p k h xs)))
    (λ s. rw (s, h e s) (find-filter p k h xs))

-- a place that the path is not at or above is not that path's place, nor one below
pub apart : (p x y : Path) → is_at_or_above p x ≡ false → is_at_or_above p y ≡ true → is_same_place y x ≡ false
apart p x y off on =
    split (is_same_place y x)
    (λ s. absurd (both_ways (is_at_or_above p x) off (subst (λ (z : Path). is_at_or_above p z ≡ true) (same_place-true y x s) on)))
    (λ s. s)

-- the place of two paths joined is their places joined
pub place-append : (case : Case) (p q : Path) → place case (p ++ q) ≡ place case p ++ place case q
place-append case [] q = refl
place-append case (n ∷ p) q = ap (λ r. folded_name case n ∷ r) (place-append case p q)

-- an entry that an edit leaves, or that stands elsewhere than x before and after
Stays : Case → Path → (Entry → Entry) → Entry → Type 0
Stays case x f e = (f e ≡ e) ⊎ ((is_same_place (place case e.path) x ≡ false) × (is_same_place (place case (f e).path) x ≡ false))

entry_after_write-stays : (case : Case) (p x : Path) (bytes : List ℕ) → is_at_or_above (place case p) x ≡ false → (e : Entry) → Stays case x (entry_after_write case p bytes) e
unfolding Stays
entry_after_write-stays case p x bytes off e =
    split (is_same_place (place case e.path) (place case p))
    (λ s. let below = apart (place case p) x (place case e.path) off (and_parts _ _ s).1 in inr (below, rw s below))
    (λ s. inl (rw s refl))

entry_after_move-stays : (case : Case) (p q x : Path) → is_at_or_above (place case p) x ≡ false → is_at_or_above (place case q) x ≡ false → (e : Entry) → Stays case x (entry_after_move case p q) e
unfolding Stays
entry_after_move-stays case p q x off_p off_q e =
    split (is_at_or_above (place case p) (place case e.path))
    (λ s. inr (
      apart (place case p) x (place case e.path) off_p s,
      rw (s, place-append) (apart (place case q) x _ off_q (at_or_above-append (place case q) _)),
    ))
    (λ s. inl (rw s refl))

-- where no event of an edit is at or above a place, the same entry is there afterwards
pub apply-elsewhere : (case : Case) (world : World) (edit : Edit) (x : Path) → is_told case (events edit) x ≡ false → at case (apply case world edit) x ≡ at case world x
unfolding Stays
apply-elsewhere case world (Write p bytes) x off =
    let off_p = (or_parts _ _ off).0 in
    split (is_missing (status_there case world p))
    (λ s. rw s (find-append _ world _ (apart (place case p) x (place case p) off_p (at_or_above-refl (place case p)))))
    (λ s. rw s (find-map _ _ (entry_after_write-stays case p x bytes off_p) world))
apply-elsewhere case world (Mkdir p) x off = find-append _ world _ (apart (place case p) x (place case p) (or_parts _ _ off).0 (at_or_above-refl (place case p)))
apply-elsewhere case world (Remove p) x off =
    find-filter _ _ (λ e s. apart (place case p) x (place case e.path) (or_parts _ _ off).0 (not-false _ s)) world
apply-elsewhere case world (Move p q) x off =
    let h = or_parts _ _ off in
    find-map _ _ (entry_after_move-stays case p q x h.0 (or_parts _ _ h.1).0) world
