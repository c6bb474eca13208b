-- Cutting a list at the first element that passes a test.
use Rattle.std.proofs.Common.{◌≡◌, ℕ, suc, ◌+◌, ◌-◌, ◌≤◌, Bool, true, false, cond, ltb, List, [], ◌∷◌, length, take, drop, Some, None, refl, ap, subst, ◌∙◌, arith}
use Rattle.std.specs.List.{slice_split, onto_first, position, position_or_len}
use Rattle.std.proofs.lemmas.List.Splits.{slice_split_first, slice_split-cons_no}
use Rattle.std.proofs.lemmas.List.{take_all, drop-drop, length-drop}
use Rattle.std.proofs.lemmas.Bool.{ltb-false, ltb-true}

-- one step of the search
step_none : {X : Type 0} (p : X → Bool) (x : X) (xs : List X) (b : Bool) → p x ≡ b → suc (length xs) ≤ position_or_len p (x ∷ xs) → (b ≡ false) × (length xs ≤ position_or_len p xs)
step_none p x xs true e h = let k = rw e at h in absurd (omega arith)
step_none p x xs false e h = let k = rw e at h in (refl, omega arith)

-- where no element passes, the list is its one part
pub split_none : {X : Type 0} (p : X → Bool) (xs : List X) → length xs ≤ position_or_len p xs → slice_split p xs ≡ xs ∷ []
split_none p [] h = refl
split_none p (x ∷ xs) h =
    let s = step_none p x xs (p x) refl h in
    slice_split-cons_no p x xs s.0 ∙ ap (onto_first x) (split_none p xs s.1)

chosen : {A : Type 0} (b : Bool) (x y : A) → cond b (Some x) None ≡ Some y → (b ≡ true) × (x ≡ y)
chosen true x y e = (refl, cc)
chosen false x y e = absurd cc

not_chosen : {A : Type 0} (b : Bool) (x : A) → cond b (Some x) None ≡ None → b ≡ false
not_chosen true x e = absurd cc
not_chosen false x e = refl

pub cut_none : {X : Type 0} (p : X → Bool) (xs : List X) → position p xs ≡ None → slice_split p xs ≡ xs ∷ []
cut_none p xs e = split_none p xs (ltb-false _ _ (not_chosen (ltb (position_or_len p xs) (length xs)) (position_or_len p xs) e))

-- the part before the place, and the parts of what follows it
pub cut_some : {X : Type 0} (p : X → Bool) (xs : List X) (i : ℕ) (d : X) → position p xs ≡ Some i → slice_split p xs ≡ take i xs ∷ slice_split p (drop (i + 1) xs)
cut_some p xs i d e =
    let c = chosen (ltb (position_or_len p xs) (length xs)) (position_or_len p xs) i e in
    subst (λ (k : ℕ). slice_split p xs ≡ take k xs ∷ slice_split p (drop (k + 1) xs)) c.1 (slice_split_first p xs d (ltb-true _ _ c.0))

-- what follows a place without its first element
pub after_place : {X : Type 0} (i : ℕ) (xs rest : List X) → rest ≡ drop i xs → take (length rest - 1) (drop 1 rest) ≡ drop (i + 1) xs
after_place i xs rest e = rw (take_all (length rest - 1) (drop 1 rest) (omega (arith, length-drop 1 rest)), e) (drop-drop 1 i xs)

-- there is always a first part
pub split_some : {X : Type 0} (p : X → Bool) (xs : List X) → (y : List X) × (ys : List (List X)) × (slice_split p xs ≡ y ∷ ys)
split_some p [] = ([], [], refl)
split_some {X = X} p (x ∷ xs) = choice (p x) (slice_split p xs)
  where
    onto : (parts : List (List X)) → (y : List X) × (ys : List (List X)) × (onto_first x parts ≡ y ∷ ys)
    onto [] = (x ∷ [], [], refl)
    onto (part ∷ parts) = (x ∷ part, parts, refl)

    choice : (b : Bool) (parts : List (List X)) → (y : List X) × (ys : List (List X)) × (cond b ([] ∷ parts) (onto_first x parts) ≡ y ∷ ys)
    choice true parts = ([], parts, refl)
    choice false parts = onto parts
