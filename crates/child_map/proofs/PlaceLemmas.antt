-- How a path stands to a key that begins like it.
use Rattle.std.proofs.Common.{◌≡◌, ◌≢◌, ℕ, suc, ◌+◌, ◌<◌, true, false, List, [], ◌∷◌, length, refl, sym, ap, ◌∙◌, subst, arith, Option, Some, slice_get}
use Rattle.std.proofs.lemmas.Bool.{and_from, false_from_ne_true, true≢false}
use Rattle.std.specs.Option.{IsSomeAnd}
use Rattle.std.specs.List.{common_prefix_len}
use Rattle.std.specs.declared.cmp.Ordering.TheVariants.{Equal}
use Rattle.vfs_model.specs.declared.Case.{Case}
use Rattle.vfs_model.specs.Paths.{Name, Path, folded_name, place, is_same_name, is_at_or_above, name_order}
use Rattle.vfs_model.specs.Edit.{is_strictly_below}
use Rattle.vfs_laws.proofs.Splits.{split}
use Rattle.vfs_laws.proofs.NameLemmas.{order-equal, order-same}
use Rattle.vfs_laws.proofs.PathLemmas.{same_name-refl, same_name-true}
use Rattle.child_map.specs.declared.place.Place.TheVariants.{Exact, Below, Above}
use Rattle.child_map.specs.KeyNames.{first_name}
use Rattle.child_map.specs.Places.{IsKey, shared_names, BeginAlike, IsPlaceOf}

same-back : (n m : Name) → is_same_name n m ≡ true → is_same_name m n ≡ true
same-back n m e = subst (λ (k : Name). is_same_name k n ≡ true) (same_name-true n m e) (same_name-refl n)

-- a place all of whose names are shared is at or above
all-above : (a b : Path) → common_prefix_len is_same_name a b ≡ length a → is_at_or_above a b ≡ true
all-above [] b e = refl
all-above (n ∷ a) [] e = absurd (omega arith)
all-above (n ∷ a) (m ∷ b) e =
    split (is_same_name n m)
    (λ s. and_from _ _ s (all-above a b (one (rw s at e))))
    (λ s. absurd (none (rw s at e)))
  where
    one : 1 + common_prefix_len is_same_name a b ≡ length (n ∷ a) → common_prefix_len is_same_name a b ≡ length a
    one h = omega arith

    none : 0 ≡ length (n ∷ a) → ⊥
    none h = omega arith

all-below : (a b : Path) → common_prefix_len is_same_name a b ≡ length b → is_at_or_above b a ≡ true
all-below a [] e = refl
all-below [] (m ∷ b) e = absurd (omega arith)
all-below (n ∷ a) (m ∷ b) e =
    split (is_same_name n m)
    (λ s. and_from _ _ (same-back n m s) (all-below a b (one (rw s at e))))
    (λ s. absurd (none (rw s at e)))
  where
    one : 1 + common_prefix_len is_same_name a b ≡ length (m ∷ b) → common_prefix_len is_same_name a b ≡ length b
    one h = omega arith

    none : 0 ≡ length (m ∷ b) → ⊥
    none h = omega arith

-- a place that is at or above shares all its names
above-all : (a b : Path) → is_at_or_above a b ≡ true → common_prefix_len is_same_name a b ≡ length a
above-all [] b h = refl
above-all (n ∷ a) [] h = absurd (true≢false (sym h))
above-all (n ∷ a) (m ∷ b) h =
    split (is_same_name n m)
    (λ s. rw s (let d = above-all a b (rw s at h) in omega (arith, d)))
    (λ s. absurd (true≢false (sym (rw s at h))))

below-all : (a b : Path) → is_at_or_above b a ≡ true → common_prefix_len is_same_name a b ≡ length b
below-all a [] h = none a
  where
    none : (a : Path) → common_prefix_len is_same_name a [] ≡ 0
    none [] = refl
    none (n ∷ a) = refl
below-all [] (m ∷ b) h = absurd (true≢false (sym h))
below-all (n ∷ a) (m ∷ b) h =
    split (is_same_name m n)
    (λ s. rw (same-back m n s) (let d = below-all a b (rw s at h) in omega (arith, d)))
    (λ s. absurd (true≢false (sym (rw s at h))))

-- two places that share all their names are equal
all-same : (a b : Path) → common_prefix_len is_same_name a b ≡ length a → common_prefix_len is_same_name a b ≡ length b → a ≡ b
all-same [] [] e f = refl
all-same [] (m ∷ b) e f = absurd (omega arith)
all-same (n ∷ a) [] e f = absurd (omega arith)
all-same (n ∷ a) (m ∷ b) e f =
    split (is_same_name n m)
    (λ s. λ i. same_name-true n m s i ∷ all-same a b (one a (rw s at e)) (one b (rw s at f)) i)
    (λ s. absurd (none (rw s at e)))
  where
    one : (c : Path) → 1 + common_prefix_len is_same_name a b ≡ suc (length c) → common_prefix_len is_same_name a b ≡ length c
    one c h = omega arith

    none : 0 ≡ length (n ∷ a) → ⊥
    none h = omega arith

length-place : (case : Case) (path : Path) → length (place case path) ≡ length path
length-place case [] = refl
length-place case (n ∷ path) = ap suc (length-place case path)

-- ---- names with which keys begin

-- names that begin alike have a first name each, and these are equal in the order
pub alike-order : (case : Case) (a b : Path) → BeginAlike case a b → name_order case (first_name a) (first_name b) ≡ Equal
alike-order case [] b h = absurd (omega arith)
alike-order case (n ∷ a) [] h = absurd (omega arith)
alike-order case (n ∷ a) (m ∷ b) h =
    split (is_same_name (folded_name case n) (folded_name case m))
    (λ s. order-same case n m (same_name-true _ _ s))
    (λ s. absurd (none (rw s at h)))
  where
    none : 0 < 0 → ⊥
    none l = omega arith

pub order-alike : (case : Case) (a b : Path) → 0 < length a → 0 < length b → name_order case (first_name a) (first_name b) ≡ Equal → BeginAlike case a b
order-alike case [] b h l e = absurd (omega arith)
order-alike case (n ∷ a) [] h l e = absurd (omega arith)
order-alike case (n ∷ a) (m ∷ b) h l e =
    rw (ap (is_same_name (folded_name case n)) (sym (order-equal case n m e)) ∙ same_name-refl (folded_name case n)) (omega arith)

pub alike-some : (case : Case) (a b : Path) → BeginAlike case a b → 0 < length b
alike-some case [] b h = absurd (omega arith)
alike-some case (n ∷ a) [] h = absurd (omega arith)
alike-some case (n ∷ a) (m ∷ b) h = omega arith

-- ---- the places of a path that shares all names of the key, or has them all

-- what holds of a key that is key i
key-is : (keys : List Path) (i : ℕ) (key : Path) (P : Path → Type 0) → slice_get keys i ≡ Some key → P key → IsKey keys i P
key-is keys i key P at h = subst (λ (o : Option Path). IsSomeAnd o P) (sym at) h

pub exact : (case : Case) (key path : Path) (i k : ℕ) → k ≡ shared_names case key path → k ≡ length key → k ≡ length path → (keys : List Path) → slice_get keys i ≡ Some key → IsPlaceOf case keys path (Exact i)
exact case key path i k e a b keys at =
    key-is keys i key _ at (all-same (place case key) (place case path) (sym e ∙ a ∙ sym (length-place case key)) (sym e ∙ b ∙ sym (length-place case path)))

pub below : (case : Case) (key path : Path) (i k : ℕ) → k ≡ shared_names case key path → k ≡ length key → k ≢ length path → (keys : List Path) → slice_get keys i ≡ Some key → IsPlaceOf case keys path (Below i k)
below case key path i k e a b keys at =
    key-is keys i key _ at (strictly, sym a)
  where
    not_back : is_at_or_above (place case path) (place case key) ≡ false
    not_back = false_from_ne_true _ (λ t. b (e ∙ below-all (place case key) (place case path) t ∙ length-place case path))

    strictly : is_strictly_below case path key ≡ true
    strictly = rw (not_back, all-above (place case key) (place case path) (sym e ∙ a ∙ sym (length-place case key))) refl

pub above : (case : Case) (key path : Path) (i k : ℕ) → k ≡ shared_names case key path → k ≢ length key → k ≡ length path → (keys : List Path) → slice_get keys i ≡ Some key → IsPlaceOf case keys path (Above i)
above case key path i k e a b keys at =
    key-is keys i key _ at (rw (not_above, all-below (place case key) (place case path) (sym e ∙ b ∙ sym (length-place case path))) refl)
  where
    not_above : is_at_or_above (place case key) (place case path) ≡ false
    not_above = false_from_ne_true _ (λ t. a (e ∙ above-all (place case key) (place case path) t ∙ length-place case key))
