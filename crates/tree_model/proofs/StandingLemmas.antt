-- Names in order, and a name that is sought among them.
use Rattle.std.proofs.Common.{◌≡◌, true, false, ℕ, zero, suc, ◌<◌, List, [], ◌∷◌, ◌++◌, length, take, drop, set, get_or, refl, sym, ap, ◌∙◌, subst, arith}
use Rattle.std.proofs.lemmas.Bool.{false_from_ne_true}
use Rattle.std.proofs.lemmas.List.{take-append-drop}
use Rattle.std.specs.Ordering.{nat_cmp, ordering_reverse}
use Rattle.std.specs.Cmp.Lexicographic.{slice_cmp, nat_list_cmp_total}
use Rattle.std.specs.List.{AllByRecursion as Each, insert, remove}
use Rattle.std.specs.declared.cmp.Ordering.TheVariants.{Less, Equal, Greater}
use Rattle.vfs_model.specs.declared.Case.{Case}
use Rattle.vfs_model.specs.Paths.{Name, folded_name, is_same_name, name_order}
use Rattle.vfs_model.specs.World.{insert_by, insert_name, AreInOrder}
use Rattle.vfs_laws.proofs.PathLemmas.{same_name-refl, same_name-true}
use Rattle.vfs_laws.proofs.NameLemmas.{order-equal, order-same, order-flip, order-trans, each-weaker, insert-in_order}
use Rattle.tree_model.specs.Standing.{IsHere, IsGap}

-- of two names the less comes before the greater
pub order-flip_less : (case : Case) (a b : Name) → name_order case a b ≡ Less → name_order case b a ≡ Greater
order-flip_less case a b e = nat_list_cmp_total.antisymm (folded_name case b) (folded_name case a) ∙ ap ordering_reverse e

-- a name before another is not the same
pub apart-less : (case : Case) (a b : Name) → name_order case a b ≡ Less → is_same_name (folded_name case a) (folded_name case b) ≡ false
apart-less case a b e = false_from_ne_true _ (λ s. let h : name_order case a b ≡ Equal = order-same case a b (same_name-true _ _ s) in cc)

-- a name after another is not the same
pub apart-greater : (case : Case) (a b : Name) → name_order case a b ≡ Greater → is_same_name (folded_name case a) (folded_name case b) ≡ false
apart-greater case a b e = false_from_ne_true _ (λ s. let h : name_order case a b ≡ Equal = order-same case a b (same_name-true _ _ s) in cc)

-- names that are equal in the order are the same
pub same-equal : (case : Case) (a b : Name) → name_order case a b ≡ Equal → is_same_name (folded_name case a) (folded_name case b) ≡ true
same-equal case a b e = ap (is_same_name (folded_name case a)) (sym (order-equal case a b e)) ∙ same_name-refl (folded_name case a)

-- what comes before a name comes before one that is the same
less-same : (case : Case) (a b n : Name) → name_order case a b ≡ Less → name_order case b n ≡ Equal → name_order case a n ≡ Less
less-same case a b n e f = ap (slice_cmp nat_cmp (folded_name case a)) (sym (order-equal case b n f)) ∙ e

-- what comes after a name that is greater is greater
greater-after : (case : Case) (a b n : Name) → name_order case a n ≡ Greater → name_order case a b ≡ Less → name_order case b n ≡ Greater
greater-after case a b n e f = order-flip_less case n b (order-trans case n a b (order-flip case a n e) f)

-- what holds of each name holds of the name at an index
each-at : (P : Name → Type 0) (names : List Name) (i : ℕ) → Each P names → i < length names → P (get_or names i [])
each-at P [] i h l = absurd (omega arith)
each-at P (m ∷ names) zero h l = h.0
each-at P (m ∷ names) (suc i) h l = each-at P names i h.1 (omega arith)

-- ---- what a search finds

-- a name that is the same as the one at the index stands there
pub here-found : (case : Case) (names : List Name) (n : Name) (i : ℕ) → AreInOrder case names → i < length names → name_order case (get_or names i []) n ≡ Equal → IsHere case names n i
here-found case names n i h l e = record { within = l; before = by names i h l e; same = e }
  where
    by : (ms : List Name) (j : ℕ) → AreInOrder case ms → j < length ms → name_order case (get_or ms j []) n ≡ Equal → Each (λ m. name_order case m n ≡ Less) (take j ms)
    by [] j h l e = absurd (omega arith)
    by (m ∷ ms) zero h l e = tt
    by (m ∷ ms) (suc j) h l e = (less-same case m (get_or ms j []) n (each-at (λ k. name_order case m k ≡ Less) ms j h.0 (omega arith)) e, by ms j h.1 (omega arith) e)

-- before the first name that comes after the sought one there is a gap
pub gap-found : (case : Case) (names : List Name) (n : Name) (i : ℕ) → AreInOrder case names → i < length names → Each (λ m. name_order case m n ≡ Less) (take i names) → name_order case (get_or names i []) n ≡ Greater → IsGap case names n i
gap-found case names n i h l b g = record { within = omega arith; before = b; after = by names i h l g }
  where
    by : (ms : List Name) (j : ℕ) → AreInOrder case ms → j < length ms → name_order case (get_or ms j []) n ≡ Greater → Each (λ m. name_order case m n ≡ Greater) (drop j ms)
    by [] j h l g = absurd (omega arith)
    by (m ∷ ms) zero h l g = (g, each-weaker _ _ (λ k f. greater-after case m k n g f) ms h.0)
    by (m ∷ ms) (suc j) h l g = by ms j h.1 (omega arith) g

-- ---- names in order after a change

-- past names that come before n
insert-past : (case : Case) (n : Name) (a b : List Name) → Each (λ m. name_order case m n ≡ Less) a → insert_name case n (a ++ b) ≡ a ++ insert_name case n b
insert-past case n [] b h = refl
insert-past case n (m ∷ a) b h = rw (order-flip_less case m n h.0) (ap (λ names. m ∷ names) (insert-past case n a b h.1))

-- before names that come after n
insert-before : (case : Case) (n : Name) (b : List Name) → Each (λ m. name_order case m n ≡ Greater) b → insert_name case n b ≡ n ∷ b
insert-before case n [] h = refl
insert-before case n (m ∷ b) h = rw (order-flip case m n h.0) refl

-- a name that is put into its gap
pub gap-in_order : (case : Case) (names : List Name) (n : Name) (i : ℕ) → AreInOrder case names → IsGap case names n i → AreInOrder case (insert names i n)
gap-in_order case names n i h gap =
    subst (AreInOrder case)
    (ap (insert_name case n) (sym (take-append-drop i names)) ∙ insert-past case n (take i names) (drop i names) gap.before ∙ ap (λ b. take i names ++ b) (insert-before case n (drop i names) gap.after))
    (insert-in_order case n names h)

-- a list is what comes before the index, what is there, and what comes behind
split-at : {X : Type 0} (xs : List X) (i : ℕ) (d : X) → i < length xs → take i xs ++ get_or xs i d ∷ drop (suc i) xs ≡ xs
split-at [] i d l = absurd (omega arith)
split-at (x ∷ xs) zero d l = refl
split-at (x ∷ xs) (suc i) d l = ap (λ more. x ∷ more) (split-at xs i d (omega arith))

-- a list with another element at the index
pub set-parts : {X : Type 0} (xs : List X) (i : ℕ) (x : X) → i < length xs → set xs i x ≡ take i xs ++ x ∷ drop (suc i) xs
set-parts [] i x l = absurd (omega arith)
set-parts (y ∷ xs) zero x l = refl
set-parts (y ∷ xs) (suc i) x l = ap (λ more. y ∷ more) (set-parts xs i x (omega arith))

-- a name that takes the place of one that is the same
pub here-in_order : (case : Case) (names : List Name) (n : Name) (i : ℕ) → AreInOrder case names → IsHere case names n i → AreInOrder case (set names i n)
here-in_order case names n i h here =
    subst (AreInOrder case)
    (ap (insert_name case n) (sym (split-at names i [] here.within)) ∙ insert-past case n (take i names) (get_or names i [] ∷ drop (suc i) names) here.before
    ∙ ap (λ o. take i names ++ insert_by o n (get_or names i []) (drop (suc i) names) (insert_name case n (drop (suc i) names))) (order-same case n (get_or names i []) (sym (order-equal case (get_or names i []) n here.same)))
    ∙ sym (set-parts names i n here.within))
    (insert-in_order case n names h)

each-without : (P : Name → Type 0) (names : List Name) (i : ℕ) → Each P names → Each P (remove names i)
each-without P [] zero h = tt
each-without P [] (suc i) h = tt
each-without P (m ∷ names) zero h = h.1
each-without P (m ∷ names) (suc i) h = (h.0, each-without P names i h.1)

-- a name that is taken away
pub without-in_order : (case : Case) (names : List Name) (i : ℕ) → AreInOrder case names → AreInOrder case (remove names i)
without-in_order case [] zero h = tt
without-in_order case [] (suc i) h = tt
without-in_order case (m ∷ names) zero h = h.1
without-in_order case (m ∷ names) (suc i) h = (each-without (λ k. name_order case m k ≡ Less) names i h.0, without-in_order case names i h.1)
