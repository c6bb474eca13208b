-- `name_order` from a place on, and its laws.
use Rattle.std.proofs.Common.{◌≡◌, ℕ, ◌+◌, ◌<◌, ◌≤◌, List, [], ◌∷◌, length, drop, min, get_or, refl, sym, ap, ◌∙◌, add-one, arith, drop-cons, length-drop, ◌-◌, true}
use Rattle.std.proofs.lemmas.Bool.Decides.{nat_tests}
use Rattle.std.specs.declared.cmp.Ordering.{Ordering}
use Rattle.std.specs.declared.cmp.Ordering.TheVariants.{Less, Equal, Greater}
use Rattle.std.specs.Ordering.{nat_cmp, ordering_then, is_ne}
use Rattle.std.specs.Cmp.{IsTotalOrder}
use Rattle.std.specs.Cmp.Lexicographic.{slice_cmp}
use Rattle.std.proofs.lemmas.Cmp.{nat_list_cmp_total, on_total, tied_itself}
use Rattle.vfs_model.specs.declared.Case.{Case}
use Rattle.vfs_model.specs.Paths.{folded_byte, folded_name, name_order}

-- the order is total on folded texts
pub name_order-total : (case : Case) → IsTotalOrder (name_order case)
name_order-total case = on_total (folded_name case) nat_list_cmp_total

-- two numbers that tie are equal
nat_cmp-Equal : (x y : ℕ) → nat_cmp x y ≡ Equal → x ≡ y
nat_cmp-Equal x y e = grind (arith, nat_tests)

-- an order that goes on is Equal where both parts are
then-Equal : (o p : Ordering) → ordering_then o p ≡ Equal → (o ≡ Equal) × (p ≡ Equal)
then-Equal Less p e = cc
then-Equal Equal p e = (refl, e)
then-Equal Greater p e = cc

-- two texts that tie are equal
pub slice_cmp-Equal : (a b : List ℕ) → slice_cmp nat_cmp a b ≡ Equal → a ≡ b
slice_cmp-Equal [] [] e = refl
slice_cmp-Equal [] (y ∷ ys) e = cc
slice_cmp-Equal (x ∷ xs) [] e = cc
slice_cmp-Equal (x ∷ xs) (y ∷ ys) e =
    let parts = then-Equal (nat_cmp x y) (slice_cmp nat_cmp xs ys) e in
    let head = nat_cmp-Equal x y parts.0 in
    let tail = slice_cmp-Equal xs ys parts.1 in
    cc

-- `Equal` comes exactly where the texts are the same under the case
pub name_order-Equal : (case : Case) (a b : List ℕ) → (name_order case a b ≡ Equal → folded_name case a ≡ folded_name case b) × (folded_name case a ≡ folded_name case b → name_order case a b ≡ Equal)
name_order-Equal case a b =
    (slice_cmp-Equal (folded_name case a) (folded_name case b), λ e. ap (slice_cmp nat_cmp (folded_name case a)) (sym e) ∙ tied_itself nat_list_cmp_total (folded_name case a))

-- at a place of both, the bytes there decide first
pub name_order-drop : (case : Case) (a b : List ℕ) (i : ℕ) → i < length a → i < length b
    → name_order case (drop i a) (drop i b)
    ≡ ordering_then (nat_cmp (folded_byte case (get_or a i 0)) (folded_byte case (get_or b i 0))) (name_order case (drop (i + 1) a) (drop (i + 1) b))
name_order-drop case a b i ha hb = rw (add-one, drop-cons a i 0, drop-cons b i 0) refl

-- where one of the texts is empty, the lengths decide
name_order-empty : (case : Case) (a b : List ℕ) → min (length a) (length b) ≡ 0 → name_order case a b ≡ nat_cmp (length a) (length b)
name_order-empty case [] [] e = refl
name_order-empty case [] (y ∷ ys) e = grind (arith, nat_tests)
name_order-empty case (x ∷ xs) [] e = grind (arith, nat_tests)
name_order-empty case (x ∷ xs) (y ∷ ys) e = absurd (omega arith)

nat_cmp-minus : (m n i : ℕ) → i ≤ m → i ≤ n → nat_cmp (m - i) (n - i) ≡ nat_cmp m n
nat_cmp-minus m n i hm hn = grind (arith, nat_tests)

-- at the end of the shorter text the lengths decide
pub name_order-end : (case : Case) (a b : List ℕ) (i : ℕ) → i ≡ min (length a) (length b) → name_order case (drop i a) (drop i b) ≡ nat_cmp (length a) (length b)
name_order-end case a b i e =
    name_order-empty case (drop i a) (drop i b) (omega (arith, length-drop i a, length-drop i b))
    ∙ (rw (length-drop i a, length-drop i b) (nat_cmp-minus (length a) (length b) i (omega arith) (omega arith)))

-- an order that is not Equal decides
then-decided : (o p : Ordering) → is_ne o ≡ true → ordering_then o p ≡ o
then-decided Less p e = refl
then-decided Equal p e = cc
then-decided Greater p e = refl

-- at the first place where the bytes differ, they decide
pub name_order-differs : (case : Case) (a b : List ℕ) (i : ℕ) → i < length a → i < length b
    → is_ne (nat_cmp (folded_byte case (get_or a i 0)) (folded_byte case (get_or b i 0))) ≡ true
    → name_order case (drop i a) (drop i b) ≡ nat_cmp (folded_byte case (get_or a i 0)) (folded_byte case (get_or b i 0))
name_order-differs case a b i ha hb e = name_order-drop case a b i ha hb ∙ then-decided _ _ e
