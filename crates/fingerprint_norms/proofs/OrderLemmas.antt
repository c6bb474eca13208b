-- Entries in order.
use Rattle.std.proofs.Common.{◌≡◌, ◌∙◌, ℕ, zero, suc, ◌+◌, ◌<◌, Bool, true, false, cond, List, [], ◌∷◌, length, map, get_or, set, refl, sym, ap, subst, arith}
use Rattle.std.proofs.lemmas.Bool.{both_ways}
use Rattle.std.proofs.lemmas.Cmp.{then_total, on_total, nat_cmp_total, nat_list_cmp_total, ranked, by_ranked}
use Rattle.std.proofs.lemmas.List.Sorted.{IsPermutation-keeps}
use Rattle.std.specs.declared.cmp.Ordering.{Ordering}
use Rattle.std.specs.declared.cmp.Ordering.TheVariants.{Less, Equal, Greater}
use Rattle.std.specs.Cmp.{IsTotalOrder}
use Rattle.std.specs.Cmp.Lexicographic.{slice_cmp, texts_ties}
use Rattle.std.specs.List.{swap}
use Rattle.std.specs.List.Sorted.{IsPermutation, IsSortedBy}
use Rattle.std.specs.Ordering.{nat_cmp, ordering_then, ordering_reverse, is_lt, is_eq}
use Rattle.vfs_model.specs.Fingerprint.{FpEntry, entry_order, insert_entry, sorted}
use Rattle.vfs_laws.proofs.Splits.{split}
use Rattle.vfs_laws.proofs.NameLemmas.{split_order}
use Rattle.vfs_laws.proofs.PathLemmas.{same_name-true}
use Rattle.fingerprint_norms.specs.declared.entry.FpEntry.{FpEntry as FpEntryValue}
use Rattle.fingerprint_norms.specs.Meaning.{entry_of}

-- ---- the order

-- the first entry comes before the second
abbrev pub is_before : FpEntry → FpEntry → Bool
is_before a b = is_lt (entry_order a b)

pub entry_order-total : IsTotalOrder entry_order
entry_order-total =
    then_total (on_total (λ (e : FpEntry). e.path) nat_list_cmp_total)
    (then_total (on_total (λ (e : FpEntry). e.kind) nat_cmp_total) (on_total (λ (e : FpEntry). e.digest) nat_list_cmp_total))

both-equal : (o p : Ordering) → ordering_then o p ≡ Equal → (o ≡ Equal) × (p ≡ Equal)
both-equal Less p e = cc
both-equal Equal p e = (refl, e)
both-equal Greater p e = cc

texts-equal : (a b : List ℕ) → slice_cmp nat_cmp a b ≡ Equal → a ≡ b
texts-equal a b e = same_name-true a b (texts_ties a b ∙ ap is_eq e)

numbers-equal : (m n : ℕ) → nat_cmp m n ≡ Equal → m ≡ n
numbers-equal m n e =
    by_ranked (m < n) (m ≡ n) (n < m) (nat_cmp m n) (ranked m n (nat_cmp m n) refl)
    (λ l h. let wrong : Less ≡ Equal = sym l ∙ e in cc) (λ q h. h) (λ g h. let wrong : Greater ≡ Equal = sym g ∙ e in cc)

-- entries that the order does not tell apart are equal
pub order-equal : (a b : FpEntry) → entry_order a b ≡ Equal → a ≡ b
order-equal a b e =
    let first = both-equal _ _ e in
    let rest = both-equal _ _ first.1 in
    λ i. record { path = texts-equal a.path b.path first.0 i; kind = numbers-equal a.kind b.kind rest.0 i; digest = texts-equal a.digest b.digest rest.1 i }

order-flip : (a b : FpEntry) → entry_order a b ≡ Greater → entry_order b a ≡ Less
order-flip a b e = entry_order-total.antisymm b a ∙ ap ordering_reverse e

less-from : (o : Ordering) → is_lt o ≡ true → o ≡ Less
less-from Less h = refl
less-from Equal h = cc
less-from Greater h = cc

-- what comes before one entry, and not before another, tells the two apart
before-between : (f a b : FpEntry) → is_before f a ≡ true → is_before f b ≡ false → is_before b a ≡ true
before-between f a b before not_before =
    split_order (entry_order f b)
    (λ e. absurd (both_ways (is_before f b) not_before (ap is_lt e)))
    (λ e. ap is_lt (sym (entry_order-total.congr f b a e)) ∙ before)
    (λ e. ap is_lt (entry_order-total.trans b f a (order-flip f b e) (less-from _ before)))

-- ---- insertion

insert-behind : (e f : FpEntry) (more : List FpEntry) → is_before f e ≡ true → insert_entry e (f ∷ more) ≡ f ∷ insert_entry e more
insert-behind e f more h = ap (λ b. cond b (f ∷ insert_entry e more) (e ∷ f ∷ more)) h

insert-front : (e f : FpEntry) (more : List FpEntry) → is_before f e ≡ false → insert_entry e (f ∷ more) ≡ e ∷ f ∷ more
insert-front e f more h = ap (λ b. cond b (f ∷ insert_entry e more) (e ∷ f ∷ more)) h

front-same : (a b : FpEntry) (more : List FpEntry) → cond (is_before b a) (b ∷ a ∷ more) (a ∷ b ∷ more) ≡ cond (is_before a b) (a ∷ b ∷ more) (b ∷ a ∷ more)
front-same a b more =
    split_order (entry_order a b)
    (λ e. ap (λ t. cond t (b ∷ a ∷ more) (a ∷ b ∷ more)) (ap is_lt (entry_order-total.antisymm b a ∙ ap ordering_reverse e)) ∙ sym (ap (λ t. cond t (a ∷ b ∷ more) (b ∷ a ∷ more)) (ap is_lt e)))
    (λ e. subst (λ x. cond (is_before x a) (x ∷ a ∷ more) (a ∷ x ∷ more) ≡ cond (is_before a x) (a ∷ x ∷ more) (x ∷ a ∷ more)) (order-equal a b e) refl)
    (λ e. ap (λ t. cond t (b ∷ a ∷ more) (a ∷ b ∷ more)) (ap is_lt (order-flip a b e)) ∙ sym (ap (λ t. cond t (a ∷ b ∷ more) (b ∷ a ∷ more)) (ap is_lt e)))

insert-apart : (a b f : FpEntry) (more : List FpEntry) → is_before f a ≡ true → is_before f b ≡ false → insert_entry a (insert_entry b (f ∷ more)) ≡ insert_entry b (insert_entry a (f ∷ more))
insert-apart a b f more ha hb =
    ap (insert_entry a) (insert-front b f more hb)
    ∙ insert-behind a b (f ∷ more) (before-between f a b ha hb)
    ∙ ap (λ l. b ∷ l) (insert-behind a f more ha)
    ∙ sym (insert-front b f (insert_entry a more) hb)
    ∙ ap (insert_entry b) (sym (insert-behind a f more ha))

insert-fronts : (a b f : FpEntry) (more : List FpEntry) → is_before f a ≡ false → is_before f b ≡ false → insert_entry a (insert_entry b (f ∷ more)) ≡ cond (is_before b a) (b ∷ a ∷ f ∷ more) (a ∷ b ∷ f ∷ more)
insert-fronts a b f more ha hb =
    ap (insert_entry a) (insert-front b f more hb)
    ∙ ap (λ l. cond (is_before b a) (b ∷ l) (a ∷ b ∷ f ∷ more)) (insert-front a f more ha)

-- of two entries either may be inserted first
pub insert-comm : (a b : FpEntry) (l : List FpEntry) → insert_entry a (insert_entry b l) ≡ insert_entry b (insert_entry a l)
insert-comm a b [] = front-same a b []
insert-comm a b (f ∷ more) =
    split (is_before f a)
    (λ ha. split (is_before f b)
    (λ hb. ap (insert_entry a) (insert-behind b f more hb)
    ∙ insert-behind a f (insert_entry b more) ha
    ∙ ap (λ l. f ∷ l) (insert-comm a b more)
    ∙ sym (insert-behind b f (insert_entry a more) hb)
    ∙ ap (insert_entry b) (sym (insert-behind a f more ha)))
    (λ hb. insert-apart a b f more ha hb))
    (λ ha. split (is_before f b)
    (λ hb. sym (insert-apart b a f more hb ha))
    (λ hb. insert-fronts a b f more ha hb ∙ front-same a b (f ∷ more) ∙ sym (insert-fronts b a f more hb ha)))

-- ---- lists in another order

sorted-set : (l : List FpEntry) (i : ℕ) (d x : FpEntry) → i < length l → insert_entry (get_or l i d) (sorted (set l i x)) ≡ insert_entry x (sorted l)
sorted-set [] i d x h = absurd (omega arith)
sorted-set (e ∷ l) zero d x h = insert-comm e x (sorted l)
sorted-set (e ∷ l) (suc i) d x h =
    insert-comm (get_or l i d) e (sorted (set l i x)) ∙ ap (insert_entry e) (sorted-set l i d x (omega arith)) ∙ insert-comm e x (sorted l)

sorted-exchange : (l : List FpEntry) (i j : ℕ) (d : FpEntry) → i < length l → j < length l → sorted (set (set l i (get_or l j d)) j (get_or l i d)) ≡ sorted l
sorted-exchange [] i j d hi hj = absurd (omega arith)
sorted-exchange (e ∷ l) zero zero d hi hj = refl
sorted-exchange (e ∷ l) zero (suc j) d hi hj = sorted-set l j d e (omega arith)
sorted-exchange (e ∷ l) (suc i) zero d hi hj = sorted-set l i d e (omega arith)
sorted-exchange (e ∷ l) (suc i) (suc j) d hi hj = ap (insert_entry e) (sorted-exchange l i j d (omega arith) (omega arith))

sorted-swap : (l : List FpEntry) (i j : ℕ) → i < length l → j < length l → sorted (swap l i j) ≡ sorted l
sorted-swap [] i j hi hj = refl
sorted-swap (e ∷ l) i j hi hj = sorted-exchange (e ∷ l) i j e hi hj

-- the same entries in another order are the same once they are sorted
pub sorted-permutation : (xs ys : List FpEntry) → IsPermutation xs ys → sorted ys ≡ sorted xs
sorted-permutation xs ys p = IsPermutation-keeps xs (λ l. sorted l ≡ sorted xs) refl (λ l i j hi hj h. sorted-swap l i j hi hj ∙ h) ys p

-- entries in order stay as they are
pub sorted-same : (xs : List FpEntryValue) → IsSortedBy (λ x y. is_before (entry_of x) (entry_of y)) xs → sorted (map entry_of xs) ≡ map entry_of xs
sorted-same [] h = refl
sorted-same (e ∷ []) h = refl
sorted-same (e ∷ f ∷ xs) h =
    ap (insert_entry (entry_of e))
    (sorted-same (f ∷ xs) (λ k d low high.
    let next : suc k + 1 ≡ suc (k + 1) = omega arith in
    subst (λ m. is_before (entry_of (get_or (e ∷ f ∷ xs) m d)) (entry_of (get_or (f ∷ xs) k d)) ≡ false) next (h (suc k) d (omega arith) (omega arith))))
    ∙ insert-front (entry_of e) (entry_of f) (map entry_of xs) (h 0 e (omega arith) (omega arith))
