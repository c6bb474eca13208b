-- Putting a pair, or a directory, in its place.
use Rattle.std.proofs.Common.{◌≡◌, ℕ, suc, zero, ◌+◌, ◌-◌, ◌<◌, ◌≤◌, true, false, ◌&&◌, not, List, [], ◌∷◌, ◌++◌, length, drop, take, get_or, refl, sym, ap, ◌∙◌, add-one, drop-cons, arith, nat_cmp}
use Rattle.std.proofs.lemmas.List.{map-append, take-map, length-map, take_all, take_more, take-append-drop}
use Rattle.std.specs.Ordering.{is_eq, is_lt}
use Rattle.std.specs.Cmp.Lexicographic.{slice_cmp, texts_ties}
use Rattle.std.specs.declared.cmp.Ordering.TheVariants.{Equal}
use Rattle.vfs_model.specs.declared.Case.{Case}
use Rattle.vfs_model.specs.Paths.{Path, place, folded_name, is_same_name, is_at_or_above}
use Rattle.vfs_model.specs.Retained.{place_order, precedes, insert_dir, insert_dirs, ancestors}
use Rattle.vfs_laws.proofs.Splits.{split}
use Rattle.vfs_laws.proofs.NameLemmas.{split_order}
use Rattle.vfs_laws.proofs.OrderLemmas.{place_order-equal}
use Rattle.snapshot_tree.specs.Pieces.{places_of}

-- ---- a directory that is there already

drop-item : {X : Type 0} (xs : List X) (i : ℕ) (q : X) → i < length xs → q ≡ get_or xs i q → drop i xs ≡ q ∷ drop (i + 1) xs
drop-item xs i q h is = rw (add-one, drop-cons xs i q, ← is) refl

-- it stays as it is
pub insert_dir-same : (case : Case) (d : Path) (dirs : List Path) (i : ℕ) (q : Path) → i < length dirs → q ≡ get_or dirs i q → place_order d (place case q) ≡ Equal
    → places_of case dirs ≡ places_of case (take i dirs) ++ insert_dir d (places_of case (drop i dirs))
insert_dir-same case d dirs i q h is e =
    ap (places_of case) (sym (take-append-drop i dirs))
    ∙ (rw (drop-item dirs i q h is, map-append, e, place_order-equal d (place case q) e) refl)

-- ---- which place comes first

-- a place precedes those after it that are not below it
pub precedes-is : (a b : Path) → precedes a b ≡ (is_lt (place_order a b) && not (is_at_or_above a b))
precedes-is [] b = split (is_lt (place_order [] b)) (λ s. rw s refl) (λ s. rw s refl)
precedes-is (n ∷ a) [] = refl
precedes-is (n ∷ a) (m ∷ b) =
    split_order (slice_cmp nat_cmp n m)
    (λ e. let other : is_same_name n m ≡ false = texts_ties n m ∙ ap is_eq e in rw (e, other) refl)
    (λ e. let same : is_same_name n m ≡ true = texts_ties n m ∙ ap is_eq e in rw (e, same) (precedes-is a b))
    (λ e. rw e refl)

-- ---- the places strictly above one

length-ancestors : (p : Path) → length (ancestors p) ≡ length p
length-ancestors [] = refl
length-ancestors (n ∷ p) = ap suc (length-map (ancestors p) (λ (d : Path). n ∷ d) ∙ length-ancestors p)

-- all of them, from the root down
pub ancestors-all : (case : Case) (path : Path) → take (length path) (ancestors (place case path)) ≡ ancestors (place case path)
ancestors-all case path = take_all (length path) (ancestors (place case path)) (omega (arith, length-ancestors (place case path), length-map path (folded_name case)))

ancestors-more : (p : Path) (k : ℕ) → k < length p → take (suc k) (ancestors p) ≡ take k (ancestors p) ++ take k p ∷ []
ancestors-more [] k h = absurd (omega arith)
ancestors-more (n ∷ p) zero h = refl
ancestors-more (n ∷ p) (suc k) h =
    let deeper : k < length p = omega arith in
    rw (take-map (λ (d : Path). n ∷ d) (suc k) (ancestors p), ancestors-more p k deeper, map-append, take-map (λ (d : Path). n ∷ d) k (ancestors p)) refl

insert_dirs-push : (new : List Path) (d : Path) (dirs : List Path) → insert_dirs (new ++ d ∷ []) dirs ≡ insert_dirs new (insert_dir d dirs)
insert_dirs-push [] d dirs = refl
insert_dirs-push (q ∷ new) d dirs = ap (insert_dir q) (insert_dirs-push new d dirs)

-- the deepest of the first goes in before the others
pub ancestors-next : (case : Case) (path dir : Path) (n : ℕ) (dirs more : List Path) → 0 < n → n ≤ length path → dir ≡ take (n - 1) path → more ≡ insert_dir (place case dir) dirs
    → insert_dirs (take (n - 1) (ancestors (place case path))) more ≡ insert_dirs (take n (ancestors (place case path))) dirs
ancestors-next case path dir zero dirs more some within is added = absurd (omega arith)
ancestors-next case path dir (suc n) dirs more some within is added =
    let deep : n < length (place case path) = omega (arith, length-map path (folded_name case)) in
    let front : dir ≡ take n path = is ∙ ap (λ k. take k path) (omega arith) in
    let fewer : suc n - 1 ≡ n = omega arith in
    rw (fewer, added, front, ancestors-more (place case path) n deep, take-map (folded_name case) n path)
    (sym (insert_dirs-push (take n (ancestors (place case path))) (place case (take n path)) dirs))

-- ---- several directories

-- the last of the first goes in before the others
pub insert_dirs-next : (case : Case) (more : List Path) (i : ℕ) (d : Path) (dirs new : List Path) → 0 < i → i ≤ length more → d ≡ get_or more (i - 1) d → new ≡ insert_dir (place case d) dirs
    → insert_dirs (places_of case (take (i - 1) more)) new ≡ insert_dirs (places_of case (take i more)) dirs
insert_dirs-next case more zero d dirs new some within is added = absurd (omega arith)
insert_dirs-next case more (suc i) d dirs new some within is added =
    let deep : i < length more = omega arith in
    let fewer : suc i - 1 ≡ i = omega arith in
    let here : d ≡ get_or more i d = is ∙ ap (λ n. get_or more n d) fewer in
    let first : take (suc i) more ≡ take i more ++ d ∷ [] = ap (λ n. take n more) (sym (add-one i)) ∙ take_more more i d deep ∙ ap (λ x. take i more ++ x ∷ []) (sym here) in
    rw (fewer, added, first, map-append) (sym (insert_dirs-push (places_of case (take i more)) (place case d) dirs))

-- all of one list go in behind those of the other
pub insert_dirs-append : (first second dirs : List Path) → insert_dirs (first ++ second) dirs ≡ insert_dirs first (insert_dirs second dirs)
insert_dirs-append [] second dirs = refl
insert_dirs-append (d ∷ first) second dirs = ap (insert_dir d) (insert_dirs-append first second dirs)
