-- One child more of a directory that is made.
use Rattle.std.proofs.Common.{◌≡◌, ℕ, zero, suc, ◌+◌, ◌<◌, ◌≤◌, List, [], ◌∷◌, ◌++◌, length, map, reverse, take, drop, get_or, refl, sym, ap, ◌∙◌, subst, arith, add-one, drop-cons}
use Rattle.std.proofs.lemmas.List.{map-append, reverse-append, length-reverse, length-map}
use Rattle.std.specs.List.{AllByRecursion as Each}
use Rattle.std.specs.declared.cmp.Ordering.TheVariants.{Less}
use Rattle.vfs_model.specs.declared.Case.{Case}
use Rattle.vfs_model.specs.Paths.{Name, name_order}
use Rattle.vfs_model.specs.World.{AreInOrder}
use Rattle.vfs_model.specs.Scanning.{IsListed}
use Rattle.vfs_model.specs.Snapshot.{Snapshot, Missing, File, Dir, Children, Nothing, Child, names_of}
use Rattle.snapshot_tree.specs.declared.snapshot.Snapshot.{Snapshot as SnapshotValue}
use Rattle.snapshot_tree.specs.Meaning.{meaning_of}
use Rattle.snapshot_tree.specs.Listing.{IsAfterLast}
use Rattle.scan_walk.specs.Making.{with_present, children_with, followed_by_present, stacked}

-- ---- the stack

-- the last snapshot comes first
pub stacked-push : (old new : List SnapshotValue) (s : SnapshotValue) → new ≡ old ++ s ∷ [] → stacked new ≡ meaning_of s ∷ stacked old
stacked-push old new s e = ap stacked e ∙ ap reverse (map-append meaning_of old (s ∷ [])) ∙ reverse-append (map meaning_of old) (meaning_of s ∷ [])

-- as many snapshots as lie on it
pub length-stacked : (made : List SnapshotValue) → length (stacked made) ≡ length made
length-stacked made = length-reverse (map meaning_of made) ∙ length-map made meaning_of

drop-suc : {A : Type 0} (i : ℕ) (xs : List A) (x : A) (rest : List A) → drop i xs ≡ x ∷ rest → drop (suc i) xs ≡ rest
drop-suc zero [] x rest e = cc
drop-suc zero (y ∷ ys) x rest e = cc
drop-suc (suc i) [] x rest e = cc
drop-suc (suc i) (y ∷ ys) x rest e = drop-suc i ys x rest e

-- what is behind the first that is left
pub drop-next : {A : Type 0} (i : ℕ) (xs : List A) (x : A) (rest : List A) → drop i xs ≡ x ∷ rest → drop (i + 1) xs ≡ rest
drop-next i xs x rest e = ap (λ n. drop n xs) (add-one i) ∙ drop-suc i xs x rest e

-- ---- the children

present-behind : (m : Name) (t : Snapshot) (cs : Children) (n : Name) (s : Snapshot) → followed_by_present (with_present m t cs) n s ≡ with_present m t (followed_by_present cs n s)
present-behind m Missing cs n s = refl
present-behind m (File a) cs n Missing = refl
present-behind m (File a) cs n (File b) = refl
present-behind m (File a) cs n (Dir b) = refl
present-behind m (Dir a) cs n Missing = refl
present-behind m (Dir a) cs n (File b) = refl
present-behind m (Dir a) cs n (Dir b) = refl

present-alone : (n : Name) (s : Snapshot) → with_present n s Nothing ≡ followed_by_present Nothing n s
present-alone n Missing = refl
present-alone n (File a) = refl
present-alone n (Dir a) = refl

children-push : (i : ℕ) (names : List Name) (made : List Snapshot) (n : Name) (more : List Name) (s : Snapshot) (rest : List Snapshot) → drop i names ≡ n ∷ more → drop i made ≡ s ∷ rest
    → children_with (take (suc i) names) made ≡ followed_by_present (children_with (take i names) made) n s
children-push zero [] made n more s rest e f = cc
children-push zero (m ∷ ms) [] n more s rest e f = cc
children-push zero (m ∷ ms) (t ∷ ts) n more s rest e f =
    let m_is : m ≡ n = cc in
    let t_is : t ≡ s = cc in
    (λ i. with_present (m_is i) (t_is i) Nothing) ∙ present-alone n s
children-push (suc i) [] made n more s rest e f = cc
children-push (suc i) (m ∷ ms) [] n more s rest e f = cc
children-push (suc i) (m ∷ ms) (t ∷ ts) n more s rest e f = ap (with_present m t) (children-push i ms ts n more s rest e f) ∙ sym (present-behind m t (children_with (take i ms) ts) n s)

-- one name more, with the snapshot that is next
pub children-next : (i : ℕ) (names : List Name) (made : List Snapshot) (n : Name) (s : Snapshot) (rest : List Snapshot) → i < length names → n ≡ get_or names i n → drop i made ≡ s ∷ rest
    → children_with (take (i + 1) names) made ≡ followed_by_present (children_with (take i names) made) n s
children-next i names made n s rest within is f =
    let here : drop i names ≡ n ∷ drop (suc i) names = drop-cons names i n within ∙ ap (λ m. m ∷ drop (suc i) names) (sym is) in
    ap (λ k. children_with (take k names) made) (add-one i) ∙ children-push i names made n (drop (suc i) names) s rest here f

-- ---- the order

each-with : (P : Name → Type 0) (ns : List Name) (made : List Snapshot) → Each P ns → Each P (names_of (children_with ns made))
each-with P [] made h = tt
each-with P (n ∷ ns) [] h = tt
each-with P (n ∷ ns) (Missing ∷ made) h = each-with P ns made h.1
each-with P (n ∷ ns) (File a ∷ made) h = (h.0, each-with P ns made h.1)
each-with P (n ∷ ns) (Dir a ∷ made) h = (h.0, each-with P ns made h.1)

few-with : (ns : List Name) (made : List Snapshot) → length (names_of (children_with ns made)) ≤ length ns
few-with [] made = omega arith
few-with (n ∷ ns) [] = omega arith
few-with (n ∷ ns) (Missing ∷ made) = omega (arith, few-with ns made)
few-with (n ∷ ns) (File a ∷ made) = omega (arith, few-with ns made)
few-with (n ∷ ns) (Dir a ∷ made) = omega (arith, few-with ns made)

after-last : (case : Case) (cs : Children) (n : Name) → Each (λ m. name_order case m n ≡ Less) (names_of cs) → IsAfterLast case cs n
after-last case Nothing n h = tt
after-last case (Child m s Nothing) n h = h.0
after-last case (Child m s (Child k t more)) n h = after-last case (Child k t more) n h.1

pub each-at : {A : Type 0} (P : A → Type 0) (i : ℕ) (xs : List A) (x : A) (rest : List A) → Each P xs → drop i xs ≡ x ∷ rest → P x
each-at P zero [] x rest h e = cc
each-at P zero (y ∷ ys) x rest h e = let is : y ≡ x = cc in subst P is h.0
each-at P (suc i) [] x rest h e = cc
each-at P (suc i) (y ∷ ys) x rest h e = each-at P i ys x rest h.1 e

before-at : (case : Case) (i : ℕ) (names : List Name) (n : Name) (more : List Name) → AreInOrder case names → drop i names ≡ n ∷ more → Each (λ m. name_order case m n ≡ Less) (take i names)
before-at case zero names n more h e = tt
before-at case (suc i) [] n more h e = tt
before-at case (suc i) (m ∷ ms) n more h e = (each-at (λ k. name_order case m k ≡ Less) i ms n more h.0 e, before-at case i ms n more h.1 e)

-- a name comes after the last of the children before it
pub next-after_last : (case : Case) (names : List Name) (made : List Snapshot) (i : ℕ) (n : Name) → IsListed case names → i < length names → n ≡ get_or names i n → IsAfterLast case (children_with (take i names) made) n
next-after_last case names made i n listed within is =
    let here : drop i names ≡ n ∷ drop (suc i) names = drop-cons names i n within ∙ ap (λ m. m ∷ drop (suc i) names) (sym is) in
    after-last case _ n (each-with (λ m. name_order case m n ≡ Less) (take i names) made (before-at case i names n (drop (suc i) names) listed.order here))

length-take : {A : Type 0} (i : ℕ) (xs : List A) → length (take i xs) ≤ i
length-take zero xs = omega arith
length-take (suc i) [] = omega arith
length-take (suc i) (x ∷ xs) = omega (arith, length-take i xs)

-- there is room for it
pub next-room : (case : Case) (names : List Name) (made : List Snapshot) (i : ℕ) → IsListed case names → i < length names → length (names_of (children_with (take i names) made)) < 4096
next-room case names made i listed within = omega (arith, few-with (take i names) made, length-take i names, listed.few)
