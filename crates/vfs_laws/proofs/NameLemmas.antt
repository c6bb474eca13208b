-- Names in order, and what is listed.
use Rattle.std.proofs.Common.{◌≡◌, true, false, cond, List, [], ◌∷◌, ◌++◌, refl, sym, ap, ◌∙◌, Option, Some, None}
use Rattle.std.proofs.lemmas.Bool.{and_from, and_parts, both_ways, true≢false, false_from_ne_true}
use Rattle.std.specs.declared.cmp.Ordering.{Ordering}
use Rattle.std.specs.declared.cmp.Ordering.TheVariants.{Less, Equal, Greater}
use Rattle.std.specs.Cmp.Lexicographic.{nat_list_cmp_total, texts_ties}
use Rattle.std.specs.Ordering.{is_eq, ordering_reverse}
use Rattle.std.specs.List.{AllByRecursion as Each}
use Rattle.vfs_model.specs.declared.Case.{Case}
use Rattle.vfs_model.specs.Paths.{Name, Path, folded_name, place, is_same_name, name_order, is_child, is_same_place, last_name}
use Rattle.vfs_model.specs.World.{World, Entry, at, names, insert_by, insert_name, AreInOrder, listed_in, spelling_of}
use Rattle.vfs_laws.proofs.Splits.{split}
use Rattle.vfs_laws.proofs.PathLemmas.{same_name-refl, same_name-true, same_place-true, same_place-refl}

-- ---- the order of names

-- cases on an order
pub split_order : {P : Type 0} (o : Ordering) → (o ≡ Less → P) → (o ≡ Equal → P) → (o ≡ Greater → P) → P
split_order Less f g h = f refl
split_order Equal f g h = g refl
split_order Greater f g h = h refl

-- names that are equal in the order are equal where they are folded
pub order-equal : (case : Case) (a b : Name) → name_order case a b ≡ Equal → folded_name case a ≡ folded_name case b
order-equal case a b e = same_name-true _ _ (texts_ties (folded_name case a) (folded_name case b) ∙ ap is_eq e)

-- names that are equal where they are folded are equal in the order
pub order-same : (case : Case) (a b : Name) → folded_name case a ≡ folded_name case b → name_order case a b ≡ Equal
order-same case a b e = by (name_order case a b) (sym (texts_ties (folded_name case a) (folded_name case b)) ∙ ap (is_same_name (folded_name case a)) (sym e) ∙ same_name-refl (folded_name case a))
  where
    by : (o : Ordering) → is_eq o ≡ true → o ≡ Equal
    by Less h = cc
    by Equal h = refl
    by Greater h = cc

-- of two names the greater comes after the less
pub order-flip : (case : Case) (a b : Name) → name_order case a b ≡ Greater → name_order case b a ≡ Less
order-flip case a b e = nat_list_cmp_total.antisymm (folded_name case b) (folded_name case a) ∙ ap ordering_reverse e

-- names before which n stands are not the same as n
apart-from_less : (case : Case) (n m : Name) → name_order case n m ≡ Less → is_same_name (folded_name case m) (folded_name case n) ≡ false
apart-from_less case n m e =
    false_from_ne_true _ (λ s. let h : name_order case n m ≡ Equal = order-same case n m (sym (same_name-true _ _ s)) in cc)

-- a name that stands before all of the list is not listed in it
pub none-after : (case : Case) (n : Name) (ns : List Name) → Each (λ m. name_order case n m ≡ Less) ns → listed_in case ns (folded_name case n) ≡ None
none-after case n [] h = refl
none-after case n (m ∷ ns) h = rw (apart-from_less case n m h.0) (none-after case n ns h.1)

-- ---- insertion

each-insert_by : (P : Name → Type 0) (o : Ordering) (n m : Name) (ns more : List Name) → P n → Each P (m ∷ ns) → Each P more → Each P (insert_by o n m ns more)
each-insert_by P Less n m ns more h k r = (h, k)
each-insert_by P Equal n m ns more h k r = (h, k.1)
each-insert_by P Greater n m ns more h k r = (k.0, r)

each-insert : (case : Case) (P : Name → Type 0) (n : Name) (ns : List Name) → P n → Each P ns → Each P (insert_name case n ns)
each-insert case P n [] h k = (h, tt)
each-insert case P n (m ∷ ns) h k = each-insert_by P (name_order case n m) n m ns _ h k (each-insert case P n ns h k.1)

-- what holds of each element holds of each in a weaker form
pub each-weaker : {X : Type 0} (P Q : X → Type 0) → ((x : X) → P x → Q x) → (xs : List X) → Each P xs → Each Q xs
each-weaker P Q f [] h = tt
each-weaker P Q f (x ∷ xs) h = (f x h.0, each-weaker P Q f xs h.1)

pub order-trans : (case : Case) (a b c : Name) → name_order case a b ≡ Less → name_order case b c ≡ Less → name_order case a c ≡ Less
order-trans case a b c = nat_list_cmp_total.trans (folded_name case a) (folded_name case b) (folded_name case c)

order-congr : (case : Case) (a b c : Name) → name_order case a b ≡ Equal → name_order case b c ≡ Less → name_order case a c ≡ Less
order-congr case a b c e h = nat_list_cmp_total.congr (folded_name case a) (folded_name case b) (folded_name case c) e ∙ h

-- a name that is inserted leaves a list in order
pub insert-in_order : (case : Case) (n : Name) (ns : List Name) → AreInOrder case ns → AreInOrder case (insert_name case n ns)
insert-in_order case n [] h = (tt, tt)
insert-in_order case n (m ∷ ns) h =
    split_order (name_order case n m)
    (λ e. rw e ((e, each-weaker _ _ (λ k. order-trans case n m k e) ns h.0), h))
    (λ e. rw e (each-weaker _ _ (λ k. order-congr case n m k e) ns h.0, h.1))
    (λ e. rw e (each-insert case _ n ns (order-flip case n m e) h.0, insert-in_order case n ns h.1))

-- the names of a place are in order
pub names-in_order : (case : Case) (world : World) (x : Path) → AreInOrder case (names case world x)
names-in_order case [] x = tt
names-in_order case (e ∷ world) x =
    split (is_child x (place case e.path))
    (λ s. rw s (insert-in_order case (last_name e.path) (names case world x) (names-in_order case world x)))
    (λ s. rw s (names-in_order case world x))

-- the inserted name is listed, and else what was
pub listed_in-insert : (case : Case) (n : Name) (ns : List Name) (k : Name) → listed_in case (insert_name case n ns) k ≡ cond (is_same_name (folded_name case n) k) (Some n) (listed_in case ns k)
listed_in-insert case n [] k = refl
listed_in-insert case n (m ∷ ns) k =
    split_order (name_order case n m)
    (λ e. rw e refl)
    (λ e. rw e (split (is_same_name (folded_name case n) k)
    (λ s. rw s refl)
    (λ s. let t : is_same_name (folded_name case m) k ≡ false = ap (λ y. is_same_name y k) (sym (order-equal case n m e)) ∙ s in rw (s, t) refl)))
    (λ e. rw e (split (is_same_name (folded_name case m) k)
    (λ s. let t : is_same_name (folded_name case n) k ≡ false = false_from_ne_true _ (λ u. let h : name_order case n m ≡ Equal = order-same case n m (same_name-true _ _ u ∙ sym (same_name-true _ _ s)) in cc) in rw (s, t) refl)
    (λ s. rw s (listed_in-insert case n ns k))))

-- ---- the names of a place

-- where nothing is spelled, no entry is
pub spelling-none : (e : Option Entry) → spelling_of e ≡ None → e ≡ None
spelling-none None h = refl
spelling-none (Some e) h = cc

pub last_name-append : (x : Path) (n : Name) → last_name (x ++ n ∷ []) ≡ n
last_name-append [] n = refl
last_name-append (a ∷ []) n = refl
last_name-append (a ∷ b ∷ x) n = last_name-append (b ∷ x) n

-- a place with one name more is a child
pub is_child-append : (x : Path) (n : Name) → is_child x (x ++ n ∷ []) ≡ true
is_child-append [] n = refl
is_child-append (a ∷ x) n = and_from _ _ (same_name-refl a) (is_child-append x n)

-- a child's place is that of its directory and one name more
pub child_place : (case : Case) (x p : Path) → is_child x (place case p) ≡ true → place case p ≡ x ++ folded_name case (last_name p) ∷ []
child_place case [] [] h = absurd (true≢false (sym h))
child_place case [] (n ∷ []) h = refl
child_place case [] (n ∷ m ∷ p) h = absurd (true≢false (sym h))
child_place case (a ∷ x) [] h = absurd (true≢false (sym h))
child_place case (a ∷ x) (n ∷ []) h = absurd (true≢false (sym (and_parts _ _ h).1 ∙ no_child x))
  where
    no_child : (x : Path) → is_child x [] ≡ false
    no_child [] = refl
    no_child (a ∷ x) = refl
child_place case (a ∷ x) (n ∷ m ∷ p) h =
    let parts = and_parts _ _ h in
    λ i. sym (same_name-true a (folded_name case n) parts.0) i ∷ child_place case x (m ∷ p) parts.1 i

-- two children of one place are the same exactly where their names are
pub same_place-last : (x : Path) (a b : Name) → is_same_place (x ++ a ∷ []) (x ++ b ∷ []) ≡ is_same_name a b
same_place-last x a b =
    split (is_same_name a b)
    (λ s. rw (s, same_name-true a b s) (same_place-refl (x ++ b ∷ [])))
    (λ s. rw s (false_from_ne_true _ (λ t.
    let e : a ≡ b = sym (last_name-append x a) ∙ ap last_name (same_place-true (x ++ a ∷ []) (x ++ b ∷ []) t) ∙ last_name-append x b in
    both_ways (is_same_name a b) s (ap (is_same_name a) (sym e) ∙ same_name-refl a))))

-- what is listed of a place is what is at its children
pub listed_in-names : (case : Case) (world : World) (x : Path) (k : Name) → listed_in case (names case world x) k ≡ spelling_of (at case world (x ++ k ∷ []))
listed_in-names case [] x k = refl
listed_in-names case (e ∷ world) x k =
    split (is_child x (place case e.path))
    (λ s. rw (s, listed_in-insert case (last_name e.path) (names case world x) k, child_place case x e.path s, same_place-last x (folded_name case (last_name e.path)) k)
    (split (is_same_name (folded_name case (last_name e.path)) k) (λ t. rw t refl) (λ t. rw t (listed_in-names case world x k))))
    (λ s.
    let t : is_same_place (place case e.path) (x ++ k ∷ []) ≡ false =
    false_from_ne_true _ (λ u. both_ways _ s (ap (is_child x) (same_place-true _ _ u) ∙ is_child-append x k)) in
    rw (s, t) (listed_in-names case world x k))

-- ---- two lists in order that list the same are equal

-- Some tells what is in it
pub some-is : {X : Type 0} (a b : X) → Some a ≡ Some b → a ≡ b
some-is a b e = cc

-- the first of a list is listed
pub listed_in-head : (case : Case) (n : Name) (ns : List Name) → listed_in case (n ∷ ns) (folded_name case n) ≡ Some n
listed_in-head case n ns = rw (same_name-refl (folded_name case n)) refl

-- a name before which the first of a list in order does not stand is not listed behind it
pub listed_first : (case : Case) (x y : Name) (ys : List Name) → name_order case x y ≡ Less → AreInOrder case (y ∷ ys) → listed_in case (y ∷ ys) (folded_name case x) ≡ None
listed_first case x y ys e g = none-after case x (y ∷ ys) (e, each-weaker _ _ (λ k. order-trans case x y k e) ys g.0)

-- two lists in order that list the same are equal
pub same-in_order : (case : Case) (xs ys : List Name) → AreInOrder case xs → AreInOrder case ys → ((k : Name) → listed_in case xs k ≡ listed_in case ys k) → xs ≡ ys
same-in_order case [] [] h g e = refl
same-in_order case [] (y ∷ ys) h g e = let t : None ≡ Some y = e (folded_name case y) ∙ listed_in-head case y ys in cc
same-in_order case (x ∷ xs) [] h g e = let t : None ≡ Some x = sym (e (folded_name case x)) ∙ listed_in-head case x xs in cc
same-in_order case (x ∷ xs) (y ∷ ys) h g e =
    split_order (name_order case x y)
    (λ o. let t : None ≡ Some x = sym (listed_first case x y ys o g) ∙ sym (e (folded_name case x)) ∙ listed_in-head case x xs in cc)
    (λ o.
    let f = order-equal case x y o in
    let t : Some x ≡ Some y = sym (listed_in-head case x xs) ∙ e (folded_name case x) ∙ ap (listed_in case (y ∷ ys)) f ∙ listed_in-head case y ys in
    let rest : (k : Name) → listed_in case xs k ≡ listed_in case ys k =
    λ k. split (is_same_name (folded_name case x) k)
    (λ s.
    let same = same_name-true (folded_name case x) k s in
    ap (listed_in case xs) (sym same) ∙ none-after case x xs h.0 ∙ sym (none-after case y ys g.0) ∙ ap (listed_in case ys) (sym f ∙ same))
    (λ s. let u : is_same_name (folded_name case y) k ≡ false = ap (λ z. is_same_name z k) (sym f) ∙ s in rw (s, u) at (e k)) in
    λ i. some-is x y t i ∷ same-in_order case xs ys h.1 g.1 rest i)
    (λ o. let t : None ≡ Some y = sym (listed_first case y x xs (order-flip case x y o) h) ∙ e (folded_name case y) ∙ listed_in-head case y ys in cc)
