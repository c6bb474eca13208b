-- A search among children in order, and the lists that a change makes.
use Rattle.std.proofs.Common.{◌≡◌, ℕ, zero, suc, ◌+◌, ◌-◌, ◌<◌, ◌≤◌, true, false, cond, List, [], ◌∷◌, ◌++◌, length, take, drop, set, map, get_or, Some, None, refl, sym, ap, ◌∙◌, subst, arith, Result, Ok, Err, MatchResult}
use Rattle.std.proofs.lemmas.Bool.{false_from_ne_true}
use Rattle.std.proofs.lemmas.List.{take_all}
use Rattle.std.proofs.lemmas.List.Sorted.{searchable_from_sorted}
use Rattle.std.specs.Ordering.{is_lt, ordering_reverse}
use Rattle.std.specs.Cmp.Lexicographic.{nat_list_cmp_total}
use Rattle.std.specs.List.{AllByRecursion as Each}
use Rattle.std.specs.List.Sorted.{IsSearchInRange, IsBinarySearchResult}
use Rattle.std.specs.declared.cmp.Ordering.TheVariants.{Less, Equal, Greater}
use Rattle.case_order.proofs.OrderLemmas.{name_order-total}
use Rattle.vfs_model.specs.declared.Case.{Case}
use Rattle.vfs_model.specs.Paths.{Name, Path, folded_name, place, is_same_name, name_order}
use Rattle.vfs_model.specs.World.{AreInOrder}
use Rattle.vfs_laws.proofs.PathLemmas.{same_name-refl, same_name-true}
use Rattle.vfs_laws.proofs.NameLemmas.{order-equal, order-same, order-flip, each-weaker}
use Rattle.mem_tree.specs.FileTree.{FileTree, Leaf, Branch, Children, WithChild, names_of, child, put, without, put_changed, with_changed, changed, IsOrdered, AreOrdered}
use Rattle.mem_tree.specs.declared.node.Child.{Child}
use Rattle.mem_tree.specs.declared.node.Change.{Change}
use Rattle.mem_tree.specs.declared.node.Change.TheVariants.{Put, Take}
use Rattle.mem_tree.specs.Found.{after_change}
use Rattle.mem_tree.specs.Nodes.{tree_of_node, named_of, children_of, IsHere, IsGap}

-- the names of listed children
pub names_of-children_of : (cs : List Child) → names_of (children_of cs) ≡ map (λ (c : Child). c.name) cs
names_of-children_of [] = refl
names_of-children_of (c ∷ cs) = ap (λ ns. c.name ∷ ns) (names_of-children_of cs)

-- the names of all listed children, where a loop has read them
pub names_of-all : (cs : List Child) (self : Children) (names : List Name) (i : ℕ) → children_of cs ≡ self → names ≡ map (λ (c : Child). c.name) (take i cs) → length cs ≤ i → names ≡ names_of self
names_of-all cs self names i is read end = read ∙ ap (map (λ (c : Child). c.name)) (take_all i cs end) ∙ sym (names_of-children_of cs) ∙ ap names_of is

-- as many names as children
pub length-names_of : (cs : List Child) → length (names_of (children_of cs)) ≡ length cs
length-names_of [] = refl
length-names_of (c ∷ cs) = ap suc (length-names_of cs)

-- ---- where a name stands among others

-- of two names the less comes before the greater
flipped : (case : Case) (a b : Name) → name_order case a b ≡ Less → name_order case b a ≡ Greater
flipped case a b e = nat_list_cmp_total.antisymm (folded_name case b) (folded_name case a) ∙ ap ordering_reverse e

-- a name before another is not the same
apart-less : (case : Case) (a n : Name) → name_order case a n ≡ Less → is_same_name (folded_name case a) (folded_name case n) ≡ false
apart-less case a n e = false_from_ne_true _ (λ s. let h : name_order case a n ≡ Equal = order-same case a n (same_name-true _ _ s) in cc)

-- a name after another is not the same
apart-greater : (case : Case) (a n : Name) → name_order case a n ≡ Greater → is_same_name (folded_name case a) (folded_name case n) ≡ false
apart-greater case a n e = false_from_ne_true _ (λ s. let h : name_order case a n ≡ Equal = order-same case a n (same_name-true _ _ s) in cc)

-- names that are equal in the order are the same
same-equal : (case : Case) (a n : Name) → name_order case a n ≡ Equal → is_same_name (folded_name case a) (folded_name case n) ≡ true
same-equal case a n e = ap (is_same_name (folded_name case a)) (sym (order-equal case a n e)) ∙ same_name-refl (folded_name case a)

-- what stands before a name stands before one that is the same
less-same : (case : Case) (a b n : Name) → name_order case a b ≡ Less → name_order case b n ≡ Equal → name_order case a n ≡ Less
less-same case a b n e f = ap (λ k. Rattle.std.specs.Cmp.Lexicographic.slice_cmp Rattle.std.specs.Ordering.nat_cmp (folded_name case a) k) (sym (order-equal case b n f)) ∙ e

-- ---- what the search answers

-- what holds of each name holds of the name at an index
each-at : (P : Name → Type 0) (cs : List Child) (i : ℕ) (d : Child) → Each P (names_of (children_of cs)) → i < length cs → P (get_or cs i d).name
each-at P [] i d h less = absurd (omega arith)
each-at P (c ∷ cs) zero d h less = h.0
each-at P (c ∷ cs) (suc i) d h less = each-at P cs i d h.1 (omega arith)

-- the children before one that is found come before its name
before-here : (case : Case) (cs : List Child) (n : Name) (i : ℕ) → AreInOrder case (names_of (children_of cs)) → i < length cs → ((d : Child) → name_order case (get_or cs i d).name n ≡ Equal) → Each (λ (c : Child). name_order case c.name n ≡ Less) (take i cs)
before-here case [] n i h less e = absurd (omega arith)
before-here case (c ∷ cs) n zero h less e = tt
before-here case (c ∷ cs) n (suc i) h less e = (less-same case c.name (get_or cs i c).name n (each-at (λ m. name_order case c.name m ≡ Less) cs i c h.0 (omega arith)) (e c), before-here case cs n i h.1 (omega arith) e)

-- what holds at each index below one holds of the first children
each-within : (P : Child → Type 0) (cs : List Child) (i : ℕ) → ((k : ℕ) (d : Child) → k < i → P (get_or cs k d)) → i ≤ length cs → Each P (take i cs)
each-within P [] zero h less = tt
each-within P [] (suc i) h less = tt
each-within P (c ∷ cs) zero h less = tt
each-within P (c ∷ cs) (suc i) h less = (h zero c (omega arith), each-within P cs i (λ k d l. h (suc k) d (omega arith)) (omega arith))

-- what holds at each index from one on holds of the rest
each-from : (P : Child → Type 0) (cs : List Child) (i : ℕ) → ((k : ℕ) (d : Child) → i ≤ k → k < length cs → P (get_or cs k d)) → Each P (drop i cs)
each-from P [] zero h = tt
each-from P [] (suc i) h = tt
each-from P (c ∷ cs) zero h = (h zero c (omega arith) (omega arith), each-from P cs zero (λ k d l m. h (suc k) d (omega arith) (omega arith)))
each-from P (c ∷ cs) (suc i) h = each-from P cs i (λ k d l m. h (suc k) d (omega arith) (omega arith))

-- no child is less than the one before it
rising : (case : Case) (cs : List Child) → AreInOrder case (names_of (children_of cs)) → (k : ℕ) (d : Child) → 0 ≤ k → k + 1 < length cs → is_lt (name_order case (get_or cs (k + 1) d).name (get_or cs k d).name) ≡ false
rising case [] h k d l m = absurd (omega arith)
rising case (c ∷ cs) h zero d l m = ap is_lt (flipped case c.name (get_or cs zero d).name (each-at (λ n. name_order case c.name n ≡ Less) cs zero d h.0 (omega arith)))
rising case (c ∷ cs) h (suc k) d l m = subst (λ (j : ℕ). is_lt (name_order case (get_or (c ∷ cs) j d).name (get_or cs k d).name) ≡ false) (let e : suc (k + 1) ≡ suc k + 1 = omega arith in e) (rising case cs h.1 k d (omega arith) (omega arith))

-- what a binary search answers
pub sought : (case : Case) (cs : List Child) (n : Name) (r : Result ℕ ℕ) → AreInOrder case (names_of (children_of cs)) → IsSearchInRange r (length cs) → IsBinarySearchResult (λ (c : Child). name_order case c.name n) cs r → MatchResult r (IsHere case cs n) (IsGap case cs n)
sought case cs n (Ok i) h range at = record { within = range; before = before-here case cs n i h range at; same = at }
sought case cs n (Err i) h range at =
    let parts = at (searchable_from_sorted (name_order-total case) (λ (c : Child). c.name) cs n (rising case cs h)) in
    record {
      within = range;
      before = each-within (λ c. name_order case c.name n ≡ Less) cs i (λ k d l. parts.0 k d (omega arith) l) range;
      after = each-from (λ c. name_order case c.name n ≡ Greater) cs i (λ k d l m. parts.1 k d l m);
    }

-- ---- past children that come before the name

-- the search goes past children that come before the name
child-past : (case : Case) (n : Name) (a b : List Child) → Each (λ (c : Child). name_order case c.name n ≡ Less) a → child case (children_of (a ++ b)) (folded_name case n) ≡ child case (children_of b) (folded_name case n)
child-past case n [] b h = refl
child-past case n (c ∷ a) b h = rw (apart-less case c.name n h.0) (child-past case n a b h.1)

-- so does a put child
put-past : (case : Case) (new : Child) (a b ys : List Child) → Each (λ (c : Child). name_order case c.name new.name ≡ Less) a → put case new.name (tree_of_node new.node) (children_of b) ≡ children_of ys → put case new.name (tree_of_node new.node) (children_of (a ++ b)) ≡ children_of (a ++ ys)
put-past case new [] b ys h e = e
put-past case new (c ∷ a) b ys h e = rw (flipped case c.name new.name h.0) (ap (λ more. WithChild c.name (tree_of_node c.node) more) (put-past case new a b ys h.1 e))

-- so does a removal
without-past : (case : Case) (n : Name) (a b ys : List Child) → Each (λ (c : Child). name_order case c.name n ≡ Less) a → without case (folded_name case n) (children_of b) ≡ children_of ys → without case (folded_name case n) (children_of (a ++ b)) ≡ children_of (a ++ ys)
without-past case n [] b ys h e = e
without-past case n (c ∷ a) b ys h e = rw (apart-less case c.name n h.0) (ap (λ more. WithChild c.name (tree_of_node c.node) more) (without-past case n a b ys h.1 e))

-- ---- children that come after the name

-- no child is found among those that come after the name
child-after : (case : Case) (n : Name) (b : List Child) → Each (λ (c : Child). name_order case c.name n ≡ Greater) b → child case (children_of b) (folded_name case n) ≡ None
child-after case n [] h = refl
child-after case n (c ∷ b) h = rw (apart-greater case c.name n h.0) (child-after case n b h.1)

-- nothing is taken from those that come after the name
without-after : (case : Case) (n : Name) (b : List Child) → Each (λ (c : Child). name_order case c.name n ≡ Greater) b → without case (folded_name case n) (children_of b) ≡ children_of b
without-after case n [] h = refl
without-after case n (c ∷ b) h = rw (apart-greater case c.name n h.0) (ap (λ more. WithChild c.name (tree_of_node c.node) more) (without-after case n b h.1))

-- a put child stands before those that come after its name
put-after : (case : Case) (new : Child) (b : List Child) → Each (λ (c : Child). name_order case c.name new.name ≡ Greater) b → put case new.name (tree_of_node new.node) (children_of b) ≡ children_of (new ∷ b)
put-after case new [] h = refl
put-after case new (c ∷ b) h = rw (order-flip case c.name new.name h.0) refl

-- ---- the child itself

-- the children behind one come after it
behind : (case : Case) (cs : List Child) (i : ℕ) (d : Child) → AreInOrder case (names_of (children_of cs)) → i < length cs → Each (λ (c : Child). name_order case (get_or cs i d).name c.name ≡ Less) (drop (suc i) cs)
behind case [] i d h less = tt
behind case (c ∷ cs) zero d h less = by cs h.0
  where
    by : (ds : List Child) → Each (λ m. name_order case c.name m ≡ Less) (names_of (children_of ds)) → Each (λ (e : Child). name_order case c.name e.name ≡ Less) ds
    by [] k = tt
    by (e ∷ ds) k = (k.0, by ds k.1)
behind case (c ∷ cs) (suc i) d h less = behind case cs i d h.1 (omega arith)

-- what comes after a name comes after one that is the same
greater-same : (case : Case) (a b n : Name) → name_order case b n ≡ Equal → name_order case b a ≡ Less → name_order case a n ≡ Greater
greater-same case a b n f e =
    flipped case n a (nat_list_cmp_total.congr (folded_name case n) (folded_name case b) (folded_name case a) (order-same case n b (sym (order-equal case b n f))) ∙ e)

-- the list is what comes before the index, the child there, and what comes behind
split-at : (cs : List Child) (i : ℕ) (d : Child) → i < length cs → take i cs ++ get_or cs i d ∷ drop (suc i) cs ≡ cs
split-at [] i d h = absurd (omega arith)
split-at (c ∷ cs) zero d h = refl
split-at (c ∷ cs) (suc i) d h = ap (λ more. c ∷ more) (split-at cs i d (omega arith))

-- the list is what comes before the index, and the rest
split-gap : (cs : List Child) (i : ℕ) → take i cs ++ drop i cs ≡ cs
split-gap [] zero = refl
split-gap [] (suc i) = refl
split-gap (c ∷ cs) zero = refl
split-gap (c ∷ cs) (suc i) = ap (λ more. c ∷ more) (split-gap cs i)

-- the child at the index is found
pub here-child : (case : Case) (cs : List Child) (n : Name) (i : ℕ) (d : Child) → IsHere case cs n i → child case (children_of cs) (folded_name case n) ≡ Some (named_of (get_or cs i d))
here-child case cs n i d h =
    ap (λ xs. child case (children_of xs) (folded_name case n)) (sym (split-at cs i d h.within))
    ∙ child-past case n (take i cs) (get_or cs i d ∷ drop (suc i) cs) h.before
    ∙ ap (λ b. cond b (Some (named_of (get_or cs i d))) (child case (children_of (drop (suc i) cs)) (folded_name case n))) (same-equal case (get_or cs i d).name n (h.same d))

-- no child is found at a gap
pub gap-child : (case : Case) (cs : List Child) (n : Name) (i : ℕ) → IsGap case cs n i → child case (children_of cs) (folded_name case n) ≡ None
gap-child case cs n i h =
    ap (λ xs. child case (children_of xs) (folded_name case n)) (sym (split-gap cs i))
    ∙ child-past case n (take i cs) (drop i cs) h.before
    ∙ child-after case n (drop i cs) h.after

-- a put child takes the place of the one at the index
pub here-put : (case : Case) (cs : List Child) (new : Child) (i : ℕ) → IsHere case cs new.name i → put case new.name (tree_of_node new.node) (children_of cs) ≡ children_of (take i cs ++ new ∷ drop (suc i) cs)
here-put case cs new i h =
    ap (λ xs. put case new.name (tree_of_node new.node) (children_of xs)) (sym (split-at cs i new h.within))
    ∙ put-past case new (take i cs) (get_or cs i new ∷ drop (suc i) cs) (new ∷ drop (suc i) cs) h.before
    (ap (λ o. Rattle.mem_tree.specs.FileTree.put_by o new.name (tree_of_node new.node) (get_or cs i new).name (tree_of_node (get_or cs i new).node) (children_of (drop (suc i) cs)) (put case new.name (tree_of_node new.node) (children_of (drop (suc i) cs))))
    (order-same case new.name (get_or cs i new).name (sym (order-equal case (get_or cs i new).name new.name (h.same new)))))

-- a put child goes into the gap
pub gap-put : (case : Case) (cs : List Child) (new : Child) (i : ℕ) → IsGap case cs new.name i → put case new.name (tree_of_node new.node) (children_of cs) ≡ children_of (take i cs ++ new ∷ drop i cs)
gap-put case cs new i h =
    ap (λ xs. put case new.name (tree_of_node new.node) (children_of xs)) (sym (split-gap cs i))
    ∙ put-past case new (take i cs) (drop i cs) (new ∷ drop i cs) h.before (put-after case new (drop i cs) h.after)

-- the child at the index is taken away
pub here-without : (case : Case) (cs : List Child) (n : Name) (i : ℕ) (d : Child) → AreInOrder case (names_of (children_of cs)) → IsHere case cs n i → without case (folded_name case n) (children_of cs) ≡ children_of (take i cs ++ drop (suc i) cs)
here-without case cs n i d order h =
    ap (λ xs. without case (folded_name case n) (children_of xs)) (sym (split-at cs i d h.within))
    ∙ without-past case n (take i cs) (get_or cs i d ∷ drop (suc i) cs) (drop (suc i) cs) h.before
    (ap (λ b. cond b (without case (folded_name case n) (children_of (drop (suc i) cs))) (WithChild (get_or cs i d).name (tree_of_node (get_or cs i d).node) (without case (folded_name case n) (children_of (drop (suc i) cs))))) (same-equal case (get_or cs i d).name n (h.same d))
    ∙ without-after case n (drop (suc i) cs) (each-weaker _ _ (λ (e : Child) l. greater-same case e.name (get_or cs i d).name n (h.same d) l) (drop (suc i) cs) (behind case cs i d order h.within)))

-- nothing is taken away at a gap
pub gap-without : (case : Case) (cs : List Child) (n : Name) (i : ℕ) → IsGap case cs n i → without case (folded_name case n) (children_of cs) ≡ children_of cs
gap-without case cs n i h =
    ap (λ xs. without case (folded_name case n) (children_of xs)) (sym (split-gap cs i))
    ∙ without-past case n (take i cs) (drop i cs) (drop i cs) h.before (without-after case n (drop i cs) h.after)
    ∙ ap children_of (split-gap cs i)

-- ---- what a change makes of the list

-- a list with another child at the index
set-parts : (cs : List Child) (i : ℕ) (new : Child) → i < length cs → set cs i new ≡ take i cs ++ new ∷ drop (suc i) cs
set-parts [] i new h = absurd (omega arith)
set-parts (c ∷ cs) zero new h = refl
set-parts (c ∷ cs) (suc i) new h = ap (λ more. c ∷ more) (set-parts cs i new (omega arith))

-- a child is put in the place of another
pub changed-here : (case : Case) (cs ds : List Child) (change : Change) (new : Child) (i : ℕ) → change ≡ Put new → IsHere case cs new.name i → ds ≡ set cs i new → children_of ds ≡ after_change case change (children_of cs)
changed-here case cs ds change new i put_is h is =
    ap children_of (is ∙ set-parts cs i new h.within)
    ∙ sym (here-put case cs new i h)
    ∙ ap (λ f. after_change case f (children_of cs)) (sym put_is)

-- a child is put into the gap
pub changed-gap : (case : Case) (cs ds : List Child) (change : Change) (new : Child) (i : ℕ) → change ≡ Put new → IsGap case cs new.name i → ds ≡ take i cs ++ new ∷ drop i cs → children_of ds ≡ after_change case change (children_of cs)
changed-gap case cs ds change new i put_is h is =
    ap children_of is
    ∙ sym (gap-put case cs new i h)
    ∙ ap (λ f. after_change case f (children_of cs)) (sym put_is)

-- a child is taken away
pub taken-here : (case : Case) (cs ds : List Child) (change : Change) (n : Name) (i : ℕ) → change ≡ Take n → AreInOrder case (names_of (children_of cs)) → IsHere case cs n i → ds ≡ take i cs ++ drop (suc i) cs → children_of ds ≡ after_change case change (children_of cs)
taken-here case [] ds change n i take_is order h is = absurd (let l = h.within in omega arith)
taken-here case (c ∷ cs) ds change n i take_is order h is =
    ap children_of is
    ∙ sym (here-without case (c ∷ cs) n i c order h)
    ∙ ap (λ f. after_change case f (children_of (c ∷ cs))) (sym take_is)

-- no child has the name that is to be taken away
pub taken-gap : (case : Case) (cs : List Child) (change : Change) (n : Name) (i : ℕ) → change ≡ Take n → IsGap case cs n i → children_of cs ≡ after_change case change (children_of cs)
taken-gap case cs change n i take_is h =
    sym (gap-without case cs n i h) ∙ ap (λ f. after_change case f (children_of cs)) (sym take_is)

-- what is found by a name is found by the name that it has
here-own : (case : Case) (cs : List Child) (n : Name) (i : ℕ) (d : Child) → IsHere case cs n i → d ≡ get_or cs i d → IsHere case cs d.name i
here-own case cs n i d h at = record {
  within = h.within;
  before = each-weaker _ _ (λ (c : Child) l. less-same case c.name n d.name l (order-same case n d.name (sym own))) (take i cs) h.before;
  same = λ e. order-same case (get_or cs i e).name d.name (order-equal case (get_or cs i e).name n (h.same e) ∙ sym own);
}
  where
    own : folded_name case d.name ≡ folded_name case n
    own = ap (λ (c : Child). folded_name case c.name) at ∙ order-equal case (get_or cs i d).name n (h.same d)

-- below a child that is found its directory changes
pub changed-below : (case : Case) (f : Children → Children) (cs ds : List Child) (n : Name) (x : Path) (i : ℕ) (d new : Child) (below : Children) → IsHere case cs n i → d ≡ get_or cs i d → tree_of_node d.node ≡ Branch below → new.name ≡ d.name → tree_of_node new.node ≡ Branch (changed case f x below) → ds ≡ set cs i new
    → children_of ds ≡ changed case f (folded_name case n ∷ x) (children_of cs)
changed-below case f cs ds n x i d new below h at dir named made is =
    ap children_of (is ∙ set-parts cs i new h.within)
    ∙ sym (here-put case cs new i (subst (λ (m : Name). IsHere case cs m i) (sym named) (here-own case cs n i d h at)))
    ∙ (λ j. put case (named j) (made j) (children_of cs))
    ∙ ap (λ t. put_changed case (children_of cs) d.name t (changed case f x)) (sym dir)
    ∙ ap (λ o. with_changed case (children_of cs) o (changed case f x)) (ap (λ (c : Child). Some (named_of c)) at ∙ sym (here-child case cs n i d h))

-- a child in its own place
set-same : (cs : List Child) (i : ℕ) (d : Child) → d ≡ get_or cs i d → set cs i d ≡ cs
set-same [] zero d e = refl
set-same [] (suc i) d e = refl
set-same (c ∷ cs) zero d e = ap (λ f. f ∷ cs) e
set-same (c ∷ cs) (suc i) d e = ap (λ more. c ∷ more) (set-same cs i d e)

-- below a file nothing changes
pub changed-file : (case : Case) (f : Children → Children) (cs ds : List Child) (n : Name) (x : Path) (i : ℕ) (d : Child) (bytes : List ℕ) → IsHere case cs n i → d ≡ get_or cs i d → tree_of_node d.node ≡ Leaf bytes → ds ≡ set cs i d → children_of ds ≡ changed case f (folded_name case n ∷ x) (children_of cs)
changed-file case f cs ds n x i d bytes h at leaf is =
    ap children_of (is ∙ set-same cs i d at)
    ∙ ap (λ t. put_changed case (children_of cs) d.name t (changed case f x)) (sym leaf)
    ∙ ap (λ o. with_changed case (children_of cs) o (changed case f x)) (ap (λ (c : Child). Some (named_of c)) at ∙ sym (here-child case cs n i d h))

-- where no child has the name nothing changes
pub changed-nowhere : (case : Case) (f : Children → Children) (cs : List Child) (n : Name) (x : Path) (i : ℕ) → IsGap case cs n i → children_of cs ≡ changed case f (folded_name case n ∷ x) (children_of cs)
changed-nowhere case f cs n x i h = ap (λ o. with_changed case (children_of cs) o (changed case f x)) (sym (gap-child case cs n i h))

-- the place of a path is its first name, folded, and the place of the others
pub place-begins : (case : Case) (names : Path) (n : Name) → 1 ≤ length names → n ≡ get_or names 0 n → folded_name case n ∷ place case (take (length names - 1) (drop 1 names)) ≡ place case names
place-begins case [] n some is = absurd (omega arith)
place-begins case (m ∷ names) n some is = λ j. folded_name case (is j) ∷ place case (all j)
  where
    all : take (length (m ∷ names) - 1) names ≡ names
    all = take_all (length (m ∷ names) - 1) names (omega arith)

-- ---- what is below listed children

-- in a listed child the names are in order
pub listed-ordered : (case : Case) (cs : List Child) (self : Children) (i : ℕ) (c : Child) → children_of cs ≡ self → AreOrdered case self → i < length cs → c ≡ get_or cs i c → IsOrdered case (tree_of_node c.node)
listed-ordered case cs self i c is h less at = by cs i (subst (λ (s : Children). AreOrdered case s) (sym is) h) less at
  where
    by : (ds : List Child) (j : ℕ) → AreOrdered case (children_of ds) → j < length ds → c ≡ get_or ds j c → IsOrdered case (tree_of_node c.node)
    by [] j k l e = absurd (omega arith)
    by (d ∷ ds) zero k l e = subst (λ (f : Child). IsOrdered case (tree_of_node f.node)) (sym e) k.0
    by (d ∷ ds) (suc j) k l e = by ds j k.1 (omega arith) e
