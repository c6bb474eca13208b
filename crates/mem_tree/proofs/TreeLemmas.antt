-- What is at a place in a tree of files, and what a change leaves there.
use Rattle.std.proofs.Common.{◌≡◌, ℕ, suc, ◌-◌, ◌<◌, ◌≤◌, Bool, true, false, cond, nat_eq, ◌&&◌, List, [], ◌∷◌, ◌++◌, length, take, drop, get_or, Option, Some, None, refl, sym, ap, ◌∙◌, subst, arith}
use Rattle.std.proofs.lemmas.Bool.{both_ways, true≢false, false_from_ne_true}
use Rattle.std.specs.List.{AllByRecursion as Each}
use Rattle.std.specs.declared.cmp.Ordering.TheVariants.{Less, Equal}
use Rattle.vfs_model.specs.declared.Case.{Case}
use Rattle.vfs_model.specs.Paths.{Name, Path, folded_name, place, is_same_name, is_at_or_above, name_order, last_name}
use Rattle.vfs_model.specs.World.{Node, insert_name, AreInOrder}
use Rattle.vfs_model.specs.Edit.{parent, is_root}
use Rattle.vfs_laws.proofs.Splits.{split, split_option}
use Rattle.vfs_laws.proofs.PathLemmas.{same_name-refl, same_name-true}
use Rattle.vfs_laws.proofs.NameLemmas.{split_order, order-equal, order-same, insert-in_order, some-is}
use Rattle.mem_tree.specs.FileTree.{FileTree, Leaf, Branch, Children, NoChildren, WithChild, Named, names_of, child, child_of, tree_of, tree_at, at_root, put, without, put_changed, with_changed, changed, node_of_tree, IsOrdered, AreOrdered}

-- below nothing is nothing
pub tree_at-none : (case : Case) (x : Path) → tree_at case None x ≡ None
tree_at-none case [] = refl
tree_at-none case (n ∷ x) = tree_at-none case x

-- ---- searches

-- below a name that is not there is nothing
pub at-nothing : (case : Case) (root : Children) (names : Path) (n : Name) → 1 ≤ length names → n ≡ get_or names 0 n → None ≡ child case root (folded_name case n) → None ≡ at_root case root (place case names)
at-nothing case root [] n some is e = absurd (omega arith)
at-nothing case root (m ∷ names) n some is e =
    sym (ap (λ o. tree_at case (tree_of o) (place case names)) (sym (e ∙ ap (λ k. child case root (folded_name case k)) is)) ∙ tree_at-none case (place case names))

-- below a file is nothing
pub at-below_file : (case : Case) (root : Children) (names : Path) (n : Name) (c : Named) (bytes : List ℕ) → 2 ≤ length names → n ≡ get_or names 0 n → c.tree ≡ Leaf bytes → Some c ≡ child case root (folded_name case n) → None ≡ at_root case root (place case names)
at-below_file case root [] n c bytes some is leaf e = absurd (omega arith)
at-below_file case root (m ∷ []) n c bytes some is leaf e = absurd (omega arith)
at-below_file case root (m ∷ k ∷ names) n c bytes some is leaf e =
    sym (ap (λ o. tree_at case (tree_of o) (place case (k ∷ names))) (sym (e ∙ ap (λ j. child case root (folded_name case j)) is))
    ∙ ap (λ t. tree_at case (Some t) (place case (k ∷ names))) leaf
    ∙ tree_at-none case (place case names))

-- a path with names behind its first has two at least
pub longer : (names : Path) (b : Bool) → 1 ≤ length names → b ≡ nat_eq (length (take (length names - 1) (drop 1 names))) 0 → b ≡ false → 2 ≤ length names
longer [] b some is f = absurd (omega arith)
longer (n ∷ []) b some is f = cc
longer (n ∷ m ∷ names) b some is f = omega arith

-- ---- what is found, with its name

-- what is at the place, with its name
abbrev pub found : Case → Option Named → Path → Option Named
found case o [] = o
found case o (n ∷ x) = found case (child_of case (tree_of o) n) x

-- the root of a tree, or of a part of it
abbrev pub root_of : Name → Children → Option Named
root_of n children = Some (record { name = n; tree = Branch children })

-- how it is spelled, and what stands there
abbrev pub seen : Option Named → Option (Name × Node)
seen None = None
seen (Some c) = Some (c.name, node_of_tree c.tree)

pub found-none : (case : Case) (x : Path) → found case None x ≡ None
found-none case [] = refl
found-none case (n ∷ x) = found-none case x

pub found-tree : (case : Case) (o : Option Named) (x : Path) → tree_of (found case o x) ≡ tree_at case (tree_of o) x
found-tree case o [] = refl
found-tree case o (n ∷ x) = found-tree case (child_of case (tree_of o) n) x

pub found-last : (case : Case) (o : Option Named) (x : Path) (n : Name) → found case o (x ++ n ∷ []) ≡ child_of case (tree_at case (tree_of o) x) n
found-last case o [] n = refl
found-last case o (m ∷ x) n = found-last case (child_of case (tree_of o) m) x n

pub found-append : (case : Case) (o : Option Named) (x y : Path) → found case o (x ++ y) ≡ found case (found case o x) y
found-append case o [] y = refl
found-append case o (n ∷ x) y = found-append case (child_of case (tree_of o) n) x y

-- ---- children

-- a child's name is the one that it is found by
pub child-name : (case : Case) (cs : Children) (n : Name) (c : Named) → child case cs n ≡ Some c → folded_name case c.name ≡ n
child-name case NoChildren n c e = cc
child-name case (WithChild m t more) n c e =
    split (is_same_name (folded_name case m) n)
    (λ s. ap (λ (d : Named). folded_name case d.name) (sym (some-is (record { name = m; tree = t }) c (rw s at e))) ∙ same_name-true (folded_name case m) n s)
    (λ s. child-name case more n c (rw s at e))

-- after a child is put it is found, and else what was
pub child-put : (case : Case) (n : Name) (new : FileTree) (cs : Children) (k : Name) → child case (put case n new cs) k ≡ cond (is_same_name (folded_name case n) k) (Some (record { name = n; tree = new })) (child case cs k)
child-put case n new NoChildren k = refl
child-put case n new (WithChild m old more) k =
    split_order (name_order case n m)
    (λ e. rw e refl)
    (λ e. rw e (split (is_same_name (folded_name case n) k)
    (λ s. rw s refl)
    (λ s. let t : is_same_name (folded_name case m) k ≡ false = ap (λ y. is_same_name y k) (sym (order-equal case n m e)) ∙ s in rw (s, t) refl)))
    (λ e. rw e (split (is_same_name (folded_name case m) k)
    (λ s. let t : is_same_name (folded_name case n) k ≡ false = false_from_ne_true _ (λ u. let h : name_order case n m ≡ Equal = order-same case n m (same_name-true _ _ u ∙ sym (same_name-true _ _ s)) in cc) in rw (s, t) refl)
    (λ s. rw s (child-put case n new more k))))

-- after a child is taken away it is not found, and else what was
pub child-without : (case : Case) (n : Name) (cs : Children) (k : Name) → child case (without case n cs) k ≡ cond (is_same_name n k) None (child case cs k)
child-without case n NoChildren k = split (is_same_name n k) (λ s. rw s refl) (λ s. rw s refl)
child-without case n (WithChild m t more) k =
    split (is_same_name (folded_name case m) n)
    (λ s. rw s (split (is_same_name n k)
    (λ u. rw u (ap (λ b. b) (child-without case n more k) ∙ rw u refl))
    (λ u. let v : is_same_name (folded_name case m) k ≡ false = ap (λ y. is_same_name y k) (same_name-true _ _ s) ∙ u in rw (u, v) (child-without case n more k ∙ rw u refl))))
    (λ s. rw s (split (is_same_name (folded_name case m) k)
    (λ u. let v : is_same_name n k ≡ false = false_from_ne_true _ (λ w. both_ways _ s (ap (is_same_name (folded_name case m)) (same_name-true n k w) ∙ u)) in rw (u, v) refl)
    (λ u. rw u (child-without case n more k))))

-- ---- the order of names

-- the names after a child is put
pub names_of-put : (case : Case) (n : Name) (new : FileTree) (cs : Children) → names_of (put case n new cs) ≡ insert_name case n (names_of cs)
names_of-put case n new NoChildren = refl
names_of-put case n new (WithChild m old more) =
    split_order (name_order case n m)
    (λ e. rw e refl)
    (λ e. rw e refl)
    (λ e. rw e (ap (λ ns. m ∷ ns) (names_of-put case n new more)))

all-put : (case : Case) (n : Name) (new : FileTree) (cs : Children) → IsOrdered case new → AreOrdered case cs → AreOrdered case (put case n new cs)
all-put case n new NoChildren h k = (h, tt)
all-put case n new (WithChild m old more) h k =
    split_order (name_order case n m)
    (λ e. rw e (h, k))
    (λ e. rw e (h, k.1))
    (λ e. rw e (k.0, all-put case n new more h k.1))

-- a put child leaves the names in order
pub put-ordered : (case : Case) (n : Name) (new : FileTree) (cs : Children) → IsOrdered case new → IsOrdered case (Branch cs) → IsOrdered case (Branch (put case n new cs))
put-ordered case n new cs h k = (
  subst (λ (ns : List Name). AreInOrder case ns) (sym (names_of-put case n new cs)) (insert-in_order case n (names_of cs) k.0),
  all-put case n new cs h k.1,
)

each-without : (P : Name → Type 0) (case : Case) (n : Name) (cs : Children) → Each P (names_of cs) → Each P (names_of (without case n cs))
each-without P case n NoChildren h = tt
each-without P case n (WithChild m t more) h =
    split (is_same_name (folded_name case m) n)
    (λ s. rw s (each-without P case n more h.1))
    (λ s. rw s (h.0, each-without P case n more h.1))

-- a child that is taken away leaves the names in order
pub without-ordered : (case : Case) (n : Name) (cs : Children) → IsOrdered case (Branch cs) → IsOrdered case (Branch (without case n cs))
without-ordered case n NoChildren h = h
without-ordered case n (WithChild m t more) h =
    let rest = without-ordered case n more (h.0.1, h.1.1) in
    split (is_same_name (folded_name case m) n)
    (λ s. rw s rest)
    (λ s. rw s ((each-without (λ k. name_order case m k ≡ Less) case n more h.0.0, rest.0), (h.1.0, rest.1)))

-- in a child the names are in order
pub child-ordered : (case : Case) (cs : Children) (n : Name) (c : Named) → AreOrdered case cs → child case cs n ≡ Some c → IsOrdered case c.tree
child-ordered case NoChildren n c h e = cc
child-ordered case (WithChild m t more) n c h e =
    split (is_same_name (folded_name case m) n)
    (λ s. subst (λ (d : Named). IsOrdered case d.tree) (some-is (record { name = m; tree = t }) c (rw s at e)) h.0)
    (λ s. child-ordered case more n c h.1 (rw s at e))

-- what is at a place in a tree in order is in order
pub tree_at-ordered : (case : Case) (t : FileTree) (x : Path) (u : FileTree) → IsOrdered case t → tree_at case (Some t) x ≡ Some u → IsOrdered case u
tree_at-ordered case t [] u h e = subst (λ (s : FileTree). IsOrdered case s) (some-is t u e) h
tree_at-ordered case (Leaf bytes) (n ∷ x) u h e = absurd (by (sym (tree_at-none case x) ∙ e))
  where
    by : None ≡ Some u → ⊥
    by e = cc
tree_at-ordered case (Branch cs) (n ∷ x) u h e =
    split_option (child case cs n)
    (λ none. absurd (by (sym (tree_at-none case x) ∙ ap (λ o. tree_at case (tree_of o) x) (sym none) ∙ e)))
    (λ c is. tree_at-ordered case c.tree x u (child-ordered case cs n c h.1 is) (ap (λ o. tree_at case (tree_of o) x) (sym is) ∙ e))
  where
    by : None ≡ Some u → ⊥
    by e = cc

put_changed-ordered : (case : Case) (f : Children → Children) (cs : Children) (n : Name) (t : FileTree) → ((ds : Children) → IsOrdered case (Branch ds) → IsOrdered case (Branch (f ds))) → IsOrdered case t → IsOrdered case (Branch cs) → IsOrdered case (Branch (put_changed case cs n t f))
put_changed-ordered case f cs n (Leaf bytes) keeps h k = k
put_changed-ordered case f cs n (Branch ds) keeps h k = put-ordered case n (Branch (f ds)) cs (keeps ds h) k

-- a change that leaves the names of a directory in order leaves a tree in order
pub changed-ordered : (case : Case) (f : Children → Children) (x : Path) (cs : Children) → ((ds : Children) → IsOrdered case (Branch ds) → IsOrdered case (Branch (f ds))) → IsOrdered case (Branch cs) → IsOrdered case (Branch (changed case f x cs))
changed-ordered case f [] cs keeps h = keeps cs h
changed-ordered case f (n ∷ x) cs keeps h =
    split_option (child case cs n)
    (λ none. subst (λ (o : Option Named). IsOrdered case (Branch (with_changed case cs o (changed case f x)))) (sym none) h)
    (λ c is. subst (λ (o : Option Named). IsOrdered case (Branch (with_changed case cs o (changed case f x)))) (sym is)
    (put_changed-ordered case (changed case f x) cs c.name c.tree (λ ds k. changed-ordered case f x ds keeps k) (child-ordered case cs n c h.1 is) h))

-- ---- what is found after a change

-- the change leaves every other child
abbrev pub ChangesOnly : Case → Name → (Children → Children) → Type 0
ChangesOnly case k f = (ds : Children) (m : Name) → is_same_name k m ≡ false → child case (f ds) m ≡ child case ds m

and-true : (b : Bool) → (b && true) ≡ false → b ≡ false
and-true true h = h
and-true false h = refl

-- what is found below a child that changed
below-changed : (case : Case) (f : Children → Children) (cs : Children) (n m : Name) (y : Path) (c : Named) (t : FileTree) → child case cs n ≡ Some c → c.tree ≡ t
    → (is_same_name n m ≡ true → (ds : Children) → t ≡ Branch ds → seen (found case (root_of c.name (f ds)) y) ≡ seen (found case (root_of c.name ds) y))
    → seen (found case (child case (put_changed case cs c.name t f) m) y) ≡ seen (found case (child case cs m) y)
below-changed case f cs n m y c (Leaf bytes) is tree deeper = refl
below-changed case f cs n m y c (Branch ds) is tree deeper =
    ap (λ o. seen (found case o y)) (child-put case c.name (Branch (f ds)) cs m)
    ∙ split (is_same_name n m)
    (λ s.
    let t : is_same_name (folded_name case c.name) m ≡ true = ap (λ k. is_same_name k m) (child-name case cs n c is) ∙ s in
    ap (λ b. seen (found case (cond b (root_of c.name (f ds)) (child case cs m)) y)) t
    ∙ deeper s ds refl
    ∙ ap (λ u. seen (found case (Some (record { name = c.name; tree = u })) y)) (sym tree)
    ∙ ap (λ o. seen (found case o y)) (sym is ∙ ap (child case cs) (same_name-true n m s)))
    (λ s.
    let t : is_same_name (folded_name case c.name) m ≡ false = ap (λ k. is_same_name k m) (child-name case cs n c is) ∙ s in
    ap (λ b. seen (found case (cond b (root_of c.name (f ds)) (child case cs m)) y)) t)

-- a change of one child is not seen elsewhere
pub found-elsewhere : (case : Case) (f : Children → Children) (k : Name) (x y : Path) (name : Name) (cs : Children) → ChangesOnly case k f → is_at_or_above (x ++ k ∷ []) y ≡ false
    → seen (found case (root_of name (changed case f x cs)) y) ≡ seen (found case (root_of name cs) y)
found-elsewhere case f k [] [] name cs only off = refl
found-elsewhere case f k [] (m ∷ y) name cs only off = ap (λ o. seen (found case o y)) (only cs m (and-true (is_same_name k m) off))
found-elsewhere case f k (n ∷ x) [] name cs only off = refl
found-elsewhere case f k (n ∷ x) (m ∷ y) name cs only off =
    split_option (child case cs n)
    (λ none. ap (λ o. seen (found case (child case (with_changed case cs o (changed case f x)) m) y)) none)
    (λ c is.
    ap (λ o. seen (found case (child case (with_changed case cs o (changed case f x)) m) y)) is
    ∙ below-changed case (changed case f x) cs n m y c c.tree is refl
    (λ s ds e. found-elsewhere case f k x y c.name ds only (rw s at off)))

pub some≢none : {X : Type 0} (x : X) → None ≡ Some x → ⊥
some≢none x e = cc

leaf≢branch : (bytes : List ℕ) (ds : Children) → Leaf bytes ≡ Branch ds → ⊥
leaf≢branch bytes ds e = cc

branch-is : (cs ds : Children) → Some (Branch cs) ≡ Some (Branch ds) → cs ≡ ds
branch-is cs ds e = cc

-- no directory is below a file
no-branch : (case : Case) (bytes : List ℕ) (x : Path) (ds : Children) → tree_at case (Some (Leaf bytes)) x ≡ Some (Branch ds) → ⊥
no-branch case bytes [] ds e = leaf≢branch bytes ds (some-is (Leaf bytes) (Branch ds) e)
no-branch case bytes (n ∷ x) ds e = some≢none (Branch ds) (sym (tree_at-none case x) ∙ e)

below-put : (case : Case) (f : Children → Children) (cs : Children) (n m : Name) (t : FileTree) (y : Path) (found_is : Option Named) → folded_name case m ≡ n
    → ((bytes : List ℕ) → t ≡ Leaf bytes → ⊥) → ((ds : Children) → t ≡ Branch ds → found case (root_of m (f ds)) y ≡ found_is)
    → found case (child case (put_changed case cs m t f) n) y ≡ found_is
below-put case f cs n m (Leaf bytes) y found_is same no_leaf deeper = absurd (no_leaf bytes refl)
below-put case f cs n m (Branch es) y found_is same no_leaf deeper =
    ap (λ o. found case o y) (child-put case m (Branch (f es)) cs n ∙ ap (λ b. cond b (root_of m (f es)) (child case cs n)) (ap (λ j. is_same_name j n) same ∙ same_name-refl n))
    ∙ deeper es refl

-- in the directory that changed is found what the change put there
pub found-changed : (case : Case) (f : Children → Children) (k : Name) (x z : Path) (name : Name) (cs ds : Children) → tree_at case (Some (Branch cs)) x ≡ Some (Branch ds)
    → found case (root_of name (changed case f x cs)) (x ++ k ∷ z) ≡ found case (child case (f ds) k) z
found-changed case f k [] z name cs ds e = ap (λ es. found case (child case (f es) k) z) (branch-is cs ds e)
found-changed case f k (n ∷ x) z name cs ds e =
    split_option (child case cs n)
    (λ none. absurd (some≢none (Branch ds) (sym (tree_at-none case x) ∙ ap (λ o. tree_at case (tree_of o) x) (sym none) ∙ e)))
    (λ c is.
    let there : tree_at case (Some c.tree) x ≡ Some (Branch ds) = ap (λ o. tree_at case (tree_of o) x) (sym is) ∙ e in
    ap (λ o. found case (child case (with_changed case cs o (changed case f x)) n) (x ++ k ∷ z)) is
    ∙ below-put case (changed case f x) cs n c.name c.tree (x ++ k ∷ z) (found case (child case (f ds) k) z) (child-name case cs n c is)
    (λ bytes t. no-branch case bytes x ds (ap (λ u. tree_at case (Some u) x) (sym t) ∙ there))
    (λ es t. found-changed case f k x z c.name es ds (ap (λ u. tree_at case (Some u) x) (sym t) ∙ there)))

-- ---- the last name

-- a path that is not the root leads to a name in its parent
pub place-parent : (case : Case) (p : Path) → is_root p ≡ false → place case p ≡ place case (parent p) ++ folded_name case (last_name p) ∷ []
place-parent case [] h = absurd (true≢false h)
place-parent case (n ∷ []) h = refl
place-parent case (n ∷ m ∷ p) h = ap (λ x. folded_name case n ∷ x) (place-parent case (m ∷ p) refl)

-- what is there stands in a directory
pub in-directory : (case : Case) (t : FileTree) (x : Path) (n : Name) (u : FileTree) → tree_of (child_of case (tree_at case (Some t) x) n) ≡ Some u → (ds : Children) × (tree_at case (Some t) x ≡ Some (Branch ds))
in-directory case t x n u e = by (tree_at case (Some t) x) refl e
  where
    by : (o : Option FileTree) → tree_at case (Some t) x ≡ o → tree_of (child_of case o n) ≡ Some u → (ds : Children) × (tree_at case (Some t) x ≡ Some (Branch ds))
    by None is h = absurd (some≢none u h)
    by (Some (Leaf bytes)) is h = absurd (some≢none u h)
    by (Some (Branch ds)) is h = (ds, is)

-- the first names of a path are its parent
pub parent-is : (p : Path) → take (length p - 1) p ≡ parent p
parent-is [] = refl
parent-is (n ∷ []) = refl
parent-is (n ∷ m ∷ p) = ap (λ k. take k (n ∷ m ∷ p)) (let e : length (n ∷ m ∷ p) - 1 ≡ suc (length (m ∷ p) - 1) = omega arith in e) ∙ ap (λ x. n ∷ x) (parent-is (m ∷ p))

-- the name at the last index is the last name
pub last-is : (p : Path) (n : Name) → 0 < length p → n ≡ get_or p (length p - 1) n → n ≡ last_name p
last-is [] n some is = absurd (omega arith)
last-is (m ∷ []) n some is = is
last-is (m ∷ k ∷ p) n some is = last-is (k ∷ p) n (omega arith) (is ∙ ap (λ j. get_or (m ∷ k ∷ p) j n) (let e : length (m ∷ k ∷ p) - 1 ≡ suc (length (k ∷ p) - 1) = omega arith in e))

-- a path with names is not the root
pub not-root : (p : Path) → nat_eq (length p) 0 ≡ false → is_root p ≡ false
not-root [] e = absurd (true≢false e)
not-root (n ∷ p) e = refl
