-- The entries of a tree: what is at each place, and that a tree in order is a world.
use Rattle.std.proofs.Common.{◌≡◌, ◌≢◌, ◌<◌, ◌≤◌, true, false, cond, List, [], ◌∷◌, ◌++◌, length, Option, Some, None, option_map, refl, sym, ap, ◌∙◌, subst, arith, append_assoc, append-nil, nat_lt, ltb-false}
use borrow.Author.Tests.{ltb-true}
use Rattle.std.proofs.lemmas.Bool.{both_ways, false_from_ne_true}
use Rattle.std.specs.List.{AllByRecursion as Each}
use Rattle.vfs_model.specs.declared.Case.{Case}
use Rattle.vfs_model.specs.Paths.{Name, Path, folded_name, place, is_same_name, is_at_or_above, is_same_place, name_order, last_name}
use Rattle.vfs_model.specs.World.{World, Entry, Node, Directory, at, names, AreInOrder, AreDistinct, IsWorld, IsSameBelow, Status, IsMissing, status_of, status_of_node, node_of, spelling_of, listed_in}
use Rattle.vfs_laws.proofs.Splits.{split, split_option}
use Rattle.vfs_laws.proofs.PathLemmas.{same_name-refl, same_name-true, same_place-true, same_place-refl, at_or_above-append, at_or_above-refl, at_or_above-trans, rest_of}
use Rattle.vfs_laws.proofs.NameLemmas.{last_name-append, each-weaker, same-in_order, names-in_order, listed_in-names, order-same, some-is}
use Rattle.std.specs.declared.cmp.Ordering.TheVariants.{Less, Equal}
use Rattle.vfs_laws.proofs.RetainedLemmas.{each-append}
use Rattle.vfs_laws.proofs.EditLemmas.{place-append}
use Rattle.vfs_laws.proofs.PrintLemmas.{same-names}
use Rattle.vfs_laws.proofs.ScanLemmas.{too_deep}
use Rattle.vfs_laws.proofs.WorldLemmas.{length-place, each-there}
use Rattle.vfs_laws.proofs.SameLemmas.{none-node, status-node}
use Rattle.mem_tree.specs.FileTree.{FileTree, Leaf, Branch, Children, NoChildren, WithChild, Named, names_of, child, child_of, tree_of, at_root, entries, entries_below, world_of, status_of_tree, names_in, IsOrdered, AreOrdered}
use Rattle.mem_tree.proofs.TreeLemmas.{found, seen, root_of, found-none, found-tree, found-last, tree_at-ordered}

-- ---- entries as what is seen

-- how an entry is spelled, and what stands there
abbrev pub seen_entry : Option Entry → Option (Name × Node)
seen_entry None = None
seen_entry (Some e) = Some (last_name e.path, e.node)

pub node-of_seen : (e : Option Entry) → node_of e ≡ option_map (λ (s : Name × Node). s.1) (seen_entry e)
node-of_seen None = refl
node-of_seen (Some e) = refl

pub spelling-of_seen : (e : Option Entry) → spelling_of e ≡ option_map (λ (s : Name × Node). s.0) (seen_entry e)
spelling-of_seen None = refl
spelling-of_seen (Some e) = refl

pub seen-from : (a b : Option Entry) → node_of a ≡ node_of b → spelling_of a ≡ spelling_of b → seen_entry a ≡ seen_entry b
seen-from None None n s = refl
seen-from None (Some b) n s = cc
seen-from (Some a) None n s = cc
seen-from (Some a) (Some b) n s = λ i. Some (some-is (last_name a.path) (last_name b.path) s i, some-is a.node b.node n i)

-- nothing is seen only where there is no entry
pub seen-none : (e : Option Entry) → seen_entry e ≡ None → e ≡ None
seen-none None h = refl
seen-none (Some e) h = cc

-- the status of what is seen
abbrev pub status_of_seen : Option (Name × Node) → Status
status_of_seen None = IsMissing
status_of_seen (Some s) = status_of_node s.1

pub status-of_seen : (e : Option Entry) → status_of e ≡ status_of_seen (seen_entry e)
status-of_seen None = refl
status-of_seen (Some e) = refl

-- two worlds in which the same is seen at each place are the same
pub same-from_seen : (case : Case) (v w : World) → ((y : Path) → seen_entry (at case v y) ≡ seen_entry (at case w y)) → IsSameBelow case v [] w []
same-from_seen case v w h = record {
  nodes = λ x. node-of_seen (at case v x) ∙ ap (option_map (λ (s : Name × Node). s.1)) (h x) ∙ sym (node-of_seen (at case w x));
  names = λ x n. spelling-of_seen (at case v (x ++ n ∷ [])) ∙ ap (option_map (λ (s : Name × Node). s.0)) (h (x ++ n ∷ [])) ∙ sym (spelling-of_seen (at case w (x ++ n ∷ [])));
}

-- ---- lists of entries

pub at-append : (case : Case) (v w : World) (y : Path) → at case v y ≡ None → at case (v ++ w) y ≡ at case w y
at-append case [] w y e = refl
at-append case (f ∷ v) w y e = split (is_same_place (place case f.path) y) (λ s. absurd (by (rw s at e))) (λ s. rw s (at-append case v w y (rw s at e)))
  where
    by : Some f ≡ None → ⊥
    by h = cc

at-front : (case : Case) (v w : World) (y : Path) (e : Entry) → at case v y ≡ Some e → at case (v ++ w) y ≡ Some e
at-front case [] w y e h = cc
at-front case (f ∷ v) w y e h = split (is_same_place (place case f.path) y) (λ s. rw s (rw s at h)) (λ s. rw s (at-front case v w y e (rw s at h)))

-- what is seen in two lists is seen in the first, or in the second where the first has nothing
joined-seen : (case : Case) (v w : World) (y : Path) (r : Option (Name × Node)) → seen_entry (at case v y) ≡ r → (r ≡ None → seen_entry (at case w y) ≡ None) → seen_entry (at case (v ++ w) y) ≡ r
joined-seen case v w y r first rest =
    split_option (at case v y)
    (λ e. let none : r ≡ None = sym first ∙ ap seen_entry e in ap seen_entry (at-append case v w y e) ∙ rest none ∙ sym none)
    (λ f e. ap seen_entry (at-front case v w y f e) ∙ sym (ap seen_entry e) ∙ first)

-- ---- where the entries of a tree stand

-- at or below the path
abbrev AreBelow : Case → Path → World → Type 0
AreBelow case p w = Each (λ (e : Entry). is_at_or_above (place case p) (place case e.path) ≡ true) w

place-child : (case : Case) (p : Path) (n : Name) → place case (p ++ n ∷ []) ≡ place case p ++ folded_name case n ∷ []
place-child case p n = place-append case p (n ∷ [])

above-child : (case : Case) (p : Path) (n : Name) (e : Entry) → is_at_or_above (place case (p ++ n ∷ [])) (place case e.path) ≡ true → is_at_or_above (place case p) (place case e.path) ≡ true
above-child case p n e h = at_or_above-trans (place case p) (place case (p ++ n ∷ [])) (place case e.path) (ap (is_at_or_above (place case p)) (place-child case p n) ∙ at_or_above-append (place case p) (folded_name case n ∷ [])) h

mutual
  entries-below : (case : Case) (p : Path) (t : FileTree) → AreBelow case p (entries p t)
  entries-below case p (Leaf bytes) = (at_or_above-refl (place case p), tt)
  entries-below case p (Branch cs) = (at_or_above-refl (place case p), entries_below-below case p cs)

  entries_below-below : (case : Case) (p : Path) (cs : Children) → AreBelow case p (entries_below p cs)
  entries_below-below case p NoChildren = tt
  entries_below-below case p (WithChild n t more) =
      each-append _ (entries (p ++ n ∷ []) t) (entries_below p more)
      (each-weaker _ _ (above-child case p n) (entries (p ++ n ∷ []) t) (entries-below case (p ++ n ∷ []) t))
      (entries_below-below case p more)

-- elsewhere is none of them
none-elsewhere : (case : Case) (p : Path) (w : World) (y : Path) → AreBelow case p w → is_at_or_above (place case p) y ≡ false → at case w y ≡ None
none-elsewhere case p [] y h off = refl
none-elsewhere case p (e ∷ w) y h off =
    let t : is_same_place (place case e.path) y ≡ false = false_from_ne_true _ (λ s. both_ways _ off (ap (is_at_or_above (place case p)) (sym (same_place-true (place case e.path) y s)) ∙ h.0)) in
    rw t (none-elsewhere case p w y h.1 off)

-- ---- what is at each place

-- a place is not the place with more names
pub shorter : (x : Path) (n : Name) (y : Path) → is_same_place x (x ++ n ∷ y) ≡ false
shorter [] n y = refl
shorter (m ∷ x) n y = rw (same_name-refl m) (shorter x n y)

off-child : (x : Path) (a b : Name) (y : Path) → is_same_name a b ≡ false → is_at_or_above (x ++ a ∷ []) (x ++ b ∷ y) ≡ false
off-child [] a b y h = rw h refl
off-child (m ∷ x) a b y h = rw (same_name-refl m) (off-child x a b y h)

-- a name before all others is not one of them
no-child : (case : Case) (n : Name) (cs : Children) → Each (λ m. name_order case n m ≡ Less) (names_of cs) → child case cs (folded_name case n) ≡ None
no-child case n NoChildren h = refl
no-child case n (WithChild m t more) h =
    let off : is_same_name (folded_name case m) (folded_name case n) ≡ false = false_from_ne_true _ (λ s. let e : name_order case n m ≡ Equal = order-same case n m (sym (same_name-true _ _ s)) in cc) in
    rw off (no-child case n more h.1)

mutual
  -- at a place in the entries is what is found in the tree
  pub at-entries : (case : Case) (p : Path) (t : FileTree) (x : Path) → IsOrdered case t → seen_entry (at case (entries p t) (place case p ++ x)) ≡ seen (found case (Some (record { name = last_name p; tree = t })) x)
  at-entries case p (Leaf bytes) [] h = rw (ap (is_same_place (place case p)) (append-nil (place case p)) ∙ same_place-refl (place case p)) refl
  at-entries case p (Leaf bytes) (m ∷ x) h = rw (shorter (place case p) m x) (sym (ap seen (found-none case x)))
  at-entries case p (Branch cs) [] h = rw (ap (is_same_place (place case p)) (append-nil (place case p)) ∙ same_place-refl (place case p)) refl
  at-entries case p (Branch cs) (m ∷ x) h = rw (shorter (place case p) m x) (at-entries_below case p cs m x h.0 h.1)

  at-entries_below : (case : Case) (p : Path) (cs : Children) (m : Name) (x : Path) → AreInOrder case (names_of cs) → AreOrdered case cs → seen_entry (at case (entries_below p cs) (place case p ++ m ∷ x)) ≡ seen (found case (child case cs m) x)
  at-entries_below case p NoChildren m x h k = sym (ap seen (found-none case x))
  at-entries_below case p (WithChild n t more) m x h k =
      let first : seen_entry (at case (entries (p ++ n ∷ []) t) (place case (p ++ n ∷ []) ++ x)) ≡ seen (found case (Some (record { name = last_name (p ++ n ∷ []); tree = t })) x) = at-entries case (p ++ n ∷ []) t x k.0 in
      let rest : seen_entry (at case (entries_below p more) (place case p ++ m ∷ x)) ≡ seen (found case (child case more m) x) = at-entries_below case p more m x h.1 k.1 in
      split (is_same_name (folded_name case n) m)
      (λ s.
      let same : folded_name case n ≡ m = same_name-true (folded_name case n) m s in
      let y_is : place case p ++ m ∷ x ≡ place case (p ++ n ∷ []) ++ x = sym (append_assoc (place case p) (m ∷ []) x) ∙ ap (λ z. z ++ x) (ap (λ j. place case p ++ j ∷ []) (sym same) ∙ sym (place-child case p n)) in
      let none : seen (found case (child case more m) x) ≡ None = ap (λ o. seen (found case o x)) (ap (child case more) (sym same) ∙ no-child case n more h.0) ∙ ap seen (found-none case x) in
      let here : seen_entry (at case (entries (p ++ n ∷ []) t) (place case p ++ m ∷ x)) ≡ seen (found case (Some (record { name = n; tree = t })) x) =
      ap (λ y. seen_entry (at case (entries (p ++ n ∷ []) t) y)) y_is ∙ first ∙ ap (λ j. seen (found case (Some (record { name = j; tree = t })) x)) (last_name-append p n) in
      joined-seen case (entries (p ++ n ∷ []) t) (entries_below p more) (place case p ++ m ∷ x) (seen (found case (Some (record { name = n; tree = t })) x)) here (λ _. rest ∙ none)
      ∙ sym (ap (λ b. seen (found case (cond b (Some (record { name = n; tree = t })) (child case more m)) x)) s))
      (λ s.
      let off : is_at_or_above (place case (p ++ n ∷ [])) (place case p ++ m ∷ x) ≡ false = ap (λ z. is_at_or_above z (place case p ++ m ∷ x)) (place-child case p n) ∙ off-child (place case p) (folded_name case n) m x s in
      ap seen_entry (at-append case (entries (p ++ n ∷ []) t) (entries_below p more) (place case p ++ m ∷ x) (none-elsewhere case (p ++ n ∷ []) (entries (p ++ n ∷ []) t) (place case p ++ m ∷ x) (entries-below case (p ++ n ∷ []) t) off))
      ∙ rest
      ∙ sym (ap (λ b. seen (found case (cond b (Some (record { name = n; tree = t })) (child case more m)) x)) s))

-- in the world of a tree in order is seen what is found in the tree
pub at-world_of : (case : Case) (root : Children) (x : Path) → IsOrdered case (Branch root) → seen_entry (at case (world_of root) x) ≡ seen (found case (root_of [] root) x)
at-world_of case root x h = at-entries case [] (Branch root) x h

-- ---- what a world tells of a tree

status-seen : (o : Option Named) → status_of_seen (seen o) ≡ status_of_tree (tree_of o)
status-seen None = refl
status-seen (Some c) = refl

-- the status of a place is that of what is found
pub status-world_of : (case : Case) (root : Children) (x : Path) → IsOrdered case (Branch root) → status_of (at case (world_of root) x) ≡ status_of_tree (at_root case root x)
status-world_of case root x h =
    status-of_seen (at case (world_of root) x) ∙ ap status_of_seen (at-world_of case root x h) ∙ status-seen (found case (root_of [] root) x) ∙ ap status_of_tree (found-tree case (root_of [] root) x)

listed-child : (case : Case) (cs : Children) (k : Name) → listed_in case (names_of cs) k ≡ option_map (λ (s : Name × Node). s.0) (seen (child case cs k))
listed-child case NoChildren k = refl
listed-child case (WithChild m t more) k = split (is_same_name (folded_name case m) k) (λ s. rw s refl) (λ s. rw s (listed-child case more k))

listed-names_in : (case : Case) (o : Option FileTree) (k : Name) → listed_in case (names_in o) k ≡ option_map (λ (s : Name × Node). s.0) (seen (child_of case o k))
listed-names_in case None k = refl
listed-names_in case (Some (Leaf bytes)) k = refl
listed-names_in case (Some (Branch cs)) k = listed-child case cs k

names_in-ordered : (case : Case) (o : Option FileTree) → ((t : FileTree) → o ≡ Some t → IsOrdered case t) → AreInOrder case (names_in o)
names_in-ordered case None h = tt
names_in-ordered case (Some (Leaf bytes)) h = tt
names_in-ordered case (Some (Branch cs)) h = (h (Branch cs) refl).0

-- the names of a place are those of the directory that is found
pub names-world_of : (case : Case) (root : Children) (x : Path) → IsOrdered case (Branch root) → names case (world_of root) x ≡ names_in (at_root case root x)
names-world_of case root x h =
    same-in_order case (names case (world_of root) x) (names_in (at_root case root x)) (names-in_order case (world_of root) x)
    (names_in-ordered case (at_root case root x) (λ t e. tree_at-ordered case (Branch root) x t h e))
    (λ k.
    listed_in-names case (world_of root) x k
    ∙ spelling-of_seen (at case (world_of root) (x ++ k ∷ []))
    ∙ ap (option_map (λ (s : Name × Node). s.0)) (at-world_of case root (x ++ k ∷ []) h ∙ ap seen (found-last case (root_of [] root) x k))
    ∙ sym (listed-names_in case (at_root case root x) k))

-- ---- entries apart

-- what is below a path is not at the path
none-here : (case : Case) (p : Path) (cs : Children) → at case (entries_below p cs) (place case p) ≡ None
none-here case p NoChildren = refl
none-here case p (WithChild n t more) =
    at-append case (entries (p ++ n ∷ []) t) (entries_below p more) (place case p)
    (none-elsewhere case (p ++ n ∷ []) (entries (p ++ n ∷ []) t) (place case p) (entries-below case (p ++ n ∷ []) t) (ap (λ z. is_at_or_above z (place case p)) (place-child case p n) ∙ not_above (place case p) (folded_name case n)))
    ∙ none-here case p more
  where
    not_above : (x : Path) (m : Name) → is_at_or_above (x ++ m ∷ []) x ≡ false
    not_above [] m = refl
    not_above (a ∷ x) m = rw (same_name-refl a) (not_above x m)

-- what is below a child is not among the children behind it
apart-child : (case : Case) (p : Path) (n : Name) (more : Children) → Each (λ m. name_order case n m ≡ Less) (names_of more) → AreInOrder case (names_of more) → AreOrdered case more
    → (w : World) → AreBelow case (p ++ n ∷ []) w → Each (λ (e : Entry). at case (entries_below p more) (place case e.path) ≡ None) w
apart-child case p n more first h k [] below = tt
apart-child case p n more first h k (e ∷ w) below =
    let (z, e_is) = rest_of (place case (p ++ n ∷ [])) (place case e.path) below.0 in
    let y_is : place case e.path ≡ place case p ++ folded_name case n ∷ z = e_is ∙ ap (λ x. x ++ z) (place-child case p n) ∙ append_assoc (place case p) (folded_name case n ∷ []) z in (
      seen-none _
          (ap (λ y. seen_entry (at case (entries_below p more) y)) y_is
          ∙ at-entries_below case p more (folded_name case n) z h k
          ∙ ap (λ o. seen (found case o z)) (no-child case n more first)
          ∙ ap seen (found-none case z)),
      apart-child case p n more first h k w below.1,
    )

distinct-cons : (case : Case) (e : Entry) (w : World) → at case w (place case e.path) ≡ None → AreDistinct case w → AreDistinct case (e ∷ w)
distinct-cons case e w none h = (by w none, h)
  where
    clash : (f : Entry) → Some f ≡ None → ⊥
    clash f c = cc

    by : (v : World) → at case v (place case e.path) ≡ None → Each (λ (f : Entry). is_same_place (place case e.path) (place case f.path) ≡ false) v
    by [] k = tt
    by (f ∷ v) k =
        split (is_same_place (place case f.path) (place case e.path))
        (λ s. absurd (clash f (rw s at k)))
        (λ s. (false_from_ne_true _ (λ u. both_ways _ s (ap (is_same_place (place case f.path)) (same_place-true (place case e.path) (place case f.path) u) ∙ same_place-refl (place case f.path))), by v (rw s at k)))

distinct-append : (case : Case) (v w : World) → AreDistinct case v → AreDistinct case w → Each (λ (e : Entry). at case w (place case e.path) ≡ None) v → AreDistinct case (v ++ w)
distinct-append case [] w h k none = k
distinct-append case (e ∷ v) w h k none = (each-append _ v w h.0 (distinct-cons case e w none.0 k).0, distinct-append case v w h.1 k none.1)

mutual
  distinct-entries : (case : Case) (p : Path) (t : FileTree) → IsOrdered case t → AreDistinct case (entries p t)
  distinct-entries case p (Leaf bytes) h = (tt, tt)
  distinct-entries case p (Branch cs) h = distinct-cons case (record { path = p; node = Directory }) (entries_below p cs) (none-here case p cs) (distinct-entries_below case p cs h.0 h.1)

  distinct-entries_below : (case : Case) (p : Path) (cs : Children) → AreInOrder case (names_of cs) → AreOrdered case cs → AreDistinct case (entries_below p cs)
  distinct-entries_below case p NoChildren h k = tt
  distinct-entries_below case p (WithChild n t more) h k =
      distinct-append case (entries (p ++ n ∷ []) t) (entries_below p more) (distinct-entries case (p ++ n ∷ []) t k.0) (distinct-entries_below case p more h.1 k.1)
      (apart-child case p n more h.0 h.1 k.1 (entries (p ++ n ∷ []) t) (entries-below case (p ++ n ∷ []) t))

-- no two entries of a tree in order have one place
pub distinct-world_of : (case : Case) (root : Children) → IsOrdered case (Branch root) → AreDistinct case (world_of root)
distinct-world_of case root h = distinct-entries case [] (Branch root) h

-- ---- worlds that are the same

-- a list in which each place stands once is a world where the same is in a world
pub world-from_same : (case : Case) (v w : World) → IsSameBelow case v [] w [] → IsWorld case v → AreDistinct case w → IsWorld case w
world-from_same case v w h is distinct = record {
  root = sym (status-node (at case v []) (at case w []) (h.nodes [])) ∙ is.root;
  distinct = distinct;
  closed = λ x n other. none-node (at case v (x ++ n ∷ [])) (at case w (x ++ n ∷ [])) (h.nodes (x ++ n ∷ [])) (is.closed x n (λ d. other (sym (status-node (at case v x) (at case w x) (h.nodes x)) ∙ d)));
  short = each-weaker _ _ (λ (e : Entry) there. short e there) w (each-there case w);
  few = λ x. subst (λ (ns : List Name). length ns ≤ 4096) (same-names case v x w x (from x)) (is.few x);
}
  where
    from : (x : Path) → IsSameBelow case v x w x
    from x = record {
      nodes = λ y. h.nodes (x ++ y);
      names = λ y n.
          ap (λ z. spelling_of (at case v z)) (sym (append_assoc x y (n ∷ [])))
          ∙ h.names (x ++ y) n
          ∙ ap (λ z. spelling_of (at case w z)) (append_assoc x y (n ∷ []));
    }

    short : (e : Entry) → (at case w (place case e.path) ≢ None) → length e.path ≤ 64
    short e there =
        split (nat_lt 64 (length e.path))
        (λ s. let many : 64 < length e.path = ltb-true 64 (length e.path) s in absurd (there (none-node (at case v (place case e.path)) (at case w (place case e.path)) (h.nodes (place case e.path)) (too_deep case v (place case e.path) is.short (omega (arith, length-place case e.path, many))))))
        (λ s. omega (arith, ltb-false 64 (length e.path) s))
