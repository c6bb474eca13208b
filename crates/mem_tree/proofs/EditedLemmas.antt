-- A tree after an edit is the world after the edit.
use Rattle.std.proofs.Common.{◌≡◌, ◌≢◌, ℕ, ◌≤◌, Bool, true, false, cond, List, [], ◌∷◌, ◌++◌, length, map, drop, Option, Some, None, option_map, unwrap_or, refl, sym, ap, ◌∙◌, subst, append_assoc, append-nil}
use Rattle.std.proofs.lemmas.Bool.{both_ways, true≢false, or_from, or_parts, and_cases, not-false, false_from_ne_true}
use Rattle.std.specs.List.{AllByRecursion as Each}
use Rattle.vfs_model.specs.declared.Case.{Case}
use Rattle.vfs_model.specs.Paths.{Name, Path, folded_name, place, is_same_name, is_at_or_above, is_same_place, last_name}
use Rattle.vfs_model.specs.World.{World, Entry, Node, Directory, Regular, at, IsClosed, IsSameBelow, IsMissing, IsFile, IsDir, status_of, spelling_of, digest_of_bytes}
use Rattle.vfs_model.specs.Edit.{Edit, Refusal, is_told, Write, Mkdir, Remove, Move, refusal, refusals, apply, events, parent, is_root, is_missing, is_file, status_there, is_strictly_below, entry_after_write, entry_after_move}
use Rattle.vfs_laws.proofs.Splits.{split, split_or, split_option}
use Rattle.vfs_laws.proofs.PathLemmas.{same_name-refl, same_place-refl, at_or_above-append, at_or_above-trans, rest_of}
use Rattle.vfs_laws.proofs.NameLemmas.{some-is}
use Rattle.vfs_laws.proofs.EditLemmas.{apply-elsewhere}
use Rattle.vfs_laws.proofs.ScanningLemmas.{nowhere}
use Rattle.vfs_laws.proofs.PrintLemmas.{found-place, entry_after_move-node, entry_after_move-name}
use Rattle.vfs_laws.proofs.WorldLemmas.{not_below, each-fails, missing-none, find-map_each, length-place, removed-at, entry_after_move-at, entry_after_move-gone, accepted-closed, accepted-free}
use Rattle.vfs_laws.proofs.FewLemmas.{accepted-world}
use Rattle.vfs_laws.proofs.SameLemmas.{dropped}
use Rattle.mem_tree.specs.FileTree.{FileTree, Leaf, Branch, Children, NoChildren, Named, child, child_of, tree_of, tree_at, at_root, put, without, placed, cleared, spelled, placed_if, edited, world_of, node_of_tree, status_of_tree, IsOrdered, IsTree}
use Rattle.mem_tree.proofs.TreeLemmas.{found, seen, root_of, found-none, found-tree, found-last, found-append, child-name, child-put, child-without, ChangesOnly, found-elsewhere, found-changed, place-parent, in-directory, put-ordered, without-ordered, changed-ordered, tree_at-ordered}
use Rattle.mem_tree.proofs.EntriesLemmas.{seen_entry, seen-from, status-of_seen, status_of_seen, same-from_seen, at-append, shorter, at-world_of, status-world_of, distinct-world_of, world-from_same}

-- ---- what a status tells of a tree

-- what is missing is not there
pub missing-tree : (o : Option FileTree) → is_missing (status_of_tree o) ≡ true → o ≡ None
missing-tree None h = refl
missing-tree (Some (Leaf bytes)) h = absurd (true≢false (sym h))
missing-tree (Some (Branch ds)) h = absurd (true≢false (sym h))

-- what is not missing is there
pub tree-there : (o : Option FileTree) → is_missing (status_of_tree o) ≡ false → (t : FileTree) × (o ≡ Some t)
tree-there None h = absurd (true≢false h)
tree-there (Some t) h = (t, refl)

-- what is neither missing nor a file is a directory
pub directory-tree : (o : Option FileTree) → is_missing (status_of_tree o) ≡ false → is_file (status_of_tree o) ≡ false → (ds : Children) × (o ≡ Some (Branch ds))
directory-tree None m f = absurd (true≢false m)
directory-tree (Some (Leaf bytes)) m f = absurd (true≢false f)
directory-tree (Some (Branch ds)) m f = (ds, refl)

-- the status of a path is that of what is there in the tree
pub status-there : (case : Case) (root : Children) (p : Path) → IsOrdered case (Branch root) → status_there case (world_of root) p ≡ status_of_tree (at_root case root (place case p))
status-there case root p h = status-world_of case root (place case p) h

parent-directory : (case : Case) (root : Children) (p : Path) → IsOrdered case (Branch root) → is_missing (status_there case (world_of root) p) ≡ false → is_file (status_there case (world_of root) p) ≡ false → (ds : Children) × (at_root case root (place case p) ≡ Some (Branch ds))
parent-directory case root p h m f = directory-tree (at_root case root (place case p)) (ap is_missing (sym (status-there case root p h)) ∙ m) (ap is_file (sym (status-there case root p h)) ∙ f)

pub tree_at-last : (case : Case) (o : Option FileTree) (x : Path) (n : Name) → tree_at case o (x ++ n ∷ []) ≡ tree_of (child_of case (tree_at case o x) n)
tree_at-last case o [] n = refl
tree_at-last case o (m ∷ x) n = tree_at-last case (tree_of (child_of case o m)) x n

-- ---- something is put at a path

abbrev key : Case → Path → Name
key case p = folded_name case (last_name p)

-- a place below a path that is not the root, from its parent on
place-below : (case : Case) (p z : Path) → is_root p ≡ false → place case p ++ z ≡ place case (parent p) ++ key case p ∷ z
place-below case p z h = ap (λ x. x ++ z) (place-parent case p h) ∙ append_assoc (place case (parent p)) (key case p ∷ []) z

puts-only : (case : Case) (k n : Name) (t : FileTree) → folded_name case n ≡ k → ChangesOnly case k (put case n t)
puts-only case k n t same ds m off = child-put case n t ds m ∙ ap (λ b. cond b (Some (record { name = n; tree = t })) (child case ds m)) (ap (λ j. is_same_name j m) same ∙ off)

takes-only : (case : Case) (k : Name) → ChangesOnly case k (without case k)
takes-only case k ds m off = child-without case k ds m ∙ ap (λ b. cond b None (child case ds m)) off

placed-off : (case : Case) (root : Children) (p : Path) (n : Name) (t : FileTree) (y : Path) → is_root p ≡ false → folded_name case n ≡ key case p → is_at_or_above (place case p) y ≡ false
    → seen (found case (root_of [] (placed case root p n t)) y) ≡ seen (found case (root_of [] root) y)
placed-off case root p n t y below same off =
    found-elsewhere case (put case n t) (key case p) (place case (parent p)) y [] root (puts-only case (key case p) n t same) (ap (λ x. is_at_or_above x y) (sym (place-parent case p below)) ∙ off)

placed-on : (case : Case) (root : Children) (p : Path) (n : Name) (t : FileTree) (z : Path) (ds : Children) → is_root p ≡ false → folded_name case n ≡ key case p → at_root case root (place case (parent p)) ≡ Some (Branch ds)
    → found case (root_of [] (placed case root p n t)) (place case p ++ z) ≡ found case (Some (record { name = n; tree = t })) z
placed-on case root p n t z ds below same dir =
    ap (found case (root_of [] (placed case root p n t))) (place-below case p z below)
    ∙ found-changed case (put case n t) (key case p) (place case (parent p)) z [] root ds dir
    ∙ ap (λ o. found case o z)
    (child-put case n t ds (key case p) ∙ ap (λ b. cond b (Some (record { name = n; tree = t })) (child case ds (key case p))) (ap (λ j. is_same_name j (key case p)) same ∙ same_name-refl (key case p)))

cleared-off : (case : Case) (root : Children) (p y : Path) → is_root p ≡ false → is_at_or_above (place case p) y ≡ false → seen (found case (root_of [] (cleared case root p)) y) ≡ seen (found case (root_of [] root) y)
cleared-off case root p y below off =
    found-elsewhere case (without case (key case p)) (key case p) (place case (parent p)) y [] root (takes-only case (key case p)) (ap (λ x. is_at_or_above x y) (sym (place-parent case p below)) ∙ off)

cleared-on : (case : Case) (root : Children) (p z : Path) (ds : Children) → is_root p ≡ false → at_root case root (place case (parent p)) ≡ Some (Branch ds) → found case (root_of [] (cleared case root p)) (place case p ++ z) ≡ None
cleared-on case root p z ds below dir =
    ap (found case (root_of [] (cleared case root p))) (place-below case p z below)
    ∙ found-changed case (without case (key case p)) (key case p) (place case (parent p)) z [] root ds dir
    ∙ ap (λ o. found case o z)
    (child-without case (key case p) ds (key case p) ∙ ap (λ b. cond b None (child case ds (key case p))) (same_name-refl (key case p)))
    ∙ found-none case z

-- ---- elsewhere

-- where an edit tells of nothing, the world after it is seen as the tree was
elsewhere : (case : Case) (root : Children) (edit : Edit) (y : Path) → IsOrdered case (Branch root) → is_told case (events edit) y ≡ false → seen (found case (root_of [] root) y) ≡ seen_entry (at case (apply case (world_of root) edit) y)
elsewhere case root edit y h off = sym (at-world_of case root y h) ∙ ap seen_entry (sym (apply-elsewhere case (world_of root) edit y off))

-- ---- a written file

-- what is found at a path is the child of its parent
found-at : (case : Case) (root : Children) (p : Path) → is_root p ≡ false → found case (root_of [] root) (place case p) ≡ child_of case (at_root case root (place case (parent p))) (key case p)
found-at case root p below = ap (found case (root_of [] root)) (place-parent case p below) ∙ found-last case (root_of [] root) (place case (parent p)) (key case p)

child_of-name : (case : Case) (o : Option FileTree) (n : Name) (c : Named) → child_of case o n ≡ Some c → folded_name case c.name ≡ n
child_of-name case None n c e = cc
child_of-name case (Some (Leaf bytes)) n c e = cc
child_of-name case (Some (Branch ds)) n c e = child-name case ds n c e

spelled-if : (case : Case) (p : Path) (o : Option Named) → ((c : Named) → o ≡ Some c → folded_name case c.name ≡ key case p) → folded_name case (unwrap_or (option_map (λ (c : Named). c.name) o) (last_name p)) ≡ key case p
spelled-if case p None h = refl
spelled-if case p (Some c) h = h c refl

-- the spelling in the tree is the name of the path, where it is folded
pub spelled-folded : (case : Case) (root : Children) (p : Path) → folded_name case (spelled case root p) ≡ key case p
spelled-folded case root p = spelled-if case p (child_of case (at_root case root (place case (parent p))) (key case p)) (λ c e. child_of-name case (at_root case root (place case (parent p))) (key case p) c e)

seen-name : (o : Option Named) (d : Name) → option_map (λ (s : Name × Node). s.0) (seen o) ≡ option_map (λ (c : Named). c.name) o
seen-name None d = refl
seen-name (Some c) d = refl

-- the spelling in the tree is that of the entry in its world
spelled-entry : (case : Case) (root : Children) (p : Path) → IsOrdered case (Branch root) → is_root p ≡ false → spelled case root p ≡ unwrap_or (option_map (λ (s : Name × Node). s.0) (seen_entry (at case (world_of root) (place case p)))) (last_name p)
spelled-entry case root p h below =
    ap (λ o. unwrap_or o (last_name p))
    (sym (seen-name (child_of case (at_root case root (place case (parent p))) (key case p)) [])
    ∙ ap (λ o. option_map (λ (s : Name × Node). s.0) (seen o)) (sym (found-at case root p below))
    ∙ ap (option_map (λ (s : Name × Node). s.0)) (sym (at-world_of case root (place case p) h)))

appended-here : (case : Case) (world : World) (p : Path) (node : Node) → at case world (place case p) ≡ None → at case (world ++ record { path = p; node = node } ∷ []) (place case p) ≡ Some (record { path = p; node = node })
appended-here case world p node none =
    at-append case world (record { path = p; node = node } ∷ []) (place case p) none
    ∙ ap (λ b. cond b (Some (record { path = p; node = node })) None) (same_place-refl (place case p))

rewritten-here : (case : Case) (world : World) (p : Path) (bytes : List ℕ) (e : Entry) → at case world (place case p) ≡ Some e → at case (map (entry_after_write case p bytes) world) (place case p) ≡ Some (record { path = e.path; node = Regular bytes })
rewritten-here case world p bytes e is =
    find-map_each _ _ (entry_after_write case p bytes) world (by world)
    ∙ ap (option_map (entry_after_write case p bytes)) is
    ∙ ap (λ b. Some (cond b (record { path = e.path; node = Regular bytes }) e)) (ap (λ x. is_same_place x (place case p)) (found-place case world (place case p) e is) ∙ same_place-refl (place case p))
  where
    one : (f : Entry) → is_same_place (place case (entry_after_write case p bytes f).path) (place case p) ≡ is_same_place (place case f.path) (place case p)
    one f = split (is_same_place (place case f.path) (place case p)) (λ s. rw s s) (λ s. rw s s)

    by : (w : World) → Each (λ (f : Entry). is_same_place (place case (entry_after_write case p bytes f).path) (place case p) ≡ is_same_place (place case f.path) (place case p)) w
    by [] = tt
    by (f ∷ w) = (one f, by w)

-- at the path of a write are the bytes, under the spelling of the tree
write-here : (case : Case) (root : Children) (p : Path) (bytes : List ℕ) → IsOrdered case (Branch root) → is_root p ≡ false → seen_entry (at case (apply case (world_of root) (Write p bytes)) (place case p)) ≡ Some (spelled case root p, Regular bytes)
write-here case root p bytes h below =
    split (is_missing (status_there case (world_of root) p))
    (λ m.
    let none : at case (world_of root) (place case p) ≡ None = missing-none _ m in
    ap (λ b. seen_entry (at case (cond b (world_of root ++ record { path = p; node = Regular bytes } ∷ []) (map (entry_after_write case p bytes) (world_of root))) (place case p))) m
    ∙ ap seen_entry (appended-here case (world_of root) p (Regular bytes) none)
    ∙ sym (ap (λ n. Some (n, Regular bytes)) (spelled-entry case root p h below ∙ ap (λ o. unwrap_or (option_map (λ (s : Name × Node). s.0) (seen_entry o)) (last_name p)) none)))
    (λ m.
    ap (λ b. seen_entry (at case (cond b (world_of root ++ record { path = p; node = Regular bytes } ∷ []) (map (entry_after_write case p bytes) (world_of root))) (place case p))) m
    ∙ split_option (at case (world_of root) (place case p))
    (λ none. absurd (both_ways _ m (ap (λ o. is_missing (status_of o)) none)))
    (λ e is.
    ap seen_entry (rewritten-here case (world_of root) p bytes e is)
    ∙ sym (ap (λ n. Some (n, Regular bytes)) (spelled-entry case root p h below ∙ ap (λ o. unwrap_or (option_map (λ (s : Name × Node). s.0) (seen_entry o)) (last_name p)) is))))

file≢dir : (digest : List ℕ) → IsFile digest ≡ IsDir → ⊥
file≢dir digest e = cc

missing≢dir : IsMissing ≡ IsDir → ⊥
missing≢dir e = cc

-- nothing is below what is no directory
below-no_directory : (case : Case) (world : World) (x : Path) (m : Name) (z : Path) → IsClosed case world → status_of (at case world x) ≢ IsDir → at case world (x ++ m ∷ z) ≡ None
below-no_directory case world x m z closed other = nowhere case world x m z closed (closed x m other)

write-shown : (case : Case) (root : Children) (p : Path) (bytes : List ℕ) (y : Path) → IsTree case root → refusal case (world_of root) (Write p bytes) ≡ None
    → seen (found case (root_of [] (edited case root (Write p bytes))) y) ≡ seen_entry (at case (apply case (world_of root) (Write p bytes)) y)
write-shown case root p bytes y tree e =
    split (is_at_or_above (place case p) y)
    (λ on.
    let (z, y_is) = rest_of (place case p) y on in
    subst (λ (x : Path). seen (found case (root_of [] (edited case root (Write p bytes))) x) ≡ seen_entry (at case (apply case (world_of root) (Write p bytes)) x)) (sym y_is)
    (ap seen (placed-on case root p (spelled case root p) (Leaf bytes) z dir.0 below (spelled-folded case root p) dir.1) ∙ by z))
    (λ off.
    placed-off case root p (spelled case root p) (Leaf bytes) y below (spelled-folded case root p) off
    ∙ elsewhere case root (Write p bytes) y tree.ordered (or_from _ _ off refl))
  where
    t : Each (λ (r : Bool × Refusal). r.0 ≡ false) (refusals case (world_of root) (Write p bytes))
    t = each-fails (refusals case (world_of root) (Write p bytes)) e

    below : is_root p ≡ false
    below = t.0

    dir : (ds : Children) × (at_root case root (place case (parent p)) ≡ Some (Branch ds))
    dir = parent-directory case root (parent p) tree.ordered t.1.0 t.1.1.0

    here : seen_entry (at case (apply case (world_of root) (Write p bytes)) (place case p)) ≡ Some (spelled case root p, Regular bytes)
    here = write-here case root p bytes tree.ordered t.0

    by : (z : Path) → seen (found case (Some (record { name = spelled case root p; tree = Leaf bytes })) z) ≡ seen_entry (at case (apply case (world_of root) (Write p bytes)) (place case p ++ z))
    by [] = sym (ap (λ x. seen_entry (at case (apply case (world_of root) (Write p bytes)) x)) (append-nil (place case p)) ∙ here)
    by (m ∷ z) =
        ap seen (found-none case z)
        ∙ sym (ap seen_entry (below-no_directory case (apply case (world_of root) (Write p bytes)) (place case p) m z (accepted-closed case (world_of root) (Write p bytes) e tree.world.closed)
        (λ d. file≢dir (digest_of_bytes bytes) (sym (status-of_seen (at case (apply case (world_of root) (Write p bytes)) (place case p)) ∙ ap status_of_seen here) ∙ d))))

-- ---- a new directory

mkdir-shown : (case : Case) (root : Children) (p : Path) (y : Path) → IsTree case root → refusal case (world_of root) (Mkdir p) ≡ None
    → seen (found case (root_of [] (edited case root (Mkdir p))) y) ≡ seen_entry (at case (apply case (world_of root) (Mkdir p)) y)
mkdir-shown case root p y tree e =
    split (is_at_or_above (place case p) y)
    (λ on.
    let (z, y_is) = rest_of (place case p) y on in
    subst (λ (x : Path). seen (found case (root_of [] (edited case root (Mkdir p))) x) ≡ seen_entry (at case (apply case (world_of root) (Mkdir p)) x)) (sym y_is)
    (ap seen (placed-on case root p (last_name p) (Branch NoChildren) z dir.0 t.0 refl dir.1) ∙ by z))
    (λ off.
    placed-off case root p (last_name p) (Branch NoChildren) y t.0 refl off
    ∙ elsewhere case root (Mkdir p) y tree.ordered (or_from _ _ off refl))
  where
    t : Each (λ (r : Bool × Refusal). r.0 ≡ false) (refusals case (world_of root) (Mkdir p))
    t = each-fails (refusals case (world_of root) (Mkdir p)) e

    dir : (ds : Children) × (at_root case root (place case (parent p)) ≡ Some (Branch ds))
    dir = parent-directory case root (parent p) tree.ordered t.1.0 t.1.1.0

    none : at case (world_of root) (place case p) ≡ None
    none = missing-none _ (not-false _ t.1.1.1.0)

    by : (z : Path) → seen (found case (Some (record { name = last_name p; tree = Branch NoChildren })) z) ≡ seen_entry (at case (apply case (world_of root) (Mkdir p)) (place case p ++ z))
    by [] = sym (ap (λ x. seen_entry (at case (apply case (world_of root) (Mkdir p)) x)) (append-nil (place case p)) ∙ ap seen_entry (appended-here case (world_of root) p Directory none))
    by (m ∷ z) =
        ap seen (found-none case z)
        ∙ sym (ap seen_entry
        (at-append case (world_of root) (record { path = p; node = Directory } ∷ []) (place case p ++ m ∷ z) (below-no_directory case (world_of root) (place case p) m z tree.world.closed (λ d. missing≢dir (sym (ap status_of none) ∙ d)))
        ∙ ap (λ b. cond b (Some (record { path = p; node = Directory })) None) (shorter (place case p) m z)))

-- ---- a removal

-- what is there stands in a directory
directory-of : (case : Case) (root : Children) (p : Path) → IsOrdered case (Branch root) → is_root p ≡ false → is_missing (status_there case (world_of root) p) ≡ false → (ds : Children) × (at_root case root (place case (parent p)) ≡ Some (Branch ds))
directory-of case root p h below m =
    let there = tree-there (at_root case root (place case p)) (ap is_missing (sym (status-there case root p h)) ∙ m) in
    in-directory case (Branch root) (place case (parent p)) (key case p) there.0
    (sym (tree_at-last case (Some (Branch root)) (place case (parent p)) (key case p)) ∙ ap (tree_at case (Some (Branch root))) (sym (place-parent case p below)) ∙ there.1)

remove-shown : (case : Case) (root : Children) (p : Path) (y : Path) → IsTree case root → refusal case (world_of root) (Remove p) ≡ None
    → seen (found case (root_of [] (edited case root (Remove p))) y) ≡ seen_entry (at case (apply case (world_of root) (Remove p)) y)
remove-shown case root p y tree e =
    let t = each-fails (refusals case (world_of root) (Remove p)) e in
    let dir = directory-of case root p tree.ordered t.0 t.1.0 in
    split (is_at_or_above (place case p) y)
    (λ on.
    let (z, y_is) = rest_of (place case p) y on in
    ap (λ x. seen (found case (root_of [] (cleared case root p)) x)) y_is
    ∙ ap seen (cleared-on case root p z dir.0 t.0 dir.1)
    ∙ sym (ap seen_entry (removed-at case (world_of root) p y on)))
    (λ off.
    cleared-off case root p y t.0 off
    ∙ elsewhere case root (Remove p) y tree.ordered (or_from _ _ off refl))

-- ---- a move

none≢some : {X : Type 0} (x : X) → None ≡ Some x → ⊥
none≢some x e = cc

-- what is a directory is seen as one
seen-directory : (o : Option Named) (ds : Children) → tree_of o ≡ Some (Branch ds) → (n : Name) × (seen o ≡ Some (n, Directory))
seen-directory None ds e = absurd (none≢some (Branch ds) e)
seen-directory (Some c) ds e = (c.name, ap (λ t. Some (c.name, node_of_tree t)) (some-is c.tree (Branch ds) e))

directory-seen : (o : Option Named) (n : Name) → seen o ≡ Some (n, Directory) → (ds : Children) × (tree_of o ≡ Some (Branch ds))
directory-seen None n e = let s : Name × Node = (n, Directory) in absurd (none≢some s e)
directory-seen (Some c) n e = by c.tree refl (ap (λ (s : Name × Node). s.1) (let a : Name × Node = (c.name, node_of_tree c.tree) in let b : Name × Node = (n, Directory) in some-is a b e))
  where
    regular : (bytes : List ℕ) → Regular bytes ≡ Directory → ⊥
    regular bytes h = cc

    by : (t : FileTree) → c.tree ≡ t → node_of_tree t ≡ Directory → (ds : Children) × (Some c.tree ≡ Some (Branch ds))
    by (Leaf bytes) is h = absurd (regular bytes h)
    by (Branch ds) is h = (ds, ap Some is)

-- the directory to which a move leads is not at or below what is moved
outside : (case : Case) (p q : Path) → is_root q ≡ false → is_strictly_below case q p ≡ false → is_at_or_above (place case p) (place case (parent q)) ≡ false
outside case p q below off =
    false_from_ne_true _ (λ on.
    let q_is = place-parent case q below in
    let p_q : is_at_or_above (place case p) (place case q) ≡ true = at_or_above-trans (place case p) (place case (parent q)) (place case q) on (ap (is_at_or_above (place case (parent q))) q_is ∙ at_or_above-append (place case (parent q)) (key case q ∷ [])) in
    let q_p : is_at_or_above (place case q) (place case p) ≡ true = not-false _ (split_or (and_cases _ _ off) (λ a. absurd (both_ways _ a p_q)) (λ b. b)) in
    both_ways _ (ap (λ x. is_at_or_above x (place case (parent q))) q_is ∙ not_below (place case (parent q)) (key case q)) (at_or_above-trans (place case q) (place case p) (place case (parent q)) q_p on))

-- the end of a move takes its name from the move
end-seen : (case : Case) (p q : Path) (e : Entry) → place case e.path ≡ place case p → seen_entry (Some (entry_after_move case p q e)) ≡ Some (last_name q, e.node)
end-seen case p q e e_is =
    let on : is_at_or_above (place case p) (place case e.path) ≡ true = ap (is_at_or_above (place case p)) (e_is ∙ sym (append-nil (place case p))) ∙ at_or_above-append (place case p) [] in
    let same : length e.path ≡ length p = sym (length-place case e.path) ∙ ap length e_is ∙ length-place case p in
    ap (λ b. seen_entry (Some (cond b (record { path = q ++ drop (length p) e.path; node = e.node }) e))) on
    ∙ ap (λ r. Some (last_name r, e.node)) (ap (λ r. q ++ r) (dropped (length p) e.path same) ∙ append-nil q)

-- a path is empty, or it has a last name
has-last : (n : Name) (x : Path) → (front : Path) × (last : Name) × (n ∷ x ≡ front ++ last ∷ [])
has-last n [] = ([], n, refl)
has-last n (m ∷ x) = let r = has-last m x in (n ∷ r.0, r.1, ap (λ y. n ∷ y) r.2)

-- below the end of a move all is seen as it was
below-seen : (case : Case) (world : World) (p q : Path) (m : Name) (z : Path) → seen_entry (option_map (entry_after_move case p q) (at case world (place case p ++ m ∷ z))) ≡ seen_entry (at case world (place case p ++ m ∷ z))
below-seen case world p q m z =
    let r = has-last m z in
    seen-from _ _
    (entry_after_move-node case p q (at case world (place case p ++ m ∷ z)))
    (subst (λ (x : Path). spelling_of (option_map (entry_after_move case p q) (at case world (place case p ++ x))) ≡ spelling_of (at case world (place case p ++ x))) (sym r.2)
    (entry_after_move-name case world p q r.0 r.1 (at case world (place case p ++ (r.0 ++ r.1 ∷ []))) refl))

-- what is moved is found from its place on
moved-found : (case : Case) (root : Children) (p : Path) (t : FileTree) (z : Path) → at_root case root (place case p) ≡ Some t → (n : Name) × (found case (root_of [] root) (place case p ++ z) ≡ found case (Some (record { name = n; tree = t })) z)
moved-found case root p t z there =
    let by : (o : Option Named) → tree_of o ≡ Some t → (n : Name) × (o ≡ Some (record { name = n; tree = t })) = named in
    let r = by (found case (root_of [] root) (place case p)) (found-tree case (root_of [] root) (place case p) ∙ there) in
    (r.0, found-append case (root_of [] root) (place case p) z ∙ ap (λ o. found case o z) r.1)
  where
    named : (o : Option Named) → tree_of o ≡ Some t → (n : Name) × (o ≡ Some (record { name = n; tree = t }))
    named None e = absurd (none≢some t e)
    named (Some c) e = (c.name, ap (λ u. Some (record { name = c.name; tree = u })) (some-is c.tree t e))

-- the tree after a move, at a place
move-at : (case : Case) (root : Children) (p q : Path) (t : FileTree) (es : Children) (y : Path) → IsTree case root → refusal case (world_of root) (Move p q) ≡ None → is_root p ≡ false → is_root q ≡ false
    → at_root case root (place case p) ≡ Some t → (ds : Children) × (at_root case root (place case (parent p)) ≡ Some (Branch ds)) → at_root case (cleared case root p) (place case (parent q)) ≡ Some (Branch es)
    → seen (found case (root_of [] (placed case (cleared case root p) q (last_name q) t)) y) ≡ seen_entry (at case (apply case (world_of root) (Move p q)) y)
move-at case root p q t es y tree e below_p below_q there dir_p dir_q =
    split (is_at_or_above (place case q) y)
    (λ on.
    let (z, y_is) = rest_of (place case q) y on in
    subst (λ (x : Path). seen (found case (root_of [] (placed case (cleared case root p) q (last_name q) t)) x) ≡ seen_entry (at case (apply case (world_of root) (Move p q)) x)) (sym y_is)
    (ap seen (placed-on case (cleared case root p) q (last_name q) t z es below_q refl dir_q) ∙ by z ∙ sym (ap seen_entry (entry_after_move-at case (world_of root) p q z tree.world.closed (accepted-free case (world_of root) p q e)))))
    (λ off.
    placed-off case (cleared case root p) q (last_name q) t y below_q refl off
    ∙ split (is_at_or_above (place case p) y)
    (λ on.
    let (z, y_is) = rest_of (place case p) y on in
    ap (λ x. seen (found case (root_of [] (cleared case root p)) x)) y_is
    ∙ ap seen (cleared-on case root p z dir_p.0 below_p dir_p.1)
    ∙ sym (ap seen_entry (entry_after_move-gone case (world_of root) p q y on off)))
    (λ out.
    cleared-off case root p y below_p out
    ∙ elsewhere case root (Move p q) y tree.ordered (or_from _ _ out (or_from _ _ off refl))))
  where
    by : (z : Path) → seen (found case (Some (record { name = last_name q; tree = t })) z) ≡ seen_entry (option_map (entry_after_move case p q) (at case (world_of root) (place case p ++ z)))
    by [] =
        let r = moved-found case root p t [] there in
        let here : seen_entry (at case (world_of root) (place case p ++ [])) ≡ Some (r.0, node_of_tree t) = at-world_of case root (place case p ++ []) tree.ordered ∙ ap seen r.1 in
        sym (end-of (at case (world_of root) (place case p ++ [])) r.0 refl here)
      where
        end-of : (o : Option Entry) (n : Name) → at case (world_of root) (place case p ++ []) ≡ o → seen_entry o ≡ Some (n, node_of_tree t) → seen_entry (option_map (entry_after_move case p q) o) ≡ Some (last_name q, node_of_tree t)
        end-of None n is h = let s : Name × Node = (n, node_of_tree t) in absurd (none≢some s h)
        end-of (Some f) n is h =
            let a : Name × Node = (last_name f.path, f.node) in
            let b : Name × Node = (n, node_of_tree t) in
            end-seen case p q f (found-place case (world_of root) (place case p ++ []) f is ∙ append-nil (place case p))
            ∙ ap (λ node. Some (last_name q, node)) (ap (λ (s : Name × Node). s.1) (some-is a b h))
    by (m ∷ z) =
        let r = moved-found case root p t (m ∷ z) there in
        sym (ap seen r.1) ∙ sym (at-world_of case root (place case p ++ m ∷ z) tree.ordered) ∙ sym (below-seen case (world_of root) p q m z)

move-shown : (case : Case) (root : Children) (p q : Path) (y : Path) → IsTree case root → refusal case (world_of root) (Move p q) ≡ None
    → seen (found case (root_of [] (edited case root (Move p q))) y) ≡ seen_entry (at case (apply case (world_of root) (Move p q)) y)
move-shown case root p q y tree e =
    let t = each-fails (refusals case (world_of root) (Move p q)) e in
    let roots = or_parts (is_root p) (is_root q) t.0 in
    let there = tree-there (at_root case root (place case p)) (ap is_missing (sym (status-there case root p tree.ordered)) ∙ t.1.0) in
    let dir_p = directory-of case root p tree.ordered roots.0 t.1.0 in
    let dir_q = parent-directory case root (parent q) tree.ordered t.1.1.1.0 t.1.1.1.1.0 in
    let n = seen-directory (found case (root_of [] root) (place case (parent q))) dir_q.0 (found-tree case (root_of [] root) (place case (parent q)) ∙ dir_q.1) in
    let es = directory-seen (found case (root_of [] (cleared case root p)) (place case (parent q))) n.0
    (cleared-off case root p (place case (parent q)) roots.0 (outside case p q roots.1 t.1.1.0) ∙ n.1) in
    ap (λ o. seen (found case (root_of [] (placed_if case (cleared case root p) q o)) y)) there.1
    ∙ move-at case root p q there.0 es.0 y tree e roots.0 roots.1 there.1 dir_p (sym (found-tree case (root_of [] (cleared case root p)) (place case (parent q))) ∙ es.1)

-- ---- any edit

-- after an edit that is not refused there is found what the world after the edit has
pub edited-shown : (case : Case) (root : Children) (edit : Edit) (y : Path) → IsTree case root → refusal case (world_of root) edit ≡ None → seen (found case (root_of [] (edited case root edit)) y) ≡ seen_entry (at case (apply case (world_of root) edit) y)
edited-shown case root (Write p bytes) y tree e = write-shown case root p bytes y tree e
edited-shown case root (Mkdir p) y tree e = mkdir-shown case root p y tree e
edited-shown case root (Remove p) y tree e = remove-shown case root p y tree e
edited-shown case root (Move p q) y tree e = move-shown case root p q y tree e

placed-ordered : (case : Case) (root : Children) (p : Path) (n : Name) (t : FileTree) → IsOrdered case t → IsOrdered case (Branch root) → IsOrdered case (Branch (placed case root p n t))
placed-ordered case root p n t h k = changed-ordered case (put case n t) (place case (parent p)) root (λ ds l. put-ordered case n t ds h l) k

pub cleared-ordered : (case : Case) (root : Children) (p : Path) → IsOrdered case (Branch root) → IsOrdered case (Branch (cleared case root p))
cleared-ordered case root p k = changed-ordered case (without case (key case p)) (place case (parent p)) root (λ ds l. without-ordered case (key case p) ds l) k

placed_if-ordered : (case : Case) (root : Children) (q : Path) (o : Option FileTree) → ((t : FileTree) → o ≡ Some t → IsOrdered case t) → IsOrdered case (Branch root) → IsOrdered case (Branch (placed_if case root q o))
placed_if-ordered case root q None h k = k
placed_if-ordered case root q (Some t) h k = placed-ordered case root q (last_name q) t (h t refl) k

-- an edit leaves the names in order
pub edited-ordered : (case : Case) (root : Children) (edit : Edit) → IsOrdered case (Branch root) → IsOrdered case (Branch (edited case root edit))
edited-ordered case root (Write p bytes) h = placed-ordered case root p (spelled case root p) (Leaf bytes) tt h
edited-ordered case root (Mkdir p) h = placed-ordered case root p (last_name p) (Branch NoChildren) (tt, tt) h
edited-ordered case root (Remove p) h = cleared-ordered case root p h
edited-ordered case root (Move p q) h = placed_if-ordered case (cleared case root p) q (at_root case root (place case p)) (λ t e. tree_at-ordered case (Branch root) (place case p) t h e) (cleared-ordered case root p h)

-- the tree after an edit that is not refused is the world after the edit
pub edited-same : (case : Case) (root : Children) (edit : Edit) → IsTree case root → refusal case (world_of root) edit ≡ None → IsSameBelow case (apply case (world_of root) edit) [] (world_of (edited case root edit)) []
edited-same case root edit tree e =
    same-from_seen case (apply case (world_of root) edit) (world_of (edited case root edit)) (λ y. sym (edited-shown case root edit y tree e) ∙ sym (at-world_of case (edited case root edit) y (edited-ordered case root edit tree.ordered)))

-- and it is a tree again, where the edit's paths are short
pub edited-tree : (case : Case) (root : Children) (edit : Edit) → IsTree case root → refusal case (world_of root) edit ≡ None → Each (λ (p : Path). length p ≤ 64) (events edit) → IsTree case (edited case root edit)
edited-tree case root edit tree e few = record {
  ordered = edited-ordered case root edit tree.ordered;
  world = world-from_same case (apply case (world_of root) edit) (world_of (edited case root edit)) (edited-same case root edit tree e) (accepted-world case (world_of root) edit e few tree.world) (distinct-world_of case (edited case root edit) (edited-ordered case root edit tree.ordered));
}
