-- What a tree tells of the refusals of its world.
use Rattle.std.proofs.Common.{Bor, is_some, ◌≡◌, ◌≢◌, ℕ, zero, suc, ◌+◌, ◌-◌, ◌<◌, ◌≤◌, Bool, true, false, cond, ◌&&◌, ◌||◌, not, List, [], ◌∷◌, ◌++◌, length, Option, Some, None, refl, sym, ap, ◌∙◌, arith, nat_le, length-append, ltb-true, lt-ltb}
use Rattle.std.proofs.lemmas.Bool.{true≢false, and_parts, false_from_ne_true}
use Rattle.std.specs.List.{AllByRecursion as Each}
use Rattle.std.specs.declared.cmp.Ordering.TheVariants.{Less, Equal}
use Rattle.vfs_model.specs.declared.Case.{Case}
use Rattle.vfs_model.specs.Paths.{Name, Path, folded_name, place, is_same_name, is_same_place, name_order, last_name}
use Rattle.vfs_model.specs.World.{at, AreInOrder, Status, IsDir}
use Rattle.vfs_model.specs.Edit.{Write, Mkdir, Remove, Move, Refusal, Root, NoParent, NotDir, Exists, Absent, IntoItself, TooDeep, Crowded, refusal, parent, is_root, is_missing, is_file, is_dir, status_there, is_full, is_too_deep, is_strictly_below}
use Rattle.vfs_laws.proofs.Splits.{split, split_option}
use Rattle.vfs_laws.proofs.PathLemmas.{same_name-refl, same_name-true, at_or_above-append, rest_of}
use Rattle.vfs_laws.proofs.NameLemmas.{order-same, some-is}
use Rattle.vfs_laws.proofs.WorldLemmas.{length-place}
use Rattle.vfs_laws.proofs.SameLemmas.{deep-at, at-deep}
use Rattle.mem_tree.specs.FileTree.{FileTree, Leaf, Branch, Children, NoChildren, WithChild, Named, names_of, child, child_of, tree_of, tree_at, at_root, world_of, status_of_tree, names_in, fits, children_fit, found_fits, IsOrdered, AreOrdered, IsTree}
use Rattle.std.specs.Option.{option_copied}
use Rattle.mem_tree.specs.declared.node.Child.{Child}
use Rattle.mem_tree.specs.Nodes.{named_of, tree_of_node}
use Rattle.mem_tree.specs.Refused.{no_directory}
use Rattle.mem_tree.proofs.TreeLemmas.{some≢none, found, seen, root_of, found-tree, tree_at-none, place-parent, tree_at-ordered}
use Rattle.mem_tree.proofs.EntriesLemmas.{seen_entry, seen-none, at-world_of, names-world_of}
use Rattle.mem_tree.proofs.EditedLemmas.{status-there, tree_at-last}

-- ---- tests in turn

-- a test that refuses decides
pub stops : (t : Bool) (r x : Refusal) (rest : Option Refusal) → Some x ≡ cond t (Some r) None → Some x ≡ cond t (Some r) rest
stops true r x rest e = e
stops false r x rest e = absurd (by e)
  where
    by : Some x ≡ None → ⊥
    by h = cc

-- a test that does not leaves it to the rest
pub goes : (t : Bool) (r : Refusal) (rest : Option Refusal) → None ≡ cond t (Some r) None → rest ≡ cond t (Some r) rest
goes true r rest e = absurd (by e)
  where
    by : None ≡ Some r → ⊥
    by h = cc
goes false r rest e = refl

-- where there is no directory that decides
pub stops-directory : (o : Option FileTree) (x : Refusal) (rest : Option Refusal) → no_directory o ≡ Some x → Some x ≡ cond (is_missing (status_of_tree o)) (Some NoParent) (cond (is_file (status_of_tree o)) (Some NotDir) rest)
stops-directory None x rest e = sym e
stops-directory (Some (Leaf bytes)) x rest e = sym e
stops-directory (Some (Branch ds)) x rest e = absurd (by e)
  where
    by : None ≡ Some x → ⊥
    by h = cc

pub goes-directory : (o : Option FileTree) (ds : Children) (rest : Option Refusal) → o ≡ Some (Branch ds) → rest ≡ cond (is_missing (status_of_tree o)) (Some NoParent) (cond (is_file (status_of_tree o)) (Some NotDir) rest)
goes-directory o ds rest e = ap (λ u. cond (is_missing (status_of_tree u)) (Some NoParent) (cond (is_file (status_of_tree u)) (Some NotDir) rest)) (sym e)

-- ---- what is at a path in a directory that was found

pub child-there : (case : Case) (root ds : Children) (p : Path) → is_root p ≡ false → at_root case root (place case (parent p)) ≡ Some (Branch ds) → at_root case root (place case p) ≡ tree_of (child case ds (folded_name case (last_name p)))
child-there case root ds p below e =
    ap (at_root case root) (place-parent case p below)
    ∙ tree_at-last case (Some (Branch root)) (place case (parent p)) (folded_name case (last_name p))
    ∙ ap (λ o. tree_of (child_of case o (folded_name case (last_name p)))) e

status-child : (case : Case) (root ds : Children) (p : Path) → IsTree case root → is_root p ≡ false → at_root case root (place case (parent p)) ≡ Some (Branch ds) → status_there case (world_of root) p ≡ status_of_tree (tree_of (child case ds (folded_name case (last_name p))))
status-child case root ds p tree below e = status-there case root p tree.ordered ∙ ap status_of_tree (child-there case root ds p below e)

full-there : (case : Case) (root ds : Children) (p : Path) → IsTree case root → at_root case root (place case p) ≡ Some (Branch ds) → is_full case (world_of root) p ≡ nat_le 4096 (length (names_of ds))
full-there case root ds p tree e = ap (λ ns. nat_le 4096 (length ns)) (names-world_of case root (place case p) tree.ordered ∙ ap names_in e)

-- ---- writes and new directories

-- a refusal of a write, from its tests
abbrev pub write_refusal : Bool → Status → Status → Bool → Option Refusal
write_refusal top above here full =
    cond top (Some Root) (cond (is_missing above) (Some NoParent) (cond (is_file above) (Some NotDir) (cond (is_dir here) (Some Exists) (cond (is_missing here && full) (Some Crowded) None))))

pub write-no_directory : (case : Case) (root : Children) (p : Path) (bytes : List ℕ) (x : Refusal) → IsTree case root → is_root p ≡ false → no_directory (at_root case root (place case (parent p))) ≡ Some x → Some x ≡ refusal case (world_of root) (Write p bytes)
write-no_directory case root p bytes x tree below e =
    stops-directory (at_root case root (place case (parent p))) x _ e
    ∙ (λ i. write_refusal (sym below i) (sym (status-there case root (parent p) tree.ordered) i) (status_there case (world_of root) p) (is_full case (world_of root) (parent p)))

pub write-in : (case : Case) (root ds : Children) (p : Path) (bytes : List ℕ) → IsTree case root → is_root p ≡ false → at_root case root (place case (parent p)) ≡ Some (Branch ds)
    → write_refusal false IsDir (status_of_tree (tree_of (child case ds (folded_name case (last_name p))))) (nat_le 4096 (length (names_of ds))) ≡ refusal case (world_of root) (Write p bytes)
write-in case root ds p bytes tree below e =
    λ i. write_refusal (sym below i) (sym (status-there case root (parent p) tree.ordered ∙ ap status_of_tree e) i) (sym (status-child case root ds p tree below e) i) (sym (full-there case root ds (parent p) tree e) i)

-- a name that is not there is refused where the directory is full
pub write-new : (case : Case) (root ds : Children) (p : Path) (bytes : List ℕ) (full : Bool) → IsTree case root → is_root p ≡ false → at_root case root (place case (parent p)) ≡ Some (Branch ds)
    → None ≡ child case ds (folded_name case (last_name p)) → full ≡ nat_le 4096 (length (names_of ds)) → cond full (Some Crowded) None ≡ refusal case (world_of root) (Write p bytes)
write-new case root ds p bytes full tree below e none is =
    (λ i. write_refusal false IsDir (status_of_tree (tree_of (none i))) (is i)) ∙ write-in case root ds p bytes tree below e

-- a file is replaced
pub write-file : (case : Case) (root ds : Children) (p : Path) (bytes old : List ℕ) (c : Named) → IsTree case root → is_root p ≡ false → at_root case root (place case (parent p)) ≡ Some (Branch ds)
    → Some c ≡ child case ds (folded_name case (last_name p)) → c.tree ≡ Leaf old → None ≡ refusal case (world_of root) (Write p bytes)
write-file case root ds p bytes old c tree below e there leaf =
    (λ i. write_refusal false IsDir (status_of_tree (Some (sym leaf i))) (nat_le 4096 (length (names_of ds))))
    ∙ (λ i. write_refusal false IsDir (status_of_tree (tree_of (there i))) (nat_le 4096 (length (names_of ds))))
    ∙ write-in case root ds p bytes tree below e

-- a directory is not
pub write-directory : (case : Case) (root ds : Children) (p : Path) (bytes : List ℕ) (old : Children) (c : Named) → IsTree case root → is_root p ≡ false → at_root case root (place case (parent p)) ≡ Some (Branch ds)
    → Some c ≡ child case ds (folded_name case (last_name p)) → c.tree ≡ Branch old → Some Exists ≡ refusal case (world_of root) (Write p bytes)
write-directory case root ds p bytes old c tree below e there branch =
    (λ i. write_refusal false IsDir (status_of_tree (Some (sym branch i))) (nat_le 4096 (length (names_of ds))))
    ∙ (λ i. write_refusal false IsDir (status_of_tree (tree_of (there i))) (nat_le 4096 (length (names_of ds))))
    ∙ write-in case root ds p bytes tree below e

abbrev pub mkdir_refusal : Bool → Status → Status → Bool → Option Refusal
mkdir_refusal top above here full =
    cond top (Some Root) (cond (is_missing above) (Some NoParent) (cond (is_file above) (Some NotDir) (cond (not (is_missing here)) (Some Exists) (cond full (Some Crowded) None))))

pub mkdir-no_directory : (case : Case) (root : Children) (p : Path) (x : Refusal) → IsTree case root → is_root p ≡ false → no_directory (at_root case root (place case (parent p))) ≡ Some x → Some x ≡ refusal case (world_of root) (Mkdir p)
mkdir-no_directory case root p x tree below e =
    stops-directory (at_root case root (place case (parent p))) x _ e
    ∙ (λ i. mkdir_refusal (sym below i) (sym (status-there case root (parent p) tree.ordered) i) (status_there case (world_of root) p) (is_full case (world_of root) (parent p)))

mkdir-in : (case : Case) (root ds : Children) (p : Path) → IsTree case root → is_root p ≡ false → at_root case root (place case (parent p)) ≡ Some (Branch ds)
    → mkdir_refusal false IsDir (status_of_tree (tree_of (child case ds (folded_name case (last_name p))))) (nat_le 4096 (length (names_of ds))) ≡ refusal case (world_of root) (Mkdir p)
mkdir-in case root ds p tree below e =
    λ i. mkdir_refusal (sym below i) (sym (status-there case root (parent p) tree.ordered ∙ ap status_of_tree e) i) (sym (status-child case root ds p tree below e) i) (sym (full-there case root ds (parent p) tree e) i)

pub mkdir-new : (case : Case) (root ds : Children) (p : Path) (full : Bool) → IsTree case root → is_root p ≡ false → at_root case root (place case (parent p)) ≡ Some (Branch ds)
    → None ≡ child case ds (folded_name case (last_name p)) → full ≡ nat_le 4096 (length (names_of ds)) → cond full (Some Crowded) None ≡ refusal case (world_of root) (Mkdir p)
mkdir-new case root ds p full tree below e none is =
    (λ i. mkdir_refusal false IsDir (status_of_tree (tree_of (none i))) (is i)) ∙ mkdir-in case root ds p tree below e

there-exists : (c : Named) (full : Bool) → Some Exists ≡ mkdir_refusal false IsDir (status_of_tree (Some c.tree)) full
there-exists c full = by c.tree
  where
    by : (t : FileTree) → Some Exists ≡ mkdir_refusal false IsDir (status_of_tree (Some t)) full
    by (Leaf bytes) = refl
    by (Branch ds) = refl

pub mkdir-there : (case : Case) (root ds : Children) (p : Path) (c : Named) → IsTree case root → is_root p ≡ false → at_root case root (place case (parent p)) ≡ Some (Branch ds)
    → Some c ≡ child case ds (folded_name case (last_name p)) → Some Exists ≡ refusal case (world_of root) (Mkdir p)
mkdir-there case root ds p c tree below e there =
    there-exists c (nat_le 4096 (length (names_of ds)))
    ∙ (λ i. mkdir_refusal false IsDir (status_of_tree (tree_of (there i))) (nat_le 4096 (length (names_of ds))))
    ∙ mkdir-in case root ds p tree below e

-- ---- removals

pub remove-by : (case : Case) (root : Children) (p : Path) (o : Option FileTree) (missing : Bool) → IsTree case root → is_root p ≡ false → o ≡ at_root case root (place case p) → missing ≡ is_missing (status_of_tree o)
    → cond missing (Some Absent) None ≡ refusal case (world_of root) (Remove p)
remove-by case root p o missing tree below is e =
    λ i. cond (sym below i) (Some Root) (cond ((e ∙ ap (λ u. is_missing (status_of_tree u)) is ∙ ap is_missing (sym (status-there case root p tree.ordered))) i) (Some Absent) None)

-- ---- how deep a tree is

-- nothing stands deeper in a tree that fits
child-fits : (case : Case) (k : ℕ) (cs : Children) (n : Name) (c : Named) → children_fit (suc k) cs ≡ true → child case cs n ≡ Some c → fits k c.tree ≡ true
child-fits case k NoChildren n c h e = absurd (some≢none c e)
child-fits case k (WithChild m t more) n c h e =
    let parts = and_parts (fits k t) (children_fit (suc k) more) h in
    split (is_same_name (folded_name case m) n)
    (λ s. ap (λ (d : Named). fits k d.tree) (sym (some-is (record { name = m; tree = t }) c (rw s at e))) ∙ parts.0)
    (λ s. child-fits case k more n c parts.1 (rw s at e))

no-fit : (case : Case) (cs : Children) (n : Name) → children_fit zero cs ≡ true → child case cs n ≡ None
no-fit case NoChildren n h = refl
no-fit case (WithChild m t more) n h = absurd (true≢false (sym h))

fits-depth : (case : Case) (z : Path) (k : ℕ) (t : FileTree) → fits k t ≡ true → (tree_at case (Some t) z ≢ None) → length z ≤ k
fits-depth case [] k t h there = omega arith
fits-depth case (n ∷ z) k (Leaf bytes) h there = absurd (there (tree_at-none case z))
fits-depth case (n ∷ z) zero (Branch cs) h there = absurd (there (ap (λ o. tree_at case (tree_of o) z) (no-fit case cs n h) ∙ tree_at-none case z))
fits-depth case (n ∷ z) (suc k) (Branch cs) h there =
    split_option (child case cs n)
    (λ none. absurd (there (ap (λ o. tree_at case (tree_of o) z) none ∙ tree_at-none case z)))
    (λ c is.
    let deeper = fits-depth case z k c.tree (child-fits case k cs n c h is) (λ e. there (ap (λ o. tree_at case (tree_of o) z) is ∙ e)) in
    omega arith)

-- something stands deeper in a tree that does not fit
record IsDeeper (case : Case) (k : ℕ) (t : FileTree) : Type 0 where
  path : Path
  there : tree_at case (Some t) path ≢ None
  deep : k < length path

record IsChildDeeper (case : Case) (k : ℕ) (cs : Children) : Type 0 where
  name : Name
  path : Path
  there : tree_at case (tree_of (child case cs name)) path ≢ None
  deep : k < suc (length path)

other-child : (case : Case) (m : Name) (t : FileTree) (more : Children) (n : Name) (z : Path) → Each (λ k. name_order case m k ≡ Less) (names_of more) → (tree_at case (tree_of (child case more n)) z ≢ None)
    → tree_at case (tree_of (child case (WithChild m t more) n)) z ≢ None
other-child case m t more n z first there e =
    split (is_same_name (folded_name case m) n)
    (λ s. there (ap (λ o. tree_at case (tree_of o) z) (ap (child case more) (sym (same_name-true (folded_name case m) n s)) ∙ skipped more first) ∙ tree_at-none case z))
    (λ s. there (rw s at e))
  where
    skipped : (cs : Children) → Each (λ k. name_order case m k ≡ Less) (names_of cs) → child case cs (folded_name case m) ≡ None
    skipped NoChildren h = refl
    skipped (WithChild k u rest) h =
        let off : is_same_name (folded_name case k) (folded_name case m) ≡ false = false_from_ne_true _ (λ s. let o : name_order case m k ≡ Equal = order-same case m k (sym (same_name-true _ _ s)) in cc) in
        rw off (skipped rest h.1)

this-child : (case : Case) (m : Name) (t : FileTree) (more : Children) (z : Path) → (tree_at case (Some t) z ≢ None) → tree_at case (tree_of (child case (WithChild m t more) (folded_name case m))) z ≢ None
this-child case m t more z there e = there (sym (ap (λ b. tree_at case (tree_of (cond b (Some (record { name = m; tree = t })) (child case more (folded_name case m)))) z) (same_name-refl (folded_name case m))) ∙ e)

mutual
  deeper : (case : Case) (k : ℕ) (t : FileTree) → IsOrdered case t → fits k t ≡ false → IsDeeper case k t
  deeper case k (Leaf bytes) o h = absurd (true≢false h)
  deeper case k (Branch cs) o h = let d = child-deeper case k cs o.0 o.1 h in record { path = d.name ∷ d.path; there = d.there; deep = d.deep }

  child-deeper : (case : Case) (k : ℕ) (cs : Children) → AreInOrder case (names_of cs) → AreOrdered case cs → children_fit k cs ≡ false → IsChildDeeper case k cs
  child-deeper case k NoChildren o a h = absurd (true≢false h)
  child-deeper case zero (WithChild m t more) o a h = record { name = folded_name case m; path = []; there = this-child case m t more [] (λ e. some≢none t (sym e)); deep = omega arith }
  child-deeper case (suc k) (WithChild m t more) o a h =
      split (fits k t)
      (λ s.
      let d = child-deeper case (suc k) more o.1 a.1 (rw s at h) in
      record { name = d.name; path = d.path; there = other-child case m t more d.name d.path o.0 d.there; deep = d.deep })
      (λ s.
      let d = deeper case k t a.0 s in
      let further = d.deep in
      record { name = folded_name case m; path = d.path; there = this-child case m t more d.path d.there; deep = omega arith })

-- the found tree is missing exactly where nothing is seen
tree-none : (o : Option Named) → tree_of o ≡ None → seen o ≡ None
tree-none None e = refl
tree-none (Some c) e = absurd (some≢none c.tree (sym e))

seen-tree : (o : Option Named) → seen o ≡ None → tree_of o ≡ None
seen-tree None e = refl
seen-tree (Some c) e = absurd (by e)
  where
    by : seen (Some c) ≡ None → ⊥
    by h = cc

-- nothing is at a place in the world exactly where nothing is in the tree
tree-from_world : (case : Case) (root : Children) (x : Path) → IsOrdered case (Branch root) → at case (world_of root) x ≡ None → at_root case root x ≡ None
tree-from_world case root x h e =
    sym (found-tree case (root_of [] root) x) ∙ seen-tree (found case (root_of [] root) x) (sym (at-world_of case root x h) ∙ ap seen_entry e)

world-from_tree : (case : Case) (root : Children) (x : Path) → IsOrdered case (Branch root) → at_root case root x ≡ None → at case (world_of root) x ≡ None
world-from_tree case root x h e =
    seen-none _ (at-world_of case root x h ∙ tree-none (found case (root_of [] root) x) (found-tree case (root_of [] root) x ∙ e))

tree_at-append : (case : Case) (o : Option FileTree) (x y : Path) → tree_at case o (x ++ y) ≡ tree_at case (tree_at case o x) y
tree_at-append case o [] y = refl
tree_at-append case o (n ∷ x) y = tree_at-append case (tree_of (child_of case o n)) x y

length-rest : (case : Case) (p z : Path) → length (place case p ++ z) - length p ≡ length z
length-rest case p z = omega (arith, length-append (place case p) z, length-place case p)

-- the world is too deep for a move exactly where the tree that is moved does not fit
pub deep-fits : (case : Case) (root : Children) (p q : Path) → IsTree case root → length q ≤ 64 → is_too_deep case (world_of root) p q ≡ not (found_fits (64 - length q) (at_root case root (place case p)))
deep-fits case root p q tree short =
    split (found_fits (64 - length q) (at_root case root (place case p)))
    (λ f. false_from_ne_true _ (too-deep f) ∙ sym (ap not f))
    (λ f. not-fitting (at_root case root (place case p)) refl f ∙ sym (ap not f))
  where
    fitting : (o : Option FileTree) (z : Path) → found_fits (64 - length q) o ≡ true → (tree_at case o z ≢ None) → length z ≤ 64 - length q
    fitting None z f there = absurd (there (tree_at-none case z))
    fitting (Some t) z f there = fits-depth case z (64 - length q) t f there

    too-deep : found_fits (64 - length q) (at_root case root (place case p)) ≡ true → is_too_deep case (world_of root) p q ≡ true → ⊥
    too-deep f d =
        let m = deep-at case (world_of root) p q d in
        let (z, spot_is) = rest_of (place case p) m.spot m.above in
        let less = fitting (at_root case root (place case p)) z f (λ e. m.here (world-from_tree case root m.spot tree.ordered (ap (at_root case root) spot_is ∙ tree_at-append case (Some (Branch root)) (place case p) z ∙ e))) in
        let more : 64 < length q + (length m.spot - length p) = ltb-true 64 (length q + (length m.spot - length p)) m.deep in
        omega (arith, length-rest case p z, ap (λ x. length x - length p) spot_is)

    not-fitting : (o : Option FileTree) → at_root case root (place case p) ≡ o → found_fits (64 - length q) o ≡ false → is_too_deep case (world_of root) p q ≡ true
    not-fitting None is f = absurd (true≢false f)
    not-fitting (Some t) is f =
        let d = deeper case (64 - length q) t (tree_at-ordered case (Branch root) (place case p) t tree.ordered is) f in
        at-deep case (world_of root) p q (record {
          spot = place case p ++ d.path;
          here = λ e. d.there (ap (λ o. tree_at case o d.path) (sym is) ∙ sym (tree_at-append case (Some (Branch root)) (place case p) d.path) ∙ tree-from_world case root (place case p ++ d.path) tree.ordered e);
          above = at_or_above-append (place case p) d.path;
          deep = let more = d.deep in lt-ltb 64 (length q + (length (place case p ++ d.path) - length p)) (omega (arith, length-rest case p d.path));
        })

-- ---- moves

-- a refusal of a move, from its tests
abbrev pub move_refusal : Bool → Bool → Bool → Status → Bool → Bool → Bool → Option Refusal
move_refusal top absent inside above exists deep crowded =
    cond top (Some Root) (cond absent (Some Absent) (cond inside (Some IntoItself) (cond (is_missing above) (Some NoParent) (cond (is_file above) (Some NotDir) (cond exists (Some Exists) (cond deep (Some TooDeep) (cond crowded (Some Crowded) None)))))))

-- something stands where the move leads, and it is not what is moved
abbrev pub is_taken : Case → Children → Path → Path → Bool
is_taken case root p q = not (is_missing (status_of_tree (at_root case root (place case q)))) && not (is_same_place (place case q) (place case p))

-- the directory to which the move leads has no room for one more name
abbrev pub is_crowded : Case → Children → Path → Path → Bool
is_crowded case root p q = nat_le 4096 (length (names_in (at_root case root (place case (parent q))))) && not (is_same_place (place case (parent q)) (place case (parent p)))

top-of : (p q : Path) → is_root p ≡ false → is_root q ≡ false → (is_root p || is_root q) ≡ false
top-of p q a b = rw (a, b) refl

-- the refusal of a move by tests of the tree
pub move-by : (case : Case) (root : Children) (p q : Path) (absent inside exists deep crowded : Bool) → IsTree case root → length q ≤ 64 → is_root p ≡ false → is_root q ≡ false
    → absent ≡ is_missing (status_of_tree (at_root case root (place case p)))
    → inside ≡ is_strictly_below case q p
    → exists ≡ is_taken case root p q
    → deep ≡ not (found_fits (64 - length q) (at_root case root (place case p)))
    → crowded ≡ is_crowded case root p q
    → move_refusal false absent inside (status_of_tree (at_root case root (place case (parent q)))) exists deep crowded ≡ refusal case (world_of root) (Move p q)
move-by case root p q absent inside exists deep crowded tree short a b absent_is inside_is exists_is deep_is crowded_is =
    λ i. move_refusal (sym (top-of p q a b) i)
    ((absent_is ∙ ap is_missing (sym (status-there case root p tree.ordered))) i)
    (inside_is i)
    (sym (status-there case root (parent q) tree.ordered) i)
    ((exists_is ∙ ap (λ s. not (is_missing s) && not (is_same_place (place case q) (place case p))) (sym (status-there case root q tree.ordered))) i)
    ((deep_is ∙ sym (deep-fits case root p q tree short)) i)
    ((crowded_is ∙ ap (λ ns. nat_le 4096 (length ns) && not (is_same_place (place case (parent q)) (place case (parent p)))) (sym (names-world_of case root (place case (parent q)) tree.ordered))) i)

-- the same where the directory to which the move leads was found
pub move-in : (case : Case) (root ds : Children) (p q : Path) (exists deep crowded : Bool) → IsTree case root → length q ≤ 64 → is_root p ≡ false → is_root q ≡ false
    → at_root case root (place case (parent q)) ≡ Some (Branch ds)
    → false ≡ is_missing (status_of_tree (at_root case root (place case p)))
    → false ≡ is_strictly_below case q p
    → exists ≡ is_taken case root p q
    → deep ≡ not (found_fits (64 - length q) (at_root case root (place case p)))
    → crowded ≡ is_crowded case root p q
    → move_refusal false false false IsDir exists deep crowded ≡ refusal case (world_of root) (Move p q)
move-in case root ds p q exists deep crowded tree short a b dir absent_is inside_is exists_is deep_is crowded_is =
    (λ i. move_refusal false false false (status_of_tree (sym dir i)) exists deep crowded)
    ∙ move-by case root p q false false exists deep crowded tree short a b absent_is inside_is exists_is deep_is crowded_is

-- a child was found exactly where something is there
pub taken-is : (r : Option (Bor Child)) → is_some r ≡ not (is_missing (status_of_tree (tree_of (Rattle.std.specs.Option.option_map named_of (option_copied r)))))
taken-is None = refl
taken-is (Some c) = by (tree_of_node c.now.node)
  where
    by : (t : FileTree) → true ≡ not (is_missing (status_of_tree (Some t)))
    by (Leaf bytes) = refl
    by (Branch ds) = refl

-- the code's test of what stands where a move leads
pub exists-of : (case : Case) (root ds : Children) (p q : Path) (r : Option (Bor Child)) (n : Name) (taken in_place exists : Bool) → is_root q ≡ false → at_root case root (place case (parent q)) ≡ Some (Branch ds)
    → Rattle.std.specs.Option.option_map named_of (option_copied r) ≡ child case ds (folded_name case n) → n ≡ last_name q → taken ≡ is_some r → in_place ≡ is_same_place (place case q) (place case p) → exists ≡ (taken && not in_place)
    → exists ≡ is_taken case root p q
exists-of case root ds p q r n taken in_place exists below dir there last taken_is in_place_is exists_is =
    let taken_there : taken ≡ not (is_missing (status_of_tree (at_root case root (place case q)))) =
    taken_is ∙ taken-is r
    ∙ ap (λ o. not (is_missing (status_of_tree (tree_of o)))) (there ∙ ap (λ m. child case ds (folded_name case m)) last)
    ∙ ap (λ o. not (is_missing (status_of_tree o))) (sym (child-there case root ds q below dir)) in
    exists_is ∙ (λ i. taken_there i && not (in_place_is i))

-- the code's test of the room where a move leads
pub crowded-of : (case : Case) (root ds : Children) (p q parent_q parent_p : Path) (full inside crowded : Bool) → at_root case root (place case (parent q)) ≡ Some (Branch ds) → parent_q ≡ parent q → parent_p ≡ parent p
    → full ≡ nat_le 4096 (length (names_of ds)) → inside ≡ is_same_place (place case parent_q) (place case parent_p) → crowded ≡ (full && not inside) → crowded ≡ is_crowded case root p q
crowded-of case root ds p q parent_q parent_p full inside crowded dir q_is p_is full_is inside_is crowded_is =
    crowded_is
    ∙ (λ i. (full_is ∙ ap (λ o. nat_le 4096 (length (names_in o))) (sym dir)) i && not ((inside_is ∙ (λ j. is_same_place (place case (q_is j)) (place case (p_is j)))) i))
