-- A snapshot that agrees with the world at each place below its own is the scan of that place.
use Rattle.std.proofs.Common.{◌≡◌, ℕ, zero, suc, ◌+◌, ◌<◌, ◌≤◌, [], ◌∷◌, ◌++◌, length, refl, sym, ap, ◌∙◌, subst, Option, Some, None, arith, append_assoc, append-nil, length-append}
use Rattle.vfs_model.specs.declared.Case.{Case}
use Rattle.vfs_model.specs.Paths.{Name, Path, folded_name, place, is_same_name, is_same_place}
use Rattle.vfs_model.specs.World.{World, Entry, Node, Directory, Regular, at, names, AreInOrder, AreShort, listed_in, spelling_of, status_of, Status, IsMissing, IsFile, IsDir, digest_of_bytes}
use Rattle.vfs_model.specs.Snapshot.{Snapshot, Missing, File, Dir, Children, Nothing, Child, child, listed_name, children_of, told_name, status, names_of, IsTree}
use Rattle.vfs_model.specs.Scan.{listing, snapshot_of, snapshot_of_node, scan_down, scan, Agrees}
use Rattle.vfs_laws.proofs.Splits.{split, split_option}
use Rattle.vfs_laws.proofs.PathLemmas.{same_name-refl, same_name-true, same_place-true}
use Rattle.vfs_laws.proofs.NameLemmas.{names-in_order, listed_in-names, same-in_order, none-after, some-is}

-- a snapshot's spelling of a name is that in the list of its names
pub listed_name-is : (case : Case) (cs : Children) (k : Name) → listed_name case cs k ≡ listed_in case (names_of cs) k
listed_name-is case Nothing k = refl
listed_name-is case (Child n s cs) k = split (is_same_name (folded_name case n) k) (λ t. rw t refl) (λ t. rw t (listed_name-is case cs k))

-- what is not listed is missing
unlisted : (case : Case) (cs : Children) (k : Name) → listed_name case cs k ≡ None → child case cs k ≡ Missing
unlisted case Nothing k e = refl
unlisted case (Child n s cs) k e =
    split (is_same_name (folded_name case n) k)
    (λ t. let u : Some n ≡ None = rw t at e in cc)
    (λ t. rw t (unlisted case cs k (rw t at e)))

-- what is listed is the name asked for
listed_folds : (case : Case) (cs : Children) (k n : Name) → listed_name case cs k ≡ Some n → folded_name case n ≡ k
listed_folds case Nothing k n e = cc
listed_folds case (Child m s cs) k n e =
    split (is_same_name (folded_name case m) k)
    (λ t. let u : Some m ≡ Some n = rw t at e in ap (folded_name case) (sym (some-is m n u)) ∙ same_name-true (folded_name case m) k t)
    (λ t. listed_folds case cs k n (rw t at e))

-- what is so of each name and child of a list in order is so of the first, and of those that follow
pub children-head : (case : Case) (Q : Name → Name → Snapshot → Type 0) (n : Name) (s : Snapshot) (cs : Children)
    → ((k m : Name) → listed_name case (Child n s cs) k ≡ Some m → Q k m (child case (Child n s cs) k)) → Q (folded_name case n) n s
children-head case Q n s cs each =
    rw (same_name-refl (folded_name case n)) at (each (folded_name case n) n (rw (same_name-refl (folded_name case n)) refl))

-- what is so of each name and child of a list in order is so of those behind the first
pub children-tail : (case : Case) (Q : Name → Name → Snapshot → Type 0) (n : Name) (s : Snapshot) (cs : Children) → AreInOrder case (names_of (Child n s cs))
    → ((k m : Name) → listed_name case (Child n s cs) k ≡ Some m → Q k m (child case (Child n s cs) k)) → (k m : Name) → listed_name case cs k ≡ Some m → Q k m (child case cs k)
children-tail case Q n s cs h each k m e =
    split (is_same_name (folded_name case n) k)
    (λ t.
    let same = same_name-true (folded_name case n) k t in
    let u : Some m ≡ None = sym e ∙ ap (listed_name case cs) (sym same) ∙ listed_name-is case cs (folded_name case n) ∙ none-after case n (names_of cs) h.0 in
    absurd (some≢none m u))
    (λ t. rw t at (each k m (rw t e)))
  where
    some≢none : (m : Name) → Some m ≡ None → ⊥
    some≢none m u = cc

-- children that are all given by a function of the name
listing-names : (case : Case) (of : Name → Snapshot) (cs : Children) → AreInOrder case (names_of cs) → ((k n : Name) → listed_name case cs k ≡ Some n → child case cs k ≡ of n) → cs ≡ listing of (names_of cs)
listing-names case of Nothing h each = refl
listing-names case of (Child n s cs) h each =
    let Q : Name → Name → Snapshot → Type 0 = λ k m t. t ≡ of m in
    λ i. Child n (children-head case Q n s cs each i) (listing-names case of cs h.1 (children-tail case Q n s cs h each) i)

-- nothing is at a path of more than 64 names
pub too_deep : (case : Case) (world : World) (x : Path) → AreShort world → 64 < length x → at case world x ≡ None
too_deep case [] x h k = refl
too_deep case (e ∷ world) x h k =
    split (is_same_place (place case e.path) x)
    (λ s. absurd (omega (arith, h.0, sym (length-place case e.path) ∙ ap length (same_place-true (place case e.path) x s))))
    (λ s. rw s (too_deep case world x h.1 k))
  where
    length-place : (case : Case) (p : Path) → length (place case p) ≡ length p
    length-place case [] = refl
    length-place case (n ∷ p) = ap suc (length-place case p)

missing-is : (e : Option Entry) → IsMissing ≡ status_of e → e ≡ None
missing-is None h = refl
missing-is (Some e) h = by e.node h
  where
    by : (node : Node) → IsMissing ≡ Rattle.vfs_model.specs.World.status_of_node node → Some e ≡ None
    by Directory h = cc
    by (Regular bytes) h = cc

-- the names that the snapshot lists are those of the world
same_names : (case : Case) (world : World) (p : Path) (cs : Children) → IsTree case (Dir cs) → ((x : Path) → Agrees case world p (Dir cs) x) → names_of cs ≡ names case world p
same_names case world p cs tree agrees =
    same-in_order case (names_of cs) (names case world p) (tree []).order (names-in_order case world p)
    (λ k. sym (listed_name-is case cs k) ∙ each k ∙ sym (listed_in-names case world p k))
  where
    each : (k : Name) → listed_name case cs k ≡ spelling_of (at case world (p ++ k ∷ []))
    each k =
        split_option (listed_name case cs k)
        (λ e. e ∙ ap spelling_of (sym (missing-is _ (ap status (sym (unlisted case cs k e)) ∙ (agrees (k ∷ [])).same_kind))))
        (λ n e. e ∙ sym ((agrees (k ∷ [])).same_spelling n e))

-- what is so of the snapshot is so of each child
below : (case : Case) (world : World) (p : Path) (s : Snapshot) (k : Name) → ((x : Path) → Agrees case world p s x) → (x : Path) → Agrees case world (p ++ k ∷ []) (child case (children_of s) k) x
below case world p s k agrees x = record {
  same_kind = (agrees (k ∷ x)).same_kind ∙ ap (λ y. status_of (at case world y)) (sym (append_assoc p (k ∷ []) x));
  same_spelling = λ n e. ap (λ y. spelling_of (at case world y)) (append_assoc p (k ∷ []) x) ∙ (agrees (k ∷ x)).same_spelling n (told x n e);
}
  where
    told : (x : Path) (n : Name) → told_name case (child case (children_of s) k) x ≡ Some n → told_name case s (k ∷ x) ≡ Some n
    told [] n e = cc
    told (m ∷ y) n e = e

-- a snapshot of the entry's kind is that of the entry, where what is below is so
shallow : (s : Snapshot) (e : Option Entry) (more : Children) → status s ≡ status_of e → ((cs : Children) → s ≡ Dir cs → cs ≡ more) → s ≡ snapshot_of e more
shallow s None more same inner = by s same
  where
    by : (s : Snapshot) → status s ≡ IsMissing → s ≡ Missing
    by Missing h = refl
    by (File digest) h = cc
    by (Dir cs) h = cc
shallow s (Some e) more same inner = by s e.node same inner
  where
    by : (s : Snapshot) (node : Node) → status s ≡ Rattle.vfs_model.specs.World.status_of_node node → ((cs : Children) → s ≡ Dir cs → cs ≡ more) → s ≡ snapshot_of_node node more
    by Missing Directory h inner = cc
    by Missing (Regular bytes) h inner = cc
    by (File digest) Directory h inner = cc
    by (File digest) (Regular bytes) h inner = cc
    by (Dir cs) Directory h inner = ap Dir (inner cs refl)
    by (Dir cs) (Regular bytes) h inner = cc

here : (case : Case) (world : World) (p : Path) (s : Snapshot) → ((x : Path) → Agrees case world p s x) → status s ≡ status_of (at case world p)
here case world p s agrees = (agrees []).same_kind ∙ ap (λ y. status_of (at case world y)) (append-nil p)

-- a directory at the greatest depth has no children
no_children : (case : Case) (world : World) (p : Path) (cs : Children) → AreShort world → 64 ≤ length p + 0 → ((x : Path) → Agrees case world p (Dir cs) x) → cs ≡ Nothing
no_children case world p Nothing short deep agrees = refl
no_children case world p (Child n s cs) short deep agrees =
    let told = (agrees (folded_name case n ∷ [])).same_spelling n (rw (same_name-refl (folded_name case n)) refl) in
    let none = too_deep case world (p ++ folded_name case n ∷ []) short (omega (arith, length-append p (folded_name case n ∷ []))) in
    let t : None ≡ Some n = ap spelling_of (sym none) ∙ told in
    cc

-- a snapshot that agrees at each place below is the scan of so many levels
pub agrees-is_scan : (case : Case) (world : World) (levels : ℕ) (p : Path) (s : Snapshot) → AreShort world → 64 ≤ length p + levels → IsTree case s → ((x : Path) → Agrees case world p s x) → s ≡ scan_down case world levels p
unfolding scan_down
agrees-is_scan case world zero p s short deep tree agrees =
    shallow s (at case world p) Nothing (here case world p s agrees)
    (λ cs e. no_children case world p cs short deep (subst (λ t. (x : Path) → Agrees case world p t x) e agrees))
agrees-is_scan case world (suc levels) p s short deep tree agrees =
    shallow s (at case world p) _ (here case world p s agrees)
    (λ cs e.
    let agrees' : (x : Path) → Agrees case world p (Dir cs) x = subst (λ t. (x : Path) → Agrees case world p t x) e agrees in
    let tree' : IsTree case (Dir cs) = subst (IsTree case) e tree in
    let of : Name → Snapshot = λ n. scan_down case world levels (p ++ folded_name case n ∷ []) in
    listing-names case of cs (tree' []).order
    (λ k n l.
    agrees-is_scan case world levels (p ++ k ∷ []) (child case cs k) short (omega (arith, deep, length-append p (k ∷ []))) (λ x. tree' (k ∷ x)) (below case world p (Dir cs) k agrees')
    ∙ ap (λ m. scan_down case world levels (p ++ m ∷ [])) (sym (listed_folds case cs k n l)))
    ∙ ap (listing of) (same_names case world p cs tree' agrees'))

-- a snapshot that agrees at each place at or below its own is the scan
pub agreeing-scan : (case : Case) (world : World) (p : Path) (s : Snapshot) → AreShort world → IsTree case s → ((x : Path) → Agrees case world p s x) → s ≡ scan case world p
unfolding scan
agreeing-scan case world p s short tree agrees = agrees-is_scan case world 64 p s short (omega arith) tree agrees
