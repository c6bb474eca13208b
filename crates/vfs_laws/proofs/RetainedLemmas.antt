-- What an invalidation and a store leave.
use Rattle.std.proofs.Common.{◌≡◌, ℕ, zero, suc, Bool, true, false, not, List, [], ◌∷◌, ◌++◌, length, drop, filter, refl, sym, ap, ◌∙◌, subst, Some, append_assoc, append-nil}
use Rattle.std.proofs.lemmas.Bool.{both_ways, or_from, false_from_ne_true, not-true}
use Rattle.std.specs.List.{AllByRecursion as Each}
use Rattle.std.proofs.Math.Seq.{drop-append_seam}
use Rattle.vfs_model.specs.declared.Case.{Case}
use Rattle.vfs_model.specs.Paths.{Name, Path, folded_name, is_same_name, is_at_or_above, is_related}
use Rattle.vfs_model.specs.World.{World, at, AreInOrder, IsDir, status_of, spelling_of}
use Rattle.vfs_model.specs.Snapshot.{Snapshot, Missing, File, Dir, Children, Nothing, Child, child, children_of, listed_name, sub, told_name, status, names_of, IsTree, IsListing}
use Rattle.vfs_model.specs.Scan.{Agrees}
use Rattle.vfs_model.specs.Retained.{Pair, precedes, insert_pair, insert_dirs, pieces_beside, pieces, dirs_from, pairs_left, dirs_left, all_pairs_left, all_dirs_left}
use Rattle.vfs_model.specs.Sound.{IsCurrent, IsStillDir}
use Rattle.vfs_laws.proofs.Splits.{split}
use Rattle.vfs_laws.proofs.PathLemmas.{same_name-refl, same_name-true, at_or_above-append, rest_of, above_both}
use Rattle.vfs_laws.proofs.NameLemmas.{each-weaker}
use Rattle.vfs_laws.proofs.OrderLemmas.{each-insert_dir}
use Rattle.vfs_laws.proofs.ScanLemmas.{children-head, children-tail}

-- ---- each of a list

-- what holds of each of two lists holds of each of both
pub each-append : {X : Type 0} (P : X → Type 0) (xs ys : List X) → Each P xs → Each P ys → Each P (xs ++ ys)
each-append P [] ys h k = k
each-append P (x ∷ xs) ys h k = (h.0, each-append P xs ys h.1 k)

-- what holds of each holds of each that a filter leaves, and the test too
pub each-filter : {X : Type 0} (P : X → Type 0) (t : X → Bool) (xs : List X) → Each P xs → Each (λ x. P x × (t x ≡ true)) (filter t xs)
each-filter P t [] h = tt
each-filter P t (x ∷ xs) h =
    split (t x)
    (λ e. rw e ((h.0, e), each-filter P t xs h.1))
    (λ e. rw e (each-filter P t xs h.1))

-- what holds of each holds of each that is not dropped
pub each-drop : {X : Type 0} (P : X → Type 0) (n : ℕ) (xs : List X) → Each P xs → Each P (drop n xs)
each-drop P zero xs h = h
each-drop P (suc n) [] h = tt
each-drop P (suc n) (x ∷ xs) h = each-drop P n xs h.1

-- what holds of a pair and of each of the list holds of each once it is inserted
pub each-insert_pair : (P : Pair → Type 0) (r : Pair) (rs : List Pair) → P r → Each P rs → Each P (insert_pair r rs)
each-insert_pair P r [] h k = (h, tt)
each-insert_pair P r (q ∷ rest) h k =
    split (precedes r.path q.path)
    (λ e. rw e (h, k))
    (λ e. rw e (k.0, each-insert_pair P r rest h k.1))

-- what holds of places and of each of the list holds of each once they are inserted
pub each-insert_dirs : (P : Path → Type 0) (new ds : List Path) → Each P new → Each P ds → Each P (insert_dirs new ds)
each-insert_dirs P [] ds h k = k
each-insert_dirs P (d ∷ new) ds h k = each-insert_dir P d _ h.0 (each-insert_dirs P new ds h.1 k)

-- ---- parts of snapshots

-- what a snapshot says of names and more names, it says by its part at the names
pub sub-append : (case : Case) (s : Snapshot) (x y : Path) → sub case s (x ++ y) ≡ sub case (sub case s x) y
sub-append case s [] y = refl
sub-append case s (n ∷ x) y = sub-append case (child case (children_of s) n) x y

told_name-append : (case : Case) (s : Snapshot) (x y : Path) (n : Name) → told_name case (sub case s x) y ≡ Some n → told_name case s (x ++ y) ≡ Some n
told_name-append case s [] y n e = e
told_name-append case s (m ∷ []) [] n e = cc
told_name-append case s (m ∷ []) (k ∷ y) n e = e
told_name-append case s (m ∷ o ∷ x) y n e = told_name-append case (child case (children_of s) m) (o ∷ x) y n e

-- a part of a tree is a tree
pub tree-sub : (case : Case) (s : Snapshot) (x : Path) → IsTree case s → IsTree case (sub case s x)
tree-sub case s x tree y = subst (λ t. IsListing case (children_of t)) (sub-append case s x y) (tree (x ++ y))

-- what is so of a snapshot is so of its parts
pub agrees-sub : (case : Case) (world : World) (p : Path) (s : Snapshot) (x y : Path) → Agrees case world p s (x ++ y) → Agrees case world (p ++ x) (sub case s x) y
agrees-sub case world p s x y h = record {
  same_kind = ap status (sym (sub-append case s x y)) ∙ h.same_kind ∙ ap (λ z. status_of (at case world z)) (sym (append_assoc p x y));
  same_spelling = λ n e. ap (λ z. spelling_of (at case world z)) (append_assoc p x y) ∙ h.same_spelling n (told_name-append case s x y n e);
}

-- ---- the pieces of a snapshot

-- a pair with a part of the snapshot of p, that has nothing to do with e
pub record IsPiece (case : Case) (p : Path) (s : Snapshot) (e : Path) (r : Pair) : Type 0 where
  pub names : Path
  pub path_is : r.path ≡ p ++ names
  pub snapshot_is : r.snapshot ≡ sub case s names
  pub unrelated : is_related e r.path ≡ false

each-pieces_beside : (case : Case) (P : Pair → Type 0) (p : Path) (cs : Children) (n : Name) (inner : List Pair) → AreInOrder case (names_of cs)
    → ((k m : Name) → listed_name case cs k ≡ Some m → is_same_name k n ≡ false → P (record { path = p ++ k ∷ []; snapshot = child case cs k })) → Each P inner → Each P (pieces_beside case p cs n inner)
each-pieces_beside case P p Nothing n inner h each i = tt
each-pieces_beside case P p (Child name s more) n inner h each i =
    let Q : Name → Name → Snapshot → Type 0 = λ k m t. is_same_name k n ≡ false → P (record { path = p ++ k ∷ []; snapshot = t }) in
    let rest = each-pieces_beside case P p more n inner h.1 (children-tail case Q name s more h each) i in
    split (is_same_name (folded_name case name) n)
    (λ e. rw e (each-append P inner _ i rest))
    (λ e. rw e (children-head case Q name s more each e, rest))

unrelated_names : (p x y : Path) (k n : Name) → is_same_name k n ≡ false → is_related (p ++ n ∷ x) (p ++ k ∷ y) ≡ false
unrelated_names [] x y k n e =
    let f : is_same_name n k ≡ false = false_from_ne_true _ (λ u. both_ways (is_same_name k n) e (ap (is_same_name k) (same_name-true n k u) ∙ same_name-refl k)) in
    rw (e, f) refl
unrelated_names (a ∷ p) x y k n e = rw (same_name-refl a) (unrelated_names p x y k n e)

-- each piece is a part of the snapshot that is not related to the place
pub pieces-are : (case : Case) (p : Path) (s : Snapshot) (x : Path) → IsTree case s → Each (IsPiece case p s (p ++ x)) (pieces case p s x)
pieces-are case p s [] tree = tt
pieces-are case p s (n ∷ x) tree =
    each-pieces_beside case (IsPiece case p s (p ++ n ∷ x)) p (children_of s) n _ (tree []).order
    (λ k m l e. record { names = k ∷ []; path_is = refl; snapshot_is = refl; unrelated = unrelated_names p x [] k n e })
    (each-weaker _ _ deeper _ (pieces-are case (p ++ n ∷ []) (child case (children_of s) n) x (tree-sub case s (n ∷ []) tree)))
  where
    deeper : (r : Pair) → IsPiece case (p ++ n ∷ []) (child case (children_of s) n) ((p ++ n ∷ []) ++ x) r → IsPiece case p s (p ++ n ∷ x) r
    deeper r h = record {
      names = n ∷ h.names;
      path_is = h.path_is ∙ append_assoc p (n ∷ []) h.names;
      snapshot_is = h.snapshot_is;
      unrelated = ap (λ z. is_related z r.path) (sym (append_assoc p (n ∷ []) x)) ∙ h.unrelated;
    }

-- ---- an invalidation keeps what is current

-- nothing below a place that has nothing to do with e is at or below e
pub quiet : (e q x : Path) → is_related e q ≡ false → is_at_or_above e (q ++ x) ≡ false
quiet e q x h = false_from_ne_true _ (λ u. both_ways (is_related e q) h (above_both e q (q ++ x) u (at_or_above-append q x)))

-- the events without the first one, which was at e
pub record IsDelivered (case : Case) (e : Path) (before after : Path → Bool) : Type 0 where
  pub misses : (x : Path) → is_at_or_above e x ≡ false → after x ≡ false → before x ≡ false

pieces-current : (case : Case) (world : World) (before after : Path → Bool) (e : Path) (r q : Pair) → IsDelivered case e before after
    → IsCurrent case before world r → IsPiece case r.path r.snapshot e q → IsCurrent case after world q
pieces-current case world before after e r q delivered current piece x miss =
    let miss' : before (r.path ++ (piece.names ++ x)) ≡ false =
    ap before (sym (append_assoc r.path piece.names x) ∙ ap (λ z. z ++ x) (sym piece.path_is))
    ∙ delivered.misses (q.path ++ x) (quiet e q.path x piece.unrelated) miss in
    let found = agrees-sub case world r.path r.snapshot piece.names x (current (piece.names ++ x) miss') in
    subst (λ (t : Path × Snapshot). Agrees case world t.0 t.1 x) (λ i. (sym piece.path_is i, sym piece.snapshot_is i)) found

-- what lies at or below a place is the place and the rest of the names
pub rest-is : (p e : Path) → is_at_or_above p e ≡ true → p ++ drop (length p) e ≡ e
rest-is p e h =
    let (rest, same) = rest_of p e h in
    ap (λ z. p ++ drop (length p) z) same ∙ ap (λ z. p ++ z) (drop-append_seam p rest) ∙ sym same

pairs_left-current : (case : Case) (world : World) (before after : Path → Bool) (e : Path) → IsDelivered case e before after
    → (r : Pair) → IsTree case r.snapshot → IsCurrent case before world r → Each (IsCurrent case after world) (pairs_left case e r)
pairs_left-current case world before after e delivered r tree current =
    split (is_at_or_above e r.path)
    (λ s. rw s tt)
    (λ s. split (is_at_or_above r.path e)
    (λ t. rw (s, t)
    (each-weaker (IsPiece case r.path r.snapshot e) _ (λ q. pieces-current case world before after e r q delivered current) _
    (subst (λ z. Each (IsPiece case r.path r.snapshot z) (pieces case r.path r.snapshot (drop (length r.path) e))) (rest-is r.path e t)
    (pieces-are case r.path r.snapshot (drop (length r.path) e) tree))))
    (λ t. rw (s, t) (λ x miss. current x (delivered.misses (r.path ++ x) (quiet e r.path x (or_from _ _ s t)) miss), tt)))

-- an invalidation leaves pairs that agree with the world, where the event waits no more
pub all_pairs_left-current : (case : Case) (world : World) (before after : Path → Bool) (e : Path) → IsDelivered case e before after
    → (rs : List Pair) → Each (λ (r : Pair). IsTree case r.snapshot) rs → Each (IsCurrent case before world) rs → Each (IsCurrent case after world) (all_pairs_left case e rs)
all_pairs_left-current case world before after e delivered [] trees current = tt
all_pairs_left-current case world before after e delivered (r ∷ rs) trees current =
    each-append _ (pairs_left case e r) _ (pairs_left-current case world before after e delivered r trees.0 current.0)
    (all_pairs_left-current case world before after e delivered rs trees.1 current.1)

-- ---- the directories of an invalidation

above-not_below : (d x : Path) (n : Name) → is_at_or_above (d ++ n ∷ x) d ≡ false
above-not_below [] x n = refl
above-not_below (a ∷ d) x n = rw (same_name-refl a) (above-not_below d x n)

-- a place that a snapshot of p calls a directory, and that is not at or below e
pub record IsDirOf (case : Case) (p : Path) (s : Snapshot) (e : Path) (d : Path) : Type 0 where
  pub names : Path
  pub path_is : d ≡ p ++ names
  pub dir : status (sub case s names) ≡ IsDir
  pub above : is_at_or_above e d ≡ false

-- each of these places is a directory by the snapshot, strictly above the place
pub dirs-are : (case : Case) (p : Path) (s : Snapshot) (x : Path) → Each (IsDirOf case p s (p ++ x)) (dirs_from case p s x)
dirs-are case p s [] = tt
dirs-are case p Missing (n ∷ x) = tt
dirs-are case p (File digest) (n ∷ x) = tt
dirs-are case p (Dir cs) (n ∷ x) = (
  record { names = []; path_is = sym (append-nil p); dir = refl; above = above-not_below p x n },
  each-weaker _ _ deeper _ (dirs-are case (p ++ n ∷ []) (child case cs n) x),
)
  where
    deeper : (d : Path) → IsDirOf case (p ++ n ∷ []) (child case cs n) ((p ++ n ∷ []) ++ x) d → IsDirOf case p (Dir cs) (p ++ n ∷ x) d
    deeper d h = record {
      names = n ∷ h.names;
      path_is = h.path_is ∙ append_assoc p (n ∷ []) h.names;
      dir = h.dir;
      above = ap (λ z. is_at_or_above z d) (sym (append_assoc p (n ∷ []) x)) ∙ h.above;
    }

dirs_left-still : (case : Case) (world : World) (before after : Path → Bool) (e : Path) → IsDelivered case e before after
    → (r : Pair) → IsCurrent case before world r → Each (IsStillDir case after world) (dirs_left case e r)
dirs_left-still case world before after e delivered r current =
    split (is_at_or_above r.path e)
    (λ t. rw t
    (each-weaker (IsDirOf case r.path r.snapshot e) _ still _
    (subst (λ z. Each (IsDirOf case r.path r.snapshot z) (dirs_from case r.path r.snapshot (drop (length r.path) e))) (rest-is r.path e t)
    (dirs-are case r.path r.snapshot (drop (length r.path) e)))))
    (λ t. rw t tt)
  where
    still : (d : Path) → IsDirOf case r.path r.snapshot e d → IsStillDir case after world d
    still d h miss =
        let found = current h.names (ap before (sym h.path_is) ∙ delivered.misses d h.above miss) in
        ap (λ z. status_of (at case world z)) h.path_is ∙ sym found.same_kind ∙ h.dir

-- an invalidation leaves known directories that are directories, where the event waits no more
pub all_dirs_left-still : (case : Case) (world : World) (before after : Path → Bool) (e : Path) → IsDelivered case e before after
    → (rs : List Pair) (ds : List Path) → Each (IsCurrent case before world) rs → Each (IsStillDir case before world) ds → Each (IsStillDir case after world) (all_dirs_left case e rs ds)
all_dirs_left-still case world before after e delivered [] ds current still =
    each-weaker _ _ (λ d h miss. h.0 (delivered.misses d (not-true _ h.1) miss)) _ (each-filter _ (λ d. not (is_at_or_above e d)) ds still)
all_dirs_left-still case world before after e delivered (r ∷ rs) ds current still =
    each-insert_dirs _ (dirs_left case e r) _ (dirs_left-still case world before after e delivered r current.0)
    (all_dirs_left-still case world before after e delivered rs ds current.1 still)

-- ---- snapshots stay trees

-- an invalidation leaves trees
pub all_pairs_left-trees : (case : Case) (e : Path) (rs : List Pair) → Each (λ (r : Pair). IsTree case r.snapshot) rs → Each (λ (r : Pair). IsTree case r.snapshot) (all_pairs_left case e rs)
all_pairs_left-trees case e [] trees = tt
all_pairs_left-trees case e (r ∷ rs) trees =
    each-append _ (pairs_left case e r) _
    (split (is_at_or_above e r.path)
    (λ s. rw s tt)
    (λ s. split (is_at_or_above r.path e)
    (λ t. rw (s, t) (each-weaker _ _ (λ (q : Pair) h. subst (IsTree case) (sym h.snapshot_is) (tree-sub case r.snapshot h.names trees.0)) _ (pieces-are case r.path r.snapshot (drop (length r.path) e) trees.0)))
    (λ t. rw (s, t) (trees.0, tt))))
    (all_pairs_left-trees case e rs trees.1)
