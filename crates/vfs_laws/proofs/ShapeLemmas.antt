-- An invalidation and a store keep the lists of what is retained in shape.
use Rattle.std.proofs.Common.{◌≡◌, ◌≢◌, ◌⊎◌, ℕ, Bool, true, false, cond, not, ◌&&◌, ◌||◌, List, [], ◌∷◌, ◌++◌, length, drop, filter, refl, sym, ap, ◌∙◌, subst, append_assoc, append-nil, inl, inr}
use Rattle.std.proofs.lemmas.Bool.{both_ways, or_parts, or_from, and_from, false_from_ne_true, not-true, not_from_false}
use Rattle.std.specs.declared.cmp.Ordering.TheVariants.{Less}
use Rattle.std.specs.List.{AllByRecursion as Each}
use Rattle.vfs_model.specs.declared.Case.{Case}
use Rattle.vfs_model.specs.Paths.{Name, Path, folded_name, is_same_name, name_order, is_at_or_above, is_related}
use Rattle.vfs_model.specs.World.{AreInOrder}
use Rattle.vfs_model.specs.Snapshot.{Snapshot, Missing, File, Dir, Children, Nothing, Child, child, children_of, names_of, IsTree}
use Rattle.vfs_model.specs.Retained.{Pair, Retained, precedes, insert_pair, pieces_beside, pieces, dirs_from, pairs_left, dirs_left, all_pairs_left, all_dirs_left, after_invalidation, is_covered, ancestors, known_above, after_store, AreInLine, ArePlacesInOrder, IsUncovered, IsInShape}
use Rattle.vfs_laws.proofs.Splits.{split}
use Rattle.vfs_laws.proofs.PathLemmas.{same_name-refl, same_name-true, at_or_above-append, at_or_above-trans}
use Rattle.vfs_laws.proofs.NameLemmas.{each-weaker}
use Rattle.vfs_laws.proofs.OrderLemmas.{precedes-below, precedes-trans, precedes-or, precedes-front, insert_dirs-in_order}
use Rattle.vfs_laws.proofs.FindLemmas.{pairs_left-are}
use Rattle.vfs_laws.proofs.RetainedLemmas.{IsPiece, pieces-are, each-append, each-filter, each-insert_pair, each-insert_dirs, tree-sub, rest-is, all_pairs_left-trees}

-- ---- lists in line

line-append : (rs qs : List Pair) → AreInLine rs → AreInLine qs → Each (λ (r : Pair). Each (λ (q : Pair). precedes r.path q.path ≡ true) qs) rs → AreInLine (rs ++ qs)
line-append [] qs h k e = k
line-append (r ∷ rs) qs h k e = (each-append _ rs qs h.0 e.0, line-append rs qs h.1 k e.1)

line-filter : (t : Pair → Bool) (rs : List Pair) → AreInLine rs → AreInLine (filter t rs)
line-filter t [] h = tt
line-filter t (r ∷ rs) h =
    split (t r)
    (λ s. rw s (each-weaker _ _ (λ q b. b.0) _ (each-filter (λ (q : Pair). precedes r.path q.path ≡ true) t rs h.0), line-filter t rs h.1))
    (λ s. rw s (line-filter t rs h.1))

line-insert : (r : Pair) (rs : List Pair) → AreInLine rs → Each (λ (q : Pair). is_related r.path q.path ≡ false) rs → AreInLine (insert_pair r rs)
line-insert r [] h u = (tt, tt)
line-insert r (q ∷ rs) h u =
    split (precedes r.path q.path)
    (λ s. rw s ((s, each-weaker _ _ (λ (k : Pair) p. precedes-trans r.path q.path k.path s p) rs h.0), h))
    (λ s. rw s (each-insert_pair _ r rs (precedes-or r.path q.path u.0 s) h.0, line-insert r rs h.1 u.1))

-- ---- pieces in line

child_precedes : (case : Case) (p : Path) (a b : Name) → name_order case a b ≡ Less → precedes (p ++ folded_name case a ∷ []) (p ++ folded_name case b ∷ []) ≡ true
child_precedes case p a b e = precedes-front p (folded_name case a ∷ []) (folded_name case b ∷ []) ∙ rw e refl

-- a pair at or below the child n of p
abbrev IsBelow : Path → Name → Pair → Type 0
IsBelow p n q = (z : Path) × (q.path ≡ (p ++ n ∷ []) ++ z)

pieces_beside-after : (case : Case) (p : Path) (name : Name) (cs : Children) (n : Name) (inner : List Pair) → Each (λ m. name_order case name m ≡ Less) (names_of cs) → Each (IsBelow p n) inner
    → Each (λ (q : Pair). precedes (p ++ folded_name case name ∷ []) q.path ≡ true) (pieces_beside case p cs n inner)
pieces_beside-after case p name Nothing n inner h b = tt
pieces_beside-after case p name (Child k s more) n inner h b =
    split (is_same_name (folded_name case k) n)
    (λ e. rw e (each-append _ inner _
    (each-weaker _ _ (λ (q : Pair) t.
    let at_k : precedes (p ++ folded_name case name ∷ []) (p ++ n ∷ []) ≡ true = ap (λ v. precedes (p ++ folded_name case name ∷ []) (p ++ v ∷ [])) (sym (same_name-true (folded_name case k) n e)) ∙ child_precedes case p name k h.0 in
    ap (precedes (p ++ folded_name case name ∷ [])) t.1 ∙ ap (λ v. precedes v ((p ++ n ∷ []) ++ t.0)) (sym (append-nil (p ++ folded_name case name ∷ []))) ∙ precedes-below (p ++ folded_name case name ∷ []) (p ++ n ∷ []) [] t.0 at_k) inner b)
    (pieces_beside-after case p name more n inner h.1 b)))
    (λ e. rw e (child_precedes case p name k h.0, pieces_beside-after case p name more n inner h.1 b))

line-pieces_beside : (case : Case) (p : Path) (cs : Children) (n : Name) (inner : List Pair) → AreInOrder case (names_of cs) → AreInLine inner → Each (IsBelow p n) inner → AreInLine (pieces_beside case p cs n inner)
line-pieces_beside case p Nothing n inner h l b = tt
line-pieces_beside case p (Child name s more) n inner h l b =
    let later = pieces_beside-after case p name more n inner h.0 b in
    let rest = line-pieces_beside case p more n inner h.1 l b in
    split (is_same_name (folded_name case name) n)
    (λ e. rw e (line-append inner _ l rest
    (each-weaker _ _ (λ (q : Pair) t.
    each-weaker _ _ (λ (y : Pair) k.
    ap (λ v. precedes v y.path) (t.1 ∙ ap (λ v. (p ++ v ∷ []) ++ t.0) (sym (same_name-true (folded_name case name) n e)))
    ∙ ap (precedes ((p ++ folded_name case name ∷ []) ++ t.0)) (sym (append-nil y.path))
    ∙ precedes-below (p ++ folded_name case name ∷ []) y.path t.0 [] k) _ later) inner b)))
    (λ e. rw e (later, rest))

pieces-in_line : (case : Case) (p : Path) (s : Snapshot) (x : Path) → IsTree case s → AreInLine (pieces case p s x)
pieces-in_line case p s [] tree = tt
pieces-in_line case p s (n ∷ x) tree =
    let inner_tree = tree-sub case s (n ∷ []) tree in
    line-pieces_beside case p (children_of s) n _ (tree []).order (pieces-in_line case (p ++ n ∷ []) (child case (children_of s) n) x inner_tree)
    (each-weaker _ _ (λ (q : Pair) h. (h.names, h.path_is)) _ (pieces-are case (p ++ n ∷ []) (child case (children_of s) n) x inner_tree))

pairs_left-in_line : (case : Case) (e : Path) (r : Pair) → IsTree case r.snapshot → AreInLine (pairs_left case e r)
pairs_left-in_line case e r tree =
    split (is_at_or_above e r.path)
    (λ s. rw s tt)
    (λ s. split (is_at_or_above r.path e)
    (λ t. rw (s, t) (pieces-in_line case r.path r.snapshot (drop (length r.path) e) tree))
    (λ t. rw (s, t) (tt, tt)))

-- what stays of later pairs comes after a part of an earlier one
left-after : (case : Case) (e : Path) (r x : Pair) (rs : List Pair) → IsPiece case r.path r.snapshot e x → Each (λ (q : Pair). IsTree case q.snapshot) rs → Each (λ (q : Pair). precedes r.path q.path ≡ true) rs
    → Each (λ (y : Pair). precedes x.path y.path ≡ true) (all_pairs_left case e rs)
left-after case e r x [] a trees h = tt
left-after case e r x (q ∷ rs) a trees h =
    each-append _ (pairs_left case e q) _
    (each-weaker _ _ (λ (y : Pair) b. ap (precedes x.path) b.path_is ∙ ap (λ v. precedes v (q.path ++ b.names)) a.path_is ∙ precedes-below r.path q.path a.names b.names h.0) _ (pairs_left-are case e q trees.0))
    (left-after case e r x rs a trees.1 h.1)

after_invalidation-in_line : (case : Case) (e : Path) (rs : List Pair) → Each (λ (q : Pair). IsTree case q.snapshot) rs → AreInLine rs → AreInLine (all_pairs_left case e rs)
after_invalidation-in_line case e [] trees h = tt
after_invalidation-in_line case e (r ∷ rs) trees h =
    line-append (pairs_left case e r) _ (pairs_left-in_line case e r trees.0) (after_invalidation-in_line case e rs trees.1 h.1)
    (each-weaker _ _ (λ (x : Pair) a. left-after case e r x rs a trees.1 h.0) _ (pairs_left-are case e r trees.0))

-- ---- directories

places-filter : (t : Path → Bool) (ds : List Path) → ArePlacesInOrder ds → ArePlacesInOrder (filter t ds)
places-filter t [] h = tt
places-filter t (d ∷ ds) h =
    split (t d)
    (λ s. rw s (each-weaker _ _ (λ q b. b.0) _ (each-filter _ t ds h.0), places-filter t ds h.1))
    (λ s. rw s (places-filter t ds h.1))

all_dirs_left-in_order : (case : Case) (e : Path) (rs : List Pair) (ds : List Path) → ArePlacesInOrder ds → ArePlacesInOrder (all_dirs_left case e rs ds)
all_dirs_left-in_order case e [] ds h = places-filter _ ds h
all_dirs_left-in_order case e (r ∷ rs) ds h = insert_dirs-in_order (dirs_left case e r) _ (all_dirs_left-in_order case e rs ds h)

dirs_from-above : (case : Case) (p : Path) (s : Snapshot) (x : Path) → Each (λ d. is_at_or_above d (p ++ x) ≡ true) (dirs_from case p s x)
dirs_from-above case p s [] = tt
dirs_from-above case p Missing (n ∷ x) = tt
dirs_from-above case p (File digest) (n ∷ x) = tt
dirs_from-above case p (Dir cs) (n ∷ x) =
    (at_or_above-append p (n ∷ x), subst (λ z. Each (λ d. is_at_or_above d z ≡ true) (dirs_from case (p ++ n ∷ []) (child case cs n) x)) (append_assoc p (n ∷ []) x) (dirs_from-above case (p ++ n ∷ []) (child case cs n) x))

dirs_left-above : (case : Case) (e : Path) (r : Pair) → Each (λ d. is_at_or_above d e ≡ true) (dirs_left case e r)
dirs_left-above case e r =
    split (is_at_or_above r.path e)
    (λ t. rw t (subst (λ z. Each (λ d. is_at_or_above d z ≡ true) (dirs_from case r.path r.snapshot (drop (length r.path) e))) (rest-is r.path e t) (dirs_from-above case r.path r.snapshot (drop (length r.path) e))))
    (λ t. rw t tt)

-- no pair that stays is at or above a place above e, nor at or above a place that none was at or above
left-unrelated : (case : Case) (e : Path) (rs : List Pair) → Each (λ (q : Pair). IsTree case q.snapshot) rs → Each (λ (q : Pair). is_related e q.path ≡ false) (all_pairs_left case e rs)
left-unrelated case e [] trees = tt
left-unrelated case e (r ∷ rs) trees = each-append _ (pairs_left case e r) _ (each-weaker _ _ (λ (q : Pair) h. h.unrelated) _ (pairs_left-are case e r trees.0)) (left-unrelated case e rs trees.1)

new-uncovered : (case : Case) (e : Path) (rs : List Pair) (d : Path) → Each (λ (q : Pair). IsTree case q.snapshot) rs → is_at_or_above d e ≡ true → IsUncovered (all_pairs_left case e rs) d
new-uncovered case e rs d trees up =
    each-weaker _ _ (λ (q : Pair) off. false_from_ne_true _ (λ on. both_ways _ (or_parts _ _ off).1 (at_or_above-trans q.path d e on up))) _ (left-unrelated case e rs trees)

old-uncovered : (case : Case) (e : Path) (rs : List Pair) (d : Path) → Each (λ (q : Pair). IsTree case q.snapshot) rs → IsUncovered rs d → IsUncovered (all_pairs_left case e rs) d
old-uncovered case e [] d trees h = tt
old-uncovered case e (r ∷ rs) d trees h =
    each-append _ (pairs_left case e r) _
    (each-weaker _ _ (λ (q : Pair) a. false_from_ne_true _ (λ on. both_ways _ h.0 (at_or_above-trans r.path q.path d (ap (is_at_or_above r.path) a.path_is ∙ at_or_above-append r.path a.names) on))) _ (pairs_left-are case e r trees.0))
    (old-uncovered case e rs d trees.1 h.1)

dirs-uncovered : (case : Case) (e : Path) (all rs : List Pair) (ds : List Path) → Each (λ (q : Pair). IsTree case q.snapshot) all → Each (IsUncovered all) ds → Each (IsUncovered (all_pairs_left case e all)) (all_dirs_left case e rs ds)
dirs-uncovered case e all [] ds trees h = each-weaker _ _ (λ d b. old-uncovered case e all d trees b.0) _ (each-filter (IsUncovered all) (λ d. not (is_at_or_above e d)) ds h)
dirs-uncovered case e all (r ∷ rs) ds trees h =
    each-insert_dirs _ (dirs_left case e r) _ (each-weaker _ _ (λ d up. new-uncovered case e all d trees up) _ (dirs_left-above case e r)) (dirs-uncovered case e all rs ds trees h)

-- an invalidation keeps the lists in shape
pub after_invalidation-in_shape : (case : Case) (e : Path) (retained : Retained) → IsInShape case retained → IsInShape case (after_invalidation case e retained)
after_invalidation-in_shape case e retained h = record {
  pairs = after_invalidation-in_line case e retained.pairs h.trees h.pairs;
  trees = all_pairs_left-trees case e retained.pairs h.trees;
  dirs = all_dirs_left-in_order case e retained.pairs retained.dirs h.dirs;
  uncovered = dirs-uncovered case e retained.pairs retained.pairs retained.dirs h.trees h.uncovered;
}

-- ---- a store

free-unrelated : (p : Path) (rs : List Pair) → is_covered rs p ≡ false → Each (λ (q : Pair). is_related p q.path ≡ false) (filter (λ (r : Pair). not (is_at_or_above p r.path)) rs)
free-unrelated p [] free = tt
free-unrelated p (r ∷ rs) free =
    split (is_at_or_above p r.path)
    (λ t. rw t (free-unrelated p rs (or_parts _ _ free).1))
    (λ t. rw t (
      or_from _ _ t (false_from_ne_true _ (λ u. both_ways _ (or_parts _ _ free).0 (and_from _ _ u (not_from_false _ t)))),
      free-unrelated p rs (or_parts _ _ free).1,
    ))

ancestors-off : (p : Path) → Each (λ d. (is_at_or_above d p ≡ true) × (is_at_or_above p d ≡ false)) (ancestors p)
ancestors-off [] = tt
ancestors-off (n ∷ x) = ((refl, refl), by (ancestors x) (ancestors-off x))
  where
    by : (ds : List Path) → Each (λ d. (is_at_or_above d x ≡ true) × (is_at_or_above x d ≡ false)) ds → Each (λ d. (is_at_or_above d (n ∷ x) ≡ true) × (is_at_or_above (n ∷ x) d ≡ false)) (Rattle.std.proofs.Common.map (λ d. n ∷ d) ds)
    by [] h = tt
    by (d ∷ ds) h = ((rw (same_name-refl n) h.0.0, rw (same_name-refl n) h.0.1), by ds h.1)

known-off : (p : Path) (s : Snapshot) → Each (λ d. (is_at_or_above d p ≡ true) × (is_at_or_above p d ≡ false)) (known_above p s)
known-off p Missing = tt
known-off p (File digest) = ancestors-off p
known-off p (Dir cs) = ancestors-off p

-- a store of a tree keeps the lists in shape
pub after_store-in_shape : (case : Case) (p : Path) (s : Snapshot) (retained : Retained) → IsTree case s → IsInShape case retained → IsInShape case (after_store p s retained)
after_store-in_shape case p s retained tree h =
    split (is_covered retained.pairs p)
    (λ t. rw t h)
    (λ t. rw t (record {
      pairs = line-insert new (kept retained.pairs) (line-filter _ retained.pairs h.pairs) (free-unrelated p retained.pairs t);
      trees = each-insert_pair _ new _ tree (each-weaker _ _ (λ r b. b.0) _ (each-filter (λ (r : Pair). IsTree case r.snapshot) _ retained.pairs h.trees));
      dirs = insert_dirs-in_order (known_above p s) _ (places-filter _ retained.dirs h.dirs);
      uncovered = each-insert_dirs (IsUncovered (insert_pair new (kept retained.pairs))) (known_above p s) _
          (each-weaker _ _ (λ d k. each-insert_pair _ new _ k.1 (each-weaker _ _ (λ (q : Pair) off. false_from_ne_true _ (λ on. both_ways _ (or_parts _ _ off).1 (at_or_above-trans q.path d p on k.0))) _ (free-unrelated p retained.pairs t))) _ (known-off p s))
          (each-weaker _ _ (λ d b. each-insert_pair _ new _ (not-true _ b.1) (each-weaker _ _ (λ (q : Pair) c. c.0) _ (each-filter (λ (r : Pair). is_at_or_above r.path d ≡ false) _ retained.pairs b.0))) _ (each-filter (IsUncovered retained.pairs) _ retained.dirs h.uncovered));
    }))
  where
    new : Pair
    new = record { path = p; snapshot = s }

    kept : List Pair → List Pair
    kept rs = filter (λ (r : Pair). not (is_at_or_above p r.path)) rs
