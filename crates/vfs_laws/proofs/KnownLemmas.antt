-- A store makes the directories above it known, and those above an invalidation stay known.
use Rattle.std.proofs.Common.{◌≡◌, ◌≢◌, true, false, Bool, ◌||◌, not, List, [], ◌∷◌, ◌++◌, length, map, drop, filter, refl, sym, ap, ◌∙◌, subst, Option, Some, None, append_assoc, append-nil}
use Rattle.std.proofs.lemmas.Bool.{both_ways, true≢false, or_left, or_right, or_parts, and_from, false_from_ne_true, not_from_false, or_cases}
use Rattle.std.specs.List.{AllByRecursion as Each}
use Rattle.std.proofs.Math.Seq.{drop-append_seam}
use Rattle.vfs_model.specs.declared.Case.{Case}
use Rattle.vfs_model.specs.declared.Kind.TheVariants.{Dir as DirKind}
use Rattle.vfs_model.specs.Paths.{Name, Path, is_at_or_above, is_same_place}
use Rattle.vfs_model.specs.World.{kind_of_status}
use Rattle.vfs_model.specs.Snapshot.{Snapshot, Missing, File, Dir, child, sub, status, IsTree}
use Rattle.vfs_model.specs.Retained.{Pair, Retained, part_of, is_known, kind_or, kind_of, place_order, insert_dir, insert_dirs, dirs_from, dirs_left, all_pairs_left, all_dirs_left, after_invalidation, is_covered, ancestors, known_above, after_store}
use Rattle.vfs_laws.proofs.Splits.{split, split_or, split_option}
use Rattle.vfs_laws.proofs.PathLemmas.{same_name-refl, same_place-true, same_place-refl, at_or_above-trans, at_or_above-append}
use Rattle.vfs_laws.proofs.NameLemmas.{split_order, some-is}
use Rattle.vfs_laws.proofs.OrderLemmas.{place_order-equal}
use Rattle.vfs_laws.proofs.RetainedLemmas.{rest-is}
use Rattle.vfs_laws.proofs.FindLemmas.{after_invalidation-related, after_store-elsewhere}

-- ---- membership in the list of directories

insert_dir-new : (e : Path) (dirs : List Path) → is_known (insert_dir e dirs) e ≡ true
insert_dir-new e [] = or_left _ _ (same_place-refl e)
insert_dir-new e (q ∷ rest) =
    split_order (place_order e q)
    (λ o. rw o (or_left _ _ (same_place-refl e)))
    (λ o. rw o (or_left _ _ (same_place-refl e)))
    (λ o. rw o (or_right _ _ (insert_dir-new e rest)))

insert_dir-old : (e d : Path) (dirs : List Path) → is_known dirs d ≡ true → is_known (insert_dir e dirs) d ≡ true
insert_dir-old e d [] h = absurd (true≢false (sym h))
insert_dir-old e d (q ∷ rest) h =
    split_order (place_order e q)
    (λ o. rw o (or_right _ _ h))
    (λ o. rw o (ap (λ z. is_same_place z d || is_known rest d) (place_order-equal e q o) ∙ h))
    (λ o. rw o (split_or (or_cases _ _ h) (λ a. or_left _ _ a) (λ b. or_right _ _ (insert_dir-old e d rest b))))

insert_dirs-old : (ds : List Path) (d : Path) (dirs : List Path) → is_known dirs d ≡ true → is_known (insert_dirs ds dirs) d ≡ true
insert_dirs-old [] d dirs h = h
insert_dirs-old (e ∷ ds) d dirs h = insert_dir-old e d (insert_dirs ds dirs) (insert_dirs-old ds d dirs h)

insert_dirs-new : (ds : List Path) (d : Path) (dirs : List Path) → is_known ds d ≡ true → is_known (insert_dirs ds dirs) d ≡ true
insert_dirs-new [] d dirs h = absurd (true≢false (sym h))
insert_dirs-new (e ∷ ds) d dirs h =
    split_or (or_cases _ _ h)
    (λ a. subst (λ z. is_known (insert_dir e (insert_dirs ds dirs)) z ≡ true) (same_place-true e d a) (insert_dir-new e (insert_dirs ds dirs)))
    (λ b. insert_dir-old e d (insert_dirs ds dirs) (insert_dirs-new ds d dirs b))

known-mapped : (n : Name) (ds : List Path) (d : Path) → is_known ds d ≡ true → is_known (map (λ x. n ∷ x) ds) (n ∷ d) ≡ true
known-mapped n [] d h = absurd (true≢false (sym h))
known-mapped n (e ∷ ds) d h =
    split_or (or_cases _ _ h)
    (λ a. or_left _ _ (ap (λ z. is_same_place (n ∷ e) (n ∷ z)) (sym (same_place-true e d a)) ∙ same_place-refl (n ∷ e)))
    (λ b. or_right _ _ (known-mapped n ds d b))

-- the places strictly above one
ancestors-known : (d : Path) (n : Name) (r : Path) → is_known (ancestors (d ++ n ∷ r)) d ≡ true
ancestors-known [] n r = refl
ancestors-known (m ∷ d) n r = or_right (is_same_place [] (m ∷ d)) (is_known (map (λ x. m ∷ x) (ancestors (d ++ n ∷ r))) (m ∷ d)) (known-mapped m (ancestors (d ++ n ∷ r)) d (ancestors-known d n r))

-- ---- a store

uncovered-above : (pairs : List Pair) (case : Case) (p d : Path) → is_covered pairs p ≡ false → is_at_or_above d p ≡ true → is_at_or_above p d ≡ false → part_of case pairs d ≡ None
uncovered-above [] case p d free on off = refl
uncovered-above (r ∷ pairs) case p d free on off =
    let parts = or_parts _ _ free in
    let apart : is_at_or_above r.path d ≡ false = false_from_ne_true _ (λ u. both_ways _ parts.0 (and_from _ _ (at_or_above-trans r.path d p u on) (not_from_false _ (false_from_ne_true _ (λ v. both_ways _ off (at_or_above-trans p r.path d v u)))))) in
    rw apart (uncovered-above pairs case p d parts.1 on off)

known-kind : (case : Case) (retained : Retained) (d : Path) → part_of case retained.pairs d ≡ None → is_known retained.dirs d ≡ true → kind_of case retained d ≡ Some DirKind
known-kind case retained d none known = ap (λ o. kind_or o (is_known retained.dirs d)) none ∙ ap (kind_or None) known

above-known : (p : Path) (s : Snapshot) (d : Path) (n : Name) (r : Path) → s ≢ Missing → p ≡ d ++ n ∷ r → is_known (known_above p s) d ≡ true
above-known p Missing d n r there is = absurd (there refl)
above-known p (File digest) d n r there is = ap (λ z. is_known (ancestors z) d) is ∙ ancestors-known d n r
above-known p (Dir children) d n r there is = ap (λ z. is_known (ancestors z) d) is ∙ ancestors-known d n r

-- the places strictly above what is stored are known to be directories
pub after_store-known : (case : Case) (d : Path) (n : Name) (r : Path) (s : Snapshot) (retained : Retained) → is_covered retained.pairs (d ++ n ∷ r) ≡ false → s ≢ Missing → kind_of case (after_store (d ++ n ∷ r) s retained) d ≡ Some DirKind
after_store-known case d n r s retained free there =
    known-kind case (after_store p s retained) d
    (after_store-elsewhere case p s retained d off ∙ uncovered-above retained.pairs case p d free (at_or_above-append d (n ∷ r)) off)
    (rw free (insert_dirs-new (known_above p s) d _ (above-known p s d n r there refl)))
  where
    p : Path
    p = d ++ n ∷ r

    longer : (d : Path) → is_at_or_above (d ++ n ∷ r) d ≡ false
    longer [] = refl
    longer (m ∷ d) = rw (same_name-refl m) (longer d)

    off : is_at_or_above p d ≡ false
    off = longer d

-- ---- an invalidation

-- the places from p on that the snapshot calls a directory
from-known : (case : Case) (p : Path) (s : Snapshot) (z : Path) (n : Name) (r : Path) → kind_of_status (status (sub case s z)) ≡ DirKind → is_known (dirs_from case p s (z ++ n ∷ r)) (p ++ z) ≡ true
from-known case p Missing [] n r h = cc
from-known case p (File digest) [] n r h = cc
from-known case p (Dir children) [] n r h = or_left _ _ (ap (is_same_place p) (append-nil p) ∙ same_place-refl p)
from-known case p Missing (k ∷ z) n r h = absurd (no z (h))
  where
    no : (z : Path) → kind_of_status (status (sub case Missing z)) ≡ DirKind → ⊥
    no [] h = cc
    no (k ∷ z) h = no z h
from-known case p (File digest) (k ∷ z) n r h = absurd (no z (h))
  where
    no : (z : Path) → kind_of_status (status (sub case Missing z)) ≡ DirKind → ⊥
    no [] h = cc
    no (k ∷ z) h = no z h
from-known case p (Dir children) (k ∷ z) n r h =
    or_right _ _ (subst (λ y. is_known (dirs_from case (p ++ k ∷ []) (child case children k) (z ++ n ∷ r)) y ≡ true) (append_assoc p (k ∷ []) z) (from-known case (p ++ k ∷ []) (child case children k) z n r h))

filter-known : (e : Path) (dirs : List Path) (d : Path) → is_at_or_above e d ≡ false → is_known dirs d ≡ true → is_known (filter (λ q. not (is_at_or_above e q)) dirs) d ≡ true
filter-known e [] d off h = absurd (true≢false (sym h))
filter-known e (q ∷ dirs) d off h =
    split_or (or_cases _ _ h)
    (λ a. let q_off : is_at_or_above e q ≡ false = ap (is_at_or_above e) (same_place-true q d a) ∙ off in rw q_off (or_left _ _ a))
    (λ b. split (is_at_or_above e q) (λ t. rw t (filter-known e dirs d off b)) (λ t. rw t (or_right _ _ (filter-known e dirs d off b))))

kind-from : (o : Option Snapshot) (b : Bool) (f : Snapshot) → o ≡ Some f → kind_or o b ≡ Some DirKind → kind_of_status (status f) ≡ DirKind
kind-from None b f e h = cc
kind-from (Some g) b f e h = ap (λ t. kind_of_status (status t)) (sym (some-is g f e)) ∙ some-is _ DirKind h

kind-none : (o : Option Snapshot) (b : Bool) → o ≡ None → kind_or o b ≡ Some DirKind → b ≡ true
kind-none None true e h = refl
kind-none None false e h = cc
kind-none (Some g) b e h = cc

dirs-stay : (case : Case) (d : Path) (n : Name) (r : Path) (pairs : List Pair) (dirs : List Path) → kind_or (part_of case pairs d) (is_known dirs d) ≡ Some DirKind → is_known (all_dirs_left case (d ++ n ∷ r) pairs dirs) d ≡ true
dirs-stay case d n r [] dirs h = filter-known (d ++ n ∷ r) dirs d (longer d) (kind-none None (is_known dirs d) refl h)
  where
    longer : (d : Path) → is_at_or_above (d ++ n ∷ r) d ≡ false
    longer [] = refl
    longer (m ∷ d) = rw (same_name-refl m) (longer d)
dirs-stay case d n r (q ∷ pairs) dirs h =
    split (is_at_or_above q.path d)
    (λ on.
    let z = drop (length q.path) d in
    let d_is : q.path ++ z ≡ d = rest-is q.path d on in
    let e_is : q.path ++ (z ++ n ∷ r) ≡ d ++ n ∷ r = sym (append_assoc q.path z (n ∷ r)) ∙ ap (λ y. y ++ n ∷ r) d_is in
    let above : is_at_or_above q.path (d ++ n ∷ r) ≡ true = ap (is_at_or_above q.path) (sym e_is) ∙ at_or_above-append q.path (z ++ n ∷ r) in
    let rest : drop (length q.path) (d ++ n ∷ r) ≡ z ++ n ∷ r = ap (drop (length q.path)) (sym e_is) ∙ drop-append_seam q.path (z ++ n ∷ r) in
    let found : kind_of_status (status (sub case q.snapshot z)) ≡ DirKind = kind-from (part_of case (q ∷ pairs) d) (is_known dirs d) (sub case q.snapshot z) (rw on refl) h in
    let here : is_known (dirs_left case (d ++ n ∷ r) q) d ≡ true =
    rw (above, rest) (subst (λ y. is_known (dirs_from case q.path q.snapshot (z ++ n ∷ r)) y ≡ true) d_is (from-known case q.path q.snapshot z n r found)) in
    insert_dirs-new (dirs_left case (d ++ n ∷ r) q) d (all_dirs_left case (d ++ n ∷ r) pairs dirs) here)
    (λ off. insert_dirs-old (dirs_left case (d ++ n ∷ r) q) d (all_dirs_left case (d ++ n ∷ r) pairs dirs) (dirs-stay case d n r pairs dirs (rw off at h)))

-- what is known to be a directory strictly above the path is so after its invalidation
pub after_invalidation-known : (case : Case) (d : Path) (n : Name) (r : Path) (retained : Retained) → Each (λ (q : Pair). IsTree case q.snapshot) retained.pairs → kind_of case retained d ≡ Some DirKind → kind_of case (after_invalidation case (d ++ n ∷ r) retained) d ≡ Some DirKind
after_invalidation-known case d n r retained trees h =
    known-kind case (after_invalidation case e retained) d
    (split_option (part_of case (all_pairs_left case e retained.pairs) d) (λ o. o) (λ f o. absurd (both_ways _ (after_invalidation-related case e retained.pairs d f trees o) (or_right (is_at_or_above e d) _ (at_or_above-append d (n ∷ r))))))
    (dirs-stay case d n r retained.pairs retained.dirs h)
  where
    e : Path
    e = d ++ n ∷ r
