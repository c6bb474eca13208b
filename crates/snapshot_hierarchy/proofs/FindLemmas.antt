-- The part at a path, by the first pair at or above it.
use Rattle.std.proofs.Common.{◌≡◌, ◌≤◌, Bool, List, [], ◌∷◌, length, drop, map, Option, Some, None, refl, sym, ap, ◌∙◌, subst, arith}
use Rattle.std.proofs.lemmas.List.{length-map}
use Rattle.std.specs.Prelude.{Result, Ok, Err, OnErr}
use Rattle.std.specs.List.{list_any, AllByRecursion as Each}
use Rattle.vfs_model.specs.declared.Case.{Case}
use Rattle.vfs_model.specs.Paths.{Path, place, folded_name, is_at_or_above}
use Rattle.vfs_model.specs.Snapshot.{Snapshot, sub, IsTree}
use Rattle.vfs_model.specs.Retained.{Pair, part_of}
use Rattle.vfs_laws.proofs.Splits.{split}
use Rattle.vfs_laws.proofs.FindLemmas.{part-from}
use Rattle.vfs_laws.proofs.NameLemmas.{some-is}
use Rattle.vfs_laws.proofs.RetainedLemmas.{tree-sub}
use Rattle.snapshot_tree.specs.Meaning.{meaning_of}
use Rattle.vfs_laws.proofs.AboveLemmas.{above-short}
use Rattle.snapshot_tree.specs.declared.pieces.Pair.{Pair as PairValue}
use Rattle.snapshot_tree.specs.Pieces.{pairs_of}
use Rattle.snapshot_hierarchy.specs.Flat.{first_over}

-- a test of what a list is mapped to
pub list_any-map : {X Y : Type 0} (p : Y → Bool) (f : X → Y) (xs : List X) → list_any p (map f xs) ≡ list_any (λ x. p (f x)) xs
list_any-map p f [] = refl
list_any-map p f (x ∷ xs) = split (p (f x)) (λ s. rw s refl) (λ s. rw s (list_any-map p f xs))

-- the pair that is found is no deeper than the path
pub first-short : (case : Case) (path : Path) (pairs : List PairValue) (pair : PairValue) → Some pair ≡ first_over case path pairs → length pair.path ≤ length path
first-short case path [] pair e = absurd cc
first-short case path (q ∷ pairs) pair e =
    split (is_at_or_above (place case q.path) (place case path))
    (λ s.
    let same : Some pair ≡ Some q = rw s at e in
    let short = above-short (place case q.path) (place case path) s in
    subst (λ (r : PairValue). length r.path ≤ length path) (sym (some-is pair q same)) (omega (arith, length-map q.path (folded_name case), length-map path (folded_name case))))
    (λ s. first-short case path pairs pair (rw s at e))

-- what the pair says of the path
abbrev part_from : Case → Path → Option PairValue → Option Snapshot
part_from case path None = None
part_from case path (Some pair) = Some (sub case (meaning_of pair.snapshot) (drop (length pair.path) (place case path)))

part_of-first : (case : Case) (path : Path) (pairs : List PairValue) → part_from case path (first_over case path pairs) ≡ part_of case (pairs_of case pairs) (place case path)
part_of-first case path [] = refl
part_of-first case path (q ∷ pairs) =
    split (is_at_or_above (place case q.path) (place case path))
    (λ s. rw s (ap (λ n. Some (sub case (meaning_of q.snapshot) (drop n (place case path)))) (sym (length-map q.path (folded_name case)))))
    (λ s. rw s (part_of-first case path pairs))

-- it is what the pair that is found says
pub part-of_first : (case : Case) (path : Path) (pairs : List PairValue) (pair : PairValue) → Some pair ≡ first_over case path pairs
    → Some (sub case (meaning_of pair.snapshot) (drop (length pair.path) (place case path))) ≡ part_of case (pairs_of case pairs) (place case path)
part-of_first case path pairs pair e = ap (part_from case path) e ∙ part_of-first case path pairs

-- where no pair is found, there is none
pub part-of_none : (case : Case) (path : Path) (pairs : List PairValue) → None ≡ first_over case path pairs → None ≡ part_of case (pairs_of case pairs) (place case path)
part-of_none case path pairs e = ap (part_from case path) e ∙ part_of-first case path pairs

-- each part of trees is a tree
pub part-tree : (case : Case) (pairs : List Pair) (x : Path) (part : Snapshot) → Each (λ (r : Pair). IsTree case r.snapshot) pairs → Some part ≡ part_of case pairs x → IsTree case part
part-tree case pairs x part trees e =
    let from = part-from case (λ (r : Pair). IsTree case r.snapshot) pairs x part trees (sym e) in
    subst (IsTree case) from.part (tree-sub case from.pair.snapshot (drop (length from.pair.path) x) from.holds)

-- what holds anyway holds where there is an error
pub on-error : {T E P : Type 0} (r : Result T E) → P → OnErr r P
on-error (Ok x) h = tt
on-error (Err e) h = h
