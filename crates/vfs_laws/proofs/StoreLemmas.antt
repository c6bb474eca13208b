-- What is retained stays retained through a store.
use Rattle.std.proofs.Common.{◌≡◌, true, false, List, [], ◌∷◌, refl, sym, ap, ◌∙◌}
use Rattle.std.proofs.lemmas.Bool.{true≢false}
use Rattle.std.specs.Prelude.{is_some}
use Rattle.vfs_model.specs.declared.Case.{Case}
use Rattle.vfs_model.specs.Paths.{Path, is_at_or_above}
use Rattle.vfs_model.specs.Snapshot.{Snapshot}
use Rattle.vfs_model.specs.Retained.{Pair, Retained, part_of, is_covered, after_store}
use Rattle.vfs_laws.proofs.Splits.{split}
use Rattle.vfs_laws.proofs.PathLemmas.{at_or_above-refl}
use Rattle.vfs_laws.proofs.FindLemmas.{after_store-at, after_store-elsewhere}

-- what a pair stands strictly above is retained
covered-retained : (case : Case) (pairs : List Pair) (p : Path) → is_covered pairs p ≡ true → is_some (part_of case pairs p) ≡ true
covered-retained case [] p h = absurd (true≢false (sym h))
covered-retained case (r ∷ pairs) p h =
    split (is_at_or_above r.path p)
    (λ s. rw s refl)
    (λ s. rw s (covered-retained case pairs p (rw s at h)))

-- what nothing is retained of is not covered
pub unretained-free : (case : Case) (pairs : List Pair) (p : Path) → is_some (part_of case pairs p) ≡ false → is_covered pairs p ≡ false
unretained-free case pairs p h = split (is_covered pairs p) (λ t. absurd (true≢false (sym (covered-retained case pairs p t) ∙ h))) (λ t. t)

-- the place of a store is retained after it
pub store-retained : (case : Case) (p : Path) (s : Snapshot) (retained : Retained) → is_some (part_of case (after_store p s retained).pairs p) ≡ true
store-retained case p s retained =
    split (is_covered retained.pairs p)
    (λ t. rw t (covered-retained case retained.pairs p t))
    (λ t. ap is_some (after_store-at case p s retained p t (at_or_above-refl p)))

-- what is retained before a store is retained after it
pub store-keeps : (case : Case) (p : Path) (s : Snapshot) (retained : Retained) (x : Path) → is_some (part_of case retained.pairs x) ≡ true → is_some (part_of case (after_store p s retained).pairs x) ≡ true
store-keeps case p s retained x h =
    split (is_at_or_above p x)
    (λ on.
    split (is_covered retained.pairs p)
    (λ t. rw t h)
    (λ t. ap is_some (after_store-at case p s retained x t on)))
    (λ off. ap is_some (after_store-elsewhere case p s retained x off) ∙ h)
