-- What tells in a fingerprint where paths are ignored.
use Rattle.std.proofs.Common.{◌≡◌, ◌≢◌, ◌∙◌, ℕ, List, [], ◌∷◌, ◌++◌, map, refl, sym, ap, append-nil}
use Rattle.std.proofs.lemmas.List.{map-append}
use Rattle.std.proofs.lemmas.List.Sorted.{IsPermutation-map}
use Rattle.std.specs.List.{flat_map}
use Rattle.vfs_model.specs.declared.Case.{Case}
use Rattle.vfs_model.specs.Paths.{Path}
use Rattle.vfs_model.specs.World.{digest_of_bytes}
use Rattle.vfs_model.specs.Snapshot.{Snapshot, Missing, File, Dir, Children, Nothing, Child}
use Rattle.vfs_model.specs.Fingerprint.{Ignored, FpEntry, entries_at, entries_in, missing_entry, entry_bytes, sorted, fingerprint}
use Rattle.fingerprint_norms.specs.Laws.{single, digests, digests_in, TellsOnlyTheDigests}
use Rattle.fingerprint_norms.proofs.OrderLemmas.{sorted-permutation}

-- the entry of a file whose path is ignored
abbrev bare : List ℕ → FpEntry
bare digest = record { path = []; kind = 70; digest = digest }

mutual
  ignored-at : (case : Case) (root below : Path) (s : Snapshot) → entries_at case [] Ignored root below s ≡ map bare (digests s)
  ignored-at case root below Missing = refl
  ignored-at case root below (File digest) = refl
  ignored-at case root below (Dir children) = ignored-in case root below children

  ignored-in : (case : Case) (root below : Path) (cs : Children) → entries_in case [] Ignored root below cs ≡ map bare (digests_in cs)
  ignored-in case root below Nothing = refl
  ignored-in case root below (Child name s more) =
      (λ i. ignored-at case root (below ++ name ∷ []) s i ++ ignored-in case root below more i) ∙ sym (map-append bare (digests s) (digests_in more))

present-entry : (case : Case) (root : Path) (s : Snapshot) → s ≢ Missing → missing_entry case [] Ignored root s ≡ []
present-entry case root Missing h = absurd (h refl)
present-entry case root (File digest) h = refl
present-entry case root (Dir children) h = refl

abbrev print_of : List FpEntry → List ℕ
print_of es = digest_of_bytes (flat_map entry_bytes es)

single-is : (case : Case) (root : Path) (s : Snapshot) → s ≢ Missing → single case root Ignored s ≡ print_of (sorted (map bare (digests s)))
unfolding fingerprint
single-is case root s h =
    ap (λ es. print_of (sorted es))
    ((λ i. present-entry case root s h i ++ ignored-at case root [] s i ++ []) ∙ append-nil (map bare (digests s)))

-- the files' digests tell all there is
pub digests-tell : TellsOnlyTheDigests
digests-tell case p q s t there there' same =
    single-is case p s there
    ∙ ap print_of (sym (sorted-permutation _ _ (IsPermutation-map bare (digests s) (digests t) same)))
    ∙ sym (single-is case q t there')
