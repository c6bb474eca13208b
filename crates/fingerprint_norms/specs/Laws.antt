-- The laws of fingerprints.
use Rattle.std.specs.Prelude.{◌≡◌, ◌≢◌, ℕ, List, [], ◌∷◌, ◌++◌}
use Rattle.std.specs.List.Sorted.{IsPermutation}
use Rattle.vfs_model.specs.declared.Case.{Case}
use Rattle.vfs_model.specs.Paths.{Path}
use Rattle.vfs_model.specs.Snapshot.{Snapshot, Missing, File, Dir, Children, Nothing, Child}
use Rattle.vfs_model.specs.Fingerprint.{Sensitivity, Relative, Ignored, fingerprint}

-- the fingerprint of a single input
abbrev pub single : Case → Path → Sensitivity → Snapshot → List ℕ
single case root sensitivity s = fingerprint case (record { input = record { root = root; sensitivity = sensitivity }; snapshot = s } ∷ [])

-- the digests of the files at and below the root, in order
abbrev mutual
  pub digests : Snapshot → List (List ℕ)
  digests Missing = []
  digests (File digest) = digest ∷ []
  digests (Dir children) = digests_in children

  pub digests_in : Children → List (List ℕ)
  digests_in Nothing = []
  digests_in (Child name s more) = digests s ++ digests_in more

-- the relative fingerprint of a directory is the same wherever its root stands
abbrev pub StaysWhereverTheRootStands : Type 0
StaysWhereverTheRootStands = (case : Case) (p q : Path) (children : Children) → single case p Relative (Dir children) ≡ single case q Relative (Dir children)

-- where paths are ignored, what is there has the fingerprint of its files' digests alone, in any order: neither names nor directories tell
abbrev pub TellsOnlyTheDigests : Type 0
TellsOnlyTheDigests = (case : Case) (p q : Path) (s t : Snapshot) → s ≢ Missing → t ≢ Missing → IsPermutation (digests s) (digests t) → single case p Ignored s ≡ single case q Ignored t
