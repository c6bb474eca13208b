-- What a walk keeps.
use Rattle.std.specs.Prelude.{◌≡◌, ℕ, List, [], ◌∷◌, ◌++◌, map, reverse}
use Rattle.std.specs.List.{AllByRecursion as Each}
use Rattle.vfs_model.specs.declared.Case.{Case}
use Rattle.vfs_model.specs.Paths.{Path}
use Rattle.vfs_model.specs.Scanning.{Look, SeesNothing, SeesFile, SeesDir, Unread, names_seen, after_looks, readings, looks_of, contents, locations_left, IsListed}
use Rattle.scan_walk.specs.Progress.{Progress, IsShaped}

-- the bytes that the look saw, of a file
abbrev pub bytes_seen : Look → List (List ℕ)
bytes_seen SeesNothing = []
bytes_seen (SeesFile bytes) = bytes ∷ []
bytes_seen (SeesDir names) = []

-- how far a walk over the path has come after these looks
abbrev pub progress_after : Case → Path → List Look → Progress
progress_after case path looks = record { case = case; path = path; partial = after_looks Unread looks }

-- what was seen in order, the bytes that were read and the stack of the paths left, the next one last, say the same as the partial snapshot, which is in shape
pub record IsWalk (p : Progress) (looks : List Look) (bytes : List (List ℕ)) (stack : List Path) : Type 0 where
  pub shape : IsShaped p
  pub listed : Each (λ l. IsListed p.case (names_seen l)) looks
  pub seen : looks_of (readings p.partial) ≡ looks
  pub read : contents p.partial ≡ bytes
  pub left : reverse stack ≡ map (λ y. p.path ++ y) (locations_left p.partial)
