-- Edits of a world, their refusals in order, and their events.
use Rattle.std.specs.Prelude.{ℕ, ◌+◌, ◌-◌, Bool, true, false, ◌&&◌, ◌||◌, not, List, [], ◌∷◌, ◌++◌, map, length, drop, if◌then◌else◌, nat_le, nat_lt, Option, Some, None, filter}
use Rattle.std.specs.List.{list_any}
use Rattle.vfs_model.specs.Paths.{Path, Case, place, is_at_or_above, is_same_place}
use Rattle.vfs_model.specs.World.{World, Directory, Regular, Entry, at, names, Status, IsMissing, IsFile, IsDir, status_of}

-- an edit of a tree: a file is written, a directory is made, a location is removed with all below it, or moved with all below it
pub data Edit : Type 0 where
  Write : (path : Path) → (bytes : List ℕ) → Edit
  Mkdir : (path : Path) → Edit
  Remove : (path : Path) → Edit
  Move : (from to : Path) → Edit

-- why an edit is refused
pub data Refusal : Type 0 where
  -- it is an edit of the root, or a move to it
  Root : Refusal
  -- the directory that the path is to stand in is missing
  NoParent : Refusal
  -- a file stands where that directory should
  NotDir : Refusal
  -- something is in the way: a directory at the path of a write, anything at the path of a new directory, anything but what is moved at the end of a move
  Exists : Refusal
  -- nothing is there to remove or to move
  Absent : Refusal
  -- it is a move to a path strictly below what is moved
  IntoItself : Refusal
  -- a moved path would have more than 64 names
  TooDeep : Refusal
  -- the directory has 4,096 names already
  Crowded : Refusal
  -- the tree takes no edits; such a tree tells no world, and so no test of a world stands for it
  ReadOnly : Refusal

-- the path without its last name
abbrev pub parent : Path → Path
parent [] = []
parent (n ∷ []) = []
parent (n ∷ m ∷ x) = n ∷ parent (m ∷ x)

-- the path is the root
abbrev pub is_root : Path → Bool
is_root [] = true
is_root (n ∷ x) = false

-- nothing is there
abbrev pub is_missing : Status → Bool
is_missing IsMissing = true
is_missing (IsFile digest) = false
is_missing IsDir = false

-- a file is there
abbrev pub is_file : Status → Bool
is_file IsMissing = false
is_file (IsFile digest) = true
is_file IsDir = false

-- a directory is there
abbrev pub is_dir : Status → Bool
is_dir IsMissing = false
is_dir (IsFile digest) = false
is_dir IsDir = true

-- the first refusal whose test holds
abbrev pub first_refusal : List (Bool × Refusal) → Option Refusal
first_refusal [] = None
first_refusal (r ∷ more) = if r.0 then Some r.1 else first_refusal more

-- what is there, by a path in any spelling
abbrev pub status_there : Case → World → Path → Status
status_there case world path = status_of (at case world (place case path))

-- the directory has as many names as it may have
abbrev pub is_full : Case → World → Path → Bool
is_full case world path = nat_le 4096 (length (names case world (place case path)))

-- some path at or below the first would have more than 64 names after a move to the second
abbrev pub is_too_deep : Case → World → Path → Path → Bool
is_too_deep case world from to =
    list_any (λ (e : Entry). is_at_or_above (place case from) (place case e.path) && nat_lt 64 (length to + (length e.path - length from))) world

-- the first path lies below the second, and is not the same place
abbrev pub is_strictly_below : Case → Path → Path → Bool
is_strictly_below case to from =
    is_at_or_above (place case from) (place case to) && not (is_at_or_above (place case to) (place case from))

-- each refusal of an edit with its test, in the order in which they are answered
abbrev pub refusals : Case → World → Edit → List (Bool × Refusal)
refusals case world (Write p bytes) =
    (is_root p, Root)
    ∷ (is_missing (status_there case world (parent p)), NoParent)
    ∷ (is_file (status_there case world (parent p)), NotDir)
    ∷ (is_dir (status_there case world p), Exists)
    ∷ (is_missing (status_there case world p) && is_full case world (parent p), Crowded)
    ∷ []
refusals case world (Mkdir p) =
    (is_root p, Root)
    ∷ (is_missing (status_there case world (parent p)), NoParent)
    ∷ (is_file (status_there case world (parent p)), NotDir)
    ∷ (not (is_missing (status_there case world p)), Exists)
    ∷ (is_full case world (parent p), Crowded)
    ∷ []
refusals case world (Remove p) =
    (is_root p, Root)
    ∷ (is_missing (status_there case world p), Absent)
    ∷ []
refusals case world (Move p q) =
    (is_root p || is_root q, Root)
    ∷ (is_missing (status_there case world p), Absent)
    ∷ (is_strictly_below case q p, IntoItself)
    ∷ (is_missing (status_there case world (parent q)), NoParent)
    ∷ (is_file (status_there case world (parent q)), NotDir)
    ∷ (not (is_missing (status_there case world q)) && not (is_same_place (place case q) (place case p)), Exists)
    ∷ (is_too_deep case world p q, TooDeep)
    ∷ (is_full case world (parent q) && not (is_same_place (place case (parent q)) (place case (parent p))), Crowded)
    ∷ []

-- the first refusal whose test holds, or none
abbrev pub refusal : Case → World → Edit → Option Refusal
refusal case world edit = first_refusal (refusals case world edit)

-- the entry at p has these bytes, and its path keeps its spelling; every other one stays
abbrev pub entry_after_write : Case → Path → List ℕ → Entry → Entry
entry_after_write case p bytes e = if is_same_place (place case e.path) (place case p) then record { path = e.path; node = Regular bytes } else e

-- an entry at or below p goes to q, with the names below p as they are; every other one stays
abbrev pub entry_after_move : Case → Path → Path → Entry → Entry
entry_after_move case p q e =
    if is_at_or_above (place case p) (place case e.path) then record { path = q ++ drop (length p) e.path; node = e.node } else e

-- the world after an edit that is not refused
abbrev pub apply : Case → World → Edit → World
apply case world (Write p bytes) =
    if is_missing (status_there case world p) then world ++ record { path = p; node = Regular bytes } ∷ [] else map (entry_after_write case p bytes) world
apply case world (Mkdir p) = world ++ record { path = p; node = Directory } ∷ []
apply case world (Remove p) = filter (λ (e : Entry). not (is_at_or_above (place case p) (place case e.path))) world
apply case world (Move p q) = map (entry_after_move case p q) world

-- the paths that an edit tells when it is done
abbrev pub events : Edit → List Path
events (Write p bytes) = p ∷ []
events (Mkdir p) = p ∷ []
events (Remove p) = p ∷ []
events (Move p q) = p ∷ q ∷ []

-- one of these paths is at or above the place
abbrev pub is_told : Case → List Path → Path → Bool
is_told case told x = list_any (λ e. is_at_or_above (place case e) x) told
