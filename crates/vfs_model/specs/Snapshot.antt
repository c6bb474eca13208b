-- Snapshots: what is remembered of a location and of all below it.
use Rattle.std.specs.Prelude.{ℕ, ◌≤◌, length, List, [], ◌∷◌, if◌then◌else◌, Option, Some, None, ◌≢◌}
use Rattle.vfs_model.specs.Paths.{Name, Path, Case, folded_name, is_same_name}
use Rattle.vfs_model.specs.World.{Status, IsMissing, IsFile, IsDir, AreInOrder}

mutual
  -- nothing is there, a file with its digest, or a directory with its children
  pub data Snapshot : Type 0 where
    Missing : Snapshot
    File : (digest : List ℕ) → Snapshot
    Dir : Children → Snapshot

  -- the names in a directory, each with its snapshot
  pub data Children : Type 0 where
    Nothing : Children
    Child : (name : Name) → Snapshot → Children → Children

-- the child whose folded name is n; what is not listed is missing
abbrev pub child : Case → Children → Name → Snapshot
child case Nothing n = Missing
child case (Child name s more) n = if is_same_name (folded_name case name) n then s else child case more n

-- how the name n is spelled where it is listed
abbrev pub listed_name : Case → Children → Name → Option Name
listed_name case Nothing n = None
listed_name case (Child name s more) n = if is_same_name (folded_name case name) n then Some name else listed_name case more n

-- the children; what is no directory has none
abbrev pub children_of : Snapshot → Children
children_of Missing = Nothing
children_of (File digest) = Nothing
children_of (Dir children) = children

-- what the snapshot says of the names x below it: missing below a file, below what is missing and at a name that is not listed
abbrev pub sub : Case → Snapshot → Path → Snapshot
sub case s [] = s
sub case s (n ∷ x) = sub case (child case (children_of s) n) x

-- how the last of the names x below it is spelled, where the snapshot lists it
abbrev pub told_name : Case → Snapshot → Path → Option Name
told_name case s [] = None
told_name case s (n ∷ []) = listed_name case (children_of s) n
told_name case s (n ∷ m ∷ x) = told_name case (child case (children_of s) n) (m ∷ x)

-- the status that the snapshot gives its root
abbrev pub status : Snapshot → Status
status Missing = IsMissing
status (File digest) = IsFile digest
status (Dir children) = IsDir

-- the names of the children, in their order
abbrev pub names_of : Children → List Name
names_of Nothing = []
names_of (Child name s more) = name ∷ names_of more

-- no child is missing
abbrev pub ArePresent : Children → Type 0
ArePresent Nothing = Unit {0}
ArePresent (Child name s more) = (s ≢ Missing) × ArePresent more

-- the names are in order, at most 4,096, and no child is missing
pub record IsListing (case : Case) (children : Children) : Type 0 where
  pub order : AreInOrder case (names_of children)
  pub few : length (names_of children) ≤ 4096
  pub present : ArePresent children

-- in each directory of the snapshot the names are in order, there are at most 4,096, and no child is missing
abbrev pub IsTree : Case → Snapshot → Type 0
IsTree case s = (x : Path) → IsListing case (children_of (sub case s x))
