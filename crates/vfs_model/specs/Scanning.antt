-- A scan in progress: what was seen so far, as a snapshot with places that are not read yet.
use Rattle.std.specs.Prelude.{◌≡◌, ℕ, ◌+◌, ◌≤◌, length, Bool, List, [], ◌∷◌, ◌++◌, map, drop, if◌then◌else◌, Option, Some, None, option_map}
use Rattle.std.specs.List.{list_any}
use Rattle.std.specs.Cmp.Lexicographic.{slice_cmp}
use Rattle.std.specs.Ordering.{nat_cmp}
use Rattle.std.specs.declared.cmp.Ordering.{Ordering}
use Rattle.vfs_model.specs.Paths.{Name, Path, Case, folded_name, place, is_same_name, is_same_place, is_related}
use Rattle.vfs_model.specs.World.{World, Entry, Node, Directory, Regular, at, names, Status, IsMissing, IsFile, IsDir, digest_of_bytes, AreInOrder, listed_in, status_of, spelling_of}
use Rattle.vfs_model.specs.Snapshot.{Snapshot, Missing, File, Dir, Children, Nothing, Child}

-- what a look at a location gives: nothing is there, a file with its bytes, or a directory with the names in it
pub data Look : Type 0 where
  SeesNothing : Look
  SeesFile : (bytes : List ℕ) → Look
  SeesDir : (names : List Name) → Look

-- what a look at what stands there gives; a directory tells the names in it
abbrev pub look_of_node : Node → List Name → Look
look_of_node Directory ns = SeesDir ns
look_of_node (Regular bytes) ns = SeesFile bytes

-- what a look at an entry gives, or at nothing
abbrev pub look_of : Option Entry → List Name → Look
look_of None ns = SeesNothing
look_of (Some e) ns = look_of_node e.node ns

-- what a look at the place gives in the world
abbrev pub look : Case → World → Path → Look
look case world x = look_of (at case world x) (names case world x)

mutual
  -- what a scan in progress has of a location: it is not read yet, was missing, was a file, or was a directory with its children
  pub data PartialSnapshot : Type 0 where
    Unread : PartialSnapshot
    NotThere : PartialSnapshot
    FileRead : (bytes : List ℕ) → PartialSnapshot
    DirRead : PartialChildren → PartialSnapshot

  -- the names that a directory listed, each with what the scan has of it
  pub data PartialChildren : Type 0 where
    NoChildren : PartialChildren
    PartialChild : (name : Name) → PartialSnapshot → PartialChildren → PartialChildren

-- a child for each of the names, not read yet
abbrev pub unread : List Name → PartialChildren
unread [] = NoChildren
unread (n ∷ ns) = PartialChild n Unread (unread ns)

-- what the scan has of a location after the look at it
abbrev pub partial_of_look : Look → PartialSnapshot
partial_of_look SeesNothing = NotThere
partial_of_look (SeesFile bytes) = FileRead bytes
partial_of_look (SeesDir names) = DirRead (unread names)

-- how many locations are left to be read
abbrev mutual
  pub count_left : PartialSnapshot → ℕ
  count_left Unread = 1
  count_left NotThere = 0
  count_left (FileRead bytes) = 0
  count_left (DirRead below) = count_left_in below

  pub count_left_in : PartialChildren → ℕ
  count_left_in NoChildren = 0
  count_left_in (PartialChild name s more) = count_left s + count_left_in more

-- the path one name longer, where there is one; else the other
abbrev pub below_or : Name → Option Path → Option Path → Option Path
below_or name (Some x) other = Some (name ∷ x)
below_or name None other = other

-- the names below the scan's path that lead to the first location left, depth first in name order
abbrev mutual
  pub next_left : PartialSnapshot → Option Path
  next_left Unread = Some []
  next_left NotThere = None
  next_left (FileRead bytes) = None
  next_left (DirRead below) = next_left_in below

  pub next_left_in : PartialChildren → Option Path
  next_left_in NoChildren = None
  next_left_in (PartialChild name s more) = below_or name (next_left s) (next_left_in more)

-- the look goes to the first child where a location is left in it, and else to the other children
abbrev pub after_first_look : Option Path → Name → PartialSnapshot → PartialSnapshot → PartialChildren → PartialChildren → PartialChildren
after_first_look (Some x) name s s_read more more_read = PartialChild name s_read more
after_first_look None name s s_read more more_read = PartialChild name s more_read

-- what the scan has after a look at the first location left; where none is left it stays
abbrev mutual
  pub after_look : Look → PartialSnapshot → PartialSnapshot
  after_look l Unread = partial_of_look l
  after_look l NotThere = NotThere
  after_look l (FileRead bytes) = FileRead bytes
  after_look l (DirRead below) = DirRead (after_look_in l below)

  pub after_look_in : Look → PartialChildren → PartialChildren
  after_look_in l NoChildren = NoChildren
  after_look_in l (PartialChild name s more) = after_first_look (next_left s) name s (after_look l s) more (after_look_in l more)

-- the children with one more in front of them, unless it is unread or was seen missing
abbrev pub with_child : Name → PartialSnapshot → Snapshot → Children → Children
with_child name Unread s more = more
with_child name NotThere s more = more
with_child name (FileRead bytes) s more = Child name s more
with_child name (DirRead below) s more = Child name s more

-- the snapshot of what was read; children seen missing are left out
abbrev mutual
  pub snapshot_made : PartialSnapshot → Snapshot
  snapshot_made Unread = Missing
  snapshot_made NotThere = Missing
  snapshot_made (FileRead bytes) = File (digest_of_bytes bytes)
  snapshot_made (DirRead below) = Dir (children_made below)

  pub children_made : PartialChildren → Children
  children_made NoChildren = Nothing
  children_made (PartialChild name s more) = with_child name s (snapshot_made s) (children_made more)

-- ---- what a scan in progress says

-- the child whose folded name is n; what is not listed is not there
abbrev pub partial_child : Case → PartialChildren → Name → PartialSnapshot
partial_child case NoChildren n = NotThere
partial_child case (PartialChild name s more) n = if is_same_name (folded_name case name) n then s else partial_child case more n

-- how the name n is spelled where it is listed
abbrev pub partial_child_name : Case → PartialChildren → Name → Option Name
partial_child_name case NoChildren n = None
partial_child_name case (PartialChild name s more) n = if is_same_name (folded_name case name) n then Some name else partial_child_name case more n

-- what the scan says of the name n below the location; nothing is there below a file and below what was missing
abbrev pub partial_at_name : Case → PartialSnapshot → Name → PartialSnapshot
partial_at_name case Unread n = Unread
partial_at_name case NotThere n = NotThere
partial_at_name case (FileRead bytes) n = NotThere
partial_at_name case (DirRead below) n = partial_child case below n

-- what the scan says of the names x below its path
abbrev pub partial_at : Case → PartialSnapshot → Path → PartialSnapshot
partial_at case s [] = s
partial_at case s (n ∷ x) = partial_at case (partial_at_name case s n) x

-- the status that is decided, and None where the location is not read yet
abbrev pub decided_status : PartialSnapshot → Option Status
decided_status Unread = None
decided_status NotThere = Some IsMissing
decided_status (FileRead bytes) = Some (IsFile (digest_of_bytes bytes))
decided_status (DirRead below) = Some IsDir

-- the spelling, unless the location was seen missing
abbrev pub unless_missing : PartialSnapshot → Option Name → Option Name
unless_missing Unread name = name
unless_missing NotThere name = None
unless_missing (FileRead bytes) name = name
unless_missing (DirRead below) name = name

-- the children; what was not read as a directory has none
abbrev pub partial_children : PartialSnapshot → PartialChildren
partial_children Unread = NoChildren
partial_children NotThere = NoChildren
partial_children (FileRead bytes) = NoChildren
partial_children (DirRead below) = below

-- how the last of the names x is spelled, where it is listed and was not seen missing
abbrev pub told_partial_name : Case → PartialSnapshot → Path → Option Name
told_partial_name case s [] = None
told_partial_name case s (n ∷ []) = unless_missing (partial_at_name case s n) (partial_child_name case (partial_children s) n)
told_partial_name case s (n ∷ m ∷ x) = told_partial_name case (partial_at_name case s n) (m ∷ x)

-- the names of the children, in their order
abbrev pub partial_names : PartialChildren → List Name
partial_names NoChildren = []
partial_names (PartialChild name s more) = name ∷ partial_names more

-- the names are in order, and there are at most 4,096
pub record IsListed (case : Case) (ns : List Name) : Type 0 where
  pub order : AreInOrder case ns
  pub few : length ns ≤ 4096

-- in each directory that was read the names are in order, and there are at most 4,096
abbrev pub IsPartialTree : Case → PartialSnapshot → Type 0
IsPartialTree case s = (x : Path) → IsListed case (partial_names (partial_children (partial_at case s x)))

-- the scan's path has so many names, and no names are listed at a location that has 64
abbrev pub IsShallow : Case → ℕ → PartialSnapshot → Type 0
IsShallow case depth s = (x : Path) → 64 ≤ depth + length x → partial_names (partial_children (partial_at case s x)) ≡ []

-- what a scan of p in progress says of the names x below it is so in the world: the status that it decided, and how a listed name is spelled
pub record Tells (case : Case) (world : World) (p : Path) (s : PartialSnapshot) (x : Path) : Type 0 where
  pub kind : (g : Status) → decided_status (partial_at case s x) ≡ Some g → g ≡ status_of (at case world (p ++ x))
  pub spelling : (n : Name) → told_partial_name case s x ≡ Some n → spelling_of (at case world (p ++ x)) ≡ Some n

-- ---- the scan

-- a scan in progress: its path, how many places were invalidated before its begin, and what it has
pub record Scan : Type 0 where
  pub path : Path
  pub begun_at : ℕ
  pub partial : PartialSnapshot

-- a place related to the scan's was invalidated since its begin
abbrev pub is_overtaken : Case → List Path → Scan → Bool
is_overtaken case past scan = list_any (λ e. is_related e (place case scan.path)) (drop scan.begun_at past)

-- ---- contents, and the order of reading

-- the contents of the files that were read, depth first in name order
abbrev mutual
  pub contents : PartialSnapshot → List (List ℕ)
  contents Unread = []
  contents NotThere = []
  contents (FileRead bytes) = bytes ∷ []
  contents (DirRead below) = contents_in below

  pub contents_in : PartialChildren → List (List ℕ)
  contents_in NoChildren = []
  contents_in (PartialChild name s more) = contents s ++ contents_in more

-- none of the children is read yet
abbrev pub AreUnread : PartialChildren → Type 0
AreUnread NoChildren = Unit {0}
AreUnread (PartialChild name s more) = (s ≡ Unread) × AreUnread more

-- where something is left before these children, none of them is read yet; else the rest holds
abbrev pub IsBehind : Option Path → PartialChildren → Type 0 → Type 0
IsBehind None more rest = rest
IsBehind (Some y) more rest = AreUnread more

-- nothing behind the first location left is read yet
abbrev mutual
  pub IsFront : PartialSnapshot → Type 0
  IsFront Unread = Unit {0}
  IsFront NotThere = Unit {0}
  IsFront (FileRead bytes) = Unit {0}
  IsFront (DirRead below) = AreFront below

  pub AreFront : PartialChildren → Type 0
  AreFront NoChildren = Unit {0}
  AreFront (PartialChild name s more) = IsFront s × IsBehind (next_left s) more (AreFront more)

-- ---- a scan as two lists: what was read, and what is left

-- a location that was read, by its names below the scan's path, and what was seen there
pub record Reading : Type 0 where
  pub names : Path
  pub look : Look

-- what was read, in order, and what is left, the next location first
pub record Walk : Type 0 where
  pub read : List Reading
  pub left : List Path

-- nothing was read, and the scan's own path is left
abbrev pub first_walk : Walk
first_walk = record { read = []; left = [] ∷ [] }

-- the names that the look lists
abbrev pub names_seen : Look → List Name
names_seen SeesNothing = []
names_seen (SeesFile bytes) = []
names_seen (SeesDir ns) = ns

-- the children of the location y with these names
abbrev pub children_at : Path → List Name → List Path
children_at y ns = map (λ n. y ++ n ∷ []) ns

-- the first location left goes, with what was seen there, to the end of what was read, and the children of a directory come in front of what is left
abbrev pub read_first : Look → List Reading → List Path → Walk
read_first l read [] = record { read = read; left = [] }
read_first l read (y ∷ left) = record { read = read ++ record { names = y; look = l } ∷ []; left = children_at y (names_seen l) ++ left }

-- one more look, at the first location left
abbrev pub walk_with : Look → Walk → Walk
walk_with l w = read_first l w.read w.left

-- the walk after these looks
abbrev pub walk_after : Walk → List Look → Walk
walk_after w [] = w
walk_after w (l ∷ looks) = walk_after (walk_with l w) looks

-- what a scan has after these looks, each at the first location left
abbrev pub after_looks : PartialSnapshot → List Look → PartialSnapshot
after_looks s [] = s
after_looks s (l ∷ looks) = after_looks (after_look l s) looks

-- the looks, in the order of reading
abbrev pub looks_of : List Reading → List Look
looks_of read = map (λ (r : Reading). r.look) read

-- a reading, seen from one name above
abbrev pub reading_below : Name → Reading → Reading
reading_below name r = record { names = name ∷ r.names; look = r.look }

-- what was read, depth first in name order
abbrev mutual
  pub readings : PartialSnapshot → List Reading
  readings Unread = []
  readings NotThere = record { names = []; look = SeesNothing } ∷ []
  readings (FileRead bytes) = record { names = []; look = SeesFile bytes } ∷ []
  readings (DirRead below) = record { names = []; look = SeesDir (partial_names below) } ∷ readings_in below

  pub readings_in : PartialChildren → List Reading
  readings_in NoChildren = []
  readings_in (PartialChild name s more) = map (reading_below name) (readings s) ++ readings_in more

-- what was seen at the names, where they were read
abbrev pub reading_at : Case → List Reading → Path → Option Look
reading_at case [] x = None
reading_at case (r ∷ more) x = if is_same_place (place case r.names) x then Some r.look else reading_at case more x

-- the status that a look gives
abbrev pub status_seen : Look → Status
status_seen SeesNothing = IsMissing
status_seen (SeesFile bytes) = IsFile (digest_of_bytes bytes)
status_seen (SeesDir ns) = IsDir

-- the walk goes on below a name that is listed, and ends at one that is not
abbrev pub decided_status_below : Option Name → Option Status → Option Status
decided_status_below None deeper = Some IsMissing
decided_status_below (Some m) deeper = deeper

-- what is decided of the name n below a location, by the look at it and by what is decided deeper
abbrev pub decided_status_in : Case → Option Look → Name → Option Status → Option Status
decided_status_in case None n deeper = None
decided_status_in case (Some SeesNothing) n deeper = Some IsMissing
decided_status_in case (Some (SeesFile bytes)) n deeper = Some IsMissing
decided_status_in case (Some (SeesDir ns)) n deeper = decided_status_below (listed_in case ns n) deeper

-- what the readings decide of the names x below the place p: what was seen there, or that the walk there ends at nothing, at a file or at a name that is not listed
abbrev pub decided_status_by : Case → List Reading → Path → Path → Option Status
decided_status_by case read p [] = option_map status_seen (reading_at case read p)
decided_status_by case read p (n ∷ x) = decided_status_in case (reading_at case read p) n (decided_status_by case read (p ++ n ∷ []) x)

-- what is left, depth first in name order
abbrev mutual
  pub locations_left : PartialSnapshot → List Path
  locations_left Unread = [] ∷ []
  locations_left NotThere = []
  locations_left (FileRead bytes) = []
  locations_left (DirRead below) = locations_left_in below

  pub locations_left_in : PartialChildren → List Path
  locations_left_in NoChildren = []
  locations_left_in (PartialChild name s more) = map (λ x. name ∷ x) (locations_left s) ++ locations_left_in more

-- the two lists of what a scan has
abbrev pub walk_of : PartialSnapshot → Walk
walk_of s = record { read = readings s; left = locations_left s }

-- the first of the list, where there is one
abbrev pub first_of : List Path → Option Path
first_of [] = None
first_of (y ∷ left) = Some y

-- the order of paths: name by name as the case compares them, and a path comes before all below it
abbrev pub path_order : Case → Path → Path → Ordering
path_order case x y = slice_cmp (slice_cmp nat_cmp) (place case x) (place case y)
