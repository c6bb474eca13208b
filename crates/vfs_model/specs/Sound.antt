-- What is known agrees with the world, except where an event waits.
use Rattle.std.specs.Prelude.{◌≡◌, ℕ, ◌+◌, ◌≤◌, Bool, false, List, [], ◌++◌, length, map, Option, Some, None}
use Rattle.std.specs.List.{AllByRecursion as Each}
use Rattle.vfs_model.specs.Paths.{Path, Case, place, IsShort}
use Rattle.vfs_model.specs.World.{World, at, IsDir, status_of, IsWorld}
use Rattle.vfs_model.specs.Snapshot.{IsTree}
use Rattle.vfs_model.specs.Scan.{Agrees, scan}
use Rattle.vfs_model.specs.Pending.{is_hit}
use Rattle.vfs_model.specs.Retained.{Pair, Retained, ancestors, IsInShape}
use Rattle.vfs_model.specs.Scanning.{Scan, PartialSnapshot, Unread, NotThere, FileRead, DirRead, Look, names_seen, next_left, IsListed, IsPartialTree, IsShallow, IsFront, Tells, is_overtaken}
use Rattle.vfs_model.specs.Fingerprint.{Input, Seen, fingerprint}
use Rattle.vfs_model.specs.State.{KeptPrint, State, Call, CallEdit, CallRead, EditAnswer, Refuses, Does, Answers, scan_of}

-- where what is known in the state may differ from the world: the mark is set, or an event at or above the place waits
abbrev pub is_hit_in : State → Path → Bool
is_hit_in s = is_hit s.case s.pending

-- the snapshot agrees with the world at each place at or below its own, unless the place is excused
abbrev pub IsCurrent : Case → (Path → Bool) → World → Pair → Type 0
IsCurrent case excused world r = (x : Path) → excused (r.path ++ x) ≡ false → Agrees case world r.path r.snapshot x

-- the place is a directory in the world, unless it is excused
abbrev pub IsStillDir : Case → (Path → Bool) → World → Path → Type 0
IsStillDir case excused world d = excused d ≡ false → status_of (at case world d) ≡ IsDir

-- the places strictly above p, where p itself was seen and was not missing
abbrev pub above_scan : Path → PartialSnapshot → List Path
above_scan p Unread = []
above_scan p NotThere = []
above_scan p (FileRead bytes) = ancestors p
above_scan p (DirRead partials) = ancestors p

-- what was read is in shape; and unless the scan of p is overtaken, what it says is so wherever it is not excused, and the places above p are directories
pub record IsTelling (case : Case) (excused : Path → Bool) (world : World) (overtaken : Bool) (p : Path) (t : PartialSnapshot) : Type 0 where
  pub partial : IsPartialTree case t
  pub shallow : IsShallow case (length p) t
  pub front : IsFront t
  pub tells : overtaken ≡ false → (x : Path) → excused (p ++ x) ≡ false → Tells case world p t x
  pub above : overtaken ≡ false → Each (IsStillDir case excused world) (above_scan p t)

-- a scan in progress: its begin lies within what was invalidated so far, and it says what is so, unless it is overtaken
pub record IsTrueScan (case : Case) (excused : Path → Bool) (world : World) (past : List Path) (s : Scan) : Type 0 where
  pub begun_at : s.begun_at ≤ length past
  pub telling : IsTelling case excused world (is_overtaken case past s) (place case s.path) s.partial
  pub open telling use *

-- nothing is asked of a closed scan
abbrev pub IsTrueSlot : Case → (Path → Bool) → World → List Path → Option Scan → Type 0
IsTrueSlot case excused world past None = Unit {0}
IsTrueSlot case excused world past (Some s) = IsTrueScan case excused world past s

-- an input's root with its snapshot
abbrev pub root_pair : Case → Seen → Pair
root_pair case v = record { path = place case v.input.root; snapshot = v.snapshot }

-- the digest is that of the inputs and snapshots kept beside it, and these agree with the world
pub record IsTrueKept (case : Case) (excused : Path → Bool) (world : World) (k : KeptPrint) : Type 0 where
  pub digest : k.digest ≡ fingerprint case k.seen
  pub trees : Each (λ (v : Seen). IsTree case v.snapshot) k.seen
  pub current : Each (λ (v : Seen). IsCurrent case excused world (root_pair case v)) k.seen

-- 1 to 64 inputs
pub record IsInputCount (n : ℕ) : Type 0 where
  pub some : 1 ≤ n
  pub few : n ≤ 64

-- sixteen scans, at most 64 kept fingerprints of 1 to 64 inputs each, and at most as many events as the capacity of 1 to 65,536
pub record IsInLimits (s : State) : Type 0 where
  pub scans : length s.scans ≡ 16
  pub kept : length s.kept ≤ 64
  pub inputs : Each (λ (k : KeptPrint). IsInputCount (length k.seen)) s.kept
  pub some_room : 1 ≤ s.pending.capacity
  pub room : s.pending.capacity ≤ 65536
  pub events : length s.pending.events ≤ s.pending.capacity

-- the path of the scan is short; nothing is asked of a closed one
abbrev pub IsShortSlot : Option Scan → Type 0
IsShortSlot None = Unit {0}
IsShortSlot (Some s) = IsShort s.path

-- no path has more than 64 names: of the events that wait, of the scans in progress, of what is retained, of the known directories, and of the roots that are kept beside fingerprints
pub record HasShortPaths (s : State) : Type 0 where
  pub events : Each IsShort s.pending.events
  pub scans : Each IsShortSlot s.scans
  pub pairs : Each (λ (r : Pair). IsShort r.path) s.retained.pairs
  pub dirs : Each IsShort s.retained.dirs
  pub roots : Each (λ (k : KeptPrint). Each (λ (v : Seen). IsShort v.input.root) k.seen) s.kept

-- the world and the lists are in shape, and all that is known is so in the world, but where an event waits or the mark is set
pub record IsTrue (s : State) : Type 0 where
  pub world : IsWorld s.case s.world
  pub shape : IsInShape s.case s.retained
  pub pairs : Each (IsCurrent s.case (is_hit_in s) s.world) s.retained.pairs
  pub dirs : Each (IsStillDir s.case (is_hit_in s) s.world) s.retained.dirs
  pub scans : Each (IsTrueSlot s.case (is_hit_in s) s.world s.past) s.scans
  pub kept : Each (IsTrueKept s.case (is_hit_in s) s.world) s.kept

-- a state is sound: its numbers are within the limits, its paths are short, and what it knows is true
pub record IsSound (s : State) : Type 0 where
  pub limits : IsInLimits s
  pub short : HasShortPaths s
  pub known : IsTrue s
  pub open known use *

-- ---- what holds without a world

-- the names that a look lists are in order, at most 4,096, and none where the location has 64 names
pub record IsLook (case : Case) (depth : ℕ) (l : Look) : Type 0 where
  pub listed : IsListed case (names_seen l)
  pub shallow : 64 ≤ depth → names_seen l ≡ []

-- the names that the look at the location y below p lists are so; nothing is asked where none is left, and where the look failed
abbrev pub IsLookBelow : Case → Path → Option Path → Option Look → Type 0
IsLookBelow case p None l = Unit {0}
IsLookBelow case p (Some y) None = Unit {0}
IsLookBelow case p (Some y) (Some l) = IsLook case (length p + length y) l

-- the same of the first location left of the scan, where it is in progress
abbrev pub IsLookOf : Case → Option Scan → Option Look → Type 0
IsLookOf case None l = Unit {0}
IsLookOf case (Some scan) l = IsLookBelow case scan.path (next_left scan.partial) l

-- the events that the tree tells of an edit are short
abbrev pub AreShortEvents : EditAnswer → Type 0
AreShortEvents (Refuses r) = Unit {0}
AreShortEvents (Does told) = Each IsShort told

-- what the tree answers is in shape: the events of an edit are short, and the look of a read lists names as a look does
abbrev pub AreShapedAnswers : State → Call → Answers → Type 0
AreShapedAnswers s (CallEdit edit) a = AreShortEvents a.edit
AreShapedAnswers s (CallRead c) a = IsLookOf s.case (scan_of s c) a.look
AreShapedAnswers s _ a = Unit {0}

-- in what was read the names are in order and few, none is listed at 64 names, and nothing behind the first location left is read yet
pub record IsShapedScan (case : Case) (s : Scan) : Type 0 where
  pub partial : IsPartialTree case s.partial
  pub shallow : IsShallow case (length s.path) s.partial
  pub front : IsFront s.partial

-- a scan in progress is in shape; nothing is asked of a closed one
abbrev pub IsShapedSlot : Case → Option Scan → Type 0
IsShapedSlot case None = Unit {0}
IsShapedSlot case (Some s) = IsShapedScan case s

-- the digest is that of the inputs and snapshots kept beside it, and these are trees
pub record IsShapedPrint (case : Case) (k : KeptPrint) : Type 0 where
  pub digest : k.digest ≡ fingerprint case k.seen
  pub trees : Each (λ (v : Seen). IsTree case v.snapshot) k.seen

-- a state is in shape: all of soundness that does not speak of the world
pub record IsShaped (s : State) : Type 0 where
  pub limits : IsInLimits s
  pub short : HasShortPaths s
  pub shape : IsInShape s.case s.retained
  pub scans : Each (IsShapedSlot s.case) s.scans
  pub kept : Each (IsShapedPrint s.case) s.kept

-- no event waits, and the mark is clear
pub record IsSettled (s : State) : Type 0 where
  pub events : s.pending.events ≡ []
  pub mark : s.pending.mark ≡ false

-- an input with the scan of its root
abbrev pub scanned_input : Case → World → Input → Seen
scanned_input case world i = record { input = i; snapshot = scan case world (place case i.root) }

-- the fingerprint of inputs in a world
abbrev pub fingerprint_of : Case → World → List Input → List ℕ
fingerprint_of case world inputs = fingerprint case (map (scanned_input case world) inputs)

-- the inputs of a kept print
abbrev pub inputs_of : KeptPrint → List Input
inputs_of k = map (λ (v : Seen). v.input) k.seen

-- what is retained and kept is what a scan of the world gives: the snapshots, the known directories and the kept fingerprints
pub record AreScanned (case : Case) (world : World) (retained : Retained) (kept : List KeptPrint) : Type 0 where
  pub pairs : Each (λ (r : Pair). r.snapshot ≡ scan case world r.path) retained.pairs
  pub dirs : Each (λ d. status_of (at case world d) ≡ IsDir) retained.dirs
  pub prints : Each (λ (k : KeptPrint). k.digest ≡ fingerprint_of case world (inputs_of k)) kept

-- all that a state knows is what a scan of its world gives
abbrev pub IsScanned : State → Type 0
IsScanned s = AreScanned s.case s.world s.retained s.kept
