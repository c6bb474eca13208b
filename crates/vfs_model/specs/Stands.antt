-- What a machine keeps, and which states it stands for.
use Rattle.std.specs.Prelude.{◌≡◌, ◌≤◌, ℕ, Bool, List, [], ◌∷◌, length, take, nat_lt, Option, Some, None}
use Rattle.std.specs.List.{AllByRecursion as Each}
use Rattle.vfs_model.specs.Paths.{Path, Case, place}
use Rattle.vfs_model.specs.World.{World, IsWorld, IsSameBelow}
use Rattle.vfs_model.specs.Pending.{Pending, version, is_hit}
use Rattle.vfs_model.specs.Retained.{Retained, IsInShape}
use Rattle.vfs_model.specs.Scanning.{PartialSnapshot, Scan}
use Rattle.vfs_model.specs.State.{State, KeptPrint, TreeAnswer}
use Rattle.vfs_model.specs.History.{ChangeLog}
use Rattle.vfs_model.specs.Sound.{IsCurrent, IsStillDir, IsTelling, IsTrueKept, IsSound, IsShaped}

-- the versions are those of this list of invalidated places, and the count is its length
pub record StandsFor (at : Path → ℕ) (count : ℕ) (past : List Path) : Type 0 where
  pub versions : (x : Path) → at x ≡ version past x
  pub number : count ≡ length past

-- a scan in progress as a machine keeps it, with the version of its path at its begin
pub record RunningScan : Type 0 where
  pub path : Path
  pub seen : ℕ
  pub partial : PartialSnapshot

-- what a machine keeps; the content is that of its tree, None where the tree does not tell it, and V is its type of versions
pub record Parts (V : Type 0) : Type 0 where
  pub case : Case
  pub content : Option World
  -- how many looks failed
  pub faults : ℕ
  -- what the tree answered so far, where it tells that
  pub answers : Option (List TreeAnswer)
  pub pending : Pending
  pub retained : Retained
  -- what changed what is retained, where that tells its changes
  pub log : Option ChangeLog
  pub versions : V
  pub scans : List (Option RunningScan)
  pub kept : List KeptPrint

-- the two are one scan: the same path and partial snapshot, and what the one saw at its begin is the version of the path in what was invalidated before the begin of the other
pub record IsScanOf (case : Case) (past : List Path) (r : RunningScan) (s : Scan) : Type 0 where
  pub path : s.path ≡ r.path
  pub partial : s.partial ≡ r.partial
  pub begun_at : s.begun_at ≤ length past
  pub seen : r.seen ≡ version (take s.begun_at past) (place case r.path)

-- both are closed, or the two are one scan
abbrev pub IsSlotOf : Case → List Path → Option RunningScan → Option Scan → Type 0
IsSlotOf case past None None = Unit {0}
IsSlotOf case past None (Some s) = ⊥
IsSlotOf case past (Some r) None = ⊥
IsSlotOf case past (Some r) (Some s) = IsScanOf case past r s

-- the scans of a machine are those of the state, number by number
abbrev pub AreSlotsOf : Case → List Path → List (Option RunningScan) → List (Option Scan) → Type 0
AreSlotsOf case past [] [] = Unit {0}
AreSlotsOf case past [] (s ∷ scans) = ⊥
AreSlotsOf case past (r ∷ slots) [] = ⊥
AreSlotsOf case past (r ∷ slots) (s ∷ scans) = IsSlotOf case past r s × AreSlotsOf case past slots scans

-- the machine stands for the state: what it keeps is what the state has, its versions are those of the invalidated places, and its content, where it is told, is the state's world in any order
pub record Stands {V : Type 0} (at : V → Path → ℕ) (count : V → ℕ) (m : Parts V) (s : State) : Type 0 where
  pub case : s.case ≡ m.case
  pub world : (w : World) → m.content ≡ Some w → IsSameBelow m.case s.world [] w []
  pub pending : s.pending ≡ m.pending
  pub retained : s.retained ≡ m.retained
  pub past : StandsFor (at m.versions) (count m.versions) s.past
  pub scans : AreSlotsOf m.case s.past m.scans s.scans
  pub kept : s.kept ≡ m.kept

-- the machine stands for a state in shape, and where its tree tells the content, for a sound one
pub record HasSound {V : Type 0} (at : V → Path → ℕ) (count : V → ℕ) (m : Parts V) : Type 0 where
  pub state : State
  pub stands : Stands at count m state
  pub shaped : IsShaped state
  pub sound : (w : World) → m.content ≡ Some w → IsSound state

-- ---- soundness without the list of invalidated places

-- the version of the scan's path has grown since its begin
abbrev pub has_grown : (Path → ℕ) → Case → RunningScan → Bool
has_grown at case r = nat_lt r.seen (at (place case r.path))

-- the scan says what is so in the world, unless its version has grown
abbrev pub IsTrueRunning : (Path → ℕ) → Case → (Path → Bool) → World → Option RunningScan → Type 0
IsTrueRunning at case excused world None = Unit {0}
IsTrueRunning at case excused world (Some r) = IsTelling case excused world (has_grown at case r) (place case r.path) r.partial

-- what a machine knows is true of the world, but where an event waits or the mark is set
pub record KnowsTruth {V : Type 0} (at : V → Path → ℕ) (m : Parts V) (world : World) : Type 0 where
  pub whole : IsWorld m.case world
  pub shape : IsInShape m.case m.retained
  pub pairs : Each (IsCurrent m.case (is_hit m.case m.pending) world) m.retained.pairs
  pub dirs : Each (IsStillDir m.case (is_hit m.case m.pending) world) m.retained.dirs
  pub scans : Each (IsTrueRunning (at m.versions) m.case (is_hit m.case m.pending) world) m.scans
  pub kept : Each (IsTrueKept m.case (is_hit m.case m.pending) world) m.kept
