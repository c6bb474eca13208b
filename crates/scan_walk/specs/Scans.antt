-- What is asked of a scan, and what it answers.
use Rattle.std.specs.Prelude.{◌≡◌, ℕ, ◌+◌, ◌++◌, length, List, map, Option, Some, None, IsSome, option_map, slice_get}
use Rattle.std.specs.Option.{ForSome}
use Rattle.vfs_model.specs.declared.Case.{Case}
use Rattle.vfs_model.specs.Paths.{Path}
use Rattle.vfs_model.specs.World.{digest_of_bytes}
use Rattle.vfs_model.specs.Scanning.{Look, next_left, after_look, contents, IsPartialTree, IsShallow, IsFront}
use Rattle.vfs_model.specs.Sound.{IsLook}
use Rattle.vfs_model.specs.Stands.{RunningScan}
use Rattle.scan_walk.specs.Cased.{CasedScan}
use Rattle.scan_walk.specs.declared.slots.Next.{Next}
use Rattle.scan_walk.specs.declared.slots.Next.TheVariants as to

-- a scan that is in progress, where the number is one of a scan
abbrev pub open_slot : Option (Option RunningScan) → Option RunningScan
open_slot None = None
open_slot (Some r) = r

-- the scan with the number, where it is in progress
abbrev pub running_at : List (Option RunningScan) → ℕ → Option RunningScan
running_at scans c = open_slot (slice_get scans c)

-- the location to be read next, where one is left
abbrev pub location_of : RunningScan → Option Path
location_of r = option_map (λ y. r.path ++ y) (next_left r.partial)

-- where the scan goes on
abbrev pub IsNext : Option RunningScan → Next → Type 0
IsNext None to.Closed = Unit {0}
IsNext None to.Done = ⊥
IsNext None (to.Location p) = ⊥
IsNext (Some r) to.Closed = ⊥
IsNext (Some r) to.Done = location_of r ≡ None
IsNext (Some r) (to.Location p) = location_of r ≡ Some p

-- the scan is in progress, and has a next location
abbrev pub HasNext : Option RunningScan → Type 0
HasNext r = (p : Path) × IsNext r (to.Location p)

-- a location is left, and the look lists names as one at that location does
pub record IsLookOf (s : CasedScan) (l : Look) : Type 0 where
  pub left : IsSome (next_left s.scan.partial)
  pub look : ForSome (next_left s.scan.partial) (λ y. IsLook s.case (length s.scan.path + length y) l)

-- the same of the scan, where it is in progress
abbrev pub IsLookOfOpen : Option CasedScan → Look → Type 0
IsLookOfOpen None l = Unit {0}
IsLookOfOpen (Some s) l = IsLookOf s l

-- the scan after the look at its next location
abbrev pub scan_after : Look → RunningScan → RunningScan
scan_after l r = record r { partial = after_look l r.partial }

-- the same, with the case of its walk
abbrev pub cased_after : Look → CasedScan → CasedScan
cased_after l s = record { case = s.case; scan = scan_after l s.scan }

-- the names of each directory that was read are in order and few, none is listed at 64 names, and nothing behind the next location is read yet
pub record IsShapedRunning (case : Case) (r : RunningScan) : Type 0 where
  pub partial : IsPartialTree case r.partial
  pub shallow : IsShallow case (length r.path) r.partial
  pub front : IsFront r.partial

-- the digests are those of the contents of the scan, in order, where it is in progress
abbrev pub AreContentsOf : Option RunningScan → List (List ℕ) → Type 0
AreContentsOf None digests = Unit {0}
AreContentsOf (Some r) digests = digests ≡ map digest_of_bytes (contents r.partial)

-- nothing is left of the scan, where it is in progress
abbrev pub IsDone : Option RunningScan → Type 0
IsDone None = Unit {0}
IsDone (Some r) = next_left r.partial ≡ None

-- the digests are those of the contents of the scan, in order, where it is in progress with nothing left
abbrev pub AreDigests : Option RunningScan → List (List ℕ) → Type 0
AreDigests None digests = Unit {0}
AreDigests (Some r) digests = next_left r.partial ≡ None → digests ≡ map digest_of_bytes (contents r.partial)
