-- Scans in progress, each with the case of its walk.
use Rattle.std.specs.Prelude.{◌≡◌, ℕ, List, map, Option, Some, None, slice_get, refl}
use Rattle.std.specs.Coded.{Coded, code_by, coded×}
use Rattle.vfs_model.specs.declared.Case.{Case}
use Rattle.vfs_model.specs.Code.{case_code, running_code}
use Rattle.vfs_model.specs.Stands.{RunningScan}

-- a scan in progress, and the case of its walk
pub record CasedScan : Type 0 where
  pub case : Case
  pub scan : RunningScan

abbrev pub cased_code : Coded CasedScan
cased_code = code_by (Case × RunningScan) (coded× case_code running_code) (λ s. (s.case, s.scan)) (λ t. record { case = t.0; scan = t.1 }) (λ _. refl)

-- the scan, where it is in progress
abbrev pub running_of : Option CasedScan → Option RunningScan
running_of None = None
running_of (Some s) = Some s.scan

-- the scans alone
abbrev pub scans_in : List (Option CasedScan) → List (Option RunningScan)
scans_in scans = map running_of scans

-- a scan that is in progress, where the number is one of a scan
abbrev pub cased_slot : Option (Option CasedScan) → Option CasedScan
cased_slot None = None
cased_slot (Some s) = s

-- the scan with the number, where it is in progress
abbrev pub cased_at : List (Option CasedScan) → ℕ → Option CasedScan
cased_at scans c = cased_slot (slice_get scans c)

-- the walk of the scan, where it is in progress, has this case
abbrev pub IsUnder : Case → Option CasedScan → Type 0
IsUnder case None = Unit {0}
IsUnder case (Some s) = s.case ≡ case
