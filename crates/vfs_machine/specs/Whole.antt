-- What a machine keeps, by its parts.
use Rattle.std.specs.Prelude.{◌≡◌, ℕ, List, [], Option, None, false, replicate, length}
use Rattle.std.specs.List.{AllByRecursion as Each}
use Rattle.vfs_model.specs.declared.Case.{Case}
use Rattle.vfs_model.specs.Pending.{Pending}
use Rattle.vfs_model.specs.State.{KeptPrint}
use Rattle.vfs_model.specs.Stands.{RunningScan, Parts}
use Rattle.world_model.specs.Told.{TreeTold}
use Rattle.snapshot_hierarchy.specs.Held.{Held}
use Rattle.publish_core.specs.Holds.{Holds}
use Rattle.scan_walk.specs.Cased.{CasedScan, IsUnder}

-- the parts of a machine
abbrev pub parts_of : {V : Type 0} → TreeTold → Pending → Holds V → List (Option RunningScan) → List KeptPrint → Parts V
parts_of told pending holds scans kept = record {
  case = holds.case;
  content = told.content;
  faults = told.faults;
  answers = told.answers;
  pending = pending;
  retained = holds.retained;
  log = holds.log;
  versions = holds.versions;
  scans = scans;
  kept = kept;
}

-- the tree, what is retained and the walks of the scans have one case, and there are sixteen scans
pub record IsWhole (tree case : Case) (scans : List (Option CasedScan)) : Type 0 where
  pub one_case : tree ≡ case
  pub sixteen : length scans ≡ 16
  pub walks : Each (IsUnder case) scans

-- what a machine keeps at first: sixteen closed scans, nothing pending, and no fingerprint
abbrev pub opening_parts : {V : Type 0} → TreeTold → ℕ → Held → V → Parts V
opening_parts told queue held versions = record {
  case = held.case;
  content = told.content;
  faults = told.faults;
  answers = told.answers;
  pending = record { events = []; capacity = queue; mark = false };
  retained = held.retained;
  log = held.log;
  versions = versions;
  scans = replicate 16 None;
  kept = [];
}

-- what a machine's tree tells
abbrev pub told_of : {V : Type 0} → Parts V → TreeTold
told_of m = record { case = m.case; content = m.content; faults = m.faults; answers = m.answers }

-- what a machine's holder of snapshots tells
abbrev pub held_of : {V : Type 0} → Parts V → Held
held_of m = record { case = m.case; retained = m.retained; log = m.log }
