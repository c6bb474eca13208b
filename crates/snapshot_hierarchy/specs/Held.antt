-- What a holder of snapshots tells of itself.
use Rattle.std.specs.Prelude.{Bool, true, false, List, [], ◌∷◌, Option, refl}
use Rattle.std.specs.Coded.{Coded, code_by, coded×, coded_option}
use Rattle.vfs_model.specs.declared.Case.{Case}
use Rattle.vfs_model.specs.Paths.{Path}
use Rattle.vfs_model.specs.Snapshot.{Snapshot}
use Rattle.vfs_model.specs.Retained.{Retained}
use Rattle.vfs_model.specs.History.{Change, Kept, Gone, AllGone, ChangeLog}
use Rattle.vfs_model.specs.Code.{case_code, retained_code, log_code}
use Rattle.snapshot_tree.specs.Meaning.{meaning_of}
use Rattle.snapshot_hierarchy.specs.declared.retain.Stored.{Stored}
use Rattle.snapshot_hierarchy.specs.declared.retain.Stored.TheVariants as stored
use Rattle.snapshot_hierarchy.specs.declared.change.Change.{Change as ChangeValue}
use Rattle.snapshot_hierarchy.specs.declared.change.Change.TheVariants as change

-- the case under which its paths are compared, the two lists, and the changes so far where they are told
pub record Held : Type 0 where
  pub case : Case
  pub retained : Retained
  pub log : Option ChangeLog

abbrev pub held_code : Coded Held
held_code = code_by (Case × (Retained × Option ChangeLog)) (coded× case_code (coded× retained_code (coded_option log_code))) (λ h. (h.case, (h.retained, h.log))) (λ p. record { case = p.0; retained = p.1.0; log = p.1.1 }) (λ _. refl)

-- nothing is retained
abbrev pub nothing : Retained
nothing = record { pairs = []; dirs = [] }

-- the store came to nothing, since a pair stands strictly above
abbrev pub was_covered : Stored → Bool
was_covered stored.Kept = false
was_covered stored.Covered = true

-- the change that a store of the snapshot at the path makes
abbrev pub changes_of_store : Path → Snapshot → Stored → List Change
changes_of_store p s stored.Kept = Kept p s ∷ []
changes_of_store p s stored.Covered = []

-- the change
abbrev pub change_of : ChangeValue → Change
change_of (change.Kept p s) = Kept p (meaning_of s)
change_of (change.Gone p) = Gone p
change_of change.Cleared = AllGone
