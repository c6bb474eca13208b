-- What comes of the publication of a scan.
use Rattle.std.specs.Prelude.{◌≡◌, ◌<◌, ℕ, Bool, true, false, List, Option, Some, None, slice_set, option_map}
use Rattle.vfs_model.specs.Paths.{Path, place}
use Rattle.vfs_model.specs.Retained.{is_covered}
use Rattle.vfs_model.specs.Scanning.{snapshot_made}
use Rattle.vfs_model.specs.State.{Reply, Stale, Covered, Stored, NoMemory}
use Rattle.vfs_model.specs.History.{with_changes}
use Rattle.vfs_model.specs.Stands.{RunningScan}
use Rattle.scan_walk.specs.Cased.{CasedScan}
use Rattle.scan_walk.specs.Scans.{AreContentsOf, IsDone}
use Rattle.snapshot_hierarchy.specs.Held.{Held}
use Rattle.publish_core.specs.declared.published.Published.{Published}
use Rattle.publish_core.specs.declared.published.Published.TheVariants as published
use Rattle.publish_core.specs.Publication.{IsAnswer, retained_after, changes_published}
use Rattle.vfs_machine.specs.declared.answers.Answer.{Answer}
use Rattle.vfs_machine.specs.declared.answers.Answer.TheVariants as answer

-- the reply
abbrev pub published_reply : Published → Reply
published_reply (published.Stale n) = Stale n
published_reply published.Covered = Covered
published_reply published.Stored = Stored
published_reply published.NoMemory = NoMemory

-- every answer but want of memory closes the scan
abbrev pub scans_after : {S : Type 0} → List (Option S) → ℕ → Published → List (Option S)
scans_after scans c (published.Stale n) = slice_set scans c None
scans_after scans c published.Covered = slice_set scans c None
scans_after scans c published.Stored = slice_set scans c None
scans_after scans c published.NoMemory = scans

-- nothing is left of the scan, and the digests are those of its contents, in order
pub record IsFinished (s : CasedScan) (digests : List (List ℕ)) : Type 0 where
  pub done : IsDone (Some s.scan)
  pub read : AreContentsOf (Some s.scan) digests

-- the scan was published with the snapshot of what it read: the answer is the one that is due, what is retained is what comes of it, and the change is told where changes are
pub record IsPublishedOf (at : Path → ℕ) (old new : Held) (r : RunningScan) (result : Published) : Type 0 where
  pub answer : IsAnswer (at (place old.case r.path)) r.seen (is_covered old.retained.pairs (place old.case r.path)) result
  pub retained : new.retained ≡ retained_after (place old.case r.path) (snapshot_made r.partial) old.retained result
  pub log : new.log ≡ option_map (with_changes (changes_published r.path (snapshot_made r.partial) result)) old.log

-- the same of the scan that is in progress
abbrev pub IsPublished : (Path → ℕ) → Held → Held → Option RunningScan → Published → Type 0
IsPublished at old new None result = ⊥
IsPublished at old new (Some r) result = IsPublishedOf at old new r result

-- the answer to a publication of a scan that was begun at this version, which is now another: stale exactly where a related path was invalidated since the begin, and then with the version now, which has grown; want of memory only where none was
abbrev pub IsStaleWhere : Bool → ℕ → ℕ → Answer → Type 0
IsStaleWhere invalidated seen now answer.NoScan = ⊥
IsStaleWhere invalidated seen now (answer.Unfinished n) = Unit {0}
IsStaleWhere invalidated seen now (answer.Stale n) = (invalidated ≡ true) × (n ≡ now) × (seen < now)
IsStaleWhere invalidated seen now answer.Covered = invalidated ≡ false
IsStaleWhere invalidated seen now answer.NoMemory = invalidated ≡ false
IsStaleWhere invalidated seen now answer.Stored = invalidated ≡ false
