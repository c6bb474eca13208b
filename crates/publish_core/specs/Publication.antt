-- What comes of a publication.
use Rattle.std.specs.Prelude.{◌≡◌, ◌<◌, ◌≤◌, ℕ, Bool, true, false, List, [], ◌∷◌, Option, Some, None}
use Rattle.vfs_model.specs.Paths.{Path}
use Rattle.vfs_model.specs.Snapshot.{Snapshot}
use Rattle.vfs_model.specs.Retained.{Retained, after_store}
use Rattle.vfs_model.specs.History.{Change, Kept}
use Rattle.publish_core.specs.declared.published.Published.{Published}
use Rattle.publish_core.specs.declared.published.Published.TheVariants as answer
use Rattle.publish_core.specs.declared.published.Refusal.{Refusal}
use Rattle.publish_core.specs.declared.published.Refusal.TheVariants as refusal

-- why a publication is refused, by the version now, the version seen, and whether a pair stands
-- strictly above: it is stale exactly where the version has grown, and then with the version now;
-- else it is covered exactly where a pair stands there
abbrev pub IsRefusal : ℕ → ℕ → Bool → Option Refusal → Type 0
IsRefusal now seen covered (Some (refusal.Stale n)) = (n ≡ now) × (seen < now)
IsRefusal now seen covered (Some refusal.Covered) = (now ≤ seen) × (covered ≡ true)
IsRefusal now seen covered None = (now ≤ seen) × (covered ≡ false)

-- the answer: the refusal that is due, and memory is wanting only where none is due
abbrev pub IsAnswer : ℕ → ℕ → Bool → Published → Type 0
IsAnswer now seen covered (answer.Stale n) = IsRefusal now seen covered (Some (refusal.Stale n))
IsAnswer now seen covered answer.Covered = IsRefusal now seen covered (Some refusal.Covered)
IsAnswer now seen covered answer.Stored = IsRefusal now seen covered None
IsAnswer now seen covered answer.NoMemory = IsRefusal now seen covered None

-- what is retained afterwards
abbrev pub retained_after : Path → Snapshot → Retained → Published → Retained
retained_after p s old (answer.Stale n) = old
retained_after p s old answer.Covered = old
retained_after p s old answer.Stored = after_store p s old
retained_after p s old answer.NoMemory = old

-- the change that the publication of the snapshot at the path makes
abbrev pub changes_published : Path → Snapshot → Published → List Change
changes_published p s (answer.Stale n) = []
changes_published p s answer.Covered = []
changes_published p s answer.Stored = Kept p s ∷ []
changes_published p s answer.NoMemory = []

-- the publication is stale
abbrev pub is_stale : Published → Bool
is_stale (answer.Stale n) = true
is_stale answer.Covered = false
is_stale answer.Stored = false
is_stale answer.NoMemory = false
