-- Events that wait for their delivery.
use Rattle.std.specs.Prelude.{ℕ, ◌+◌, Bool, true, ◌||◌, List, [], ◌∷◌, ◌++◌, length, if◌then◌else◌, nat_lt, max}
use Rattle.vfs_model.specs.Paths.{Path, Case, is_related}
use Rattle.vfs_model.specs.Edit.{is_told}

-- the queue of events, how many it holds at most, and the mark that events were lost
pub record Pending : Type 0 where
  pub events : List Path
  pub capacity : ℕ
  pub mark : Bool

-- one event more fits
abbrev pub has_room : Pending → Bool
has_room p = nat_lt (length p.events) p.capacity

-- an event goes last; one that does not fit empties the queue and sets the mark
abbrev pub put : Path → Pending → Pending
put e p =
    if has_room p
    then record { events = p.events ++ e ∷ []; capacity = p.capacity; mark = p.mark }
    else record { events = []; capacity = p.capacity; mark = true }

-- the events go in, one after the other
abbrev pub put_all : List Path → Pending → Pending
put_all [] p = p
put_all (e ∷ more) p = put_all more (put e p)

-- what is known of the place may be out of date: the mark is set, or an event at or above it waits
abbrev pub is_hit : Case → Pending → Path → Bool
is_hit case p x = p.mark || is_told case p.events x

-- how many deliveries there are until nothing is pending: one of the mark, and one of each event
abbrev pub deliveries_due : Pending → ℕ
deliveries_due p = (if p.mark then 1 else 0) + length p.events

-- ---- the places invalidated so far

-- the greatest position of a place related to x, or 0; the first of the list has the position n + 1
abbrev pub version_from : ℕ → List Path → Path → ℕ
version_from n [] x = 0
version_from n (e ∷ more) x = max (if is_related e x then n + 1 else 0) (version_from (n + 1) more x)

-- the version of the place x: the greatest position, counted from 1, of an invalidated place related to it, or 0
abbrev pub version : List Path → Path → ℕ
version past x = version_from 0 past x
