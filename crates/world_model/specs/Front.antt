-- What a queue of events shows first, and how it goes on without it.
use Rattle.std.specs.Prelude.{◌≡◌, true, false, List, [], ◌∷◌, drop, if◌then◌else◌}
use Rattle.vfs_model.specs.Paths.{Path}
use Rattle.vfs_model.specs.Pending.{Pending}
use Rattle.world_model.specs.declared.intake.Front.{Front}
use Rattle.world_model.specs.declared.intake.Front.TheVariants.{Mark, Event, Empty}

-- the list begins with the event
abbrev pub IsFirst : List Path → Path → Type 0
IsFirst [] e = ⊥
IsFirst (f ∷ rest) e = f ≡ e

-- the mark comes first, and then the first event
abbrev pub IsFront : Pending → Front → Type 0
IsFront p Mark = p.mark ≡ true
IsFront p (Event e) = (p.mark ≡ false) × IsFirst p.events e.now
IsFront p Empty = (p.mark ≡ false) × (p.events ≡ [])

-- the queue without what it shows first
abbrev pub without_front : Pending → Pending
without_front p = record {
  events = if p.mark then p.events else drop 1 p.events;
  capacity = p.capacity;
  mark = false;
}
