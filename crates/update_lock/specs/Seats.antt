-- What clauses say of a lock and its seats.
use Rattle.std.specs.Prelude.{◌≡◌, ℕ, ◌+◌, ◌<◌, ◌≤◌, min, List, [], ◌∷◌, ◌++◌, length, Some, None, zero, suc}
use mathlib.Core.Option.{some}
use lib.ListN.{get_elem?}
use Rattle.update_lock.specs.declared.journaled.Journaled.{Ghosts}
use Rattle.update_lock.specs.declared.lock.Lock.{Lock}
use Rattle.update_lock.specs.declared.seat.Seat.{Seat}
use Rattle.update_lock.specs.declared.seat.Held.{Held}
use Rattle.update_lock.specs.declared.view.OwnList.{OwnList}
use Rattle.update_lock.specs.declared.view.Stage.TheVariants.{Idle, Holds}
use Rattle.update_lock.specs.declared.view.View.{View}
use Rattle.update_lock.specs.Views.{placed}
use Rattle.update_lock.specs.Rule.{IsAsMade}
use Rattle.update_lock.specs.Steps.{Mine}

module _ {E : Type 0} where
  abbrev pub first_caller : List (OwnList E) → ℕ
  first_caller [] = 0
  first_caller (o ∷ os) = o.caller

  abbrev pub first_entries : List (OwnList E) → List (ℕ × E)
  first_entries [] = []
  first_entries (o ∷ os) = o.entries

module _ {J E : Type 0} where
  -- the caller of a view of one caller, and its own list
  abbrev pub own_of : View J E → OwnList E
  own_of v = record { caller = first_caller v.lists; entries = first_entries v.lists }

  abbrev pub IsSingle : View J E → Type 0
  IsSingle v = v.lists ≡ own_of v ∷ []

  -- the view w has the caller of v with its own list, and knows of its last ticket
  abbrev pub Has : View J E → View J E → Type 0
  Has v w = ((m : ℕ) × (get_elem? w.lists m ≡ some (own_of v))) × (v.after_last ≤ w.after_last)

  -- a view of n callers that has no ticket and holds no slot
  abbrev pub IsWhole : J → ℕ → Mine J E → Type 0
  IsWhole made n m = (m.0.stage ≡ Idle) × (m.0.made ≡ Some made) × (m.1 ≡ []) × (length m.0.lists ≡ n)

module _ {J E B : Type 0} where
  -- the value that the lock was made with
  abbrev pub made_of : Lock J E B → J
  made_of lock = lock.table.shared.key.0.value

  -- how many seats it was made with
  abbrev pub seats_of : Lock J E B → ℕ
  seats_of lock = lock.table.shared.key.1

module _ {J E B : Type 0} {journal : Ghosts J E B} where
  -- the caller that the seat is
  abbrev pub caller_of : Seat J E B journal → ℕ
  caller_of seat = (own_of seat.inner.me.0).caller

  -- the seat's own list: its caller's entries, each with its place
  abbrev pub own_list_of : Seat J E B journal → List (ℕ × E)
  own_list_of seat = (own_of seat.inner.me.0).entries

  -- how many tickets the seat drew
  abbrev pub drawn_of : Seat J E B journal → ℕ
  drawn_of seat = seat.inner.me.0.drawn

  -- the number after the seat's last ticket; 0 where it drew none
  abbrev pub after_last_of : Seat J E B journal → ℕ
  after_last_of seat = seat.inner.me.0.after_last

  -- `make` gave the seat with the lock
  abbrev pub IsSeatOf : Lock J E B → Seat J E B journal → Type 0
  IsSeatOf lock seat = (seat.inner.table_id ≡ lock.table.shared.table_id) × (seat.inner.me.0.made ≡ Some (made_of lock)) × IsSingle seat.inner.me.0

  -- the seat does not have the value
  abbrev pub IsAtRest : Seat J E B journal → Type 0
  IsAtRest seat = (seat.inner.me.0.stage ≡ Idle) × (seat.inner.me.1 ≡ [])

  -- the seat has taken what is held
  abbrev pub IsHolding : Seat J E B journal → Held J → Type 0
  IsHolding seat held = (seat.inner.me.0.stage ≡ Holds held.place held.found.value) × (seat.inner.me.1 ≡ (0, None) ∷ [])

  -- the seat drew the ticket t, which is greater than its last one and is now the last one; caller and own list stay
  abbrev pub Drew : Seat J E B journal → ℕ → Seat J E B journal → Type 0
  Drew old t new = (after_last_of old ≤ t) × (after_last_of new ≡ t + 1) × (drawn_of new ≡ drawn_of old + 1) × (caller_of new ≡ caller_of old) × (own_list_of new ≡ own_list_of old)

  -- what is found at the place t: base and room of the making, as many entries as t says or as there is room for, and in them the seat's own list
  abbrev pub Finds : J → Seat J E B journal → ℕ → J → Type 0
  Finds made seat t found = IsAsMade journal made found × (length (journal.log found) ≡ min t (journal.room found)) × (own_list_of seat ≡ placed journal.caller (caller_of seat) (journal.log found))

  -- caller and tickets stay; where the place is below the room, the own list grows by the entry that was added, with the place; else it stays
  abbrev pub Grows : Seat J E B journal → Held J → Seat J E B journal → Type 0
  Grows old held new = (drawn_of new ≡ drawn_of old) × (after_last_of new ≡ after_last_of old) × (caller_of new ≡ caller_of old)
      × (held.place < journal.room held.found.value → (e : E) × (journal.caller e ≡ caller_of old) × (journal.log held.value ≡ journal.log held.found.value ++ e ∷ []) × (own_list_of new ≡ own_list_of old ++ (held.place, e) ∷ []))
      × (journal.room held.found.value ≤ held.place → own_list_of new ≡ own_list_of old)

  -- a new seat does not have the value, drew no ticket and has no entries
  abbrev pub IsNew : Seat J E B journal → Type 0
  IsNew seat = IsAtRest seat × (own_list_of seat ≡ []) × (drawn_of seat ≡ 0) × (after_last_of seat ≡ 0)

  -- the own list is what the journal has of the caller, place by place, and a last ticket that is not below the room means a full journal
  abbrev pub IsKept : J → Seat J E B journal → Type 0
  IsKept value seat = (own_list_of seat ≡ placed journal.caller (caller_of seat) (journal.log value)) × (journal.room value < after_last_of seat → length (journal.log value) ≡ journal.room value)

-- n numbers from k on
abbrev pub numbers_from : ℕ → ℕ → List ℕ
numbers_from k zero = []
numbers_from k (suc n) = k ∷ numbers_from (k + 1) n
