-- The rule of the ticket lock: what holds between any two steps, whichever seats take them.
-- Word 0 is the ticket that is drawn next, and word 1 the one that is served. The one slot has the value while no seat has it.
-- A spent view, which is left over where two seats were joined, stands for no caller and has no ticket.
use Rattle.std.specs.Prelude.{◌≡◌, ℕ, ◌*◌, ◌^◌, ◌<◌, ◌≤◌, min, List, [], ◌∷◌, ◌++◌, length, Option, Some}
use mathlib.Core.Option.{some}
use mathlib.Core.Option as maybe
use lib.ListN.{get_elem?}
use Rattle.atomic_table.specs.Table.{State}
use Rattle.update_lock.specs.declared.journaled.Journaled.{Ghosts}
use Rattle.update_lock.specs.declared.view.OwnList.{OwnList}
use Rattle.update_lock.specs.declared.view.Stage.TheVariants.{Idle}
use Rattle.update_lock.specs.declared.view.View.{View}
use Rattle.update_lock.specs.Views.{total, times_in_all, placed, EachView, EachList, HasTurn, HasTicket, IsOut}

module _ {J E B : Type 0} (journal : Ghosts J E B) where
  -- the value has the room and the base of the one that the lock was made with
  abbrev pub IsAsMade : J → J → Type 0
  IsAsMade made value = (journal.room value ≡ journal.room made) × (journal.base value ≡ journal.base made)

  -- what a view's list of the caller says is what the journal has of it, place by place
  abbrev pub IsOwn : J → OwnList E → Type 0
  IsOwn value o = o.entries ≡ placed journal.caller o.caller (journal.log value)

  -- Each ticket from `serving` up to below `next` is that of exactly one view, the one that drew it, and no other number is a ticket
  pub record TicketsAre (drawer : ℕ → ℕ) (serving next : ℕ) (views : List (View J E)) : Type 0 where
    pub each : (t : ℕ) → serving ≤ t → t < next → (v : View J E) × (get_elem? views (drawer t) ≡ some v) × HasTicket t v
    pub no_other : EachView views (λ i v. (t : ℕ) → HasTicket t v → (drawer t ≡ i) × (serving ≤ t) × (t < next))

  -- The callers 0 to n - 1, at most 16, each stand in one view, and no other caller has an entry
  pub record CallersAre (n : ℕ) (value : J) (views : List (View J E)) : Type 0 where
    pub few : n ≤ 16
    pub all : total (λ (v : View J E). length v.lists) views ≡ n
    pub numbers : EachView views (λ i v. EachList v (λ o. o.caller < n))
    pub once : (c : ℕ) → times_in_all c views ≤ 1
    pub others : (c : ℕ) → n ≤ c → placed journal.caller c (journal.log value) ≡ []
    pub spent : EachView views (λ i v. v.lists ≡ [] → v.stage ≡ Idle)

  -- What may be given back at a place by a caller: what was found, with one entry of that caller more where there is room
  abbrev pub Follows : ℕ → ℕ → J → J → Type 0
  Follows caller place found given = (journal.room given ≡ journal.room found) × (journal.base given ≡ journal.base found)
      × (place < journal.room found → (e : E) × (journal.caller e ≡ caller) × (journal.log given ≡ journal.log found ++ e ∷ []))
      × (journal.room found ≤ place → journal.log given ≡ journal.log found)

  -- The rule of a lock that was made with the value `made` for n callers
  pub record Rule (made : J) (n : ℕ) (s : State (Option J) (View J E)) : Type 0 where
    -- the ticket drawn next, the one served, the value at home or as it was when it was taken, and which view drew each ticket
    pub next : ℕ
    pub serving : ℕ
    pub value : J
    pub drawer : ℕ → ℕ
    pub home : maybe.Option (Option J)
    pub words : s.words ≡ next ∷ serving ∷ []
    pub slot : s.homes ≡ home ∷ []
    -- 1. The ticket served is at most the next one, and each view's last ticket is below the next one.
    pub below : (serving ≤ next) × EachView s.views (λ i v. v.after_last ≤ next)
    -- 2. Each number from the served one up to below the next one is the ticket of exactly one view.
    pub tickets : TicketsAre drawer serving next s.views
    -- 3. At most one view has the turn, and its ticket is the served one.
    pub turn : EachView s.views (λ i v. (t : ℕ) (found : J) → HasTurn t found v → (i ≡ drawer serving) × (t ≡ serving))
    -- 4. While no view has the turn, the value is at home.
    pub at_home : ¬ IsOut s.views → home ≡ some (Some value)
    -- 4. and 5. Its journal has as many entries as the served number says, or as the room where that is less. While the value is out, this is said of the journal as it was when it was taken.
    pub long : length (journal.log value) ≡ min serving (journal.room made)
    -- 5. The view that has the turn names the value that was taken.
    pub named : EachView s.views (λ i v. (t : ℕ) (found : J) → HasTurn t found v → found ≡ value)
    -- 6. The put is judged against the named value: `Follows`, which the step `pass on` asks for.
    -- 7. Each view stands for one or more callers. No caller stands in two, and one that stands in none has no entry.
    pub callers : CallersAre n value s.views
    -- 8. Each own list in a view is that caller's entries in the journal. Once the value is put and not yet passed on, the holder's list lacks the entry that was added.
    pub own : EachView s.views (λ i v. EachList v (IsOwn value))
    -- 9. Each view knows the value that the lock was made with, and the value has its base and its room.
    pub as_made : IsAsMade made value × EachView s.views (λ i v. (m : J) → v.made ≡ Some m → m ≡ made)
    -- 10. The next number is the sum of the numbers of tickets that the views drew, at most 2^58 for each caller, so that it never wraps.
    pub drawn : (total (λ (v : View J E). v.drawn) s.views ≡ next) × EachView s.views (λ i v. v.drawn ≤ 2 ^ 58 * length v.lists)
