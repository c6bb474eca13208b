-- What each step of the lock tells the seat that takes it.
use Rattle.std.specs.Prelude.{◌≡◌, ℕ, max, min, ◌+◌, ◌≤◌, List, [], ◌∷◌, ◌++◌, length, Option, Some, None, zero, suc}
use Rattle.atomic_table.specs.Table.{Me}
use Rattle.update_lock.specs.declared.journaled.Journaled.{Ghosts}
use Rattle.update_lock.specs.declared.view.OwnList.{OwnList}
use Rattle.update_lock.specs.declared.view.Stage.{Stage}
use Rattle.update_lock.specs.declared.view.Stage.TheVariants.{Idle, Waits, Holds}
use Rattle.update_lock.specs.declared.view.View.{View}
use Rattle.update_lock.specs.Views.{placed, EachList, HasTurn}
use Rattle.update_lock.specs.Rule.{IsAsMade, IsOwn}

-- a seat's view, and the slots that it has taken
abbrev pub Mine : Type 0 → Type 0 → Type 0
Mine J E = Me (Option J) (View J E)

module _ {J E : Type 0} where
  -- the same view at another stage
  abbrev pub at_stage : View J E → Stage J → View J E
  at_stage v st = record { stage = st; made = v.made; lists = v.lists; drawn = v.drawn; after_last = v.after_last }

  -- the view once it drew the ticket t
  abbrev pub waiting : View J E → ℕ → View J E
  waiting v t = record { stage = Waits t; made = v.made; lists = v.lists; drawn = v.drawn + 1; after_last = t + 1 }

  -- draw: the number found is the seat's ticket, and is greater than its last one
  abbrev pub Draws : Mine J E → ℕ → Mine J E → Type 0
  Draws before t after = (before.0.after_last ≤ t) × (after ≡ (waiting before.0 t, before.1))

module _ {J E B : Type 0} (journal : Ghosts J E B) where
  -- what is found at the place t: what was made, with as many entries as t says or as there is room for, of which the view knows its callers' ones
  pub record Found (v : View J E) (t : ℕ) (value : J) : Type 0 where
    pub as_made : (made : J) → v.made ≡ Some made → IsAsMade journal made value
    pub long : length (journal.log value) ≡ min t (journal.room value)
    pub own : EachList v (IsOwn journal value)

  -- look: where the number found is the ticket, the seat has the turn, and the slot with the value; else nothing changes
  abbrev pub Looks : Mine J E → ℕ → Mine J E → Type 0
  Looks before t after = (before.0.stage ≡ Waits t → (value : J) × Found before.0 t value × (after ≡ (at_stage before.0 (Holds t value), (0, Some value) ∷ before.1)))
      × (¬ (before.0.stage ≡ Waits t) → after ≡ before)

  -- a view of one caller, once the value was given back
  abbrev pub rested : View J E → ℕ → J → View J E
  rested v c given = record { stage = Idle; made = v.made; lists = record { caller = c; entries = placed journal.caller c (journal.log given) } ∷ []; drawn = v.drawn; after_last = v.after_last }

  -- pass on: ticket and turn go, the slot goes home with the value in it, and the own list is the caller's entries in its journal
  abbrev pub PassesOn : Mine J E → Mine J E → Type 0
  PassesOn before after = (t : ℕ) × (found : J) × (given : J) × (o : OwnList E) × HasTurn t found before.0 × Found before.0 t found × (before.1 ≡ (0, Some given) ∷ []) × (before.0.lists ≡ o ∷ [])
      × (after ≡ (rested before.0 o.caller given, []))

-- n callers from k on, with no entries
abbrev pub callers_from : {E : Type 0} → ℕ → ℕ → List (OwnList E)
callers_from k zero = []
callers_from k (suc n) = record { caller = k; entries = [] } ∷ callers_from (k + 1) n

module _ {J E : Type 0} where
  -- the first view, of n callers
  abbrev pub opened : J → ℕ → View J E
  opened made n = record { stage = Idle; made = Some made; lists = callers_from 0 n; drawn = 0; after_last = 0 }

module _ {E : Type 0} where
  abbrev pub first_list : List (OwnList E) → List (OwnList E)
  first_list [] = []
  first_list (o ∷ os) = o ∷ []

  abbrev pub other_lists : List (OwnList E) → List (OwnList E)
  other_lists [] = []
  other_lists (o ∷ os) = os

module _ {J E : Type 0} where
  -- split: the view without its first caller
  abbrev pub without_first : View J E → View J E
  without_first v = record { stage = v.stage; made = v.made; lists = other_lists v.lists; drawn = v.drawn; after_last = v.after_last }

  -- split: a view of the first caller alone, which drew nothing yet
  abbrev pub first_alone : View J E → View J E
  first_alone v = record { stage = Idle; made = v.made; lists = first_list v.lists; drawn = 0; after_last = 0 }

  -- join: the callers of both, the sum of what they drew, and the greater last ticket
  abbrev pub both : View J E → View J E → View J E
  both v w = record { stage = v.stage; made = v.made; lists = v.lists ++ w.lists; drawn = v.drawn + w.drawn; after_last = max v.after_last w.after_last }

  -- join: what is left of the other view
  abbrev pub spent : View J E
  spent = record { stage = Idle; made = None; lists = []; drawn = 0; after_last = 0 }
