-- What the views of seats say: which tickets they have, which callers they stand for, and the own lists of these.
use Rattle.std.specs.Prelude.{◌≡◌, ℕ, ◌+◌, ◌==◌, ◌⊎◌, Bool, List, [], ◌∷◌, cond}
use mathlib.Core.Option.{some}
use lib.ListN.{get_elem?}
use Rattle.update_lock.specs.declared.view.OwnList.{OwnList}
use Rattle.update_lock.specs.declared.view.Stage.TheVariants.{Waits, Holds}
use Rattle.update_lock.specs.declared.view.View.{View}

-- the sum of a number of each
abbrev pub total : {A : Type 0} → (A → ℕ) → List A → ℕ
total f [] = 0
total f (x ∷ xs) = f x + total f xs

abbrev pub one_if : Bool → ℕ
one_if b = cond b 1 0

-- how often the caller c stands among these
abbrev pub times : {E : Type 0} → ℕ → List (OwnList E) → ℕ
times c [] = 0
times c (o ∷ os) = one_if (o.caller == c) + times c os

-- the entries of the caller c, each with its place, where the first entry of the list has the place k
abbrev pub placed_from : {E : Type 0} → (E → ℕ) → ℕ → ℕ → List E → List (ℕ × E)
placed_from by c k [] = []
placed_from by c k (e ∷ es) = cond (by e == c) ((k, e) ∷ placed_from by c (k + 1) es) (placed_from by c (k + 1) es)

-- the entries of the caller c, each with its place
abbrev pub placed : {E : Type 0} → (E → ℕ) → ℕ → List E → List (ℕ × E)
placed by c es = placed_from by c 0 es

module _ {J E : Type 0} where
  -- P holds of each view and its number
  abbrev pub EachView : List (View J E) → (ℕ → View J E → Type 0) → Type 0
  EachView views P = (i : ℕ) (v : View J E) → get_elem? views i ≡ some v → P i v

  -- the view has the turn: its ticket t is served, and it names the value that it found
  abbrev pub HasTurn : ℕ → J → View J E → Type 0
  HasTurn t found v = v.stage ≡ Holds t found

  -- the view has the ticket t
  abbrev pub HasTicket : ℕ → View J E → Type 0
  HasTicket t v = (v.stage ≡ Waits t) ⊎ ((found : J) × HasTurn t found v)

  -- a view has the turn
  abbrev pub IsOut : List (View J E) → Type 0
  IsOut views = (i : ℕ) × (v : View J E) × (t : ℕ) × (found : J) × (get_elem? views i ≡ some v) × HasTurn t found v

  -- of each caller that the view stands for
  abbrev pub EachList : View J E → (OwnList E → Type 0) → Type 0
  EachList v P = (m : ℕ) (o : OwnList E) → get_elem? v.lists m ≡ some o → P o

  -- how often the caller c stands in all views
  abbrev pub times_in_all : ℕ → List (View J E) → ℕ
  times_in_all c views = total (λ (v : View J E). times c v.lists) views
