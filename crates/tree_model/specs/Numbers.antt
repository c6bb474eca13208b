-- The numbers of the places that were invalidated, as a tree.
use Rattle.std.specs.Prelude.{ℕ, max, List, [], ◌∷◌, if◌then◌else◌}
use Rattle.std.specs.declared.cmp.Ordering.{Ordering}
use Rattle.std.specs.declared.cmp.Ordering.TheVariants.{Less, Equal, Greater}
use Rattle.vfs_model.specs.declared.Case.{Case}
use Rattle.vfs_model.specs.Paths.{Name, Path, folded_name, is_same_name, name_order}
use Rattle.vfs_model.specs.World.{AreInOrder}

mutual
  -- the number of the last entry at a place, the greatest number of an entry below it, and the places one name below it
  pub data Numbers : Type 0 where
    At : (own below : ℕ) → Places → Numbers

  -- places, each at its name
  pub data Places : Type 0 where
    NoMore : Places
    Next : (name : Name) → Numbers → Places → Places

-- no entry is at the place or below it
abbrev pub unnumbered : Numbers
unnumbered = At 0 0 NoMore

-- the numbers at the folded name n
abbrev pub numbers_at : Case → Places → Name → Numbers
numbers_at case NoMore n = unnumbered
numbers_at case (Next m node more) n = if is_same_name (folded_name case m) n then node else numbers_at case more n

-- the greatest number of an entry that is related to the place
abbrev pub at_in : Case → Numbers → Path → ℕ
at_in case (At own below places) [] = max own below
at_in case (At own below places) (n ∷ x) = max own (at_in case (numbers_at case places n) x)

abbrev pub put_by : Ordering → Name → Numbers → Name → Numbers → Places → Places → Places
put_by Less n new m node more more_with_n = Next n new (Next m node more)
put_by Equal n new m node more more_with_n = Next n new more
put_by Greater n new m node more more_with_n = Next m node more_with_n

-- the numbers go to their place in the order of names, instead of those at a name that is the same
abbrev pub put : Case → Name → Numbers → Places → Places
put case n new NoMore = Next n new NoMore
put case n new (Next m node more) = put_by (name_order case n m) n new m node more (put case n new more)

-- the numbers with an entry at the path, whose number k is greater than all before
abbrev pub raise : Case → Numbers → Path → ℕ → Numbers
raise case (At own below places) [] k = At k below places
raise case (At own below places) (n ∷ path) k = At own k (put case n (raise case (numbers_at case places (folded_name case n)) path k) places)

abbrev pub names_in : Places → List Name
names_in NoMore = []
names_in (Next n node more) = n ∷ names_in more

-- at each place the names below it are in order
abbrev mutual
  pub IsSorted : Case → Numbers → Type 0
  IsSorted case (At own below places) = AreInOrder case (names_in places) × AreSorted case places

  pub AreSorted : Case → Places → Type 0
  AreSorted case NoMore = Unit {0}
  AreSorted case (Next n node more) = IsSorted case node × AreSorted case more
