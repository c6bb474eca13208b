-- What the numbers of the code stand for.
use Rattle.std.specs.Prelude.{ℕ, suc, max, List, [], ◌∷◌}
use Rattle.child_map.specs.declared.list.Entry.{Entry}
use Rattle.child_map.specs.KeyNames.{first_name}
use Rattle.tree_model.specs.Numbers.{Numbers, At, Places, NoMore, Next}
use Rattle.version_hierarchy.specs.declared.numbers.Numbers.{Numbers as NumbersOfCode}

abbrev pub numbers_of : NumbersOfCode → Numbers
numbers_of v = At v.own v.below v.places

-- each entry at the first name of its key
abbrev pub places_in : List (Entry NumbersOfCode) → Places
places_in [] = NoMore
places_in (e ∷ more) = Next (first_name e.key) (numbers_of e.value) (places_in more)

-- how many names lie below each other
abbrev mutual
  pub height : Numbers → ℕ
  height (At own below places) = suc (height_of places)

  pub height_of : Places → ℕ
  height_of NoMore = 0
  height_of (Next n node more) = max (height node) (height_of more)
