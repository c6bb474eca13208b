-- The children of a directory as a list, and how it grows.
use Rattle.std.specs.Prelude.{◌≡◌, List, [], ◌∷◌}
use Rattle.std.specs.declared.cmp.Ordering.TheVariants.{Less}
use Rattle.vfs_model.specs.declared.Case.{Case}
use Rattle.vfs_model.specs.Paths.{Name, name_order}
use Rattle.vfs_model.specs.Snapshot.{Snapshot, Children, Nothing, Child, IsTree}

-- the names, each with its snapshot, in their order
abbrev pub entries_of : Children → List (Name × Snapshot)
entries_of Nothing = []
entries_of (Child name s more) = (name, s) ∷ entries_of more

-- the children, and one more behind them
abbrev pub followed_by : Children → Name → Snapshot → Children
followed_by Nothing n s = Child n s Nothing
followed_by (Child name t more) n s = Child name t (followed_by more n s)

-- the name comes after the last of the children
abbrev pub IsAfterLast : Case → Children → Name → Type 0
IsAfterLast case Nothing n = Unit {0}
IsAfterLast case (Child name s Nothing) n = name_order case name n ≡ Less
IsAfterLast case (Child name s (Child m t more)) n = IsAfterLast case (Child m t more) n

-- each child is a tree
abbrev pub AreTrees : Case → Children → Type 0
AreTrees case Nothing = Unit {0}
AreTrees case (Child name s more) = IsTree case s × AreTrees case more
