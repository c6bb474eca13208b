-- The keys of a list of children.
use Rattle.std.specs.Prelude.{ℕ, List, [], ◌++◌, map, take, drop, Option, Some, None}
use Rattle.std.specs.declared.sync.Arc.{Arc}
use Rattle.std.specs.declared.vec.Vec.{Vec}
use Rattle.std.specs.declared.alloc.Global.{Global}
use Rattle.vfs_model.specs.Paths.{Name, Path}
use Rattle.child_map.specs.declared.list.Entry.{Entry}
use Rattle.child_map.specs.declared.list.ChildList.{ChildList}
use Rattle.child_map.specs.KeyNames.{first_name}

-- the entries that the owner holds, or none
abbrev pub held_by : {V : Type 0} → Option (Arc (Vec (Entry V) Global) Global) → List (Entry V)
held_by None = []
held_by (Some owner) = owner.value.items

-- a list is its entries
abbrev pub entries_of : {V : Type 0} → ChildList V → List (Entry V)
entries_of list = held_by list.entries

abbrev pub keys_in : {V : Type 0} → List (Entry V) → List Path
keys_in entries = map (λ e. e.key) entries

abbrev pub first_names : List Path → List Name
first_names keys = map first_name keys

-- the first names of the keys of entries
abbrev pub entry_names : {V : Type 0} → List (Entry V) → List Name
entry_names entries = first_names (keys_in entries)

-- the list with others in the place of those from `start` to before `end`
abbrev pub spliced : {X : Type 0} → List X → ℕ → ℕ → List X → List X
spliced xs start end new = take start xs ++ new ++ drop end xs
