-- The names of a key.
use Rattle.std.specs.Prelude.{[], ◌∷◌}
use Rattle.vfs_model.specs.Paths.{Name, Path}
use Rattle.child_map.specs.declared.key.KeyNames.{KeyNames}
use Rattle.child_map.specs.declared.key.KeyNames.TheVariants.{One, More}

abbrev pub names_of : KeyNames → Path
names_of (One name) = name ∷ []
names_of (More names) = names

-- the name with which a key begins; a key has at least one
abbrev pub first_name : Path → Name
first_name [] = []
first_name (n ∷ key) = n
