-- The four forms of a list of children.
use Rattle.std.specs.Prelude.{◌≡◌, ℕ, ◌≤◌}
use Rattle.child_map.specs.declared.form.Form.{Form}
use Rattle.child_map.specs.declared.form.Form.TheVariants.{Empty, One, Few, Many}

-- so many children have this form
abbrev pub IsFormOf : ℕ → Form → Type 0
IsFormOf count Empty = count ≡ 0
IsFormOf count One = count ≡ 1
IsFormOf count Few = (2 ≤ count) × (count ≤ 9)
IsFormOf count Many = 10 ≤ count
