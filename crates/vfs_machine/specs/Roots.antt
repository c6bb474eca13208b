-- What is retained at the roots of inputs.
use Rattle.std.specs.Prelude.{ℕ, Option, Some, None, if◌then◌else◌, nat_lt}

-- the number of the first input whose root is not retained, where so many of so many roots, from the first on, are
abbrev pub unknown_of : ℕ → ℕ → Option ℕ
unknown_of seen inputs = if nat_lt seen inputs then Some seen else None
