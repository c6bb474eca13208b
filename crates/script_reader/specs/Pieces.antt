-- What is left of a line or a word once its front was taken.
use Rattle.std.specs.Prelude.{ℕ, List, [], ◌∷◌, Option, Some, None, Result, Ok, ◌==◌}
use Rattle.std.specs.List.{slice_split}
use Rattle.script_text.specs.declared.cause.Cause.{Cause}
use Rattle.script_text.specs.Steps.{◌>>=◌}
use Rattle.script_text.specs.Words.{value_of}

-- the parts of what follows a separator, where there is one
abbrev pub parts_after : ℕ → Option (List ℕ) → List (List ℕ)
parts_after at None = []
parts_after at (Some rest) = slice_split (λ b. b == at) rest

-- what value_of gives where a unit was taken from the front, or nothing was left
abbrev pub unit_and : Option (ℕ × List ℕ) → Result (List ℕ) Cause
unit_and None = Ok []
unit_and (Some u) = value_of u.1 >>= λ bs. Ok (u.0 ∷ bs)
