-- What a take says of the bytes left, and what a sink holds after a piece.
use Rattle.std.specs.Prelude.{◌≡◌, ◌↔◌, ⊤, ℕ, List, [], take, None, Some, Result, OnOk, OnErr}
use Rattle.std.specs.declared.option.Option.{Option}
use Rattle.std.specs.Io.KnownBytes.{Appends}

-- where the bytes left are told, the count is 0 exactly where none is left
abbrev pub IsZeroAtEnd : Option (List ℕ) → ℕ → Type 0
IsZeroAtEnd None count = ⊤
IsZeroAtEnd (Some left) count = (count ≡ 0) ↔ (left ≡ [])

-- a prefix of the piece was appended
abbrev pub AppendsPrefix : Option (List ℕ) → Option (List ℕ) → List ℕ → Type 0
AppendsPrefix old new piece = (n : ℕ) × Appends old new (take n piece)

-- the piece was appended whole, or a prefix of it where the call failed
pub record Puts {T E : Type 0} (old new : Option (List ℕ)) (result : Result T E) (piece : List ℕ) : Type 0 where
  pub whole : OnOk result (Appends old new piece)
  pub prefix : OnErr result (AppendsPrefix old new piece)
