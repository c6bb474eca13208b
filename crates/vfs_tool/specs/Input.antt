-- What was taken from a source.
use Rattle.std.specs.Prelude.{◌≡◌, ℕ, ◌+◌, ◌≤◌, List, ◌++◌, length}
use Rattle.std.specs.List.{AllByRecursion as Each}
use Rattle.std.specs.declared.option.Option.{Option}
use Rattle.std.specs.Io.KnownBytes.{Consumes, Keeps, IsAtEnd}
use Rattle.vfs_model.specs.Faults.{Rose}
use Rattle.vfs_io.specs.Told.{SourceTold, Grows}
use Rattle.vfs_tool.specs.declared.input.Stop.{Stop}
use Rattle.vfs_tool.specs.declared.input.Stop.TheVariants.{Fault, TooLong, NoMemory}

-- the most bytes of a script
abbrev pub limit : ℕ
limit = 16777216

-- nothing was taken
abbrev pub TakesNothing : SourceTold → SourceTold → Type 0
TakesNothing old new = Keeps old.left new.left × (new.takes ≡ old.takes)

-- all that was left was taken, and it is this text, within the limit
pub record TakesAll (old new : Option (List ℕ)) (text : List ℕ) : Type 0 where
  pub took : Consumes old new text
  pub end : IsAtEnd new
  pub fits : length text ≤ limit

-- each take that did not fail had a buffer of at most so many bytes
pub record AsksAtMost (old new : SourceTold) (most : ℕ) : Type 0 where
  pub lengths : List ℕ
  pub calls : Grows old.takes new.takes lengths
  pub small : Each (λ n. n ≤ most) lengths

-- some bytes were taken
abbrev pub TakesSome : Option (List ℕ) → Option (List ℕ) → (ℕ → Type 0) → Type 0
TakesSome old new Fits = (bytes : List ℕ) × Consumes old new bytes × Fits (length bytes)

-- n bytes, at most so many, went from the source to the end of the text, and none only at the end
pub record Takes (old new : Option (List ℕ)) (text now : List ℕ) (n most : ℕ) : Type 0 where
  pub piece : List ℕ
  pub moved : Consumes old new piece
  pub grown : now ≡ text ++ piece
  pub count : length piece ≡ n
  pub within : n ≤ most
  pub end : n ≡ 0 → IsAtEnd new

-- why a run stopped as it took bytes, of which so many were allowed; too long it is exactly where it took one more
abbrev pub Stops : SourceTold → SourceTold → ℕ → Stop → Type 0
Stops old new most Fault = Rose old.faults new.faults × TakesSome old.left new.left (λ n. n ≤ most)
Stops old new most TooLong = TakesSome old.left new.left (λ n. n ≡ most + 1)
Stops old new most NoMemory = TakesSome old.left new.left (λ n. n ≤ most)
