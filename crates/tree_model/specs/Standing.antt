-- Where a name stands among names in order.
use Rattle.std.specs.Prelude.{◌≡◌, ℕ, ◌<◌, ◌≤◌, List, [], length, take, drop, slice_index_or, Result, MatchResult}
use Rattle.std.specs.List.{AllByRecursion as Each}
use Rattle.std.specs.declared.cmp.Ordering.TheVariants.{Less, Equal, Greater}
use Rattle.vfs_model.specs.declared.Case.{Case}
use Rattle.vfs_model.specs.Paths.{Name, name_order}

-- the name at the index is n under the case, and those before it come before n
pub record IsHere (case : Case) (names : List Name) (n : Name) (i : ℕ) : Type 0 where
  pub within : i < length names
  pub before : Each (λ m. name_order case m n ≡ Less) (take i names)
  pub same : name_order case (slice_index_or names i []) n ≡ Equal

-- the names before the index come before n, and those from it on after n: n is none of them, and would stand there
pub record IsGap (case : Case) (names : List Name) (n : Name) (i : ℕ) : Type 0 where
  pub within : i ≤ length names
  pub before : Each (λ m. name_order case m n ≡ Less) (take i names)
  pub after : Each (λ m. name_order case m n ≡ Greater) (drop i names)

-- the answer to a search for n: where it is, or else where it would stand
abbrev pub IsFound : Case → List Name → Name → Result ℕ ℕ → Type 0
IsFound case names n answer = MatchResult answer (IsHere case names n) (IsGap case names n)
