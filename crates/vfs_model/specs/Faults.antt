-- Counts of faults, which are numbers without a limit, and the numbers of calls, which a `u64` holds.
use Rattle.std.specs.Prelude.{ℕ, ◌+◌, ◌-◌, ◌^◌, ◌≤◌, ◌<◌, min, Result, OnErr}

-- one more
abbrev pub next_count : ℕ → ℕ
next_count n = n + 1

-- the count rose
abbrev pub Rose : ℕ → ℕ → Type 0
Rose before now = before < now

-- the count never falls, and a failure has raised it
pub record HasCause {T E : Type 0} (before now : ℕ) (result : Result T E) : Type 0 where
  pub later : before ≤ now
  pub failed : OnErr result (Rose before now)

-- the number of the call after the one with this number; a `u64` stands still at its last value
abbrev pub next_number : ℕ → ℕ
next_number n = min (n + 1) (2 ^ 64 - 1)
