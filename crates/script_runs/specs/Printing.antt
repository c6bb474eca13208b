-- What a run asks for.
use Rattle.std.specs.Prelude.{◌<◌, ◌≤◌, ◌+◌, ◌*◌, ◌^◌, ℕ, length}
use Rattle.vfs_model.specs.Stands.{Parts}
use Rattle.vfs_machine.specs.Called.{spent}
use Rattle.script_text.specs.declared.script.Command.{Command}
use Rattle.script_text.specs.declared.script.Command.TheVariants.{Print, Build}
use Rattle.script_text.specs.declared.script.Line.{Line}

-- a command on inputs has 1 to 64 of them
abbrev pub HasFewInputs : Command → Type 0
HasFewInputs (Print inputs) = (1 ≤ length inputs) × (length inputs ≤ 64)
HasFewInputs (Build inputs) = (1 ≤ length inputs) × (length inputs ≤ 64)
HasFewInputs _ = Unit {0}

-- the line is of one of the sixteen callers, and has no more inputs than a command may
abbrev pub CanRun : Line → Type 0
CanRun line = (line.caller < 16) × HasFewInputs line.command

-- a queue may hold so many events
abbrev pub IsQueue : ℕ → Type 0
IsQueue n = (1 ≤ n) × (n ≤ 65536)

-- so many workers may hash
abbrev pub IsWorkers : ℕ → Type 0
IsWorkers n = (1 ≤ n) × (n ≤ 16)

-- there is room for so many lines, each of which makes at most two invalidations due
abbrev pub HasRoom : {V : Type 0} → (V → ℕ) → Parts V → ℕ → Type 0
HasRoom count m lines = spent count m + 2 * lines < 2 ^ 62

-- the invalidations that were made and those that are due are at most two more
abbrev pub SpendsTwo : {V : Type 0} → (V → ℕ) → Parts V → Parts V → Type 0
SpendsTwo count old new = spent count new ≤ spent count old + 2

-- they are no more
abbrev pub SpendsNone : {V : Type 0} → (V → ℕ) → Parts V → Parts V → Type 0
SpendsNone count old new = spent count new ≤ spent count old
