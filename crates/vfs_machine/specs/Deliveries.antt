-- What is to be delivered next.
use Rattle.std.specs.Prelude.{◌≡◌, ℕ, ◌+◌, true, false, []}
use Rattle.vfs_model.specs.Paths.{Path}
use Rattle.vfs_model.specs.Pending.{Pending}
use Rattle.world_model.specs.Front.{IsFirst}
use Rattle.vfs_machine.specs.declared.answers.Delivered.{Delivered}
use Rattle.vfs_machine.specs.declared.answers.Delivered.TheVariants as delivered
use Rattle.vfs_machine.specs.declared.engine.Due.{Due}
use Rattle.vfs_machine.specs.declared.engine.Due.TheVariants as due

-- the mark, and else the first event
abbrev pub IsDue : Pending → Due → Type 0
IsDue p due.Mark = p.mark ≡ true
IsDue p (due.Event e) = (p.mark ≡ false) × IsFirst p.events e
IsDue p due.Nothing = (p.mark ≡ false) × (p.events ≡ [])

-- the mark is clear, and an event waits
abbrev pub IsWaiting : Pending → Type 0
IsWaiting p = (p.mark ≡ false) × ((e : Path) × IsFirst p.events e)

-- one more invalidation, and one delivery less that is due
pub record IsOneMore (before now waiting waiting_now : ℕ) : Type 0 where
  pub invalidated : now ≡ before + 1
  pub due : waiting ≡ waiting_now + 1

-- as many of both as before
pub record AreAsBefore (before now waiting waiting_now : ℕ) : Type 0 where
  pub invalidated : now ≡ before
  pub due : waiting_now ≡ waiting

-- the counts of invalidations and of deliveries due, before and after a call of `deliver`
abbrev pub Counts : Delivered → ℕ → ℕ → ℕ → ℕ → Type 0
Counts (delivered.Event p) before now waiting waiting_now = IsOneMore before now waiting waiting_now
Counts delivered.Cleared before now waiting waiting_now = IsOneMore before now waiting waiting_now
Counts delivered.Nothing before now waiting waiting_now = AreAsBefore before now waiting waiting_now × (waiting ≡ 0)
Counts delivered.NoMemory before now waiting waiting_now = AreAsBefore before now waiting waiting_now
