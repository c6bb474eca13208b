-- What contracts see of a tree over a folder.
use Rattle.std.specs.Prelude.{◌≡◌, ◌<◌, ◌≤◌, ◌⊎◌, ⊤, ℕ, Bool, true, false, List, [], ◌∷◌, ◌++◌, length, IfSome, Result, Ok, Err}
use Rattle.std.specs.declared.option.Option.{Option}
use Rattle.std.specs.declared.cmp.Ordering.{Ordering}
use Rattle.std.specs.declared.cmp.Ordering.TheVariants.{Less, Equal, Greater}
use Rattle.vfs_model.specs.Faults.{next_count}
use Rattle.vfs_model.specs.declared.Case.{Case}
use Rattle.vfs_model.specs.Paths.{Name, Path, name_order}
use Rattle.world_model.specs.declared.entry.Entry.{Entry}
use Rattle.world_model.specs.declared.entry.Entry.TheVariants.{Missing, File, Dir}
use Rattle.world_model.specs.declared.entry.LookError.{LookError}
use Rattle.world_model.specs.declared.entry.LookError.TheVariants.{Failed, NoMemory}
use Rattle.vfs_io.specs.declared.fault.FailedLook.{FailedLook}
use Rattle.vfs_io.specs.declared.fault.LookFault.{LookFault}

-- its case, how many looks failed, and the notes of the first of these
pub record Folder : Type 0 where
  pub case : Case
  pub faults : ℕ
  pub notes : List FailedLook

-- the notes stay, or one of the look is put behind fewer than 64
abbrev pub IsNoted : List FailedLook → List FailedLook → Path → LookFault → Type 0
IsNoted old new path cause = (new ≡ old) ⊎ ((length old < 64) × (new ≡ old ++ record { path = path; cause = cause } ∷ []))

-- a look at the path that gave this is noted only where it failed
abbrev pub IsNotedAfter : List FailedLook → List FailedLook → Path → Result Entry LookError → Type 0
IsNotedAfter old new path (Err Failed) = (cause : LookFault) × IsNoted old new path cause
IsNotedAfter old new path (Err NoMemory) = new ≡ old
IsNotedAfter old new path (Ok entry) = new ≡ old

-- how many looks failed, after one that gave this
abbrev pub faults_after : ℕ → Result Entry LookError → ℕ
faults_after n (Ok entry) = n
faults_after n (Err Failed) = next_count n
faults_after n (Err NoMemory) = n

-- the order is that of the lesser to the greater
abbrev pub is_less : Ordering → Bool
is_less Less = true
is_less Equal = false
is_less Greater = false

-- the first name stands before the second
abbrev pub comes_before : Case → Name → Name → Bool
comes_before case a b = is_less (name_order case a b)

-- more than 67,108,864 bytes are left, where it is known which are
abbrev pub IsMore : Option (List ℕ) → Type 0
IsMore left = IfSome left (λ known. 67108864 < length known)

-- a file has at most 67,108,864 bytes
abbrev pub HasFewBytes : Entry → Type 0
HasFewBytes (File bytes) = length bytes ≤ 67108864
HasFewBytes Missing = ⊤
HasFewBytes (Dir names) = ⊤

-- all that was left of a file was read, where that is known, and it is these bytes, at most 67,108,864
pub record IsWhole (left : Option (List ℕ)) (bytes : List ℕ) : Type 0 where
  pub all : IfSome left (λ known. bytes ≡ known)
  pub few : length bytes ≤ 67108864
