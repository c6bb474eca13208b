-- What contracts see of a tree whose stated looks fail.
use Rattle.std.specs.Prelude.{ℕ, List, ◌++◌, Contains, Result, Ok, Err}
use Rattle.vfs_model.specs.declared.Case.{Case}
use Rattle.vfs_model.specs.World.{World}
use Rattle.vfs_model.specs.State.{TreeAnswer}
use Rattle.vfs_model.specs.Faults.{next_count, next_number}
use Rattle.world_model.specs.Meaning.{look_answers}
use Rattle.world_model.specs.declared.entry.Entry.{Entry}
use Rattle.world_model.specs.declared.entry.LookError.{LookError}
use Rattle.world_model.specs.declared.entry.LookError.TheVariants as look_error

-- its case and its world, the numbers of the looks that fail, how many looks were made, how many of them failed, and the answers so far
pub record Failing : Type 0 where
  pub case : Case
  pub world : World
  pub fails : List ℕ
  pub looks : ℕ
  pub faults : ℕ
  pub answers : List TreeAnswer

-- the next look is one of those that fail
abbrev pub IsNextToFail : Failing → Type 0
IsNextToFail t = Contains t.fails (next_number t.looks)

-- how many looks failed, after one that gave this
abbrev pub faults_after : ℕ → Result Entry LookError → ℕ
faults_after n (Ok entry) = n
faults_after n (Err look_error.Failed) = next_count n
faults_after n (Err look_error.NoMemory) = n

-- the tree after a look that gave this
abbrev pub after_look : Failing → Result Entry LookError → Failing
after_look t result = record t {
  looks = next_number t.looks;
  faults = faults_after t.faults result;
  answers = t.answers ++ look_answers result;
}
