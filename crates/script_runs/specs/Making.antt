-- What a machine owes to calls, one after the other.
use Rattle.std.specs.Prelude.{◌≡◌, ◌+◌, ◌≤◌, ℕ, List, [], ◌∷◌, ◌++◌, Some, true, is_some, option_map}
use Rattle.std.specs.List.{count_by}
use Rattle.vfs_model.specs.Paths.{Path}
use Rattle.vfs_model.specs.Scanning.{Look}
use Rattle.vfs_model.specs.State.{State, Call, Reply, TreeAnswer, ToLook}
use Rattle.vfs_model.specs.History.{Operation, after}
use Rattle.vfs_model.specs.Stands.{Parts, Stands}
use Rattle.world_model.specs.Told.{TreeTold, with_answers}
use Rattle.vfs_machine.specs.Whole.{told_of}
use Rattle.script_report.specs.Replies.{reply_text}
use Rattle.script_report.specs.Stages.{Stage, Asks, Follows, stage_after}
use Rattle.script_report.specs.Runs.{AreMade, AreTrue, asked, is_failed}

-- the count rose by at least so many
abbrev pub RoseBy : ℕ → ℕ → ℕ → Type 0
RoseBy n before now = before + n ≤ now

-- between the two the tree gave these answers, and told them where it tells its answers; its count of faults rose by the looks that failed, or by more; and it tells its content as before, or as before none
pub record Answered (old new : TreeTold) (answers : List TreeAnswer) : Type 0 where
  pub told : new.answers ≡ option_map (with_answers answers) old.answers
  pub failed : RoseBy (count_by is_failed answers) old.faults new.faults
  pub tells : is_some new.content ≡ is_some old.content

-- between the two the machine made these operations, and its tree gave their answers, and then these: for every state that it stood for each operation has its step where it stands, and it stands for the state after them; where the tree tells its content, the answers are those that are due, or looks that failed
pub record Makes {V : Type 0} (at : V → Path → ℕ) (count : V → ℕ) (old new : Parts V) (h : List Operation) (over : List TreeAnswer) : Type 0 where
  pub answered : Answered (told_of old) (told_of new) (asked h ++ over)
  pub made : (s : State) → Stands at count old s → AreMade s h × Stands at count new (after s h)
  pub due : is_some old.content ≡ true → (s : State) → Stands at count old s → AreTrue s h

-- at most one look, which did not fail: want of memory came behind it
pub data IsUncounted : List TreeAnswer → Type 0 where
  nothing : IsUncounted []
  one_look : (look : Look) → IsUncounted (ToLook (Some look) ∷ [])

-- between the two the machine made the operations that lead from the one stage to the other
pub record Leads {V : Type 0} (at : V → Path → ℕ) (count : V → ℕ) (old new : Parts V) (caller : ℕ) (from to : Stage) : Type 0 where
  pub operations : List Operation
  pub makes : Makes at count old new operations []
  pub follows : Follows caller from operations
  pub leads : stage_after from operations ≡ to

-- between the two the machine made the call, whatever comes of its reply, and the text is that of the reply
pub record Replies {V : Type 0} (at : V → Path → ℕ) (count : V → ℕ) (old new : Parts V) (caller : ℕ) (call : Call) (text : List ℕ) : Type 0 where
  pub reply : Reply
  pub told : text ≡ reply_text reply
  pub leads : (next : Reply → Stage) → Leads at count old new caller (Asks call next) (next reply)

-- between the two the machine made some of the operations that are due from the stage on, and then memory was wanting
pub record Stops {V : Type 0} (at : V → Path → ℕ) (count : V → ℕ) (old new : Parts V) (caller : ℕ) (from : Stage) : Type 0 where
  pub operations : List Operation
  pub over : List TreeAnswer
  pub makes : Makes at count old new operations over
  pub uncounted : IsUncounted over
  pub follows : Follows caller from operations
