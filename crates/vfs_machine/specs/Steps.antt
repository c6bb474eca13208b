-- The replies that answers stand for, and what the tree answered in a call.
use Rattle.std.specs.Prelude.{◌≡◌, ℕ, List, [], ◌∷◌, Option, Some, None, option_map}
use Rattle.vfs_model.specs.Paths.{Path}
use Rattle.vfs_model.specs.World.{World}
use Rattle.vfs_model.specs.Edit.{Edit, events}
use Rattle.vfs_model.specs.Scanning.{Look}
use Rattle.vfs_model.specs.Sound.{AreShapedAnswers}
use Rattle.vfs_model.specs.Stands.{Parts, Stands}
use Rattle.vfs_model.specs.Steps.{IsStepOf}
use Rattle.vfs_model.specs.State.{State, CallRead, Reply, Answers, AreDue, EditAnswer, Refuses, Does, TreeAnswer, ToEdit, Refused, Done, Overflow, Fits, Cleared, Delivered, NothingPending, AlreadyOpen, Version, NoScan, AllRead, Saw, Unfinished, Stale, Covered, Stored, Fault, Is, Unknown, NoMemory}
use Rattle.world_model.specs.Meaning.{refusal_of}
use Rattle.world_model.specs.Told.{with_answers}
use Rattle.world_model.specs.declared.intake.Fit.{Fit}
use Rattle.world_model.specs.declared.intake.Fit.TheVariants as fit
use Rattle.vfs_machine.specs.Called.{AreAsked}
use Rattle.vfs_machine.specs.declared.answers.Edited.{Edited}
use Rattle.vfs_machine.specs.declared.answers.Edited.TheVariants as edited
use Rattle.vfs_machine.specs.declared.answers.Delivered.{Delivered as DeliveredAnswer}
use Rattle.vfs_machine.specs.declared.answers.Delivered.TheVariants as delivered
use Rattle.vfs_machine.specs.declared.answers.Began.{Began}
use Rattle.vfs_machine.specs.declared.answers.Began.TheVariants as began
use Rattle.vfs_machine.specs.declared.answers.Readed.{Readed}
use Rattle.vfs_machine.specs.declared.answers.Readed.TheVariants as readed
use Rattle.vfs_machine.specs.declared.answers.Answer.{Answer}
use Rattle.vfs_machine.specs.declared.answers.Answer.TheVariants as answer
use Rattle.vfs_machine.specs.declared.answers.Printed.{Printed}
use Rattle.vfs_machine.specs.declared.answers.Printed.TheVariants as printed

-- ---- the replies that answers stand for

abbrev pub edited_reply : Edited → Reply
edited_reply edited.Done = Done
edited_reply edited.Overflow = Overflow
edited_reply (edited.Refused e) = Refused (refusal_of e)
edited_reply edited.NoMemory = NoMemory

abbrev pub fit_reply : Fit → Reply
fit_reply fit.Fits = Fits
fit_reply fit.Overflow = Overflow

abbrev pub delivered_reply : DeliveredAnswer → Reply
delivered_reply (delivered.Event p) = Delivered p
delivered_reply delivered.Cleared = Cleared
delivered_reply delivered.Nothing = NothingPending
delivered_reply delivered.NoMemory = NoMemory

abbrev pub began_reply : Began → Reply
began_reply began.AlreadyOpen = AlreadyOpen
began_reply (began.Version n) = Version n
began_reply began.NoMemory = NoMemory

abbrev pub readed_reply : Readed → Reply
readed_reply readed.NoScan = NoScan
readed_reply readed.Done = AllRead
readed_reply (readed.Saw p k n) = Saw p k n
readed_reply readed.Fault = Fault
readed_reply readed.NoMemory = NoMemory

abbrev pub answer_reply : Answer → Reply
answer_reply answer.NoScan = NoScan
answer_reply (answer.Unfinished n) = Unfinished n
answer_reply (answer.Stale n) = Stale n
answer_reply answer.Covered = Covered
answer_reply answer.Stored = Stored
answer_reply answer.NoMemory = NoMemory

abbrev pub printed_reply : Printed → Reply
printed_reply (printed.Is digest) = Is digest
printed_reply (printed.Unknown n) = Unknown n
printed_reply printed.NoMemory = NoMemory

-- ---- what the tree answered

-- what the tree answered to the edit, as the call's answer tells
abbrev pub edit_given : Edit → Edited → EditAnswer
edit_given edit edited.Done = Does (events edit)
edit_given edit edited.Overflow = Does (events edit)
edit_given edit (edited.Refused e) = Refuses (refusal_of e)
edit_given edit edited.NoMemory = Does (events edit)

-- the tree's answers in an edit
abbrev pub edit_answers : Edit → Edited → Answers
edit_answers edit result = record { edit = edit_given edit result; look = None }

-- the tree's answers in a read, where its look gave this; None is a look that failed
abbrev pub read_answers : Option Look → Answers
read_answers look = record { edit = Does []; look = look }

-- what an edit adds to the tree's answers; want of memory is none
abbrev pub edit_asked : Edit → Edited → List TreeAnswer
edit_asked edit edited.Done = ToEdit (Does (events edit)) ∷ []
edit_asked edit edited.Overflow = ToEdit (Does (events edit)) ∷ []
edit_asked edit (edited.Refused e) = ToEdit (Refuses (refusal_of e)) ∷ []
edit_asked edit edited.NoMemory = []

-- the read is the step for some look that the tree gave: it lists names as a look does, is true of the content where that is told, and is all that the tree was asked
pub record IsRead {V : Type 0} (at : V → Path → ℕ) (count : V → ℕ) (old new : Parts V) (c : ℕ) (result : Readed) : Type 0 where
  pub given : Option Look
  pub asked : List TreeAnswer
  pub step : IsStepOf at count old new (read_answers given) (CallRead c) (readed_reply result)
  pub looks : (s : State) → Stands at count old s → AreShapedAnswers s (CallRead c) (read_answers given)
  pub due : (w : World) → old.content ≡ Some w → (s : State) → Stands at count old s → AreDue s (CallRead c) (read_answers given)
  pub are_asked : AreAsked (CallRead c) (readed_reply result) (read_answers given) asked
  pub answered : new.answers ≡ option_map (with_answers asked) old.answers
