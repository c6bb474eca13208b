-- What the types of the code stand for.
use Rattle.std.specs.Prelude.{◌≡◌, ℕ, List, [], ◌∷◌, Option, Some, None, Result, Ok, Err}
use Rattle.vfs_model.specs.Paths.{Path}
use Rattle.vfs_model.specs.Edit.{Edit, Write, Mkdir, Remove, Move, Refusal, Root, NoParent, NotDir, Exists, Absent, IntoItself, TooDeep, Crowded, ReadOnly}
use Rattle.vfs_model.specs.Scanning.{Look, SeesNothing, SeesFile, SeesDir}
use Rattle.vfs_model.specs.State.{Refuses, Does, TreeAnswer, ToEdit, ToLook}
use Rattle.world_model.specs.declared.edit.Edit.{Edit as EditValue}
use Rattle.world_model.specs.declared.edit.Edit.TheVariants as edit_value
use Rattle.world_model.specs.declared.edit.EditError.{EditError}
use Rattle.world_model.specs.declared.edit.EditError.TheVariants as error
use Rattle.world_model.specs.declared.edit.Events.{Events}
use Rattle.world_model.specs.declared.edit.Events.TheVariants.{One, Two}
use Rattle.world_model.specs.declared.edit.ApplyError.{ApplyError}
use Rattle.world_model.specs.declared.edit.ApplyError.TheVariants as apply_error
use Rattle.world_model.specs.declared.entry.LookError.{LookError}
use Rattle.world_model.specs.declared.entry.LookError.TheVariants as look_error
use Rattle.world_model.specs.declared.entry.Entry.{Entry}
use Rattle.world_model.specs.declared.entry.Entry.TheVariants.{Missing, File, Dir}

-- the edit
abbrev pub edit_of : EditValue → Edit
edit_of (edit_value.Write p bytes) = Write p bytes
edit_of (edit_value.Mkdir p) = Mkdir p
edit_of (edit_value.Remove p) = Remove p
edit_of (edit_value.Move p q) = Move p q

-- the paths, in order
abbrev pub events_of : Events → List Path
events_of (One p) = p ∷ []
events_of (Two p q) = p ∷ q ∷ []

-- what a look saw
abbrev pub look_seen : Entry → Look
look_seen Missing = SeesNothing
look_seen (File bytes) = SeesFile bytes
look_seen (Dir names) = SeesDir names

-- the refusal
abbrev pub refusal_of : EditError → Refusal
refusal_of error.Root = Root
refusal_of error.NoParent = NoParent
refusal_of error.NotDir = NotDir
refusal_of error.Exists = Exists
refusal_of error.Absent = Absent
refusal_of error.IntoItself = IntoItself
refusal_of error.TooDeep = TooDeep
refusal_of error.Crowded = Crowded
refusal_of error.ReadOnly = ReadOnly

-- the number that is printed for a refusal
abbrev pub number_of : EditError → ℕ
number_of error.Root = 1
number_of error.NoParent = 2
number_of error.NotDir = 3
number_of error.Exists = 4
number_of error.Absent = 5
number_of error.IntoItself = 6
number_of error.TooDeep = 7
number_of error.Crowded = 8
number_of error.ReadOnly = 9

-- a refusal is the one that is due, and memory is wanting only where none is due
abbrev pub IsRefusal : Option Refusal → ApplyError → Type 0
IsRefusal due (apply_error.Refused e) = due ≡ Some (refusal_of e)
IsRefusal due apply_error.NoMemory = due ≡ None

-- what a look adds to the answers of a tree; want of memory is none
abbrev pub look_answers : Result Entry LookError → List TreeAnswer
look_answers (Ok entry) = ToLook (Some (look_seen entry)) ∷ []
look_answers (Err look_error.Failed) = ToLook None ∷ []
look_answers (Err look_error.NoMemory) = []

-- what an edit adds to them
abbrev pub edit_answers_of : Result Events ApplyError → List TreeAnswer
edit_answers_of (Ok events) = ToEdit (Does (events_of events)) ∷ []
edit_answers_of (Err (apply_error.Refused e)) = ToEdit (Refuses (refusal_of e)) ∷ []
edit_answers_of (Err apply_error.NoMemory) = []
