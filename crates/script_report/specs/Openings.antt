-- What an opening line asks for, and what is printed for it.
use Rattle.std.specs.Prelude.{◌≡◌, ℕ, Bool, false, List, [], ◌∷◌, map, Option, Some, None, is_some}
use Rattle.std.specs.List.{flat_map}
use Rattle.vfs_model.specs.declared.Case.{Case}
use Rattle.vfs_model.specs.World.{World}
use Rattle.vfs_model.specs.Edit.{Edit as TreeEdit, Write, Mkdir, Exists, refusal, apply}
use Rattle.vfs_model.specs.State.{Refused, Done, EditAnswer, Refuses, Does, TreeAnswer, ToEdit, edit_answer_or}
use Rattle.script_text.specs.declared.script.Opening.{Opening}
use Rattle.script_text.specs.declared.script.Opening.TheVariants as opening_line
use Rattle.script_text.specs.Writing.{ended}
use Rattle.script_report.specs.Replies.{reply_text}

-- the edit of the tree that an opening line asks for; none for a setting
abbrev pub opening_edit : Opening → Option TreeEdit
opening_edit (opening_line.Case case) = None
opening_edit (opening_line.Queue n) = None
opening_edit (opening_line.Places n) = None
opening_edit (opening_line.Workers n) = None
opening_edit (opening_line.Dir p) = Some (Mkdir p)
opening_edit (opening_line.File p bytes) = Some (Write p bytes)

-- what a setting prints: a tree that keeps its case refuses another one
abbrev pub setting_text : Bool → Opening → List ℕ
setting_text false (opening_line.Case case) = reply_text (Refused Exists)
setting_text takes_case o = reply_text Done

-- what an opening line prints, by what the tree answered to its edit, where it asks for one
abbrev pub opening_text : Bool → Opening → Option EditAnswer → List ℕ
opening_text takes_case o None = setting_text takes_case o
opening_text takes_case o (Some (Does events)) = reply_text Done
opening_text takes_case o (Some (Refuses cause)) = reply_text (Refused cause)

-- the world after an opening line; its events are not queued
abbrev pub world_opened : Case → World → Option TreeEdit → Option EditAnswer → World
world_opened case world (Some edit) (Some (Does events)) = apply case world edit
world_opened case world edit answer = world

-- the answer is the one that is due in the world
abbrev pub IsOpeningDue : Case → World → Option TreeEdit → Option EditAnswer → Type 0
IsOpeningDue case world (Some edit) (Some answer) = answer ≡ edit_answer_or edit (refusal case world edit)
IsOpeningDue case world edit answer = Unit {0}

-- what the tree answered to an opening line, and what was printed for it
pub record OpeningRun : Type 0 where
  pub answer : Option EditAnswer
  pub text : List ℕ

-- the tree was asked once for each edit, and the text is that of its answer
pub record IsOpeningRun (takes_case : Bool) (o : Opening) (run : OpeningRun) : Type 0 where
  pub asks : is_some run.answer ≡ is_some (opening_edit o)
  pub printed : run.text ≡ opening_text takes_case o run.answer

-- the same of opening lines, one after the other
abbrev pub AreOpeningRuns : Bool → List Opening → List OpeningRun → Type 0
AreOpeningRuns takes_case [] [] = Unit {0}
AreOpeningRuns takes_case [] (run ∷ runs) = ⊥
AreOpeningRuns takes_case (o ∷ lines) [] = ⊥
AreOpeningRuns takes_case (o ∷ lines) (run ∷ runs) = IsOpeningRun takes_case o run × AreOpeningRuns takes_case lines runs

-- the world after opening lines
abbrev pub world_after : Case → World → List Opening → List OpeningRun → World
world_after case world [] runs = world
world_after case world (o ∷ lines) [] = world
world_after case world (o ∷ lines) (run ∷ runs) = world_after case (world_opened case world (opening_edit o) run.answer) lines runs

-- each answer is the one that is due where it was given
abbrev pub AreOpeningsDue : Case → World → List Opening → List OpeningRun → Type 0
AreOpeningsDue case world [] runs = Unit {0}
AreOpeningsDue case world (o ∷ lines) [] = Unit {0}
AreOpeningsDue case world (o ∷ lines) (run ∷ runs) =
    IsOpeningDue case world (opening_edit o) run.answer × AreOpeningsDue case (world_opened case world (opening_edit o) run.answer) lines runs

-- an answer, as one of the list of all that a tree gave
abbrev pub answer_list : Option EditAnswer → List TreeAnswer
answer_list None = []
answer_list (Some answer) = ToEdit answer ∷ []

-- what the tree answered to opening lines, in order
abbrev pub opening_answers : List OpeningRun → List TreeAnswer
opening_answers runs = flat_map (λ (r : OpeningRun). answer_list r.answer) runs

-- the lines that are printed for them
abbrev pub opening_texts : List OpeningRun → List (List ℕ)
opening_texts runs = map (λ (r : OpeningRun). ended r.text) runs
