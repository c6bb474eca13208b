-- What a tree and a sink owe to opening lines.
use Rattle.std.specs.Prelude.{◌≡◌, ℕ, Bool, true, List, [], ◌∷◌, ◌++◌, Option, Some, is_some}
use Rattle.vfs_model.specs.Faults.{Rose}
use Rattle.vfs_model.specs.World.{World, IsSameBelow}
use Rattle.vfs_model.specs.State.{EditAnswer}
use Rattle.world_model.specs.Told.{TreeTold}
use Rattle.vfs_io.specs.Told.{SinkTold}
use Rattle.script_text.specs.declared.script.Opening.{Opening}
use Rattle.script_text.specs.Writing.{ended}
use Rattle.script_report.specs.Openings.{OpeningRun, IsOpeningRun, AreOpeningRuns, AreOpeningsDue, opening_edit, world_after, world_opened, IsOpeningDue, answer_list, opening_answers, opening_texts}
use Rattle.script_runs.specs.Output.{PutsEach, PutsFront}
use Rattle.script_runs.specs.Making.{Answered}
use Rattle.script_runs.specs.declared.output.Break.{Break}
use Rattle.script_runs.specs.declared.output.Break.TheVariants.{Fault, NoMemory}

-- the tree may hold the world: where it tells its content, the world is that in any order
abbrev pub MayHold : TreeTold → World → Type 0
MayHold told world = (w : World) → told.content ≡ Some w → IsSameBelow told.case world [] w []

-- between the two the tree gave this answer to the opening line: in each world that it may hold it is the one that is due, where the tree tells its content, and it may hold the world after it
pub record AnswersOpening (old new : TreeTold) (o : Opening) (answer : Option EditAnswer) : Type 0 where
  pub answered : Answered old new (answer_list answer)
  pub case : new.case ≡ old.case
  pub held : (world : World) → MayHold old world → MayHold new (world_opened old.case world (opening_edit o) answer)
  pub due : is_some old.content ≡ true → (world : World) → MayHold old world → IsOpeningDue old.case world (opening_edit o) answer

-- an opening line was done, and printed this
pub record OpensLine (old new : TreeTold) (takes_case : Bool) (o : Opening) (text : List ℕ) : Type 0 where
  pub answer : Option EditAnswer
  pub run : IsOpeningRun takes_case o (record { answer = answer; text = text })
  pub answers : AnswersOpening old new o answer

-- an opening line was done, or nothing of it, and then memory was wanting
pub data StopsLine (old new : TreeTold) (o : Opening) : Type 0 where
  undone : Answered old new [] → StopsLine old new o
  done : (answer : Option EditAnswer) → AnswersOpening old new o answer → StopsLine old new o

-- the opening lines were done whole, and the output line of each was put by a call of its own
pub record OpensLines (old new : TreeTold) (takes_case : Bool) (lines : List Opening) (sink sink_now : SinkTold) : Type 0 where
  pub runs : List OpeningRun
  pub follows : AreOpeningRuns takes_case lines runs
  pub answered : Answered old new (opening_answers runs)
  pub case : new.case ≡ old.case
  pub held : (world : World) → MayHold old world → MayHold new (world_after old.case world lines runs)
  pub due : is_some old.content ≡ true → (world : World) → MayHold old world → AreOpeningsDue old.case world lines runs
  pub puts : PutsEach sink sink_now (opening_texts runs)

-- what came of the line in which a report broke off behind these lines
abbrev pub BreaksIn : TreeTold → TreeTold → Bool → Opening → SinkTold → SinkTold → List (List ℕ) → Break → Type 0
BreaksIn old new takes_case o sink sink_now texts Fault = Rose sink.faults sink_now.faults × ((text : List ℕ) × OpensLine old new takes_case o text × PutsFront sink sink_now texts (ended text))
BreaksIn old new takes_case o sink sink_now texts NoMemory = StopsLine old new o × PutsEach sink sink_now texts

-- the opening lines before one of them were done whole, and then the report broke off
pub record BreaksOpening (old new : TreeTold) (takes_case : Bool) (lines : List Opening) (sink sink_now : SinkTold) (e : Break) : Type 0 where
  pub before : List Opening
  pub line : Opening
  pub left : List Opening
  pub parts : lines ≡ before ++ line ∷ left
  pub mid : TreeTold
  pub sink_mid : SinkTold
  pub opened : OpensLines old mid takes_case before sink sink_mid
  pub broke : BreaksIn mid new takes_case line sink sink_now (opening_texts opened.runs) e
