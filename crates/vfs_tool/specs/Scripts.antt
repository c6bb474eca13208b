-- What a tree and a sink owe to a whole script.
use Rattle.std.specs.Prelude.{◌≡◌, ◌≤◌, ℕ, Bool, true, List, ◌∷◌, ◌++◌, is_some, ◌⊎◌}
use Rattle.vfs_model.specs.World.{World}
use Rattle.vfs_model.specs.State.{TreeAnswer}
use Rattle.vfs_model.specs.History.{Operation, opening, after}
use Rattle.world_model.specs.Told.{TreeTold}
use Rattle.vfs_io.specs.Told.{SinkTold}
use Rattle.script_text.specs.declared.script.Line.{Line}
use Rattle.script_text.specs.declared.script.Script.{Script}
use Rattle.script_report.specs.Stages.{Stage, Follows, stage_after}
use Rattle.script_report.specs.Lines.{line_stage}
use Rattle.script_report.specs.Runs.{LineRun, AreRuns, IsRun, AreMade, AreTrue, asked, operations_of, texts_of}
use Rattle.script_runs.specs.declared.output.Break.{Break}
use Rattle.script_runs.specs.declared.output.Break.TheVariants.{NoMemory}
use Rattle.script_runs.specs.Output.{PutsEach}
use Rattle.script_runs.specs.Making.{Answered, IsUncounted}
use Rattle.script_runs.specs.Opening.{MayHold, OpensLines, BreaksOpening}
use Rattle.script_runs.specs.Running.{PutsBefore}

-- ---- command lines

-- the command lines were run whole over the tree, which gave the answers of this run and no others; in each world that it may hold the run is one of the lines; where it tells its content, each answer was the one that was due, or that of a look that failed; and the output line of each line was put by a call of its own
pub record RunsCommands (queue : ℕ) (old new : TreeTold) (lines : List Line) (sink sink_now : SinkTold) : Type 0 where
  pub runs : List LineRun
  pub answered : Answered old new (asked (operations_of runs))
  pub case : new.case ≡ old.case
  pub run : (world : World) → MayHold old world → IsRun (opening old.case queue world) lines runs
  pub due : is_some old.content ≡ true → (world : World) → MayHold old world → AreTrue (opening old.case queue world) (operations_of runs)
  pub puts : PutsEach sink sink_now (texts_of runs)

-- the command lines before one of them were run whole, and of that one some of the calls that it asks for were made, or all; then the sink failed, or memory was wanting; the answers are those of these calls, and where memory was wanting behind a look at most that one more
pub record BreaksCommand (queue : ℕ) (old new : TreeTold) (lines : List Line) (sink sink_now : SinkTold) (e : Break) : Type 0 where
  pub done : List Line
  pub line : Line
  pub left : List Line
  pub parts : lines ≡ done ++ line ∷ left
  pub runs : List LineRun
  pub operations : List Operation
  pub over : List TreeAnswer
  pub uncounted : IsUncounted over
  pub answered : Answered old new (asked (operations_of runs ++ operations) ++ over)
  pub case : new.case ≡ old.case
  -- what that line asks for
  pub stage : Stage
  pub follows : Follows line.caller stage operations
  pub before : (world : World) → MayHold old world → AreRuns (opening old.case queue world) done runs × (line_stage (after (opening old.case queue world) (operations_of runs)) line ≡ stage)
  pub made : (world : World) → MayHold old world → AreMade (opening old.case queue world) (operations_of runs ++ operations)
  pub due : is_some old.content ≡ true → (world : World) → MayHold old world → AreTrue (opening old.case queue world) (operations_of runs ++ operations)
  pub puts : PutsBefore sink sink_now (texts_of runs) (stage_after stage operations) e

-- memory was wanting before the first command line: the tree was not asked again, and nothing was put
pub record BeginsNone (old new : TreeTold) (sink sink_now : SinkTold) (e : Break) : Type 0 where
  pub wanting : e ≡ NoMemory
  pub tree : new ≡ old
  pub unput : sink_now ≡ sink

-- the command lines broke off
abbrev pub BreaksCommands : ℕ → TreeTold → TreeTold → List Line → SinkTold → SinkTold → Break → Type 0
BreaksCommands queue old new lines sink sink_now e = BeginsNone old new sink sink_now e ⊎ BreaksCommand queue old new lines sink sink_now e

-- ---- scripts

-- the opening lines were done whole, and then the command lines
pub record RunsScript (took : Bool) (old new : TreeTold) (script : Script) (sink sink_now : SinkTold) : Type 0 where
  pub mid : TreeTold
  pub sink_mid : SinkTold
  pub opened : OpensLines old mid took script.opening sink sink_mid
  pub run : RunsCommands script.settings.queue mid new script.lines sink_mid sink_now

-- the opening lines were done whole, and then the command lines broke off
pub record BreaksLate (took : Bool) (old new : TreeTold) (script : Script) (sink sink_now : SinkTold) (e : Break) : Type 0 where
  pub mid : TreeTold
  pub sink_mid : SinkTold
  pub later : sink.faults ≤ sink_mid.faults
  pub opened : OpensLines old mid took script.opening sink sink_mid
  pub broke : BreaksCommands script.settings.queue mid new script.lines sink_mid sink_now e

-- the opening lines broke off, or the command lines
abbrev pub BreaksScript : Bool → TreeTold → TreeTold → Script → SinkTold → SinkTold → Break → Type 0
BreaksScript took old new script sink sink_now e = BreaksOpening old new took script.opening sink sink_now e ⊎ BreaksLate took old new script sink sink_now e
