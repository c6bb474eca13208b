-- What a machine and a sink owe to lines.
use Rattle.std.specs.Prelude.{◌≡◌, ℕ, List, [], ◌∷◌, ◌++◌, is_some}
use Rattle.vfs_model.specs.Faults.{Rose}
use Rattle.vfs_model.specs.Paths.{Path}
use Rattle.vfs_model.specs.State.{State, TreeAnswer}
use Rattle.vfs_model.specs.History.{Operation, after}
use Rattle.vfs_model.specs.Stands.{Parts, Stands}
use Rattle.scan_walk.specs.Scans.{running_at}
use Rattle.vfs_io.specs.Told.{SinkTold}
use Rattle.script_text.specs.declared.script.Line.{Line}
use Rattle.script_text.specs.Writing.{ended}
use Rattle.script_report.specs.Stages.{Stage, Whole, Follows, stage_after}
use Rattle.script_report.specs.Lines.{stage_of, line_stage}
use Rattle.script_report.specs.Runs.{LineRun, AreRuns, operations_of, texts_of}
use Rattle.script_runs.specs.Output.{PutsEach, PutsFront}
use Rattle.script_runs.specs.Making.{Makes, IsUncounted}
use Rattle.script_runs.specs.declared.output.Break.{Break}
use Rattle.script_runs.specs.declared.output.Break.TheVariants.{Fault, NoMemory}

-- what a line asks of the machine
abbrev pub stage_on : {V : Type 0} → Parts V → Line → Stage
stage_on m line = stage_of line.caller (is_some (running_at m.scans line.caller)) line.command

-- the lines were run whole, and the output line of each was put by a call of its own
pub record RunsLines {V : Type 0} (at : V → Path → ℕ) (count : V → ℕ) (old new : Parts V) (lines : List Line) (sink sink_now : SinkTold) : Type 0 where
  pub runs : List LineRun
  pub makes : Makes at count old new (operations_of runs) []
  pub follows : (s : State) → Stands at count old s → AreRuns s lines runs
  pub puts : PutsEach sink sink_now (texts_of runs)

-- what was put where a report broke off behind these lines, in a line that is at this stage: at a fault of the sink the line was whole, and a front of it was put; where memory was wanting nothing of it
abbrev pub PutsBefore : SinkTold → SinkTold → List (List ℕ) → Stage → Break → Type 0
PutsBefore before now texts stage Fault = Rose before.faults now.faults × ((text : List ℕ) × (stage ≡ Whole text) × PutsFront before now texts (ended text))
PutsBefore before now texts stage NoMemory = PutsEach before now texts

-- the lines before one of them were run whole, and some of the operations of that one, or all, were made; then the sink failed, or memory was wanting
pub record BreaksLines {V : Type 0} (at : V → Path → ℕ) (count : V → ℕ) (old new : Parts V) (lines : List Line) (sink sink_now : SinkTold) (e : Break) : Type 0 where
  pub done : List Line
  pub line : Line
  pub left : List Line
  pub parts : lines ≡ done ++ line ∷ left
  pub runs : List LineRun
  pub operations : List Operation
  pub over : List TreeAnswer
  pub makes : Makes at count old new (operations_of runs ++ operations) over
  pub uncounted : IsUncounted over
  -- what that line asks for
  pub stage : Stage
  pub follows : Follows line.caller stage operations
  pub before : (s : State) → Stands at count old s → AreRuns s done runs × (line_stage (after s (operations_of runs)) line ≡ stage)
  pub puts : PutsBefore sink sink_now (texts_of runs) (stage_after stage operations) e
