-- What a run took from its source and put into its sink.
use Rattle.std.specs.Prelude.{◌≡◌, ℕ, List, ◌∷◌, ◌++◌}
use Rattle.vfs_model.specs.History.{empty_world}
use Rattle.vfs_io.specs.Told.{SourceTold, SinkTold}
use Rattle.script_text.specs.declared.script.Script.{Script}
use Rattle.script_text.specs.declared.script.TextKind.TheVariants.{Replay}
use Rattle.script_text.specs.Grammar.{IsTextOf}
use Rattle.script_reader.specs.Faults.{FirstBad}
use Rattle.script_report.specs.Openings.{OpeningRun, opening_texts}
use Rattle.script_report.specs.Runs.{LineRun, texts_of}
use Rattle.script_report.specs.Reports.{IsReplay, IsSoundReplay, IsReport}
use Rattle.script_runs.specs.declared.output.Break.{Break}
use Rattle.script_runs.specs.declared.output.Break.TheVariants.{Fault, NoMemory}
use Rattle.script_runs.specs.Output.{PutsEach, PutsFront}
use Rattle.vfs_tool.specs.Input.{TakesAll}
use Rattle.vfs_tool.specs.declared.status.Status.{Status}
use Rattle.vfs_tool.specs.declared.status.Status.TheVariants as status

-- ---- what was put for a text

-- the text is that of a script, and what was put is that of a whole run of it over the empty tree, each line by a call of its own; each state of that run is sound, and each build in it shows the world
pub record PutsReport (text : List ℕ) (before after : SinkTold) : Type 0 where
  pub script : Script
  pub is : IsTextOf Replay text script
  pub openings : List OpeningRun
  pub runs : List LineRun
  pub replay : IsReplay empty_world script openings runs
  pub sound : IsSoundReplay empty_world script openings runs
  pub puts : PutsEach before after (opening_texts openings ++ texts_of runs)

-- what was put is the front of these lines: whole lines, each by a call of its own, and where the sink failed a front of the next
abbrev pub PutsFrontOf : SinkTold → SinkTold → List (List ℕ) → Break → Type 0
PutsFrontOf before after texts Fault = (front : List (List ℕ)) × (piece : List ℕ) × (rest : List (List ℕ)) × (texts ≡ front ++ piece ∷ rest) × PutsFront before after front piece
PutsFrontOf before after texts NoMemory = (front : List (List ℕ)) × (rest : List (List ℕ)) × (texts ≡ front ++ rest) × PutsEach before after front

-- the text is that of a script, and the front of the report on it was put
pub record PutsFrontFor (text : List ℕ) (before after : SinkTold) (e : Break) : Type 0 where
  pub script : Script
  pub is : IsTextOf Replay text script
  pub texts : List (List ℕ)
  pub report : IsReport script texts
  pub puts : PutsFrontOf before after texts e

-- ---- what was taken, and put for it

abbrev pub Reports : SourceTold → SourceTold → SinkTold → SinkTold → Type 0
Reports old new before after = (text : List ℕ) × TakesAll old.left new.left text × PutsReport text before after

abbrev pub ReportsFront : SourceTold → SourceTold → SinkTold → SinkTold → Break → Type 0
ReportsFront old new before after e = (text : List ℕ) × TakesAll old.left new.left text × PutsFrontFor text before after e

-- ---- the answers that an input has

-- Done for the text of a script, and its first bad line for any other text, or want of memory
abbrev pub Answers : List ℕ → Status → Type 0
Answers input status.Done = (s : Script) × IsTextOf Replay input s
Answers input (status.BadScript bad) = FirstBad Replay input bad
Answers input status.NoMemory = Unit {0}
Answers input status.Usage = ⊥
Answers input status.ReadFault = ⊥
Answers input status.WriteFault = ⊥
Answers input status.TooLong = ⊥

-- ---- runs that end before a script begins

-- no line of a script was done
abbrev pub IsUnrun : Status → Type 0
IsUnrun (status.BadScript bad) = Unit {0}
IsUnrun status.Usage = Unit {0}
IsUnrun status.ReadFault = Unit {0}
IsUnrun status.TooLong = Unit {0}
IsUnrun status.Done = ⊥
IsUnrun status.WriteFault = ⊥
IsUnrun status.NoMemory = ⊥
