-- The report on a script, over a tree that tells its content and whose looks do not fail.
use Rattle.std.specs.Prelude.{◌≡◌, ◌==◌, ℕ, ◌≤◌, List, [], ◌∷◌, ◌++◌, Option, None, Some, true, false}
use Rattle.std.specs.List.{AllByRecursion as Each}
use Rattle.vfs_model.specs.declared.Case.{Case}
use Rattle.vfs_model.specs.Paths.{IsShort}
use Rattle.vfs_model.specs.Edit.{Edit as TreeEdit, events}
use Rattle.vfs_model.specs.State.{State}
use Rattle.vfs_model.specs.Sound.{IsSound}
use Rattle.vfs_model.specs.World.{World}
use Rattle.vfs_model.specs.History.{opening, empty_world}
use Rattle.script_text.specs.declared.script.Opening.{Opening}
use Rattle.script_text.specs.declared.script.Script.{Script}
use Rattle.script_text.specs.Writing.{ended}
use Rattle.script_report.specs.Lines.{IsAsking}
use Rattle.script_report.specs.Openings.{OpeningRun, AreOpeningRuns, AreOpeningsDue, opening_edit, opening_texts, world_after, world_opened}
use Rattle.script_report.specs.Runs.{LineRun, AreRuns, AreTold, AreSound, BuildsShow, operations_of, texts_of}

-- the state in which the command lines begin, after these openings of the tree that holds the world
abbrev pub state_opened : World → Script → List OpeningRun → State
state_opened world script openings = opening script.settings.case script.settings.queue (world_after script.settings.case world script.opening openings)

-- the fact holds of each world that the opening lines make, the last among them
abbrev pub EachWorld : (World → Type 0) → Case → World → List Opening → List OpeningRun → Type 0
EachWorld fact case world [] runs = fact world
EachWorld fact case world (o ∷ lines) [] = fact world
EachWorld fact case world (o ∷ lines) (run ∷ runs) = fact world × EachWorld fact case (world_opened case world (opening_edit o) run.answer) lines runs

-- a whole run of the script over the tree that holds the world, which took its case, and in which no look failed
pub record IsReplay (world : World) (script : Script) (openings : List OpeningRun) (runs : List LineRun) : Type 0 where
  pub opened : AreOpeningRuns true script.opening openings
  pub due : AreOpeningsDue script.settings.case world script.opening openings
  pub follows : AreRuns (state_opened world script openings) script.lines runs
  pub told : AreTold (state_opened world script openings) (operations_of runs)

-- each state of the run is sound, those among its opening lines and those of its command lines; and each build shows the world in which it stands
pub record IsSoundReplay (world : World) (script : Script) (openings : List OpeningRun) (runs : List LineRun) : Type 0 where
  pub opened : EachWorld (λ w. IsSound (opening script.settings.case script.settings.queue w)) script.settings.case world script.opening openings
  pub lines : AreSound (state_opened world script openings) (operations_of runs)
  pub builds : BuildsShow (state_opened world script openings) script.lines runs

-- the lines are those that are printed for the script over that tree
abbrev pub IsReportOn : World → Script → List (List ℕ) → Type 0
IsReportOn world script texts = (openings : List OpeningRun) × (runs : List LineRun) × IsReplay world script openings runs × (texts ≡ opening_texts openings ++ texts_of runs)

-- the same over the tree that has only its root
abbrev pub IsReport : Script → List (List ℕ) → Type 0
IsReport = IsReportOn empty_world

-- the text is one line: it ends with a line end, and has no other
pub record IsOneLine (text : List ℕ) : Type 0 where
  pub line : List ℕ
  pub ended : text ≡ ended line
  pub unbroken : Each (λ b. (b == 10) ≡ false) line

-- the paths of an edit that an opening line asks for have at most 64 names
abbrev pub IsOpeningShort : Option TreeEdit → Type 0
IsOpeningShort None = Unit {0}
IsOpeningShort (Some edit) = Each IsShort (events edit)

-- the script is one that has a text: short paths, a queue of 1 to 65,536, and lines that may be asked for
pub record IsRunnable (script : Script) : Type 0 where
  pub some_room : 1 ≤ script.settings.queue
  pub room : script.settings.queue ≤ 65536
  pub openings : Each (λ (o : Opening). IsOpeningShort (opening_edit o)) script.opening
  pub asking : Each IsAsking script.lines
