-- What a run over a tree that is handed in puts, by what that tree answered.
use Rattle.std.specs.Prelude.{◌≡◌, ◌≢◌, ℕ, Bool, true, false, List, Some}
use Rattle.vfs_model.specs.declared.Case.{Case}
use Rattle.vfs_model.specs.World.{World}
use Rattle.world_model.specs.Told.{TreeTold, takes_case}
use Rattle.vfs_io.specs.Told.{SourceTold, SinkTold}
use Rattle.script_text.specs.declared.script.Script.{Script}
use Rattle.script_text.specs.declared.script.TextKind.TheVariants.{Replay}
use Rattle.script_text.specs.Grammar.{IsTextOf}
use Rattle.script_runs.specs.declared.output.Break.{Break}
use Rattle.vfs_tool.specs.Input.{TakesAll}
use Rattle.vfs_tool.specs.Scripts.{RunsScript, BreaksScript}

-- ---- trees

-- the case of a tree that was asked to take one, by whether it did
abbrev pub case_after : Bool → Case → Case → Case
case_after true own asked_for = asked_for
case_after false own asked_for = own

-- what the tree tells once it was asked to take the case: nothing else has changed
abbrev pub after_asking : Bool → Case → TreeTold → TreeTold
after_asking took case told = record told { case = case_after took told.case case }

-- whether the tree took the case: not only where its own is another; where it tells its content, by what it holds; and always where it takes no edits
pub record AnswersCase (takes_no_edits : Bool) (told : TreeTold) (case : Case) (took : Bool) : Type 0 where
  pub own : took ≡ false → told.case ≢ case
  pub seen : (w : World) → told.content ≡ Some w → took ≡ takes_case told.case w case
  pub read_only : takes_no_edits ≡ true → took ≡ true

-- ---- what was put for a script

-- the tree was asked to take the script's case, and then the script was run over it whole
pub record PutsOver (takes_no_edits : Bool) (old new : TreeTold) (script : Script) (before after : SinkTold) : Type 0 where
  pub took : Bool
  pub set : AnswersCase takes_no_edits old script.settings.case took
  pub run : RunsScript took (after_asking took script.settings.case old) new script before after

-- the tree was asked to take the script's case, and then the run of the script over it broke off
pub record BreaksOver (takes_no_edits : Bool) (old new : TreeTold) (script : Script) (before after : SinkTold) (e : Break) : Type 0 where
  pub took : Bool
  pub set : AnswersCase takes_no_edits old script.settings.case took
  pub broke : BreaksScript took (after_asking took script.settings.case old) new script before after e

-- ---- what was put for a text

-- the text is that of a script, and it was run over the tree whole
abbrev pub PutsTextOver : Bool → TreeTold → TreeTold → List ℕ → SinkTold → SinkTold → Type 0
PutsTextOver takes_no_edits old new text before after = (s : Script) × IsTextOf Replay text s × PutsOver takes_no_edits old new s before after

-- the text is that of a script, and its run over the tree broke off
abbrev pub BreaksText : Bool → TreeTold → TreeTold → List ℕ → SinkTold → SinkTold → Break → Type 0
BreaksText takes_no_edits old new text before after e = (s : Script) × IsTextOf Replay text s × BreaksOver takes_no_edits old new s before after e

-- ---- what was taken, and put for it

abbrev pub ReportsOver : Bool → TreeTold → TreeTold → SourceTold → SourceTold → SinkTold → SinkTold → Type 0
ReportsOver takes_no_edits tree now old new before after = (text : List ℕ) × TakesAll old.left new.left text × PutsTextOver takes_no_edits tree now text before after

abbrev pub BreaksReport : Bool → TreeTold → TreeTold → SourceTold → SourceTold → SinkTold → SinkTold → Break → Type 0
BreaksReport takes_no_edits tree now old new before after e = (text : List ℕ) × TakesAll old.left new.left text × BreaksText takes_no_edits tree now text before after e
