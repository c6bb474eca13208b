-- What a script that has a text may ask for.
use Rattle.std.proofs.Common.{ℕ, ◌≤◌, List, [], ◌∷◌, map, sym, subst, arith}
use Rattle.std.specs.Prelude.{codes}
use Rattle.std.specs.List.{AllByRecursion as Each}
use Rattle.std.proofs.lemmas.List.{length-map}
use Rattle.vfs_model.specs.Paths.{IsShort}
use Rattle.vfs_model.specs.Fingerprint.{Input}
use Rattle.vfs_model.specs.State.{CallEdit}
use Rattle.vfs_model.specs.History.{IsCall, AreInputs}
use Rattle.vfs_path.specs.Texts.{IsPath}
use Rattle.world_model.specs.Meaning.{edit_of}
use Rattle.world_model.specs.Defaults.{default_settings}
use Rattle.world_model.specs.declared.settings.Settings.{Settings}
use Rattle.world_model.specs.declared.edit.Edit.{Edit as EditValue}
use Rattle.world_model.specs.declared.edit.Edit.TheVariants as edit_value
use Rattle.fingerprint_norms.specs.Meaning.{input_of}
use Rattle.fingerprint_norms.specs.declared.input.Input.{Input as InputValue}
use Rattle.script_text.specs.declared.script.Command.{Command}
use Rattle.script_text.specs.declared.script.Command.TheVariants.{Edit, Event, Lose, Deliver, Settle, Begin, Read, Publish, Abandon, Scan, Find, KindOf, VersionOf, Print, Build}
use Rattle.script_text.specs.declared.script.Opening.{Opening}
use Rattle.script_text.specs.declared.script.Opening.TheVariants as opening_line
use Rattle.script_text.specs.declared.script.Line.{Line}
use Rattle.script_text.specs.declared.script.Script.{Script}
use Rattle.script_text.specs.declared.script.TextKind.TheVariants.{Replay}
use Rattle.script_text.specs.Grammar.{IsInputsForm, IsOpening, IsEdit, IsCommand, IsOpeningLine, IsCommandLine, AreLines, none, note, line, IsTextOf}
use Rattle.script_text.specs.Set.{with_set, settings_after}
use Rattle.script_report.specs.Lines.{MayAsk, IsAsking}
use Rattle.script_report.specs.Openings.{opening_edit}
use Rattle.script_report.specs.Reports.{IsOpeningShort, IsRunnable}

-- ---- command lines

-- the edit of a line that has a text is one that may be asked for
edit-is_call : (edit : EditValue) (words : List (List ℕ)) → IsEdit edit words → IsCall (CallEdit (edit_of edit))
edit-is_call (edit_value.Write p bytes) words form = (form.0.short, tt)
edit-is_call (edit_value.Mkdir p) words form = (form.0.short, tt)
edit-is_call (edit_value.Remove p) words form = (form.0.short, tt)
edit-is_call (edit_value.Move p q) words form = (form.0.short, (form.1.short, tt))

-- so are the inputs
are-inputs : (name : List ℕ) (inputs : List InputValue) (words : List (List ℕ)) → IsInputsForm name inputs words → AreInputs (map input_of inputs)
are-inputs name inputs words form = record {
  some = let some = form.0 in let same = length-map inputs input_of in omega (arith, some, same);
  few = let few = form.1 in let same = length-map inputs input_of in omega (arith, few, same);
  short = short inputs form.2;
}
  where
    short : (inputs : List InputValue) → Each (λ (i : InputValue). IsPath i.root) inputs → Each (λ (i : Input). IsShort i.root) (map input_of inputs)
    short [] h = tt
    short (i ∷ inputs) h = (h.0.short, short inputs h.1)

command-may : (command : Command) (words : List (List ℕ)) → IsCommand command words → MayAsk command
command-may (Edit edit) words form = edit-is_call edit words form
command-may (Event p) words form = form.0.short
command-may Lose words form = tt
command-may Deliver words form = tt
command-may Settle words form = tt
command-may (Begin p) words form = form.0.short
command-may Read words form = tt
command-may Publish words form = tt
command-may Abandon words form = tt
command-may (Scan p) words form = form.0.short
command-may (Find p) words form = form.0.short
command-may (KindOf p) words form = form.0.short
command-may (VersionOf p) words form = form.0.short
command-may (Print inputs) words form = are-inputs (codes "print") inputs words form
command-may (Build inputs) words form = are-inputs (codes "build") inputs words form

lines-ask : (texts : List (List ℕ)) (lines : List Line) → AreLines (IsCommandLine Replay) texts lines → Each IsAsking lines
lines-ask [] [] none = tt
lines-ask [] (l ∷ lines) impossible = elim impossible [ ]
lines-ask (text ∷ texts) lines (note _ _ _ is more) = lines-ask texts lines more
lines-ask (text ∷ texts) (l ∷ lines) (line _ _ _ _ is more) = ((let c = is.caller in omega (arith, c), command-may l.command is.words is.form), lines-ask texts lines more)

-- ---- opening lines

opening-short : (o : Opening) (words : List (List ℕ)) → IsOpening o words → IsOpeningShort (opening_edit o)
opening-short (opening_line.Case case) words form = tt
opening-short (opening_line.Queue n) words form = tt
opening-short (opening_line.Places n) words form = tt
opening-short (opening_line.Workers n) words form = tt
opening-short (opening_line.Dir p) words form = (form.0.short, tt)
opening-short (opening_line.File p bytes) words form = (form.0.short, tt)

openings-short : (texts : List (List ℕ)) (openings : List Opening) → AreLines IsOpeningLine texts openings → Each (λ (o : Opening). IsOpeningShort (opening_edit o)) openings
openings-short [] [] none = tt
openings-short [] (o ∷ openings) impossible = elim impossible [ ]
openings-short (text ∷ texts) openings (note _ _ _ is more) = openings-short texts openings more
openings-short (text ∷ texts) (o ∷ openings) (line _ _ _ _ is more) = (opening-short o is.words is.form, openings-short texts openings more)

-- what opening lines that have a text keep of the settings, one after the other
lines-keep : (P : Settings → Type 0) → ((s : Settings) (o : Opening) (words : List (List ℕ)) → IsOpening o words → P s → P (with_set s o)) → (texts : List (List ℕ)) (openings : List Opening) (s : Settings) → AreLines IsOpeningLine texts openings → P s → P (settings_after s openings)
lines-keep P keeps [] [] s none h = h
lines-keep P keeps [] (o ∷ openings) s impossible h = elim impossible [ ]
lines-keep P keeps (text ∷ texts) openings s (note _ _ _ is more) h = lines-keep P keeps texts openings s more h
lines-keep P keeps (text ∷ texts) (o ∷ openings) s (line _ _ _ _ is more) h = lines-keep P keeps texts openings (with_set s o) more (keeps s o is.words is.form h)

-- what holds of the settings of a script that has a text
pub text-keeps : (P : Settings → Type 0) → P default_settings → ((s : Settings) (o : Opening) (words : List (List ℕ)) → IsOpening o words → P s → P (with_set s o)) → (text : List ℕ) (s : Script) → IsTextOf Replay text s → P s.settings
text-keeps P first keeps text s h = let all = h.script in subst P (sym all.settings) (lines-keep P keeps all.first s.opening default_settings all.opening first)

-- an opening line that has a text sets no queue out of its limits
set-queue : (s : Settings) (o : Opening) (words : List (List ℕ)) → IsOpening o words → (1 ≤ s.queue) × (s.queue ≤ 65536) → (1 ≤ (with_set s o).queue) × ((with_set s o).queue ≤ 65536)
set-queue s (opening_line.Case case) words form h = h
set-queue s (opening_line.Queue n) words form h = (form.0, form.1)
set-queue s (opening_line.Places n) words form h = h
set-queue s (opening_line.Workers n) words form h = h
set-queue s (opening_line.Dir p) words form h = h
set-queue s (opening_line.File p bytes) words form h = h

-- ---- scripts

pub text-runnable : (text : List ℕ) (script : Script) → IsTextOf Replay text script → IsRunnable script
text-runnable text script is =
    let all = is.script in
    let queue = text-keeps (λ s. (1 ≤ s.queue) × (s.queue ≤ 65536)) (omega arith, omega arith) set-queue text script is in
    record {
      some_room = queue.0;
      room = queue.1;
      openings = openings-short all.first script.opening all.opening;
      asking = lines-ask all.second script.lines all.commands;
    }
