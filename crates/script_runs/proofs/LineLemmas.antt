-- The command lines of a script can be run, there are no more of them than bytes, and its queue and its workers are within the limits.
use Rattle.std.proofs.Common.{ℕ, ◌≤◌, List, [], ◌∷◌, length, ap, arith, length-append}
use Rattle.std.specs.List.{AllByRecursion as Each}
use Rattle.std.proofs.lemmas.List.{length-map}
use Rattle.std.proofs.lemmas.List.Splits.{length-slice_split}
use Rattle.std.proofs.lemmas.List.Sums.{count_by-le-length}
use Rattle.world_model.specs.declared.settings.Settings.{Settings}
use Rattle.fingerprint_norms.specs.Meaning.{input_of}
use Rattle.script_text.specs.declared.script.Opening.{Opening}
use Rattle.script_text.specs.declared.script.Opening.TheVariants as opening_line
use Rattle.script_text.specs.declared.script.Command.{Command}
use Rattle.script_text.specs.declared.script.Command.TheVariants.{Print, Build}
use Rattle.script_text.specs.declared.script.Line.{Line}
use Rattle.script_text.specs.declared.script.Script.{Script}
use Rattle.script_text.specs.declared.script.TextKind.TheVariants.{Replay}
use Rattle.script_text.specs.Grammar.{is_line_end, IsOpening, IsCommandLine, AreLines, none, note, line, IsTextOf}
use Rattle.script_text.specs.Set.{with_set}
use Rattle.script_report.specs.Lines.{MayAsk, IsAsking}
use Rattle.script_report.proofs.TextLemmas.{text-keeps, text-runnable}
use Rattle.script_runs.specs.Printing.{HasFewInputs, CanRun, IsQueue, IsWorkers}

-- what may be asked for has no more inputs than a command may
few-inputs : (command : Command) → MayAsk command → HasFewInputs command
few-inputs (Print inputs) may = (let n = may.some in let same = length-map inputs input_of in omega (arith, n, same), let n = may.few in let same = length-map inputs input_of in omega (arith, n, same))
few-inputs (Build inputs) may = (let n = may.some in let same = length-map inputs input_of in omega (arith, n, same), let n = may.few in let same = length-map inputs input_of in omega (arith, n, same))
few-inputs _ may = tt

pub asking-runs : (lines : List Line) → Each IsAsking lines → Each CanRun lines
asking-runs [] h = tt
asking-runs (l ∷ lines) h = ((h.0.0, few-inputs l.command h.0.1), asking-runs lines h.1)

pub text-runs : (text : List ℕ) (s : Script) → IsTextOf Replay text s → Each CanRun s.lines
text-runs text s h = asking-runs s.lines (text-runnable text s h).asking

lines-few : (texts : List (List ℕ)) (lines : List Line) → AreLines (IsCommandLine Replay) texts lines → length lines ≤ length texts
lines-few [] [] none = omega arith
lines-few [] (l ∷ lines) impossible = elim impossible [ ]
lines-few (text ∷ texts) lines (note _ _ _ is more) = let r = lines-few texts lines more in omega (arith, r)
lines-few (text ∷ texts) (l ∷ lines) (line _ _ _ _ is more) = let r = lines-few texts lines more in omega (arith, r)

pub text-few : (text : List ℕ) (s : Script) → IsTextOf Replay text s → length s.lines ≤ length text
text-few text s h =
    let all = h.script in
    let few = lines-few all.second s.lines all.commands in
    let both = ap length all.both in
    let joined = length-append all.first all.second in
    let ended = ap length h.ended in
    let appended = length-append h.lines ([] ∷ []) in
    omega (arith, few, both, joined, ended, appended, length-slice_split is_line_end text, count_by-le-length is_line_end text)

pub text-queue : (text : List ℕ) (s : Script) → IsTextOf Replay text s → IsQueue s.settings.queue
text-queue text s h = let r = text-runnable text s h in (r.some_room, r.room)

-- an opening line that has a text sets no more workers than may hash, nor none
set-workers : (s : Settings) (o : Opening) (words : List (List ℕ)) → IsOpening o words → IsWorkers s.workers → IsWorkers (with_set s o).workers
set-workers s (opening_line.Case case) words form h = h
set-workers s (opening_line.Queue n) words form h = h
set-workers s (opening_line.Places n) words form h = h
set-workers s (opening_line.Workers n) words form h = (form.0, form.1)
set-workers s (opening_line.Dir p) words form h = h
set-workers s (opening_line.File p bytes) words form h = h

pub text-workers : (text : List ℕ) (s : Script) → IsTextOf Replay text s → IsWorkers s.settings.workers
text-workers = text-keeps (λ s. IsWorkers s.workers) (omega arith, omega arith) set-workers
