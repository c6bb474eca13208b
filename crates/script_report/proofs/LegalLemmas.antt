-- Runs of lines are legal histories.
use Rattle.std.proofs.Common.{◌≡◌, ℕ, Bool, true, false, List, [], ◌∷◌, ◌<◌, subst, Option, Some, None, inr}
use Rattle.std.specs.List.{AllByRecursion as Each}
use Rattle.vfs_model.specs.Fingerprint.{Input}
use Rattle.vfs_model.specs.State.{State, Call, CallDeliver, CallRead, Reply, AlreadyOpen, NothingPending, Saw, Fault, AreDue, Found}
use Rattle.vfs_model.specs.Paths.{IsShort}
use Rattle.vfs_model.specs.History.{Operation, IsCall, AreInputs, IsLegal, after_operation, after, IsLegalOperation}
use Rattle.vfs_model.specs.Sound.{IsSound}
use Rattle.vfs_laws.proofs.NameLemmas.{some-is}
use Rattle.vfs_laws.proofs.HistoryLemmas.{after_operation-sound}
use Rattle.script_text.specs.declared.script.Command.{Command}
use Rattle.script_text.specs.declared.script.Command.TheVariants.{Edit, Event, Lose, Deliver, Settle, Begin, Read, Publish, Abandon, Scan, Find, KindOf, VersionOf, Print, Build}
use Rattle.script_text.specs.declared.script.Line.{Line}
use Rattle.script_report.specs.Stages.{Stage, Whole, Asks, Delivers, Reads, next_call, delivered, was_read, advance, Follows, EachDue}
use Rattle.script_report.specs.Lines.{Counts, stage_of, line_stage, MayAsk, IsAsking, taking, root_found, root_read, read_whole, begun, building}
use Rattle.script_report.specs.Runs.{IsMade, AreMade, AreTrue, AreSound, LineRun, AreRuns, operations_of}
use Rattle.script_report.proofs.EachAtLemmas.{EachAt-front, EachAt-back, EachAt-append}

-- ---- the calls that may be due

call-due : (P : Call → Type 0) (stage : Stage) (call : Call) → EachDue P stage → next_call stage ≡ Some call → P call
call-due P (Whole text) call h e = absurd cc
call-due P (Asks due next) call h e = subst P (some-is due call e) h.0
call-due P (Delivers n next) call h e = subst P (some-is CallDeliver call e) h.0
call-due P (Reads c n next) call h e = subst P (some-is (CallRead c) call e) h.0

delivered-due : (P : Call → Type 0) (n : ℕ) (next : ℕ → Stage) (r : Reply) → EachDue P (Delivers n next) → EachDue P (delivered n next r)
delivered-due P n next NothingPending h = h.1 n
delivered-due P n next _ h = (h.0, h.1)

read-due : (P : Call → Type 0) (c n : ℕ) (next : Option ℕ → Stage) (r : Reply) → EachDue P (Reads c n next) → EachDue P (was_read c n next r)
read-due P c n next (Saw path kind left) h = (h.0, h.1)
read-due P c n next Fault h = h.1 None
read-due P c n next _ h = h.1 (Some n)

pub next-due : (P : Call → Type 0) (stage : Stage) (r : Reply) → EachDue P stage → EachDue P (advance stage r)
next-due P (Whole text) r h = tt
next-due P (Asks call next) r h = h.1 r
next-due P (Delivers n next) r h = delivered-due P n next r h
next-due P (Reads c n next) r h = read-due P c n next r h

-- ---- lines

root-read-due : (caller : ℕ) (k : Counts) (more : Counts → Stage) (n : Option ℕ) → caller < 16 → ((k : Counts) → EachDue IsCall (more k)) → EachDue IsCall (root_read caller k more n)
root-read-due caller k more None fits h = (fits, λ r. tt)
root-read-due caller k more (Some n) fits h = (fits, λ r. h _)

root-found-due : (caller : ℕ) (i : Input) (k : Counts) (more : Counts → Stage) (r : Reply) → caller < 16 → IsShort i.root → ((k : Counts) → EachDue IsCall (more k)) → EachDue IsCall (root_found caller i.root k more r)
root-found-due caller i k more (Found None) fits short h = ((fits, short), λ r. (fits, λ n. root-read-due caller k more n fits h))
root-found-due caller i k more _ fits short h = h _

taking-due : (caller : ℕ) (all inputs : List Input) (k : Counts) → caller < 16 → AreInputs all → Each (λ (i : Input). IsShort i.root) inputs → EachDue IsCall (taking caller all inputs k)
taking-due caller all [] k fits inputs short = (inputs, λ r. tt)
taking-due caller all (i ∷ more) k fits inputs short = (short.0, λ r. root-found-due caller i k (taking caller all more) r fits short.0 (λ k. taking-due caller all more k fits inputs short.1))

whole-due : (caller : ℕ) (n : Option ℕ) → caller < 16 → EachDue IsCall (read_whole caller n)
whole-due caller None fits = tt
whole-due caller (Some n) fits = (fits, λ r. tt)

begun-due : (caller : ℕ) (r : Reply) → caller < 16 → EachDue IsCall (begun caller r)
begun-due caller AlreadyOpen fits = tt
begun-due caller _ fits = (fits, λ n. whole-due caller n fits)

built-due : (caller : ℕ) (busy : Bool) (inputs : List Input) → caller < 16 → AreInputs inputs → EachDue IsCall (building caller busy inputs)
built-due caller true inputs fits h = tt
built-due caller false inputs fits h = (tt, λ n. taking-due caller inputs inputs _ fits h h.short)

pub command-due : (caller : ℕ) (busy : Bool) (command : Command) → caller < 16 → MayAsk command → EachDue IsCall (stage_of caller busy command)
command-due caller busy (Edit edit) fits may = (may, λ r. tt)
command-due caller busy (Event path) fits may = (may, λ r. tt)
command-due caller busy Lose fits may = (tt, λ r. tt)
command-due caller busy Deliver fits may = (tt, λ r. tt)
command-due caller busy Settle fits may = (tt, λ n. tt)
command-due caller busy (Begin path) fits may = ((fits, may), λ r. tt)
command-due caller busy Read fits may = (fits, λ r. tt)
command-due caller busy Publish fits may = (fits, λ r. tt)
command-due caller busy Abandon fits may = (fits, λ r. tt)
command-due caller busy (Scan path) fits may = ((fits, may), λ r. begun-due caller r fits)
command-due caller busy (Find path) fits may = (may, λ r. tt)
command-due caller busy (KindOf path) fits may = (may, λ r. tt)
command-due caller busy (VersionOf path) fits may = (may, λ r. tt)
command-due caller busy (Print inputs) fits may = (may, λ r. tt)
command-due caller busy (Build inputs) fits may = built-due caller busy _ fits may

-- ---- legal histories

pub stage-legal : (caller : ℕ) (s : State) (stage : Stage) (h : List Operation) → EachDue IsCall stage → Follows caller stage h → AreMade s h → AreTrue s h → IsLegal s h
stage-legal caller s stage [] due follows made so = tt
stage-legal caller s stage (o ∷ h) due follows made so = (
  record { call = call-due IsCall stage o.call due follows.1; answered = inr made.0.reply; due = λ _. so.0 },
  stage-legal caller (after_operation s o) (advance stage o.reply) h (next-due IsCall stage o.reply due) follows.2 made.1 so.1,
)

pub runs-legal : (s : State) (lines : List Line) (runs : List LineRun) → Each IsAsking lines → AreRuns s lines runs → AreMade s (operations_of runs) → AreTrue s (operations_of runs) → IsLegal s (operations_of runs)
runs-legal s [] [] asking h made so = tt
runs-legal s [] (r ∷ runs) asking h made so = absurd h
runs-legal s (line ∷ lines) [] asking h made so = absurd h
runs-legal s (line ∷ lines) (r ∷ runs) asking h made so =
    EachAt-append IsLegalOperation s r.operations (operations_of runs)
    (stage-legal line.caller s (line_stage s line) r.operations (command-due line.caller _ line.command asking.0.0 asking.0.1) h.0.follows (EachAt-front IsMade s r.operations (operations_of runs) made) (EachAt-front (λ z o. AreDue z o.call o.answers) s r.operations (operations_of runs) so))
    (runs-legal (after s r.operations) lines runs asking.1 h.1 (EachAt-back IsMade s r.operations (operations_of runs) made) (EachAt-back (λ z o. AreDue z o.call o.answers) s r.operations (operations_of runs) so))

-- each state of a legal history from a sound state is sound
pub legal-states : (s : State) (h : List Operation) → IsLegal s h → IsSound s → AreSound s h
legal-states s [] legal sound = record { before = tt; after_all = sound }
legal-states s (o ∷ h) legal sound =
    let rest = legal-states (after_operation s o) h legal.1 (after_operation-sound s o legal.0 sound) in
    record { before = (sound, rest.before); after_all = rest.after_all }
