-- A script has one report.
use Rattle.std.proofs.Common.{◌≡◌, ℕ, Bool, true, List, [], ◌∷◌, ◌++◌, Option, Some, None, refl, sym, ap, subst, ◌∙◌}
use Rattle.std.specs.Prelude.{is_some}
use Rattle.std.specs.List.{AllByRecursion as Each}
use Rattle.std.proofs.lemmas.Bool.{true≢false}
use Rattle.vfs_model.specs.declared.Case.{Case}
use Rattle.vfs_model.specs.Paths.{IsShort}
use Rattle.vfs_model.specs.World.{World, IsWorld}
use Rattle.vfs_model.specs.Edit.{Edit, Refusal, refusal, events}
use Rattle.vfs_model.specs.State.{EditAnswer, edit_answer_or}
use Rattle.vfs_model.specs.History.{opening}
use Rattle.vfs_model.specs.Sound.{IsSound}
use Rattle.vfs_laws.proofs.FewLemmas.{accepted-world}
use Rattle.vfs_laws.proofs.HistoryLemmas.{opening-is_opening, opening-sound}
use Rattle.script_text.specs.declared.script.Opening.{Opening}
use Rattle.script_text.specs.declared.script.Script.{Script}
use Rattle.script_text.specs.Writing.{ended}
use Rattle.script_report.specs.Openings.{OpeningRun, AreOpeningRuns, IsOpeningDue, AreOpeningsDue, opening_edit, opening_text, opening_texts, world_after, world_opened}
use Rattle.script_report.specs.Runs.{AreRuns, AreTold, operations_of, texts_of, LineRun}
use Rattle.script_report.specs.Reports.{state_opened, IsReportOn, IsOpeningShort, IsRunnable, EachWorld, IsReplay, IsSoundReplay}
use Rattle.script_report.proofs.SameLemmas.{same-lines}
use Rattle.script_report.proofs.EndLemmas.{lines-complete}
use Rattle.script_report.proofs.LegalLemmas.{runs-legal, legal-states}
use Rattle.script_report.proofs.BuildLemmas.{builds-show}

-- ---- one report

same-answer : (case : Case) (world : World) (edit : Option Edit) (a b : Option EditAnswer) → is_some a ≡ is_some edit → is_some b ≡ is_some edit → IsOpeningDue case world edit a → IsOpeningDue case world edit b → a ≡ b
same-answer case world None None None asks also one two = refl
same-answer case world None None (Some b) asks also one two = absurd (true≢false also)
same-answer case world None (Some a) b asks also one two = absurd (true≢false asks)
same-answer case world (Some edit) None b asks also one two = absurd (true≢false (sym asks))
same-answer case world (Some edit) (Some a) None asks also one two = absurd (true≢false (sym also))
same-answer case world (Some edit) (Some a) (Some b) asks also one two = ap Some (one ∙ sym two)

pub same-openings : (took : Bool) (case : Case) (world : World) (lines : List Opening) (xs ys : List OpeningRun) → AreOpeningRuns took lines xs → AreOpeningRuns took lines ys → AreOpeningsDue case world lines xs → AreOpeningsDue case world lines ys → (opening_texts xs ≡ opening_texts ys) × (world_after case world lines xs ≡ world_after case world lines ys)
same-openings took case world [] [] [] one two a b = (refl, refl)
same-openings took case world [] [] (y ∷ ys) one two a b = absurd two
same-openings took case world [] (x ∷ xs) ys one two a b = absurd one
same-openings took case world (o ∷ lines) [] ys one two a b = absurd one
same-openings took case world (o ∷ lines) (x ∷ xs) [] one two a b = absurd two
same-openings took case world (o ∷ lines) (x ∷ xs) (y ∷ ys) one two a b =
    let same = same-answer case world (opening_edit o) x.answer y.answer one.0.asks two.0.asks a.0 b.0 in
    let after_y = sym (ap (λ z. world_opened case world (opening_edit o) z) same) in
    let rest = same-openings took case (world_opened case world (opening_edit o) x.answer) lines xs ys one.1 two.1 a.1 (subst (λ w. AreOpeningsDue case w lines ys) after_y b.1) in
    let text : x.text ≡ y.text = one.0.printed ∙ ap (λ z. opening_text took o z) same ∙ sym two.0.printed in (
      ap (λ t. ended t ∷ opening_texts xs) text ∙ ap (λ l. ended y.text ∷ l) rest.0,
      rest.1 ∙ ap (λ w. world_after case w lines ys) (sym after_y),
    )

pub same-report : (world : World) (script : Script) (a b : List (List ℕ)) → IsReportOn world script a → IsReportOn world script b → a ≡ b
same-report world script a b one two =
    let x = one.2 in
    let y = two.2 in
    let case = script.settings.case in
    let opened = same-openings true case world script.opening one.0 two.0 x.opened y.opened x.due y.due in
    let state : state_opened world script two.0 ≡ state_opened world script one.0 = ap (opening case script.settings.queue) (sym opened.1) in
    let lines = same-lines (state_opened world script one.0) script.lines one.1 two.1 x.follows (subst (λ z. AreRuns z script.lines two.1) state y.follows) x.told (subst (λ z. AreTold z (operations_of two.1)) state y.told) in
    one.3 ∙ ap (λ l. l ++ texts_of one.1) opened.0 ∙ ap (λ l. opening_texts two.0 ++ l) lines.0 ∙ sym two.3

-- ---- and there is one

record Opened (took : Bool) (case : Case) (world : World) (lines : List Opening) : Type 0 where
  runs : List OpeningRun
  follows : AreOpeningRuns took lines runs
  due : AreOpeningsDue case world lines runs
  whole : IsWorld case (world_after case world lines runs)

answer_for : Case → World → Option Edit → Option EditAnswer
answer_for case world None = None
answer_for case world (Some edit) = Some (edit_answer_or edit (refusal case world edit))

for-asks : (case : Case) (world : World) (edit : Option Edit) → is_some (answer_for case world edit) ≡ is_some edit
unfolding answer_for
for-asks case world None = refl
for-asks case world (Some edit) = refl

for-due : (case : Case) (world : World) (edit : Option Edit) → IsOpeningDue case world edit (answer_for case world edit)
unfolding answer_for
for-due case world None = tt
for-due case world (Some edit) = refl

by-world : (case : Case) (world : World) (edit : Edit) (r : Option Refusal) → refusal case world edit ≡ r → Each IsShort (events edit) → IsWorld case world → IsWorld case (world_opened case world (Some edit) (Some (edit_answer_or edit r)))
by-world case world edit None e short whole = accepted-world case world edit e short whole
by-world case world edit (Some r) e short whole = whole

for-world : (case : Case) (world : World) (edit : Option Edit) → IsOpeningShort edit → IsWorld case world → IsWorld case (world_opened case world edit (answer_for case world edit))
unfolding answer_for
for-world case world None short whole = whole
for-world case world (Some edit) short whole = by-world case world edit (refusal case world edit) refl short whole

openings-exist : (took : Bool) (case : Case) (world : World) (lines : List Opening) → Each (λ (o : Opening). IsOpeningShort (opening_edit o)) lines → IsWorld case world → Opened took case world lines
openings-exist took case world [] short whole = record { runs = []; follows = tt; due = tt; whole = whole }
openings-exist took case world (o ∷ lines) short whole =
    let answer = answer_for case world (opening_edit o) in
    let rest = openings-exist took case (world_opened case world (opening_edit o) answer) lines short.1 (for-world case world (opening_edit o) short.0 whole) in
    record {
      runs = record { answer = answer; text = opening_text took o answer } ∷ rest.runs;
      follows = (record { asks = for-asks case world (opening_edit o); printed = refl }, rest.follows);
      due = (for-due case world (opening_edit o), rest.due);
      whole = rest.whole;
    }

pub report-exists : (world : World) (script : Script) → IsRunnable script → IsWorld script.settings.case world → (texts : List (List ℕ)) × IsReportOn world script texts
report-exists world script runnable is =
    let case = script.settings.case in
    let opened = openings-exist true case world script.opening runnable.openings is in
    let s = state_opened world script opened.runs in
    let sound : IsSound s = opening-sound s (opening-is_opening case script.settings.queue (world_after case world script.opening opened.runs) runnable.some_room runnable.room opened.whole) in
    let lines = lines-complete s script.lines runnable.asking sound in
    (opening_texts opened.runs ++ texts_of lines.0, (opened.runs, lines.0, record { opened = opened.follows; due = opened.due; follows = lines.1; told = lines.2 }, refl))

-- ---- the states in which the command lines could begin

due-answer : (case : Case) (world : World) (edit : Option Edit) (answer : Option EditAnswer) → is_some answer ≡ is_some edit → IsOpeningDue case world edit answer → IsOpeningShort edit → IsWorld case world → IsWorld case (world_opened case world edit answer)
due-answer case world edit answer asks due short is =
    let same = same-answer case world edit answer (answer_for case world edit) asks (for-asks case world edit) due (for-due case world edit) in
    subst (λ (o : Option EditAnswer). IsWorld case (world_opened case world edit o)) (sym same) (for-world case world edit short is)

-- each of the worlds that opening lines make is one
pub openings-worlds : (took : Bool) (case : Case) (world : World) (lines : List Opening) (runs : List OpeningRun) → Each (λ (o : Opening). IsOpeningShort (opening_edit o)) lines → IsWorld case world → AreOpeningRuns took lines runs → AreOpeningsDue case world lines runs → EachWorld (IsWorld case) case world lines runs
openings-worlds took case world [] runs short is follows due = is
openings-worlds took case world (o ∷ lines) [] short is follows due = is
openings-worlds took case world (o ∷ lines) (run ∷ runs) short is follows due =
    (is, openings-worlds took case (world_opened case world (opening_edit o) run.answer) lines runs short.1 (due-answer case world (opening_edit o) run.answer follows.0.asks due.0 short.0 is) follows.1 due.1)

each-world : (fact other : World → Type 0) → ((w : World) → fact w → other w) → (case : Case) (world : World) (lines : List Opening) (runs : List OpeningRun) → EachWorld fact case world lines runs → EachWorld other case world lines runs
each-world fact other weaker case world [] runs h = weaker world h
each-world fact other weaker case world (o ∷ lines) [] h = weaker world h
each-world fact other weaker case world (o ∷ lines) (run ∷ runs) h = (weaker world h.0, each-world fact other weaker case (world_opened case world (opening_edit o) run.answer) lines runs h.1)

last-world : (fact : World → Type 0) (case : Case) (world : World) (lines : List Opening) (runs : List OpeningRun) → EachWorld fact case world lines runs → fact (world_after case world lines runs)
last-world fact case world [] runs h = h
last-world fact case world (o ∷ lines) [] h = h
last-world fact case world (o ∷ lines) (run ∷ runs) h = last-world fact case (world_opened case world (opening_edit o) run.answer) lines runs h.1

pub openings-sound : (world : World) (script : Script) (openings : List OpeningRun) → IsRunnable script → IsWorld script.settings.case world → AreOpeningRuns true script.opening openings → AreOpeningsDue script.settings.case world script.opening openings → EachWorld (λ w. IsSound (opening script.settings.case script.settings.queue w)) script.settings.case world script.opening openings
openings-sound world script openings runnable is follows due =
    let case = script.settings.case in
    each-world (IsWorld case) (λ w. IsSound (opening case script.settings.queue w)) (λ w h. opening-sound (opening case script.settings.queue w) (opening-is_opening case script.settings.queue w runnable.some_room runnable.room h)) case world script.opening openings
    (openings-worlds true case world script.opening openings runnable.openings is follows due)

-- a whole run of a script goes through sound states, and its builds show the world in which they stand
pub replay-sound : (world : World) (script : Script) (openings : List OpeningRun) (runs : List LineRun) → IsRunnable script → IsWorld script.settings.case world → IsReplay world script openings runs → IsSoundReplay world script openings runs
replay-sound world script openings runs runnable is replay =
    let opened = openings-sound world script openings runnable is replay.opened replay.due in
    let s = state_opened world script openings in
    let sound : IsSound s = last-world (λ w. IsSound (opening script.settings.case script.settings.queue w)) script.settings.case world script.opening openings opened in
    record {
      opened = opened;
      lines = legal-states s (operations_of runs) (runs-legal s script.lines runs runnable.asking replay.follows replay.told.made replay.told.due) sound;
      builds = builds-show s script.lines runs runnable.asking sound replay.follows replay.told;
    }
