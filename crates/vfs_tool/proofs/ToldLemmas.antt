-- A script as a whole, over a tree that told its content and had no look that failed: what is put is the report, or its front.
use Rattle.std.proofs.Common.{◌≡◌, ℕ, ◌+◌, ◌≤◌, Bool, true, false, List, [], ◌∷◌, ◌++◌, Option, Some, None, refl, sym, ap, subst, ◌∙◌, arith, append-nil, append_assoc, inl, inr}
use Rattle.std.specs.Prelude.{is_some}
use Rattle.std.specs.List.{count_by}
use Rattle.std.proofs.lemmas.List.{map-append}
use Rattle.std.proofs.lemmas.List.Sums.{sum_by-append}
use Rattle.std.proofs.lemmas.Grind.{flat_map-append}
use Rattle.vfs_model.specs.declared.Case.{Case}
use Rattle.vfs_model.specs.declared.Case.TheVariants.{Sensitive, Insensitive}
use Rattle.vfs_model.specs.World.{World, IsSameBelow}
use Rattle.vfs_model.specs.State.{State, TreeAnswer}
use Rattle.vfs_model.specs.History.{Operation, opening, after, empty_world}
use Rattle.vfs_laws.proofs.NameLemmas.{some-is}
use Rattle.vfs_laws.proofs.SameLemmas.{same-refl}
use Rattle.vfs_laws.proofs.HistoryLemmas.{empty-is_world}
use Rattle.world_model.specs.Told.{TreeTold, takes_case}
use Rattle.vfs_io.specs.Told.{SourceTold, SinkTold}
use Rattle.script_text.specs.declared.script.Line.{Line}
use Rattle.script_text.specs.declared.script.Opening.{Opening}
use Rattle.script_text.specs.declared.script.Script.{Script}
use Rattle.script_text.specs.Writing.{ended}
use Rattle.script_report.specs.Stages.{Whole, Follows, stage_after}
use Rattle.script_report.specs.Openings.{OpeningRun, AreOpeningRuns, AreOpeningsDue, opening_edit, opening_answers, opening_texts, world_after, world_opened}
use Rattle.script_report.specs.Runs.{LineRun, IsLineRun, AreRuns, AreTold, IsRun, AreTrue, asked, is_failed, failed, operations_of, texts_of}
use Rattle.script_report.specs.Reports.{IsReplay, IsReportOn, IsReport, state_opened}
use Rattle.script_report.proofs.EachAtLemmas.{after-append}
use Rattle.script_report.proofs.SameLemmas.{front-texts, AreTold-front}
use Rattle.script_report.proofs.ReportLemmas.{same-openings, report-exists, replay-sound}
use Rattle.script_report.proofs.TextLemmas.{text-runnable}
use Rattle.script_runs.specs.declared.output.Break.{Break}
use Rattle.script_runs.specs.declared.output.Break.TheVariants.{Fault, NoMemory}
use Rattle.script_runs.specs.Output.{PutsEach, PutsFront}
use Rattle.script_runs.specs.Making.{Answered, RoseBy}
use Rattle.script_runs.specs.Opening.{MayHold, OpensLine, OpensLines, BreaksOpening}
use Rattle.script_runs.proofs.RunLemmas.{more-put, front-put}
use Rattle.script_runs.proofs.OpenLemmas.{runs-append, due-append}
use Rattle.vfs_tool.specs.Scripts.{RunsCommands, BreaksCommand, BeginsNone, RunsScript, BreaksLate, BreaksScript}
use Rattle.vfs_tool.specs.Folder.{after_asking, PutsOver, BreaksOver, PutsTextOver, BreaksText, ReportsOver, BreaksReport}
use Rattle.vfs_tool.specs.Run.{PutsReport, PutsFrontOf, PutsFrontFor, Reports, ReportsFront}

-- ---- a tree that told its content

-- the tree told that it holds the world, and that it has the case of the script
record TellsWorld (script : Script) (world : World) (told : TreeTold) : Type 0 where
  case : told.case ≡ script.settings.case
  content : told.content ≡ Some world

world-held : (script : Script) (world : World) (told : TreeTold) → TellsWorld script world told → MayHold told world
world-held script world told tells = λ w e. subst (λ (v : World). IsSameBelow told.case world [] v []) (some-is world w (sym tells.content ∙ e)) (same-refl told.case world)

-- the answers to opening lines are those that are due in the world
openings-due : (script : Script) (world : World) (old new : TreeTold) (lines : List Opening) (took : Bool) (a b : SinkTold) → TellsWorld script world old → (h : OpensLines old new took lines a b) → AreOpeningsDue script.settings.case world lines h.runs
openings-due script world old new lines took a b tells h = subst (λ (c : Case). AreOpeningsDue c world lines h.runs) tells.case (h.due (ap is_some tells.content) world (world-held script world old tells))

-- where the command lines begin
opened-state : (script : Script) (world : World) (old mid : TreeTold) (openings : List OpeningRun) → TellsWorld script world old → mid.case ≡ old.case → opening mid.case script.settings.queue (world_after old.case world script.opening openings) ≡ state_opened world script openings
opened-state script world old mid openings tells same = λ i. opening ((same ∙ tells.case) i) script.settings.queue (world_after (tells.case i) world script.opening openings)

-- where a count did not rise in all, none of its parts did
none-of : (n m a b c : ℕ) → RoseBy n a b → RoseBy (m + 0) b c → c ≡ a → m ≡ 0
none-of n m a b c first second none = omega (arith, first, second, none)

first-of : (n m k a b c : ℕ) → RoseBy n a b → RoseBy (m + k) b c → c ≡ a → m ≡ 0
first-of n m k a b c first second none = omega (arith, first, second, none)

-- ---- a whole run

pub script-replay : (script : Script) (world : World) (old new : TreeTold) (a b : SinkTold) → RunsScript true old new script a b → old.case ≡ script.settings.case → old.content ≡ Some world → new.faults ≡ old.faults
    → (openings : List OpeningRun) × (runs : List LineRun) × IsReplay world script openings runs × PutsEach a b (opening_texts openings ++ texts_of runs)
script-replay script world old new a b h under content none =
    let tells : TellsWorld script world old = record { case = under; content = content } in
    let openings = h.opened.runs in
    let runs = h.run.runs in
    let ops = operations_of runs in
    let start = world_after old.case world script.opening openings in
    let holds = h.opened.held world (world-held script world old tells) in
    let run = h.run.run start holds in
    let due = h.run.due (h.opened.answered.tells ∙ ap is_some content) start holds in
    let few : failed ops ≡ 0 = first-of _ (failed ops) 0 old.faults h.mid.faults new.faults h.opened.answered.failed (let f = h.run.answered.failed in omega (arith, f)) none in
    let state = opened-state script world old h.mid openings tells h.opened.case in
    let told : AreTold (opening h.mid.case script.settings.queue start) ops = record { made = run.made; due = due; whole = few } in (
      openings,
      runs,
      record {
        opened = h.opened.follows;
        due = openings-due script world old h.mid script.opening true a h.sink_mid tells h.opened;
        follows = subst (λ (s : State). AreRuns s script.lines runs) state run.follows;
        told = subst (λ (s : State). AreTold s ops) state told;
      },
      more-put a h.sink_mid b (opening_texts openings) (texts_of runs) h.opened.puts h.run.puts,
    )

-- ---- a run that broke off in its opening lines

-- the runs of these opening lines and of more
runs-cut : (took : Bool) (xs ys : List Opening) (runs : List OpeningRun) → AreOpeningRuns took (xs ++ ys) runs → (front : List OpeningRun) × (back : List OpeningRun) × (runs ≡ front ++ back) × AreOpeningRuns took xs front
runs-cut took [] ys runs h = ([], runs, refl, tt)
runs-cut took (x ∷ xs) ys [] h = absurd h
runs-cut took (x ∷ xs) ys (r ∷ runs) h =
    let p = runs-cut took xs ys runs h.1 in
    (r ∷ p.0, p.1, ap (λ (l : List OpeningRun). r ∷ l) p.2, (h.0, p.3))

due-cut : (case : Case) (world : World) (xs ys : List Opening) (front back : List OpeningRun) → AreOpeningsDue case world (xs ++ ys) (front ++ back) → AreOpeningsDue case world xs front
due-cut case world [] ys front back h = tt
due-cut case world (x ∷ xs) ys [] back h = tt
due-cut case world (x ∷ xs) ys (r ∷ front) back h = (h.0, due-cut case (world_opened case world (opening_edit x) r.answer) xs ys front back h.1)

-- what was printed for the first of the opening lines is the front of what is printed for all
front-openings : (case : Case) (world : World) (xs ys : List Opening) (runs others : List OpeningRun) → AreOpeningRuns true (xs ++ ys) runs → AreOpeningsDue case world (xs ++ ys) runs → AreOpeningRuns true xs others → AreOpeningsDue case world xs others → (rest : List (List ℕ)) × (opening_texts runs ≡ opening_texts others ++ rest)
front-openings case world xs ys runs others all due first due_too =
    let p = runs-cut true xs ys runs all in
    let here = due-cut case world xs ys p.0 p.1 (subst (λ (r : List OpeningRun). AreOpeningsDue case world (xs ++ ys) r) p.2 due) in
    let same = same-openings true case world xs p.0 others p.3 first here due_too in
    (opening_texts p.1, ap opening_texts p.2 ∙ map-append (λ (r : OpeningRun). ended r.text) p.0 p.1 ∙ ap (λ l. l ++ opening_texts p.1) same.0)

-- the first lines of a report, and then what follows the opening lines
front-then : (texts front rest more : List (List ℕ)) → texts ≡ front ++ rest → texts ++ more ≡ front ++ (rest ++ more)
front-then texts front rest more e = ap (λ l. l ++ more) e ∙ append_assoc front rest more

openings-front : (script : Script) (world : World) (old new : TreeTold) (a b : SinkTold) (e : Break) (texts : List (List ℕ)) → IsReportOn world script texts → TellsWorld script world old → BreaksOpening old new true script.opening a b e → PutsFrontOf a b texts e
openings-front script world old new a b NoMemory texts report tells broke =
    let case = script.settings.case in
    let xs = broke.before in
    let ys = broke.line ∷ broke.left in
    let r = report.2 in
    let due = openings-due script world old broke.mid xs true a broke.sink_mid tells broke.opened in
    let all = subst (λ (l : List Opening). AreOpeningRuns true l report.0) broke.parts r.opened in
    let all_due = subst (λ (l : List Opening). AreOpeningsDue case world l report.0) broke.parts r.due in
    let front = front-openings case world xs ys report.0 broke.opened.runs all all_due broke.opened.follows due in
    (opening_texts broke.opened.runs, front.0 ++ texts_of report.1, report.3 ∙ front-then (opening_texts report.0) (opening_texts broke.opened.runs) front.0 (texts_of report.1) front.1, broke.broke.1)
openings-front script world old new a b Fault texts report tells broke =
    let case = script.settings.case in
    let xs = broke.before in
    let o = broke.line in
    let r = report.2 in
    let text = broke.broke.1.0 in
    let opens : OpensLine broke.mid new true o text = broke.broke.1.1 in
    let run : OpeningRun = record { answer = opens.answer; text = text } in
    let runs = broke.opened.runs in
    let due = openings-due script world old broke.mid xs true a broke.sink_mid tells broke.opened in
    let held = broke.opened.held world (world-held script world old tells) in
    let here = opens.answers.due (broke.opened.answered.tells ∙ ap is_some tells.content) (world_after old.case world xs runs) held in
    let here_too : AreOpeningsDue case (world_after case world xs runs) (o ∷ []) (run ∷ []) = (subst (λ (c : Case). AreOpeningsDue c (world_after case world xs runs) (o ∷ []) (run ∷ [])) (broke.opened.case ∙ tells.case) (subst (λ (c : Case). AreOpeningsDue broke.mid.case (world_after c world xs runs) (o ∷ []) (run ∷ [])) tells.case (here, tt))) in
    let follows = runs-append true xs (o ∷ []) runs (run ∷ []) broke.opened.follows (opens.run, tt) in
    let both = due-append case world true xs (o ∷ []) runs (run ∷ []) broke.opened.follows due here_too in
    let cut : script.opening ≡ (xs ++ o ∷ []) ++ broke.left = broke.parts ∙ sym (append_assoc xs (o ∷ []) broke.left) in
    let all = subst (λ (l : List Opening). AreOpeningRuns true l report.0) cut r.opened in
    let all_due = subst (λ (l : List Opening). AreOpeningsDue case world l report.0) cut r.due in
    let front = front-openings case world (xs ++ o ∷ []) broke.left report.0 (runs ++ run ∷ []) all all_due follows both in
    let split : opening_texts report.0 ≡ opening_texts runs ++ (ended text ∷ front.0) = front.1 ∙ ap (λ l. l ++ front.0) (map-append (λ (q : OpeningRun). ended q.text) runs (run ∷ [])) ∙ append_assoc (opening_texts runs) (ended text ∷ []) front.0 in
    (opening_texts runs, ended text, front.0 ++ texts_of report.1, report.3 ∙ front-then (opening_texts report.0) (opening_texts runs) (ended text ∷ front.0) (texts_of report.1) split, broke.broke.1.2)

-- ---- a run that broke off in its command lines

-- the runs of lines, and of one line more
runs-snoc : (s : State) (xs : List Line) (runs : List LineRun) (line : Line) (run : LineRun) → AreRuns s xs runs → IsLineRun (after s (operations_of runs)) line run → AreRuns s (xs ++ line ∷ []) (runs ++ run ∷ [])
runs-snoc s [] [] line run all one = (one, tt)
runs-snoc s [] (r ∷ runs) line run all one = absurd all
runs-snoc s (x ∷ xs) [] line run all one = absurd all
runs-snoc s (x ∷ xs) (r ∷ runs) line run all one = (all.0, runs-snoc (after s r.operations) xs runs line run all.1 (subst (λ z. IsLineRun z line run) (after-append s r.operations (operations_of runs)) one))

-- the command line broke off in this state, in which all runs are those of the report
command-front : (queue : ℕ) (old new : TreeTold) (lines : List Line) (a b : SinkTold) (e : Break) (world : World) (runs : List LineRun) → MayHold old world → is_some old.content ≡ true → AreRuns (opening old.case queue world) lines runs → AreTold (opening old.case queue world) (operations_of runs)
    → (h : BreaksCommand queue old new lines a b e) → failed (operations_of h.runs ++ h.operations) ≡ 0 → PutsFrontOf a b (texts_of runs) e
command-front queue old new lines a b NoMemory world runs holds tells follows told h none =
    let s = opening old.case queue world in
    let here = h.before world holds in
    let part : AreTold s (operations_of h.runs ++ h.operations) = record { made = h.made world holds; due = h.due tells world holds; whole = none } in
    let all = subst (λ (l : List Line). AreRuns s l runs) h.parts follows in
    let front = front-texts s h.done (h.line ∷ h.left) runs h.runs all here.0 told (AreTold-front s (operations_of h.runs) h.operations part) in
    (texts_of h.runs, front.0, front.1, h.puts)
command-front queue old new lines a b Fault world runs holds tells follows told h none =
    let s = opening old.case queue world in
    let here = h.before world holds in
    let text = h.puts.1.0 in
    let run : LineRun = record { operations = h.operations; text = text } in
    let part : AreTold s (operations_of h.runs ++ h.operations) = record { made = h.made world holds; due = h.due tells world holds; whole = none } in
    let line : IsLineRun (after s (operations_of h.runs)) h.line run = record {
      follows = subst (λ z. Follows h.line.caller z h.operations) (sym here.1) h.follows;
      whole = subst (λ z. stage_after z h.operations ≡ Whole text) (sym here.1) h.puts.1.1;
    } in
    let both : operations_of (h.runs ++ run ∷ []) ≡ operations_of h.runs ++ h.operations = flat_map-append (λ (r : LineRun). r.operations) h.runs (run ∷ []) ∙ ap (λ l. operations_of h.runs ++ l) (append-nil h.operations) in
    let cut : lines ≡ (h.done ++ h.line ∷ []) ++ h.left = h.parts ∙ sym (append_assoc h.done (h.line ∷ []) h.left) in
    let all = subst (λ (l : List Line). AreRuns s l runs) cut follows in
    let front = front-texts s (h.done ++ h.line ∷ []) h.left runs (h.runs ++ run ∷ []) all (runs-snoc s h.done h.runs h.line run here.0 line) told (subst (AreTold s) (sym both) part) in
    let texts : texts_of runs ≡ texts_of h.runs ++ ended text ∷ front.0 = front.1 ∙ ap (λ l. l ++ front.0) (map-append (λ (r : LineRun). ended r.text) h.runs (run ∷ [])) ∙ append_assoc (texts_of h.runs) (ended text ∷ []) front.0 in
    (texts_of h.runs, ended text, front.0, texts, h.puts.1.2)

-- whole lines, and then the front of others
front-after : (e : Break) (a b c : SinkTold) (first texts : List (List ℕ)) → PutsEach a b first → PutsFrontOf b c texts e → PutsFrontOf a c (first ++ texts) e
front-after NoMemory a b c first texts put h = (first ++ h.0, h.1, ap (λ l. first ++ l) h.2 ∙ sym (append_assoc first h.0 h.1), more-put a b c first h.0 put h.3)
front-after Fault a b c first texts put h = (first ++ h.0, h.1, h.2, ap (λ l. first ++ l) h.3 ∙ sym (append_assoc first h.0 (h.1 ∷ h.2)), front-put a b c first h.0 h.1 put h.4)

none-front : (a b : SinkTold) (e : Break) (first texts : List (List ℕ)) (old new : TreeTold) (c : SinkTold) → PutsEach a b first → BeginsNone old new b c e → PutsFrontOf a c (first ++ texts) e
none-front a b e first texts old new c put none =
    subst (PutsFrontOf a c (first ++ texts)) (sym none.wanting) (first, texts, refl, subst (λ (s : SinkTold). PutsEach a s first) (sym none.unput) put)

late-front : (script : Script) (world : World) (old new : TreeTold) (a c : SinkTold) (e : Break) (texts : List (List ℕ)) → IsReportOn world script texts → TellsWorld script world old → new.faults ≡ old.faults → BreaksLate true old new script a c e → PutsFrontOf a c texts e
late-front script world old new a c e texts report tells none h =
    let case = script.settings.case in
    let r = report.2 in
    let openings = h.opened.runs in
    let due = openings-due script world old h.mid script.opening true a h.sink_mid tells h.opened in
    let same = same-openings true case world script.opening report.0 openings r.opened h.opened.follows r.due due in
    let start = world_after old.case world script.opening openings in
    let holds = h.opened.held world (world-held script world old tells) in
    let told = h.opened.answered.tells ∙ ap is_some tells.content in
    -- the state in which the lines of the report begin is that in which these do
    let state : state_opened world script report.0 ≡ opening h.mid.case script.settings.queue start = ap (opening case script.settings.queue) same.1 ∙ sym (opened-state script world old h.mid openings tells h.opened.case) in
    let follows = subst (λ (s : State). AreRuns s script.lines report.1) state r.follows in
    let are_told = subst (λ (s : State). AreTold s (operations_of report.1)) state r.told in
    let split : texts ≡ opening_texts openings ++ texts_of report.1 = report.3 ∙ ap (λ l. l ++ texts_of report.1) same.0 in
    subst (λ (t : List (List ℕ)). PutsFrontOf a c t e) (sym split)
    (elim h.broke [
      | inl begins ↦ none-front a h.sink_mid e (opening_texts openings) (texts_of report.1) h.mid new c h.opened.puts begins
      | inr broke ↦
          let ops = operations_of broke.runs ++ broke.operations in
          let both : count_by is_failed (asked ops ++ broke.over) ≡ failed ops + count_by is_failed broke.over = sum_by-append _ (asked ops) broke.over in
          let rose : RoseBy (failed ops + count_by is_failed broke.over) h.mid.faults new.faults = subst (λ (n : ℕ). RoseBy n h.mid.faults new.faults) both broke.answered.failed in
          let few : failed ops ≡ 0 = first-of _ (failed ops) (count_by is_failed broke.over) old.faults h.mid.faults new.faults h.opened.answered.failed rose none in
          front-after e a h.sink_mid c (opening_texts openings) (texts_of report.1) h.opened.puts
          (command-front script.settings.queue h.mid new script.lines h.sink_mid c e start report.1 holds told follows are_told broke few)
    ])

script-front : (script : Script) (world : World) (old new : TreeTold) (a b : SinkTold) (e : Break) (texts : List (List ℕ)) → IsReportOn world script texts → TellsWorld script world old → new.faults ≡ old.faults → BreaksScript true old new script a b e → PutsFrontOf a b texts e
script-front script world old new a b e texts report tells none broke =
    elim broke [
      | inl early ↦ openings-front script world old new a b e texts report tells early
      | inr late ↦ late-front script world old new a b e texts report tells none late
    ]

-- ---- over the empty tree

-- it takes each case
empty-takes : (own case : Case) → takes_case own empty_world case ≡ true
empty-takes Sensitive Sensitive = refl
empty-takes Sensitive Insensitive = refl
empty-takes Insensitive Sensitive = refl
empty-takes Insensitive Insensitive = refl

pub empty-took : (takes_no_edits : Bool) (old new : TreeTold) (script : Script) (a b : SinkTold) → old.content ≡ Some empty_world → (over : PutsOver takes_no_edits old new script a b) → over.took ≡ true
empty-took takes_no_edits old new script a b content over = over.set.seen empty_world content ∙ empty-takes old.case script.settings.case

pub put-replay : (takes_no_edits : Bool) (old new : TreeTold) (script : Script) (world : World) (a b : SinkTold) → old.content ≡ Some world → new.faults ≡ old.faults → (over : PutsOver takes_no_edits old new script a b) → over.took ≡ true
    → (openings : List OpeningRun) × (runs : List LineRun) × IsReplay world script openings runs × PutsEach a b (opening_texts openings ++ texts_of runs)
put-replay takes_no_edits old new script world a b content none over took =
    let run : RunsScript true (after_asking true script.settings.case old) new script a b = subst (λ (t : Bool). RunsScript t (after_asking t script.settings.case old) new script a b) took over.run in
    script-replay script world (after_asking true script.settings.case old) new a b run refl content none

pub put-report : (takes_no_edits : Bool) (old new : TreeTold) (text : List ℕ) (a b : SinkTold) → old.content ≡ Some empty_world → new.faults ≡ old.faults → PutsTextOver takes_no_edits old new text a b → PutsReport text a b
put-report takes_no_edits old new text a b content none put =
    let script = put.0 in
    let over = put.2 in
    let took = empty-took takes_no_edits old new script a b content over in
    let replay = put-replay takes_no_edits old new script empty_world a b content none over took in
    record {
      script = script;
      is = put.1;
      openings = replay.0;
      runs = replay.1;
      replay = replay.2;
      sound = replay-sound empty_world script replay.0 replay.1 (text-runnable text script put.1) (empty-is_world script.settings.case) replay.2;
      puts = replay.3;
    }

pub put-front : (takes_no_edits : Bool) (old new : TreeTold) (text : List ℕ) (a b : SinkTold) (e : Break) → old.content ≡ Some empty_world → new.faults ≡ old.faults → BreaksText takes_no_edits old new text a b e → PutsFrontFor text a b e
put-front takes_no_edits old new text a b e content none broke =
    let script = broke.0 in
    let over = broke.2 in
    let took = over.set.seen empty_world content ∙ empty-takes old.case script.settings.case in
    let report = report-exists empty_world script (text-runnable text script broke.1) (empty-is_world script.settings.case) in
    let set = after_asking true script.settings.case old in
    let here : BreaksScript true set new script a b e = subst (λ (t : Bool). BreaksScript t (after_asking t script.settings.case old) new script a b e) took over.broke in
    record {
      script = script;
      is = broke.1;
      texts = report.0;
      report = report.1;
      puts = script-front script empty_world set new a b e report.0 report.1 (record { case = refl; content = content }) none here;
    }

pub reports-told : (takes_no_edits : Bool) (old new : TreeTold) (source source_now : SourceTold) (a b : SinkTold) → old.content ≡ Some empty_world → new.faults ≡ old.faults → ReportsOver takes_no_edits old new source source_now a b → Reports source source_now a b
reports-told takes_no_edits old new source source_now a b content none h = (h.0, h.1, put-report takes_no_edits old new h.0 a b content none h.2)

pub front-told : (takes_no_edits : Bool) (old new : TreeTold) (source source_now : SourceTold) (a b : SinkTold) (e : Break) → old.content ≡ Some empty_world → new.faults ≡ old.faults → BreaksReport takes_no_edits old new source source_now a b e → ReportsFront source source_now a b e
front-told takes_no_edits old new source source_now a b e content none h = (h.0, h.1, put-front takes_no_edits old new h.0 a b e content none h.2)
