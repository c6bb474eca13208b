-- Opening lines.
use Rattle.std.proofs.Common.{◌≡◌, ℕ, ◌≤◌, Bool, List, [], ◌∷◌, ◌++◌, Option, Some, None, refl, sym, ap, subst, ◌∙◌, arith, append-nil, append_assoc}
use Rattle.std.specs.Prelude.{is_some, option_map}
use Rattle.std.proofs.lemmas.Grind.{flat_map-append}
use Rattle.std.proofs.lemmas.List.{map-append}
use Rattle.vfs_model.specs.declared.Case.{Case}
use Rattle.vfs_model.specs.Paths.{Path}
use Rattle.vfs_model.specs.World.{World, IsWorld, IsSameBelow}
use Rattle.vfs_model.specs.Edit.{Edit, Refusal, refusal, apply, events}
use Rattle.vfs_model.specs.State.{EditAnswer, Refuses, Does, ToEdit, edit_answer_or}
use Rattle.vfs_laws.proofs.SameLemmas.{same-refusal}
use Rattle.world_model.specs.Told.{TreeTold, IsApplied, with_answers}
use Rattle.vfs_machine.proofs.EditLemmas.{applied-world}
use Rattle.vfs_io.specs.Told.{SinkTold}
use Rattle.script_text.specs.declared.script.Opening.{Opening}
use Rattle.script_text.specs.Writing.{ended}
use Rattle.script_report.specs.Openings.{OpeningRun, AreOpeningRuns, AreOpeningsDue, IsOpeningDue, opening_edit, opening_text, setting_text, world_after, world_opened, answer_list, opening_answers, opening_texts}
use Rattle.script_runs.specs.declared.output.Break.{Break}
use Rattle.script_runs.specs.declared.output.Break.TheVariants.{Fault, NoMemory}
use Rattle.script_runs.specs.Making.{Answered}
use Rattle.script_runs.specs.Output.{PutsEach, FailsIn}
use Rattle.script_runs.specs.Opening.{MayHold, AnswersOpening, OpensLine, StopsLine, undone, done, OpensLines, BreaksIn, BreaksOpening}
use Rattle.script_runs.proofs.CallLemmas.{Answered-none, Answered-then, some-of}
use Rattle.script_runs.proofs.RunLemmas.{none-put, more-put, Rose-since, front-put, keeps-nil}

-- ---- one line

-- a setting asks the tree nothing
setting-answers : (told : TreeTold) (o : Opening) → None ≡ opening_edit o → AnswersOpening told told o None
setting-answers told o none = record {
  answered = Answered-none told told refl;
  case = refl;
  held = λ world h. subst (λ (e : Option Edit). MayHold told (world_opened told.case world e None)) none h;
  due = λ tells world h. subst (λ (e : Option Edit). IsOpeningDue told.case world e None) none tt;
}

pub setting-opens : (told : TreeTold) (takes_case : Bool) (o : Opening) (text : List ℕ) → None ≡ opening_edit o → text ≡ setting_text takes_case o → OpensLine told told takes_case o text
setting-opens told takes_case o text none is = record {
  answer = None;
  run = record { asks = ap is_some none; printed = is };
  answers = setting-answers told o none;
}

pub setting-stops : (told : TreeTold) (o : Opening) → StopsLine told told o
setting-stops told o = undone (Answered-none told told refl)

-- what was told before an edit that was done is told after it
applied-tells : (case : Case) (edit : Edit) (old new : Option World) → IsApplied case edit old new → is_some new ≡ is_some old
applied-tells case edit None None applied = refl
applied-tells case edit None (Some w) applied = absurd applied
applied-tells case edit (Some v) None applied = absurd applied
applied-tells case edit (Some v) (Some w) applied = refl

-- the edit was done
pub done-answers : (old new : TreeTold) (o : Opening) (edit : Edit) (told : List Path) → Some edit ≡ opening_edit o → told ≡ events edit → new.case ≡ old.case → old.faults ≤ new.faults → IsApplied old.case edit old.content new.content
    → ((w : World) → old.content ≡ Some w → IsWorld old.case w) → ((w : World) → old.content ≡ Some w → refusal old.case w edit ≡ None) → new.answers ≡ option_map (with_answers (ToEdit (Does told) ∷ [])) old.answers → AnswersOpening old new o (Some (Does told))
done-answers old new o edit told some all kept later applied whole allowed answered = record {
  answered = record { told = answered; failed = omega (arith, later); tells = applied-tells old.case edit old.content new.content applied };
  case = kept;
  held = λ world h.
      subst (λ (e : Option Edit). MayHold new (world_opened old.case world e (Some (Does told)))) some
      (λ w is. subst (λ (c : Case). IsSameBelow c (apply old.case world edit) [] w []) (sym kept) (applied-world old.case world edit old.content new.content applied whole allowed h w is));
  due = λ tells world h.
      let w = some-of old.content tells in
      subst (λ (e : Option Edit). IsOpeningDue old.case world e (Some (Does told))) some
      (ap Does all ∙ ap (edit_answer_or edit) (sym (same-refusal old.case world w.0 edit (h w.0 w.1) ∙ allowed w.0 w.1)));
}

-- the edit was refused
pub refused-answers : (old new : TreeTold) (o : Opening) (edit : Edit) (r : Refusal) → Some edit ≡ opening_edit o → new.case ≡ old.case → old.faults ≤ new.faults → new.content ≡ old.content → ((w : World) → old.content ≡ Some w → refusal old.case w edit ≡ Some r)
    → new.answers ≡ option_map (with_answers (ToEdit (Refuses r) ∷ [])) old.answers → AnswersOpening old new o (Some (Refuses r))
refused-answers old new o edit r some kept later stays refused answered = record {
  answered = record { told = answered; failed = omega (arith, later); tells = ap is_some stays };
  case = kept;
  held = λ world h.
      subst (λ (e : Option Edit). MayHold new (world_opened old.case world e (Some (Refuses r)))) some
      (λ w is. subst (λ (c : Case). IsSameBelow c world [] w []) (sym kept) (h w (sym stays ∙ is)));
  due = λ tells world h.
      let w = some-of old.content tells in
      subst (λ (e : Option Edit). IsOpeningDue old.case world e (Some (Refuses r))) some
      (ap (edit_answer_or edit) (sym (same-refusal old.case world w.0 edit (h w.0 w.1) ∙ refused w.0 w.1)));
}

pub edit-opens : (old new : TreeTold) (takes_case : Bool) (o : Opening) (edit : Edit) (a : EditAnswer) (text : List ℕ) → Some edit ≡ opening_edit o → text ≡ opening_text takes_case o (Some a) → AnswersOpening old new o (Some a) → OpensLine old new takes_case o text
edit-opens old new takes_case o edit a text some is answers = record { answer = Some a; run = record { asks = ap is_some some; printed = is }; answers = answers }

pub edit-wants : (old new : TreeTold) (o : Opening) → new.content ≡ old.content → old.faults ≤ new.faults → new.answers ≡ option_map (with_answers []) old.answers → StopsLine old new o
edit-wants old new o stays later answered = undone (record { told = answered; failed = omega (arith, later); tells = ap is_some stays })

-- ---- lines

abbrev pub none-opens : (told : TreeTold) (takes_case : Bool) (a : SinkTold) → OpensLines told told takes_case [] a a
none-opens told takes_case a = record { runs = []; follows = tt; answered = Answered-none told told refl; case = refl; held = λ world h. h; due = λ tells world h. tt; puts = none-put a }

pub line-opens : (old new : TreeTold) (takes_case : Bool) (o : Opening) (text : List ℕ) (a b : SinkTold) → OpensLine old new takes_case o text → PutsEach a b (ended text ∷ []) → OpensLines old new takes_case (o ∷ []) a b
line-opens old new takes_case o text a b h put = record {
  runs = record { answer = h.answer; text = text } ∷ [];
  follows = (h.run, tt);
  answered = subst (Answered old new) (sym (append-nil (answer_list h.answer))) h.answers.answered;
  case = h.answers.case;
  held = h.answers.held;
  due = λ tells world held. (h.answers.due tells world held, tt);
  puts = put;
}

pub line-stops-opening : (old new : TreeTold) (takes_case : Bool) (o : Opening) (a : SinkTold) → StopsLine old new o → BreaksOpening old new takes_case (o ∷ []) a a NoMemory
line-stops-opening old new takes_case o a h = record { before = []; line = o; left = []; parts = refl; mid = old; sink_mid = a; opened = none-opens old takes_case a; broke = (h, none-put a) }

pub line-fails-opening : (e : Break) (old new : TreeTold) (takes_case : Bool) (o : Opening) (text : List ℕ) (a b : SinkTold) → OpensLine old new takes_case o text → FailsIn a b (ended text) e → BreaksOpening old new takes_case (o ∷ []) a b e
line-fails-opening Fault old new takes_case o text a b h fails = record { before = []; line = o; left = []; parts = refl; mid = old; sink_mid = a; opened = none-opens old takes_case a; broke = (fails.0, (text, h, fails.1)) }
line-fails-opening NoMemory old new takes_case o text a b h fails = record { before = []; line = o; left = []; parts = refl; mid = old; sink_mid = a; opened = none-opens old takes_case a; broke = (done h.answer h.answers, keeps-nil a b fails) }

pub runs-append : (takes_case : Bool) (xs ys : List Opening) (runs more : List OpeningRun) → AreOpeningRuns takes_case xs runs → AreOpeningRuns takes_case ys more → AreOpeningRuns takes_case (xs ++ ys) (runs ++ more)
runs-append takes_case [] ys [] more first second = second
runs-append takes_case [] ys (r ∷ runs) more first second = absurd first
runs-append takes_case (x ∷ xs) ys [] more first second = absurd first
runs-append takes_case (x ∷ xs) ys (r ∷ runs) more first second = (first.0, runs-append takes_case xs ys runs more first.1 second)

pub world-append : (case : Case) (world : World) (takes_case : Bool) (xs ys : List Opening) (runs more : List OpeningRun) → AreOpeningRuns takes_case xs runs → world_after case world (xs ++ ys) (runs ++ more) ≡ world_after case (world_after case world xs runs) ys more
world-append case world takes_case [] ys [] more h = refl
world-append case world takes_case [] ys (r ∷ runs) more h = absurd h
world-append case world takes_case (x ∷ xs) ys [] more h = absurd h
world-append case world takes_case (x ∷ xs) ys (r ∷ runs) more h = world-append case (world_opened case world (opening_edit x) r.answer) takes_case xs ys runs more h.1

pub due-append : (case : Case) (world : World) (takes_case : Bool) (xs ys : List Opening) (runs more : List OpeningRun) → AreOpeningRuns takes_case xs runs → AreOpeningsDue case world xs runs → AreOpeningsDue case (world_after case world xs runs) ys more → AreOpeningsDue case world (xs ++ ys) (runs ++ more)
due-append case world takes_case [] ys [] more h first second = second
due-append case world takes_case [] ys (r ∷ runs) more h first second = absurd h
due-append case world takes_case (x ∷ xs) ys [] more h first second = absurd h
due-append case world takes_case (x ∷ xs) ys (r ∷ runs) more h first second = (first.0, due-append case (world_opened case world (opening_edit x) r.answer) takes_case xs ys runs more h.1 first.1 second)

abbrev pub opens-then : (old mid new : TreeTold) (takes_case : Bool) (xs ys : List Opening) (a b c : SinkTold) → OpensLines old mid takes_case xs a b → OpensLines mid new takes_case ys b c → OpensLines old new takes_case (xs ++ ys) a c
opens-then old mid new takes_case xs ys a b c first second = record {
  runs = first.runs ++ second.runs;
  follows = runs-append takes_case xs ys first.runs second.runs first.follows second.follows;
  answered = subst (Answered old new) (sym (flat_map-append (λ (r : OpeningRun). answer_list r.answer) first.runs second.runs)) (Answered-then old mid new (opening_answers first.runs) (opening_answers second.runs) first.answered second.answered);
  case = second.case ∙ first.case;
  held = λ world h.
      subst (MayHold new) (sym (world-append old.case world takes_case xs ys first.runs second.runs first.follows))
      (subst (λ (c : Case). MayHold new (world_after c (world_after old.case world xs first.runs) ys second.runs)) first.case (second.held (world_after old.case world xs first.runs) (first.held world h)));
  due = λ tells world h.
      due-append old.case world takes_case xs ys first.runs second.runs first.follows (first.due tells world h)
      (subst (λ (c : Case). AreOpeningsDue c (world_after old.case world xs first.runs) ys second.runs) first.case (second.due (first.answered.tells ∙ tells) (world_after old.case world xs first.runs) (first.held world h)));
  puts = subst (PutsEach a c) (sym (map-append (λ (r : OpeningRun). ended r.text) first.runs second.runs)) (more-put a b c (opening_texts first.runs) (opening_texts second.runs) first.puts second.puts);
}

breaks-in : (e : Break) (mid new : TreeTold) (takes_case : Bool) (o : Opening) (a b c : SinkTold) (xs ys : List (List ℕ)) → a.faults ≤ b.faults → PutsEach a b xs → BreaksIn mid new takes_case o b c ys e → BreaksIn mid new takes_case o a c (xs ++ ys) e
breaks-in Fault mid new takes_case o a b c xs ys later put h = (Rose-since a.faults b.faults c.faults later h.0, (h.1.0, h.1.1, front-put a b c xs ys (ended h.1.0) put h.1.2))
breaks-in NoMemory mid new takes_case o a b c xs ys later put h = (h.0, more-put a b c xs ys put h.1)

pub opens-break : (old mid new : TreeTold) (takes_case : Bool) (xs ys zs : List Opening) (a b c : SinkTold) (e : Break) → a.faults ≤ b.faults → OpensLines old mid takes_case xs a b → BreaksOpening mid new takes_case ys b c e → BreaksOpening old new takes_case (xs ++ (ys ++ zs)) a c e
opens-break old mid new takes_case xs ys zs a b c e later first broke = record {
  before = xs ++ broke.before;
  line = broke.line;
  left = broke.left ++ zs;
  parts =
      ap (λ (l : List Opening). xs ++ (l ++ zs)) broke.parts
      ∙ ap (λ (l : List Opening). xs ++ l) (append_assoc broke.before (broke.line ∷ broke.left) zs)
      ∙ sym (append_assoc xs broke.before (broke.line ∷ (broke.left ++ zs)));
  mid = broke.mid;
  sink_mid = broke.sink_mid;
  opened = opens-then old mid broke.mid takes_case xs broke.before a b broke.sink_mid first broke.opened;
  broke = subst (λ (t : List (List ℕ)). BreaksIn broke.mid new takes_case broke.line a c t e) (sym (map-append (λ (r : OpeningRun). ended r.text) first.runs broke.opened.runs)) (breaks-in e broke.mid new takes_case broke.line a b c (opening_texts first.runs) (opening_texts broke.opened.runs) later first.puts broke.broke);
}
