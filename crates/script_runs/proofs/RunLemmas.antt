-- Lines that are run and put, one after the other.
use Rattle.std.proofs.Common.{◌≡◌, ℕ, ◌≤◌, List, [], ◌∷◌, ◌++◌, Some, None, take, refl, sym, ap, subst, ◌∙◌, arith, append-nil, append_assoc}
use Rattle.std.specs.List.{concat}
use Rattle.std.specs.Io.KnownBytes.{Appends, Keeps}
use Rattle.std.proofs.KnownBytes.{Appends-nil, Appends-trans}
use Rattle.std.proofs.lemmas.Grind.{flat_map-append}
use Rattle.std.proofs.lemmas.List.{map-append}
use Rattle.std.proofs.lemmas.List.Folds.{concat-append}
use Rattle.vfs_model.specs.Faults.{Rose}
use Rattle.vfs_model.specs.Paths.{Path}
use Rattle.vfs_model.specs.State.{State, TreeAnswer}
use Rattle.vfs_model.specs.Stands.{Parts, Stands}
use Rattle.vfs_model.specs.History.{Operation, after}
use Rattle.vfs_machine.proofs.SlotLemmas.{scanning-of}
use Rattle.vfs_io.specs.Told.{SinkTold}
use Rattle.vfs_io.proofs.GrowLemmas.{Grows-nil, Grows-trans}
use Rattle.script_text.specs.declared.script.Line.{Line}
use Rattle.script_text.specs.Writing.{ended}
use Rattle.script_report.specs.Stages.{Stage, Whole, Follows, stage_after}
use Rattle.script_report.specs.Lines.{stage_of, line_stage}
use Rattle.script_report.specs.Runs.{LineRun, AreRuns, operations_of, texts_of}
use Rattle.script_report.proofs.EachAtLemmas.{after-append}
use Rattle.script_runs.specs.declared.output.Break.{Break}
use Rattle.script_runs.specs.declared.output.Break.TheVariants.{Fault, NoMemory}
use Rattle.script_runs.specs.Output.{PutsEach, PutsFront, PutsNothing, FailsIn}
use Rattle.script_runs.specs.Making.{Makes, Leads, Stops, nothing}
use Rattle.script_runs.specs.Running.{stage_on, RunsLines, PutsBefore, BreaksLines}
use Rattle.script_runs.proofs.CallLemmas.{makes-none, makes-then}

-- ---- what was put

pub none-put : (a : SinkTold) → PutsEach a a []
none-put a = record { bytes = Appends-nil a.written; calls = Grows-nil a.puts }

pub more-put : (a b c : SinkTold) (xs ys : List (List ℕ)) → PutsEach a b xs → PutsEach b c ys → PutsEach a c (xs ++ ys)
more-put a b c xs ys p q = record {
  bytes = subst (λ (t : List ℕ). Appends a.written c.written t) (sym (concat-append xs ys)) (Appends-trans a.written b.written c.written (concat xs) (concat ys) p.bytes q.bytes);
  calls = Grows-trans a.puts b.puts c.puts xs ys p.calls q.calls;
}

-- a count that rose later rose since before
pub Rose-since : (a b c : ℕ) → a ≤ b → Rose b c → Rose a c
Rose-since a b c le h = omega arith

pub front-put : (a b c : SinkTold) (xs ys : List (List ℕ)) (piece : List ℕ) → PutsEach a b xs → PutsFront b c ys piece → PutsFront a c (xs ++ ys) piece
front-put a b c xs ys piece p q =
    let end = take q.n piece in
    let same : concat (xs ++ ys) ++ end ≡ concat xs ++ (concat ys ++ end) = ap (λ t. t ++ end) (concat-append xs ys) ∙ append_assoc (concat xs) (concat ys) end in
    record {
      n = q.n;
      bytes = subst (λ (t : List ℕ). Appends a.written c.written t) (sym same) (Appends-trans a.written b.written c.written (concat xs) (concat ys ++ end) p.bytes q.bytes);
      calls = Grows-trans a.puts b.puts c.puts xs ys p.calls q.calls;
    }

before-put : (e : Break) (a b c : SinkTold) (xs ys : List (List ℕ)) (stage : Stage) → a.faults ≤ b.faults → PutsEach a b xs → PutsBefore b c ys stage e → PutsBefore a c (xs ++ ys) stage e
before-put Fault a b c xs ys stage later p q = (Rose-since a.faults b.faults c.faults later q.0, (q.1.0, q.1.1, front-put a b c xs ys (ended q.1.0) p q.1.2))
before-put NoMemory a b c xs ys stage later p q = more-put a b c xs ys p q

-- ---- runs of lines

operations-append : (runs more : List LineRun) → operations_of (runs ++ more) ≡ operations_of runs ++ operations_of more
operations-append runs more = flat_map-append (λ (r : LineRun). r.operations) runs more

texts-append : (runs more : List LineRun) → texts_of (runs ++ more) ≡ texts_of runs ++ texts_of more
texts-append runs more = map-append (λ (r : LineRun). ended r.text) runs more

AreRuns-append : (s : State) (xs ys : List Line) (runs more : List LineRun) → AreRuns s xs runs → AreRuns (after s (operations_of runs)) ys more → AreRuns s (xs ++ ys) (runs ++ more)
AreRuns-append s [] ys [] more first second = second
AreRuns-append s [] ys (r ∷ runs) more first second = absurd first
AreRuns-append s (x ∷ xs) ys [] more first second = absurd first
AreRuns-append s (x ∷ xs) ys (r ∷ runs) more first second = (first.0, AreRuns-append (after s r.operations) xs ys runs more first.1 (subst (λ z. AreRuns z ys more) (after-append s r.operations (operations_of runs)) second))

pub lines-none : {V : Type 0} (at : V → Path → ℕ) (count : V → ℕ) (m : Parts V) (a : SinkTold) → RunsLines at count m m [] a a
lines-none at count m a = record { runs = []; makes = makes-none at count m; follows = λ s st. tt; puts = none-put a }

-- the state after some runs is stood for
after-runs : {V : Type 0} (at : V → Path → ℕ) (count : V → ℕ) (old new : Parts V) (h : List Operation) (over : List TreeAnswer) → Makes at count old new h over → (s : State) → Stands at count old s → Stands at count new (after s h)
after-runs at count old new h over makes s st = (makes.made s st).1

pub lines-then : {V : Type 0} (at : V → Path → ℕ) (count : V → ℕ) (old mid new : Parts V) (xs ys : List Line) (a b c : SinkTold) → RunsLines at count old mid xs a b → RunsLines at count mid new ys b c → RunsLines at count old new (xs ++ ys) a c
lines-then at count old mid new xs ys a b c first second = record {
  runs = first.runs ++ second.runs;
  makes = subst (λ (h : List Operation). Makes at count old new h []) (sym (operations-append first.runs second.runs)) (makes-then at count old mid new (operations_of first.runs) (operations_of second.runs) [] first.makes second.makes);
  follows = λ s st. AreRuns-append s xs ys first.runs second.runs (first.follows s st) (second.follows (after s (operations_of first.runs)) (after-runs at count old mid (operations_of first.runs) [] first.makes s st));
  puts = subst (PutsEach a c) (sym (texts-append first.runs second.runs)) (more-put a b c (texts_of first.runs) (texts_of second.runs) first.puts second.puts);
}

-- ---- one line

-- what a line asks of a machine is what it asks in each state that the machine stands for
stage-stands : {V : Type 0} (at : V → Path → ℕ) (count : V → ℕ) (m : Parts V) (s : State) (line : Line) → Stands at count m s → line_stage s line ≡ stage_on m line
stage-stands at count m s line st = ap (λ b. stage_of line.caller b line.command) (sym (scanning-of at count m s line.caller st))

pub line-runs : {V : Type 0} (at : V → Path → ℕ) (count : V → ℕ) (old new : Parts V) (line : Line) (text : List ℕ) (a b : SinkTold) → Leads at count old new line.caller (stage_on old line) (Whole text) → PutsEach a b (ended text ∷ []) → RunsLines at count old new (line ∷ []) a b
line-runs at count old new line text a b h put = record {
  runs = record { operations = h.operations; text = text } ∷ [];
  makes = subst (λ (k : List Operation). Makes at count old new k []) (sym (append-nil h.operations)) h.makes;
  follows = λ s st.
      let here = sym (stage-stands at count old s line st) in (
        record {
          follows = subst (λ (z : Stage). Follows line.caller z h.operations) here h.follows;
          whole = subst (λ (z : Stage). stage_after z h.operations ≡ Whole text) here h.leads;
        },
        tt,
      );
  puts = put;
}

-- a line that broke off, before which none was run
pub line-stops : {V : Type 0} (at : V → Path → ℕ) (count : V → ℕ) (old new : Parts V) (line : Line) (a : SinkTold) → Stops at count old new line.caller (stage_on old line) → BreaksLines at count old new (line ∷ []) a a NoMemory
line-stops at count old new line a h = record {
  done = [];
  line = line;
  left = [];
  parts = refl;
  runs = [];
  operations = h.operations;
  over = h.over;
  makes = h.makes;
  uncounted = h.uncounted;
  stage = stage_on old line;
  follows = h.follows;
  before = λ s st. (tt, stage-stands at count old s line st);
  puts = none-put a;
}

pub keeps-nil : (a b : SinkTold) → PutsNothing a b → PutsEach a b []
keeps-nil a b h = record { bytes = stays a.written b.written h.0; calls = h.1 ∙ Grows-nil a.puts }
  where
    stays : (x y : _) → Keeps x y → Appends x y []
    stays None y k = tt
    stays (Some xs) None k = absurd k
    stays (Some xs) (Some ys) k = k ∙ sym (append-nil xs)

fails-put : (e : Break) (a b : SinkTold) (text : List ℕ) (stage : Stage) → stage ≡ Whole text → FailsIn a b (ended text) e → PutsBefore a b [] stage e
fails-put Fault a b text stage whole h = (h.0, (text, whole, h.1))
fails-put NoMemory a b text stage whole h = keeps-nil a b h

pub line-fails : {V : Type 0} (at : V → Path → ℕ) (count : V → ℕ) (old new : Parts V) (line : Line) (text : List ℕ) (a b : SinkTold) (e : Break) → Leads at count old new line.caller (stage_on old line) (Whole text) → FailsIn a b (ended text) e → BreaksLines at count old new (line ∷ []) a b e
line-fails at count old new line text a b e h put = record {
  done = [];
  line = line;
  left = [];
  parts = refl;
  runs = [];
  operations = h.operations;
  over = [];
  makes = h.makes;
  uncounted = nothing;
  stage = stage_on old line;
  follows = h.follows;
  before = λ s st. (tt, stage-stands at count old s line st);
  puts = fails-put e a b text (stage_after (stage_on old line) h.operations) h.leads put;
}

-- lines that were run, and then others that broke off, before more of them
pub lines-break : {V : Type 0} (at : V → Path → ℕ) (count : V → ℕ) (old mid new : Parts V) (xs ys zs : List Line) (a b c : SinkTold) (e : Break) → a.faults ≤ b.faults → RunsLines at count old mid xs a b → BreaksLines at count mid new ys b c e → BreaksLines at count old new (xs ++ (ys ++ zs)) a c e
lines-break at count old mid new xs ys zs a b c e later first broke = record {
  done = xs ++ broke.done;
  line = broke.line;
  left = broke.left ++ zs;
  parts =
      ap (λ (l : List Line). xs ++ (l ++ zs)) broke.parts
      ∙ ap (λ (l : List Line). xs ++ l) (append_assoc broke.done (broke.line ∷ broke.left) zs)
      ∙ sym (append_assoc xs broke.done (broke.line ∷ (broke.left ++ zs)));
  runs = first.runs ++ broke.runs;
  operations = broke.operations;
  over = broke.over;
  makes =
      subst (λ (h : List Operation). Makes at count old new h broke.over) (sym (append_assoc (operations_of first.runs) (operations_of broke.runs) broke.operations) ∙ ap (λ (h : List Operation). h ++ broke.operations) (sym (operations-append first.runs broke.runs)))
      (makes-then at count old mid new (operations_of first.runs) (operations_of broke.runs ++ broke.operations) broke.over first.makes broke.makes);
  uncounted = broke.uncounted;
  stage = broke.stage;
  follows = broke.follows;
  before = λ s st.
      let h = operations_of first.runs in
      let here = broke.before (after s h) (after-runs at count old mid h [] first.makes s st) in
      let same : after s (operations_of (first.runs ++ broke.runs)) ≡ after (after s h) (operations_of broke.runs) = ap (after s) (operations-append first.runs broke.runs) ∙ after-append s h (operations_of broke.runs) in (
        AreRuns-append s xs broke.done first.runs broke.runs (first.follows s st) here.0,
        ap (λ z. line_stage z broke.line) same ∙ here.1,
      );
  puts = subst (λ (t : List (List ℕ)). PutsBefore a c t (stage_after broke.stage broke.operations) e) (sym (texts-append first.runs broke.runs)) (before-put e a b c (texts_of first.runs) (texts_of broke.runs) (stage_after broke.stage broke.operations) later first.puts broke.puts);
}
