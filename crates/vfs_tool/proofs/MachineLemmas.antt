-- The machine with which the command lines of a script begin, over a tree that may keep its content to itself, and what its lines come to over that tree.
use Rattle.std.proofs.Common.{◌≡◌, ℕ, ◌+◌, ◌*◌, ◌<◌, ◌^◌, true, List, [], ◌∷◌, ◌++◌, length, Option, Some, None, refl, sym, ap, subst, ◌∙◌, arith, append-nil, inr}
use Rattle.std.specs.Prelude.{is_some}
use Rattle.vfs_model.specs.declared.Case.{Case}
use Rattle.vfs_model.specs.Paths.{Path}
use Rattle.vfs_model.specs.World.{World, IsSameBelow}
use Rattle.vfs_model.specs.State.{State, TreeAnswer}
use Rattle.vfs_model.specs.Stands.{StandsFor, Parts, Stands}
use Rattle.vfs_model.specs.History.{Operation, IsAnswered, AreAnswered, opening, after, empty_world}
use Rattle.vfs_laws.proofs.NameLemmas.{some-is}
use Rattle.vfs_laws.proofs.SameLemmas.{same-refl}
use Rattle.vfs_laws.proofs.HistoryLemmas.{each_at-weaker}
use Rattle.vfs_laws.proofs.ChangesLemmas.{after-case}
use Rattle.world_model.specs.Told.{TreeTold}
use Rattle.tree_model.specs.Numbers.{at_in}
use Rattle.version_hierarchy.specs.Tree.{Numbered}
use Rattle.snapshot_hierarchy.specs.Held.{Held, nothing}
use Rattle.snapshot_hierarchy.specs.Flat.{holding}
use Rattle.vfs_machine.specs.Whole.{opening_parts, told_of}
use Rattle.vfs_machine.proofs.OpenLemmas.{opening-over}
use Rattle.vfs_io.specs.Told.{SinkTold}
use Rattle.script_text.specs.declared.script.Line.{Line}
use Rattle.script_report.specs.Runs.{IsMade, AreMade, asked, operations_of}
use Rattle.script_runs.specs.declared.output.Break.{Break}
use Rattle.script_runs.specs.Making.{Answered, Makes}
use Rattle.script_runs.specs.Opening.{MayHold}
use Rattle.vfs_machine.specs.Called.{spent}
use Rattle.script_runs.specs.Printing.{HasRoom}
use Rattle.script_runs.specs.Running.{RunsLines, BreaksLines}
use Rattle.vfs_tool.specs.Scripts.{RunsCommands, BreaksCommand}

-- a machine as it is made: of the tree that told this, with a queue for so many events, nothing retained and nothing invalidated
pub record IsFirst {V : Type 0} (at : V → Path → ℕ) (count : V → ℕ) (told : TreeTold) (queue : ℕ) (m : Parts V) : Type 0 where
  pub held : Held
  pub versions : V
  pub is : m ≡ opening_parts told queue held versions
  pub case : told.case ≡ held.case
  pub none : held.retained ≡ nothing
  pub past : StandsFor (at versions) (count versions) []

-- the versions and the count of the tree of versions

abbrev pub at_tree : Numbered → Path → ℕ
at_tree v x = at_in v.case v.numbers x

abbrev pub count_tree : Numbered → ℕ
count_tree v = v.count

-- a machine that is made with what is retained and the versions under the tree's case, and both of nothing
pub made-first : (told : TreeTold) (queue : ℕ) (m : Parts Numbered) (held : Held) (v : Numbered) (case : Case) → m ≡ opening_parts told queue held v → case ≡ told.case → held ≡ holding case nothing → v.case ≡ case → StandsFor (at_in case v.numbers) v.count []
    → IsFirst at_tree count_tree told queue m
made-first told queue m held v case is under none same past = record {
  held = held;
  versions = v;
  is = is;
  case = sym under ∙ sym (ap (λ (h : Held). h.case) none);
  none = ap (λ (h : Held). h.retained) none;
  past = subst (λ (c : Case). StandsFor (at_in c v.numbers) v.count []) (sym same) past;
}

-- it stands for the opening state of each world that the tree may hold
first-stands : {V : Type 0} (at : V → Path → ℕ) (count : V → ℕ) (told : TreeTold) (queue : ℕ) (m : Parts V) → IsFirst at count told queue m → (world : World) → MayHold told world → Stands at count m (opening told.case queue world)
first-stands {V} at count told queue m first world holds =
    let same : ((w : World) → told.content ≡ Some w → IsSameBelow first.held.case world [] w []) = λ w e. subst (λ (c : Case). IsSameBelow c world [] w []) first.case (holds w e) in
    subst (λ (p : Parts V). Stands at count p (opening told.case queue world)) (sym first.is)
    (opening-over at count told queue first.held first.versions world first.case same first.none first.past)

-- it tells what the tree told
first-tells : {V : Type 0} (at : V → Path → ℕ) (count : V → ℕ) (told : TreeTold) (queue : ℕ) (m : Parts V) → IsFirst at count told queue m → told_of m ≡ told
first-tells {V} at count told queue m first = ap (λ (p : Parts V). told_of p) first.is ∙ ap (λ (c : Case). record told { case = c }) (sym first.case)

-- and it has room for so many lines
pub first-room : {V : Type 0} (at : V → Path → ℕ) (count : V → ℕ) (told : TreeTold) (queue : ℕ) (m : Parts V) (lines : ℕ) → IsFirst at count told queue m → lines < 2 ^ 61 → HasRoom count m lines
first-room {V} at count told queue m lines first few =
    let none : count first.versions ≡ 0 = first.past.number in
    let empty : spent count (opening_parts told queue first.held first.versions) + 2 * lines < 2 ^ 62 = omega (arith, none, few) in
    subst (λ (p : Parts V). spent count p + 2 * lines < 2 ^ 62) (sym first.is) empty

-- there is a world that the tree may hold
some-world : (told : TreeTold) → (w : World) × MayHold told w
some-world told = by told.content refl
  where
    by : (o : Option World) → told.content ≡ o → (w : World) × MayHold told w
    by (Some w) is = (w, λ u e. subst (λ (x : World). IsSameBelow told.case w [] x []) (some-is w u (sym is ∙ e)) (same-refl told.case w))
    by None is = (empty_world, λ u e. absurd (clash u (sym is ∙ e)))
      where
        clash : (u : World) → None ≡ Some u → ⊥
        clash u e = cc

-- ---- lines that were run on it

-- what was made answered each call
made-answered : (s : State) (h : List Operation) → AreMade s h → AreAnswered s h
made-answered = each_at-weaker IsMade IsAnswered (λ s o made. inr made.reply)

-- no line changes the case
made-case : {V : Type 0} (at : V → Path → ℕ) (count : V → ℕ) (told : TreeTold) (queue : ℕ) (m last : Parts V) (h : List Operation) (over : List TreeAnswer) → IsFirst at count told queue m → Makes at count m last h over → (told_of last).case ≡ told.case
made-case at count told queue m last h over first makes =
    let some = some-world told in
    let s = opening told.case queue some.0 in
    let made = makes.made s (first-stands at count told queue m first some.0 some.1) in
    sym made.1.case ∙ after-case s h (made-answered s h made.0)

made-answers : {V : Type 0} (at : V → Path → ℕ) (count : V → ℕ) (told : TreeTold) (queue : ℕ) (m last : Parts V) (h : List Operation) (over : List TreeAnswer) → IsFirst at count told queue m → Makes at count m last h over → Answered told (told_of last) (asked h ++ over)
made-answers at count told queue m last h over first makes = subst (λ (t : TreeTold). Answered t (told_of last) (asked h ++ over)) (first-tells at count told queue m first) makes.answered

-- the content is told where the tree told it
made-tells : {V : Type 0} (at : V → Path → ℕ) (count : V → ℕ) (told : TreeTold) (queue : ℕ) (m : Parts V) → IsFirst at count told queue m → is_some told.content ≡ true → is_some m.content ≡ true
made-tells at count told queue m first tells = ap (λ (t : TreeTold). is_some t.content) (first-tells at count told queue m first) ∙ tells

pub lines-run : {V : Type 0} (at : V → Path → ℕ) (count : V → ℕ) (told : TreeTold) (queue : ℕ) (m last : Parts V) (lines : List Line) (a b : SinkTold) → IsFirst at count told queue m → RunsLines at count m last lines a b → RunsCommands queue told (told_of last) lines a b
lines-run at count told queue m last lines a b first run =
    let h = operations_of run.runs in
    let stands = first-stands at count told queue m first in
    record {
      runs = run.runs;
      answered = subst (Answered told (told_of last)) (append-nil (asked h)) (made-answers at count told queue m last h [] first run.makes);
      case = made-case at count told queue m last h [] first run.makes;
      run = λ world holds. record {
        follows = run.follows (opening told.case queue world) (stands world holds);
        made = (run.makes.made (opening told.case queue world) (stands world holds)).0;
      };
      due = λ tells world holds. run.makes.due (made-tells at count told queue m first tells) (opening told.case queue world) (stands world holds);
      puts = run.puts;
    }

pub lines-broke : {V : Type 0} (at : V → Path → ℕ) (count : V → ℕ) (told : TreeTold) (queue : ℕ) (m last : Parts V) (lines : List Line) (a b : SinkTold) (e : Break) → IsFirst at count told queue m → BreaksLines at count m last lines a b e → BreaksCommand queue told (told_of last) lines a b e
lines-broke at count told queue m last lines a b e first broke =
    let h = operations_of broke.runs ++ broke.operations in
    let stands = first-stands at count told queue m first in
    record {
      done = broke.done;
      line = broke.line;
      left = broke.left;
      parts = broke.parts;
      runs = broke.runs;
      operations = broke.operations;
      over = broke.over;
      uncounted = broke.uncounted;
      answered = made-answers at count told queue m last h broke.over first broke.makes;
      case = made-case at count told queue m last h broke.over first broke.makes;
      stage = broke.stage;
      follows = broke.follows;
      before = λ world holds. broke.before (opening told.case queue world) (stands world holds);
      made = λ world holds. (broke.makes.made (opening told.case queue world) (stands world holds)).0;
      due = λ tells world holds. broke.makes.due (made-tells at count told queue m first tells) (opening told.case queue world) (stands world holds);
      puts = broke.puts;
    }
