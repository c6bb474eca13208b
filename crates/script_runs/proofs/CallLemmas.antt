-- What one call of a machine makes.
use Rattle.std.proofs.Common.{◌≡◌, ℕ, ◌+◌, ◌≤◌, Bool, true, false, List, [], ◌∷◌, ◌++◌, Option, Some, None, refl, sym, ap, subst, ◌∙◌, append_assoc, append-nil, arith, if◌then◌else◌, inl, inr}
use Rattle.std.specs.Prelude.{is_some, option_map}
use Rattle.std.specs.List.{count_by}
use Rattle.std.proofs.lemmas.Bool.{true≢false}
use Rattle.std.proofs.lemmas.List.Sums.{sum_by-append}
use Rattle.vfs_model.specs.Paths.{Path}
use Rattle.vfs_model.specs.World.{World}
use Rattle.vfs_model.specs.Faults.{Rose}
use Rattle.vfs_model.specs.Scanning.{Look}
use Rattle.vfs_model.specs.State.{State, Call, CallEdit, CallRead, Reply, Saw, Fault, NoMemory, Answers, Outcome, TreeAnswer, ToLook, AreDue, step}
use Rattle.vfs_model.specs.Stands.{Parts, Stands}
use Rattle.vfs_model.specs.History.{Operation, is_no_memory, after}
use Rattle.vfs_model.specs.Steps.{IsOutcome, outcome_unless, IsStepOf}
use Rattle.world_model.specs.Told.{TreeTold, with_answers}
use Rattle.vfs_machine.proofs.ToldLemmas.{none-asked}
use Rattle.vfs_machine.specs.Whole.{told_of}
use Rattle.vfs_machine.specs.Called.{IsCalled, AreAsked, HasSeen, HasNotSeen, MayHaveLooked, CountsFaults, TellsAfter}
use Rattle.script_report.specs.Runs.{IsMade, asked, asked_in, is_failed}
use Rattle.script_report.proofs.EachAtLemmas.{after-append, EachAt-append, asked-append}
use Rattle.script_runs.specs.Making.{RoseBy, Answered, Makes, IsUncounted, nothing, one_look}

-- ---- outcomes

-- where the reply is no want of memory, it is that of the outcome, and the fact holds of its state
pub outcome-of : (r : Reply) (s : State) (o : Outcome) (P : State → Type 0) → is_no_memory r ≡ false → IsOutcome r s o P → (r ≡ o.reply) × P o.state
outcome-of r s o P given h = subst (λ (b : Bool). outcome_unless b r s o P) given h

-- and else it holds of the state before
pub outcome-none : (r : Reply) (s : State) (o : Outcome) (P : State → Type 0) → is_no_memory r ≡ true → IsOutcome r s o P → P s
outcome-none r s o P wanted h = subst (λ (b : Bool). outcome_unless b r s o P) wanted h

-- ---- what a tree answered

-- nothing was asked
pub Answered-none : (old new : TreeTold) → new ≡ old → Answered old new []
Answered-none old new same = subst (λ (t : TreeTold). Answered old t []) (sym same) (record { told = none-asked old.answers; failed = omega arith; tells = refl })

twice-asked : (all : Option (List TreeAnswer)) (xs ys : List TreeAnswer) → option_map (with_answers ys) (option_map (with_answers xs) all) ≡ option_map (with_answers (xs ++ ys)) all
twice-asked None xs ys = refl
twice-asked (Some all) xs ys = ap Some (append_assoc all xs ys)

-- a count that rose twice rose by both
RoseBy-then : (m n a b c : ℕ) → RoseBy m a b → RoseBy n b c → RoseBy (m + n) a c
RoseBy-then m n a b c first second = omega (arith, first, second)

-- more was asked
pub Answered-then : (a b c : TreeTold) (xs ys : List TreeAnswer) → Answered a b xs → Answered b c ys → Answered a c (xs ++ ys)
Answered-then a b c xs ys first second = record {
  told = second.told ∙ ap (option_map (with_answers ys)) first.told ∙ twice-asked a.answers xs ys;
  failed =
      let both : count_by is_failed (xs ++ ys) ≡ count_by is_failed xs + count_by is_failed ys = sum_by-append _ xs ys in
      subst (λ (n : ℕ). RoseBy n a.faults c.faults) (sym both) (RoseBy-then _ _ a.faults b.faults c.faults first.failed second.failed);
  tells = second.tells ∙ first.tells;
}

-- ---- operations one after the other

pub makes-none : {V : Type 0} (at : V → Path → ℕ) (count : V → ℕ) (m : Parts V) → Makes at count m m [] []
makes-none at count m = record { answered = Answered-none (told_of m) (told_of m) refl; made = λ s st. (tt, st); due = λ tells s st. tt }

pub makes-then : {V : Type 0} (at : V → Path → ℕ) (count : V → ℕ) (a b c : Parts V) (h k : List Operation) (over : List TreeAnswer) → Makes at count a b h [] → Makes at count b c k over → Makes at count a c (h ++ k) over
makes-then at count a b c h k over first second = record {
  answered =
      let parts : (asked h ++ []) ++ (asked k ++ over) ≡ asked (h ++ k) ++ over =
      ap (λ (l : List TreeAnswer). l ++ (asked k ++ over)) (append-nil (asked h)) ∙ sym (append_assoc (asked h) (asked k) over) ∙ ap (λ (l : List TreeAnswer). l ++ over) (sym (asked-append h k)) in
      subst (Answered (told_of a) (told_of c)) parts (Answered-then (told_of a) (told_of b) (told_of c) (asked h ++ []) (asked k ++ over) first.answered second.answered);
  made = λ s st.
      let one = first.made s st in
      let two = second.made (after s h) one.1 in
      (EachAt-append IsMade s h k one.0 two.0, subst (Stands at count c) (sym (after-append s h k)) two.1);
  due = λ tells s st.
      EachAt-append (λ z o. AreDue z o.call o.answers) s h k (first.due tells s st)
      (second.due (first.answered.tells ∙ tells) (after s h) (first.made s st).1);
}

-- ---- one call

-- memory was wanting: no operation was made, and at most one look
pub record Wants {V : Type 0} (at : V → Path → ℕ) (count : V → ℕ) (old new : Parts V) : Type 0 where
  pub over : List TreeAnswer
  pub uncounted : IsUncounted over
  pub makes : Makes at count old new [] over

-- what comes of a call with this reply: an operation of any caller; and where memory was wanting none
pub record Calls {V : Type 0} (at : V → Path → ℕ) (count : V → ℕ) (old new : Parts V) (call : Call) (r : Reply) : Type 0 where
  pub answers : Answers
  pub made : is_no_memory r ≡ false → (caller : ℕ) → Makes at count old new (record { caller = caller; call = call; answers = answers; reply = r } ∷ []) []
  pub wanted : is_no_memory r ≡ true → Wants at count old new

-- the operation, by its parts
one-makes : {V : Type 0} (at : V → Path → ℕ) (count : V → ℕ) (old new : Parts V) (call : Call) (r : Reply) (a : Answers) (caller : ℕ) → is_no_memory r ≡ false → IsStepOf at count old new a call r → (is_some old.content ≡ true → (s : State) → Stands at count old s → AreDue s call a)
    → Answered (told_of old) (told_of new) (asked_in call r a) → Makes at count old new (record { caller = caller; call = call; answers = a; reply = r } ∷ []) []
one-makes at count old new call r a caller given stepped due answered = record {
  answered = subst (Answered (told_of old) (told_of new)) (sym (append-nil (asked_in call r a ++ []) ∙ append-nil (asked_in call r a))) answered;
  made = λ s st.
      let out = outcome-of r s (step a s call) (Stands at count new) given (stepped s st) in
      ((record { given = given; reply = out.0 }, tt), subst (λ (b : Bool). Stands at count new (if b then s else (step a s call).state)) (sym given) out.1);
  due = λ tells s st. (due tells s st, tt);
}

none-wants : {V : Type 0} (at : V → Path → ℕ) (count : V → ℕ) (old new : Parts V) (call : Call) (r : Reply) (a : Answers) (over : List TreeAnswer) → IsUncounted over → is_no_memory r ≡ true → IsStepOf at count old new a call r → Answered (told_of old) (told_of new) over → Wants at count old new
none-wants at count old new call r a over uncounted wanted stepped answered = record {
  over = over;
  uncounted = uncounted;
  makes = record {
    answered = answered;
    made = λ s st. (tt, outcome-none r s (step a s call) (Stands at count new) wanted (stepped s st));
    due = λ tells s st. tt;
  };
}

-- ---- what it asked

seen-asked : (a : Answers) (l : Option Look) (asked : List TreeAnswer) → a.look ≡ l → HasSeen l asked → asked ≡ ToLook a.look ∷ []
seen-asked a None asked is h = absurd h
seen-asked a (Some look) asked is h = h ∙ ap (λ (z : Option Look). ToLook z ∷ []) (sym is)

unseen-asked : (a : Answers) (l : Option Look) (asked : List TreeAnswer) → a.look ≡ l → HasNotSeen l asked → asked ≡ ToLook a.look ∷ []
unseen-asked a None asked is h = h ∙ ap (λ (z : Option Look). ToLook z ∷ []) (sym is)
unseen-asked a (Some look) asked is h = absurd h

-- unless memory was wanting, what was asked is what the reply tells
asked-is : (call : Call) (r : Reply) (a : Answers) (asked : List TreeAnswer) → is_no_memory r ≡ false → AreAsked call r a asked → asked ≡ asked_in call r a
asked-is (CallEdit edit) NoMemory a asked given h = absurd (true≢false given)
asked-is (CallEdit edit) _ a asked given h = h
asked-is (CallRead c) (Saw p kind n) a asked given h = seen-asked a a.look asked refl h
asked-is (CallRead c) Fault a asked given h = unseen-asked a a.look asked refl h
asked-is (CallRead c) NoMemory a asked given h = absurd (true≢false given)
asked-is (CallRead c) _ a asked given h = h
asked-is _ r a asked given h = h

seen-whole : (l : Option Look) (asked : List TreeAnswer) → HasSeen l asked → count_by is_failed asked ≡ 0
seen-whole None asked h = absurd h
seen-whole (Some look) asked h = ap (count_by is_failed) h

unseen-failed : (l : Option Look) (asked : List TreeAnswer) → HasNotSeen l asked → count_by is_failed asked ≡ 1
unseen-failed None asked h = ap (count_by is_failed) h
unseen-failed (Some look) asked h = absurd h

looked-whole : (l : Option Look) (asked : List TreeAnswer) → MayHaveLooked l asked → count_by is_failed asked ≡ 0
looked-whole None asked h = ap (count_by is_failed) h
looked-whole (Some look) asked h = elim h [ inl none ↦ ap (count_by is_failed) none | inr one ↦ ap (count_by is_failed) one ]

-- the count of failed looks rose by those that failed
rose-by : (n before now : ℕ) → n ≡ 0 → before ≤ now → RoseBy n before now
rose-by n before now none later = omega (arith, none, later)

rose-by-one : (n before now : ℕ) → n ≡ 1 → Rose before now → RoseBy n before now
rose-by-one n before now one rose = omega (arith, one, rose)

asked-failed : (call : Call) (r : Reply) (a : Answers) (asked : List TreeAnswer) (before now : ℕ) → AreAsked call r a asked → CountsFaults call r before now → RoseBy (count_by is_failed asked) before now
asked-failed (CallEdit edit) NoMemory a asked before now h counts = rose-by _ before now (ap (count_by is_failed) h) counts
asked-failed (CallEdit edit) _ a asked before now h counts = rose-by _ before now (ap (count_by is_failed) h) counts
asked-failed (CallRead c) (Saw p kind n) a asked before now h counts = rose-by _ before now (seen-whole a.look asked h) counts
asked-failed (CallRead c) Fault a asked before now h counts = rose-by-one _ before now (unseen-failed a.look asked h) counts
asked-failed (CallRead c) NoMemory a asked before now h counts = rose-by _ before now (looked-whole a.look asked h) counts
asked-failed (CallRead c) _ a asked before now h counts = rose-by _ before now (ap (count_by is_failed) h) counts
asked-failed _ r a asked before now h counts = rose-by _ before now (ap (count_by is_failed) h) counts

-- the content is told as before
still-tells : (call : Call) (old new : TreeTold) → TellsAfter call old new → is_some new.content ≡ is_some old.content
still-tells (CallEdit edit) old new h = h
still-tells (CallRead c) old new h = ap is_some h
still-tells _ old new h = ap (λ (t : TreeTold). is_some t.content) h

-- where memory was wanting, at most one look was asked for, and it did not fail
looked-uncounted : (l : Option Look) (asked : List TreeAnswer) → MayHaveLooked l asked → IsUncounted asked
looked-uncounted None asked h = subst IsUncounted (sym h) nothing
looked-uncounted (Some look) asked h = elim h [ inl none ↦ subst IsUncounted (sym none) nothing | inr one ↦ subst IsUncounted (sym one) (one_look look) ]

asked-uncounted : (call : Call) (a : Answers) (asked : List TreeAnswer) → AreAsked call NoMemory a asked → IsUncounted asked
asked-uncounted (CallEdit edit) a asked h = subst IsUncounted (sym h) nothing
asked-uncounted (CallRead c) a asked h = looked-uncounted a.look asked h
asked-uncounted _ a asked h = subst IsUncounted (sym h) nothing

-- the one reply that says so
memory-is : (r : Reply) → is_no_memory r ≡ true → r ≡ NoMemory
memory-is NoMemory h = refl
memory-is _ h = absurd (true≢false (sym h))

pub some-of : (o : Option World) → is_some o ≡ true → (w : World) × (o ≡ Some w)
some-of None e = absurd (true≢false (sym e))
some-of (Some w) e = (w, refl)

-- ---- the call

called-answered : {V : Type 0} (at : V → Path → ℕ) (count : V → ℕ) (old new : Parts V) (call : Call) (r : Reply) → (h : IsCalled at count old new call r) → Answered (told_of old) (told_of new) h.asked
called-answered at count old new call r h = record {
  told = h.answered;
  failed = asked-failed call r h.answers h.asked old.faults new.faults h.are_asked h.faults;
  tells = still-tells call (told_of old) (told_of new) h.tells;
}

-- what a machine owes of a call is what comes of it here
pub calls-of : {V : Type 0} (at : V → Path → ℕ) (count : V → ℕ) (old new : Parts V) (call : Call) (r : Reply) → IsCalled at count old new call r → Calls at count old new call r
calls-of at count old new call r h = record {
  answers = h.answers;
  made = λ given caller.
      one-makes at count old new call r h.answers caller given h.stepped
      (λ tells s st. let w = some-of old.content tells in h.due w.0 w.1 s st)
      (subst (Answered (told_of old) (told_of new)) (asked-is call r h.answers h.asked given h.are_asked) (called-answered at count old new call r h));
  wanted = λ wanted.
      none-wants at count old new call r h.answers h.asked
      (asked-uncounted call h.answers h.asked (subst (λ (z : Reply). AreAsked call z h.answers h.asked) (memory-is r wanted) h.are_asked))
      wanted h.stepped (called-answered at count old new call r h);
}
