-- Two runs over one told world are one run.
use Rattle.std.proofs.Common.{◌≡◌, ℕ, List, [], ◌∷◌, ◌++◌, refl, sym, ap, subst, ◌∙◌, Option, Some, None, append-nil, arith}
use Rattle.std.specs.List.{count_by}
use Rattle.std.proofs.lemmas.Grind.{flat_map-append}
use Rattle.std.proofs.lemmas.List.{map-append}
use Rattle.vfs_model.specs.State.{State, Call, AreDue, told_step}
use Rattle.vfs_model.specs.History.{Operation, after_operation, after}
use Rattle.script_text.specs.declared.script.Line.{Line}
use Rattle.script_text.specs.Writing.{ended}
use Rattle.script_report.specs.Stages.{Stage, Whole, Asks, Delivers, Reads, next_call, advance, stage_after, Follows}
use Rattle.script_report.specs.Lines.{line_stage}
use Rattle.script_report.specs.Runs.{IsMade, asked_by, is_failed, failed, AreTold, LineRun, AreRuns, operations_of, texts_of}
use Rattle.script_report.proofs.EachAtLemmas.{after-append, EachAt-front, EachAt-back, failed-append}
use Rattle.script_report.proofs.ToldLemmas.{operation-told}

pub AreTold-first : (s : State) (o : Operation) (h : List Operation) → AreTold s (o ∷ h) → (o.reply ≡ (told_step s o.call).reply) × (after_operation s o ≡ (told_step s o.call).state)
AreTold-first s o h told =
    let both = failed-append (o ∷ []) h in
    let few : failed (o ∷ []) ≡ 0 = (let w = told.whole in omega (arith, both, w)) in
    operation-told s o told.made.0 told.due.0 (sym (ap (count_by is_failed) (append-nil (asked_by o))) ∙ few)

pub AreTold-rest : (s : State) (o : Operation) (h : List Operation) → AreTold s (o ∷ h) → AreTold (after_operation s o) h
AreTold-rest s o h told = record {
  made = told.made.1;
  due = told.due.1;
  whole = let both = failed-append (o ∷ []) h in let w = told.whole in omega (arith, both, w);
}

-- ---- one line

text-of : Stage → List ℕ → List ℕ
text-of (Whole text) other = text
text-of (Asks call next) other = other
text-of (Delivers count next) other = other
text-of (Reads scan count next) other = other

pub whole-text : (stage : Stage) (t u : List ℕ) → stage ≡ Whole t → stage ≡ Whole u → t ≡ u
unfolding text-of
whole-text stage t u e f = ap (λ z. text-of z t) (sym e ∙ f)

-- a whole line asks for no call
pub none-due : (stage : Stage) (t : List ℕ) (call : Call) → stage ≡ Whole t → next_call stage ≡ Some call → ⊥
none-due stage t call whole due = let e : Some call ≡ None = sym due ∙ ap next_call whole in cc

call-of : Option Call → Call → Call
call-of None other = other
call-of (Some call) other = call

pub same-call : (due : Option Call) (a b : Call) → due ≡ Some a → due ≡ Some b → a ≡ b
unfolding call-of
same-call due a b e f = ap (λ z. call-of z a) (sym e ∙ f)

-- two runs of a stage from one state have one text, and one state after them
pub same-line : (caller : ℕ) (s : State) (stage : Stage) (h k : List Operation) (t u : List ℕ) → AreTold s h → AreTold s k → Follows caller stage h → Follows caller stage k → stage_after stage h ≡ Whole t → stage_after stage k ≡ Whole u → (t ≡ u) × (after s h ≡ after s k)
same-line caller s stage [] [] t u one two f g e d = (whole-text stage t u e d, refl)
same-line caller s stage [] (p ∷ k) t u one two f g e d = absurd (none-due stage t p.call e g.1)
same-line caller s stage (o ∷ h) [] t u one two f g e d = absurd (none-due stage u o.call d f.1)
same-line caller s stage (o ∷ h) (p ∷ k) t u one two f g e d =
    let call : p.call ≡ o.call = same-call (next_call stage) p.call o.call g.1 f.1 in
    let first = AreTold-first s o h one in
    let second = AreTold-first s p k two in
    let reply : p.reply ≡ o.reply = second.0 ∙ ap (λ z. (told_step s z).reply) call ∙ sym first.0 in
    let state : after_operation s p ≡ after_operation s o = second.1 ∙ ap (λ z. (told_step s z).state) call ∙ sym first.1 in
    let rest = same-line caller (after_operation s o) (advance stage o.reply) h k t u
    (AreTold-rest s o h one)
    (subst (λ z. AreTold z k) state (AreTold-rest s p k two))
    f.2
    (subst (λ z. Follows caller (advance stage z) k) reply g.2)
    e
    (subst (λ z. stage_after (advance stage z) k ≡ Whole u) reply d)
    in (rest.0, rest.1 ∙ ap (λ z. after z k) (sym state))

-- ---- lines

pub AreTold-front : (s : State) (h k : List Operation) → AreTold s (h ++ k) → AreTold s h
AreTold-front s h k told = record {
  made = EachAt-front IsMade s h k told.made;
  due = EachAt-front (λ z o. AreDue z o.call o.answers) s h k told.due;
  whole = let both = failed-append h k in let w = told.whole in omega (arith, both, w);
}

pub AreTold-back : (s : State) (h k : List Operation) → AreTold s (h ++ k) → AreTold (after s h) k
AreTold-back s h k told = record {
  made = EachAt-back IsMade s h k told.made;
  due = EachAt-back (λ z o. AreDue z o.call o.answers) s h k told.due;
  whole = let both = failed-append h k in let w = told.whole in omega (arith, both, w);
}

pub same-lines : (s : State) (lines : List Line) (runs others : List LineRun) → AreRuns s lines runs → AreRuns s lines others → AreTold s (operations_of runs) → AreTold s (operations_of others)
    → (texts_of runs ≡ texts_of others) × (after s (operations_of runs) ≡ after s (operations_of others))
same-lines s [] [] [] one two a b = (refl, refl)
same-lines s [] [] (q ∷ others) one two a b = absurd two
same-lines s [] (r ∷ runs) others one two a b = absurd one
same-lines s (line ∷ lines) [] others one two a b = absurd one
same-lines s (line ∷ lines) (r ∷ runs) [] one two a b = absurd two
same-lines s (line ∷ lines) (r ∷ runs) (q ∷ others) one two a b =
    let first = same-line line.caller s (line_stage s line) r.operations q.operations r.text q.text
    (AreTold-front s r.operations (operations_of runs) a) (AreTold-front s q.operations (operations_of others) b)
    one.0.follows two.0.follows one.0.whole two.0.whole in
    let state = sym first.1 in
    let rest = same-lines (after s r.operations) lines runs others one.1
    (subst (λ z. AreRuns z lines others) state two.1)
    (AreTold-back s r.operations (operations_of runs) a)
    (subst (λ z. AreTold z (operations_of others)) state (AreTold-back s q.operations (operations_of others) b)) in (
      ap (λ z. ended z ∷ texts_of runs) first.0 ∙ ap (λ z. ended q.text ∷ z) rest.0,
      after-append s r.operations (operations_of runs) ∙ rest.1 ∙ ap (λ z. after z (operations_of others)) first.1 ∙ sym (after-append s q.operations (operations_of others)),
    )

-- ---- a run of the lines from the front on

-- the runs of these lines and of more
pub AreRuns-cut : (s : State) (xs ys : List Line) (runs : List LineRun) → AreRuns s (xs ++ ys) runs → (front : List LineRun) × (back : List LineRun) × (runs ≡ front ++ back) × AreRuns s xs front × AreRuns (after s (operations_of front)) ys back
AreRuns-cut s [] ys runs h = ([], runs, refl, tt, h)
AreRuns-cut s (x ∷ xs) ys [] h = absurd h
AreRuns-cut s (x ∷ xs) ys (r ∷ runs) h =
    let p = AreRuns-cut (after s r.operations) xs ys runs h.1 in
    (r ∷ p.0, p.1, ap (λ l. r ∷ l) p.2, (h.0, p.3), subst (λ z. AreRuns z ys p.1) (sym (after-append s r.operations (operations_of p.0))) p.4)

operations-append : (runs more : List LineRun) → operations_of (runs ++ more) ≡ operations_of runs ++ operations_of more
operations-append runs more = flat_map-append (λ (r : LineRun). r.operations) runs more

texts-append : (runs more : List LineRun) → texts_of (runs ++ more) ≡ texts_of runs ++ texts_of more
texts-append runs more = map-append (λ (r : LineRun). ended r.text) runs more

-- what was printed for the first of the lines is the front of what is printed for all
pub front-texts : (s : State) (xs ys : List Line) (runs others : List LineRun) → AreRuns s (xs ++ ys) runs → AreRuns s xs others → AreTold s (operations_of runs) → AreTold s (operations_of others) → (rest : List (List ℕ)) × (texts_of runs ≡ texts_of others ++ rest)
front-texts s xs ys runs others one two a b =
    let p = AreRuns-cut s xs ys runs one in
    let all : operations_of runs ≡ operations_of p.0 ++ operations_of p.1 = ap operations_of p.2 ∙ operations-append p.0 p.1 in
    let front = AreTold-front s (operations_of p.0) (operations_of p.1) (subst (AreTold s) all a) in
    let same = same-lines s xs p.0 others p.3 two front b in
    (texts_of p.1, ap texts_of p.2 ∙ texts-append p.0 p.1 ∙ ap (λ l. l ++ texts_of p.1) same.0)
