-- What is retained after a history is what its changes make of what was retained.
use Rattle.std.proofs.Common.{◌≡◌, ℕ, Bool, true, false, List, [], ◌∷◌, ◌++◌, length, find, refl, sym, ap, ◌∙◌, subst, Option, Some, None, nat_lt, if◌then◌else◌}
use Rattle.std.proofs.lemmas.Bool.{true≢false}
use Rattle.vfs_model.specs.declared.Case.{Case}
use Rattle.vfs_model.specs.Paths.{Path, place}
use Rattle.vfs_model.specs.Edit.{Edit}
use Rattle.vfs_model.specs.Retained.{Retained, is_covered}
use Rattle.vfs_model.specs.Scanning.{Scan, Look, next_left, is_overtaken}
use Rattle.vfs_model.specs.Pending.{has_room}
use Rattle.vfs_model.specs.Fingerprint.{Input}
use Rattle.vfs_model.specs.State.{State, Call, CallEdit, CallEvent, CallLose, CallDeliver, CallBegin, CallRead, CallPublish, CallDrop, CallFind, CallPart, CallKind, CallVersion, CallFingerprint, Reply, Done, Overflow, Fits, NoMemory, Answers, EditAnswer, Refuses, Does, Outcome, KeptPrint, step, scan_of, all_fit, edit_by, deliver_when, deliver_first, begin_or, read_or, read_next, publish_or, publish_next, publish_when, drop_or, fingerprint_or, fingerprint_when, seen_inputs, is_for_inputs, after_edit, after_event}
use Rattle.vfs_model.specs.History.{Operation, is_no_memory, after_operation, after, IsAnswered, AreAnswered, Change, change_kept, changes_of, changes, after_change, after_changes}
use Rattle.vfs_laws.proofs.HistoryLemmas.{stepped}

-- the outcome of a call changes what is retained by its changes
record IsChange (s : State) (call : Call) (o : Outcome) : Type 0 where
  case : o.state.case ≡ s.case
  retained : o.state.retained ≡ after_changes s.case (changes_of s call o.reply) s.retained

edit_by-change : (s : State) (edit : Edit) (a : EditAnswer) → IsChange s (CallEdit edit) (edit_by s edit a)
edit_by-change s edit (Refuses r) = record { case = refl; retained = refl }
edit_by-change s edit (Does told) = by (all_fit told s.pending)
  where
    by : (b : Bool) → IsChange s (CallEdit edit) (record { reply = if b then Done else Overflow; state = after_edit s edit told })
    by true = record { case = refl; retained = refl }
    by false = record { case = refl; retained = refl }

event-change : (s : State) (e : Path) (b : Bool) → IsChange s (CallEvent e) (record { reply = if b then Fits else Overflow; state = after_event s e })
event-change s e true = record { case = refl; retained = refl }
event-change s e false = record { case = refl; retained = refl }

deliver_first-change : (s : State) (es : List Path) → IsChange s CallDeliver (deliver_first s es)
deliver_first-change s [] = record { case = refl; retained = refl }
deliver_first-change s (e ∷ es) = record { case = refl; retained = refl }

deliver-change : (s : State) (b : Bool) → IsChange s CallDeliver (deliver_when s b)
deliver-change s true = record { case = refl; retained = refl }
deliver-change s false = deliver_first-change s s.pending.events

begin-change : (s : State) (c : ℕ) (p : Path) (o : Option Scan) → IsChange s (CallBegin c p) (begin_or s c p o)
begin-change s c p None = record { case = refl; retained = refl }
begin-change s c p (Some t) = record { case = refl; retained = refl }

read_next-change : (s : State) (c : ℕ) (t : Scan) (y : Option Path) (l : Option Look) → IsChange s (CallRead c) (read_next s c t y l)
read_next-change s c t None l = record { case = refl; retained = refl }
read_next-change s c t (Some y) None = record { case = refl; retained = refl }
read_next-change s c t (Some y) (Some l) = record { case = refl; retained = refl }

after_read-change : (s : State) (c : ℕ) (o : Option Scan) (l : Option Look) → IsChange s (CallRead c) (read_or s c o l)
after_read-change s c None l = record { case = refl; retained = refl }
after_read-change s c (Some t) l = read_next-change s c t (next_left t.partial) l

publish_when-change : (s : State) (c : ℕ) (t : Scan) (o v : Bool) → scan_of s c ≡ Some t → IsChange s (CallPublish c) (publish_when s c t o v)
publish_when-change s c t true v is = record { case = refl; retained = refl }
publish_when-change s c t false true is = record { case = refl; retained = refl }
publish_when-change s c t false false is = record { case = refl; retained = λ i. after_changes s.case (change_kept (sym is i)) s.retained }

publish_next-change : (s : State) (c : ℕ) (t : Scan) (y : Option Path) → scan_of s c ≡ Some t → IsChange s (CallPublish c) (publish_next s c t y)
publish_next-change s c t (Some y) is = record { case = refl; retained = refl }
publish_next-change s c t None is = publish_when-change s c t (is_overtaken s.case s.past t) (is_covered s.retained.pairs (place s.case t.path)) is

publish-change : (s : State) (c : ℕ) (o : Option Scan) → scan_of s c ≡ o → IsChange s (CallPublish c) (publish_or s c o)
publish-change s c None is = record { case = refl; retained = refl }
publish-change s c (Some t) is = publish_next-change s c t (next_left t.partial) is

drop-change : (s : State) (c : ℕ) (o : Option Scan) → IsChange s (CallDrop c) (drop_or s c o)
drop-change s c None = record { case = refl; retained = refl }
drop-change s c (Some t) = record { case = refl; retained = refl }

fingerprint-change : (s : State) (inputs : List Input) (o : Option KeptPrint) → IsChange s (CallFingerprint inputs) (fingerprint_or s inputs (seen_inputs s.case s.retained.pairs inputs) o)
fingerprint-change s inputs (Some k) = record { case = refl; retained = refl }
fingerprint-change s inputs None = by (nat_lt (length (seen_inputs s.case s.retained.pairs inputs)) (length inputs))
  where
    by : (b : Bool) → IsChange s (CallFingerprint inputs) (fingerprint_when s (seen_inputs s.case s.retained.pairs inputs) b)
    by true = record { case = refl; retained = refl }
    by false = record { case = refl; retained = refl }

step-change : (a : Answers) (s : State) (call : Call) → IsChange s call (step a s call)
step-change a s (CallEdit edit) = edit_by-change s edit a.edit
step-change a s (CallEvent e) = event-change s e (has_room s.pending)
step-change a s CallLose = record { case = refl; retained = refl }
step-change a s CallDeliver = deliver-change s s.pending.mark
step-change a s (CallBegin c p) = begin-change s c p (scan_of s c)
step-change a s (CallRead c) = after_read-change s c (scan_of s c) a.look
step-change a s (CallPublish c) = publish-change s c (scan_of s c) refl
step-change a s (CallDrop c) = drop-change s c (scan_of s c)
step-change a s (CallFind x) = record { case = refl; retained = refl }
step-change a s (CallPart x) = record { case = refl; retained = refl }
step-change a s (CallKind x) = record { case = refl; retained = refl }
step-change a s (CallVersion x) = record { case = refl; retained = refl }
step-change a s (CallFingerprint inputs) = fingerprint-change s inputs (find (λ (k : KeptPrint). is_for_inputs inputs k.seen) s.kept)

-- a call for which memory was wanting changes nothing
no_memory-change : (s : State) (call : Call) (r : Reply) → is_no_memory r ≡ true → changes_of s call r ≡ []
no_memory-change s call NoMemory g = by call
  where
    by : (call : Call) → changes_of s call NoMemory ≡ []
    by (CallPublish c) = refl
    by _ = refl
no_memory-change s call _ g = absurd (true≢false (sym g))

operation-change : (s : State) (o : Operation) → IsAnswered s o → IsChange s o.call (record { reply = o.reply; state = after_operation s o })
operation-change s o answered = by (is_no_memory o.reply) refl
  where
    by : (b : Bool) → is_no_memory o.reply ≡ b → IsChange s o.call (record { reply = o.reply; state = if b then s else (step o.answers s o.call).state })
    by true g = record { case = refl; retained = ap (λ cs. after_changes s.case cs s.retained) (sym (no_memory-change s o.call o.reply g)) }
    by false g = subst (λ r. IsChange s o.call (record { reply = r; state = (step o.answers s o.call).state })) (sym (stepped s o g answered)) (step-change o.answers s o.call)

-- no operation changes the case
pub after-case : (s : State) (h : List Operation) → AreAnswered s h → (after s h).case ≡ s.case
after-case s [] answered = refl
after-case s (o ∷ h) answered = after-case (after_operation s o) h answered.1 ∙ (operation-change s o answered.0).case

after_changes-append : (case : Case) (cs ds : List Change) (r : Retained) → after_changes case (cs ++ ds) r ≡ after_changes case ds (after_changes case cs r)
after_changes-append case [] ds r = refl
after_changes-append case (c ∷ cs) ds r = after_changes-append case cs ds (after_change case c r)

-- what is retained after a history is what its changes make of what was retained
pub retained-changes : (s : State) (h : List Operation) → AreAnswered s h → (after s h).retained ≡ after_changes s.case (changes s h) s.retained
retained-changes s [] answered = refl
retained-changes s (o ∷ h) answered =
    let c = operation-change s o answered.0 in
    retained-changes (after_operation s o) h answered.1
    ∙ (λ i. after_changes (c.case i) (changes (after_operation s o) h) (c.retained i))
    ∙ sym (after_changes-append s.case (changes_of s o.call o.reply) (changes (after_operation s o) h) s.retained)
