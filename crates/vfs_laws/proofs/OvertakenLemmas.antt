-- A scan is overtaken exactly where a place related to its own was invalidated since its begin.
use Rattle.std.proofs.Common.{◌≡◌, ◌≢◌, ◌↔◌, ℕ, suc, zero, ◌+◌, ◌<◌, ◌≤◌, Bool, true, false, ◌&&◌, ◌||◌, List, [], ◌∷◌, ◌++◌, length, drop, find, refl, sym, ap, ◌∙◌, subst, Option, Some, None, arith, length-append, slice_get, slice_set, nat_eq, nat_lt, if◌then◌else◌, eqb-true, eq-eqb, max, add-zero}
use Rattle.std.proofs.lemmas.Bool.{both_ways, true≢false}
use Rattle.std.proofs.lemmas.List.{append-nil, append_assoc}
use Rattle.std.proofs.Math.Seq.{drop-append_seam}
use Rattle.std.proofs.lemmas.List.Folds.{list_any-append}
use Rattle.std.specs.List.{list_any}
use Rattle.vfs_model.specs.declared.Case.{Case}
use Rattle.vfs_model.specs.declared.Kind.{Kind}
use Rattle.vfs_model.specs.Paths.{Path, place, is_related}
use Rattle.vfs_model.specs.Edit.{Edit}
use Rattle.vfs_model.specs.Scanning.{Scan, Look, Unread, next_left, after_look, is_overtaken, PartialSnapshot}
use Rattle.vfs_model.specs.Retained.{is_covered}
use Rattle.vfs_model.specs.Pending.{version, version_from, has_room}
use Rattle.vfs_model.specs.Fingerprint.{Input}
use Rattle.vfs_model.specs.State.{State, Call, CallEdit, CallEvent, CallLose, CallDeliver, CallBegin, CallRead, CallPublish, CallDrop, CallFind, CallPart, CallKind, CallVersion, CallFingerprint, Reply, Done, Overflow, Fits, Cleared, Delivered, Version, Stale, Answers, EditAnswer, Refuses, Does, Outcome, KeptPrint, step, scan_of, all_fit, edit_by, deliver_when, deliver_first, begin_or, read_or, read_next, publish_or, publish_next, publish_when, drop_or, fingerprint_or, fingerprint_when, seen_inputs, is_for_inputs, after_clear, after_delivery, after_edit, after_event, after_loss, after_begin, after_read, after_publish, after_fingerprint, open_scan, with_scan, Saw}
use Rattle.vfs_model.specs.History.{Operation, is_no_memory, after_operation, after, IsAnswered, AreAnswered, is_invalidating, is_on, is_closed_by, is_closing, is_stale, is_invalidated_in, KeepsOpen, is_scan_overtaken, own_read, own_step, own_partial}
use Rattle.vfs_laws.proofs.HistoryLemmas.{stepped}
use Rattle.vfs_laws.proofs.Splits.{split}
use Rattle.vfs_laws.proofs.SoundLemmas.{drop-push}

or_false : (b : Bool) → b ≡ (b || false)
or_false true = refl
or_false false = refl

any-append_one : {X : Type 0} (t : X → Bool) (xs : List X) (x : X) → list_any t (xs ++ x ∷ []) ≡ (list_any t xs || t x)
any-append_one t xs x = list_any-append t xs (x ∷ []) ∙ ap (λ b. list_any t xs || b) (sym (or_false (t x)))

get-set_other : {X : Type 0} (xs : List X) (i j : ℕ) (x : X) → (i ≢ j) → slice_get (slice_set xs i x) j ≡ slice_get xs j
get-set_other [] i j x d = refl
get-set_other (y ∷ xs) zero zero x d = absurd (d refl)
get-set_other (y ∷ xs) zero (suc j) x d = refl
get-set_other (y ∷ xs) (suc i) zero x d = refl
get-set_other (y ∷ xs) (suc i) (suc j) x d = get-set_other xs i j x (λ e. d (ap suc e))

open-set : (xs : List (Option Scan)) (i : ℕ) (t u : Scan) → open_scan (slice_get xs i) ≡ Some t → open_scan (slice_get (slice_set xs i (Some u)) i) ≡ Some u
open-set [] i t u e = cc
open-set (y ∷ xs) zero t u e = refl
open-set (y ∷ xs) (suc i) t u e = open-set xs i t u e

-- after the outcome the scan c is still in progress, with u read; what was invalidated has grown, and the scan is overtaken where it was or where the reply says so
record IsOngoing (s : State) (c : ℕ) (t : Scan) (u : PartialSnapshot) (o : Outcome) : Type 0 where
  scan : Scan
  is : scan_of o.state c ≡ Some scan
  path : scan.path ≡ t.path
  begun_at : scan.begun_at ≡ t.begun_at
  partial : scan.partial ≡ u
  case : o.state.case ≡ s.case
  grown : List Path
  past : o.state.past ≡ s.past ++ grown
  overtaken : is_overtaken o.state.case o.state.past scan ≡ (is_overtaken s.case s.past t || is_invalidating s.case t.path o.reply)

-- a call that leaves what was invalidated, and the scan
quiet-call : (s new : State) (c : ℕ) (t : Scan) (r : Reply) → new.case ≡ s.case → new.past ≡ s.past → scan_of new c ≡ Some t → is_invalidating s.case t.path r ≡ false → IsOngoing s c t t.partial (record { reply = r; state = new })
quiet-call s new c t r case_is past_is is off = record {
  scan = t;
  is = is;
  path = refl;
  begun_at = refl;
  partial = refl;
  case = case_is;
  grown = [];
  past = past_is ∙ sym (append-nil s.past);
  overtaken = λ i. (or_false (is_overtaken (case_is i) (past_is i) t) ∙ ap (λ b. is_overtaken (case_is i) (past_is i) t || b) (sym off)) i;
}

-- a delivery
pushed : (s new : State) (c : ℕ) (t : Scan) (r : Reply) (e : Path) → new.case ≡ s.case → new.past ≡ s.past ++ e ∷ [] → scan_of new c ≡ Some t → t.begun_at ≤ length s.past → is_invalidating s.case t.path r ≡ is_related e (place s.case t.path) → IsOngoing s c t t.partial (record { reply = r; state = new })
pushed s new c t r e case_is past_is is few says = record {
  scan = t;
  is = is;
  path = refl;
  begun_at = refl;
  partial = refl;
  case = case_is;
  grown = e ∷ [];
  past = past_is;
  overtaken =
      (λ i. is_overtaken (case_is i) (past_is i) t)
      ∙ ap (list_any test) (drop-push t.begun_at s.past e few)
      ∙ any-append_one test (drop t.begun_at s.past) e
      ∙ ap (λ b. is_overtaken s.case s.past t || b) (sym says);
}
  where
    test : Path → Bool
    test d = is_related d (place s.case t.path)

-- a call on another scan, or one that reads on
slot-call : (s : State) (c d : ℕ) (t : Scan) (o : Option Scan) (r : Reply) → scan_of s c ≡ Some t → (d ≢ c) → is_invalidating s.case t.path r ≡ false → IsOngoing s c t t.partial (record { reply = r; state = with_scan s d o })
slot-call s c d t o r is other off = quiet-call s (with_scan s d o) c t r refl refl (ap open_scan (get-set_other s.scans d c o other) ∙ is) off

after_read-call : (s : State) (c d : ℕ) (t u : Scan) (l : Look) (x : Path) (k : Kind) (n : ℕ) → scan_of s c ≡ Some t → scan_of s d ≡ Some u → IsOngoing s c t (own_read c (CallRead d) (Saw x k n) (Some l) t.partial) (record { reply = Saw x k n; state = after_read s d u l })
after_read-call s c d t u l x k n is is_u =
    split (nat_eq d c)
    (λ e.
    let same : d ≡ c = eqb-true d c e in
    let t_is : Some t ≡ Some u = sym is ∙ ap (scan_of s) (sym same) ∙ is_u in
    record {
      scan = record { path = u.path; begun_at = u.begun_at; partial = after_look l u.partial };
      is = ap (λ k. open_scan (slice_get (slice_set s.scans d (Some (record { path = u.path; begun_at = u.begun_at; partial = after_look l u.partial }))) k)) (sym same) ∙ open-set s.scans d u _ is_u;
      path = ap (λ (v : Scan). v.path) (sym (some-scan t u t_is));
      begun_at = ap (λ (v : Scan). v.begun_at) (sym (some-scan t u t_is));
      partial = rw e (ap (λ (v : Scan). after_look l v.partial) (sym (some-scan t u t_is)));
      case = refl;
      grown = [];
      past = sym (append-nil s.past);
      overtaken = ap (λ (v : Scan). is_overtaken s.case s.past v) (sym (some-scan t u t_is)) ∙ or_false _ ∙ ap (λ b. is_overtaken s.case s.past t || b) refl;
    })
    (λ e. rw e (slot-call s c d t (Some (record { path = u.path; begun_at = u.begun_at; partial = after_look l u.partial })) (Saw x k n) is (λ same. both_ways (nat_eq d c) e (eq-eqb d c same)) refl))
  where
    some-scan : (t u : Scan) → Some t ≡ Some u → t ≡ u
    some-scan t u e = cc

apart : (s : State) (c d : ℕ) (t : Scan) → scan_of s c ≡ Some t → scan_of s d ≡ None → d ≢ c
apart s c d t is none same = by (sym none ∙ ap (scan_of s) same ∙ is)
  where
    by : None ≡ Some t → ⊥
    by e = cc

edit-call : (s : State) (edit : Edit) (c : ℕ) (t : Scan) (a : EditAnswer) → scan_of s c ≡ Some t → IsOngoing s c t t.partial (edit_by s edit a)
edit-call s edit c t (Refuses r) is = quiet-call s s c t _ refl refl is refl
edit-call s edit c t (Does told) is = by (all_fit told s.pending)
  where
    by : (b : Bool) → IsOngoing s c t t.partial (record { reply = if b then Done else Overflow; state = after_edit s edit told })
    by true = quiet-call s (after_edit s edit told) c t _ refl refl is refl
    by false = quiet-call s (after_edit s edit told) c t _ refl refl is refl

event-call : (s : State) (e : Path) (c : ℕ) (t : Scan) (b : Bool) → scan_of s c ≡ Some t → IsOngoing s c t t.partial (record { reply = if b then Fits else Overflow; state = after_event s e })
event-call s e c t true is = quiet-call s (after_event s e) c t _ refl refl is refl
event-call s e c t false is = quiet-call s (after_event s e) c t _ refl refl is refl

deliver_first-call : (s : State) (es : List Path) (c : ℕ) (t : Scan) → scan_of s c ≡ Some t → t.begun_at ≤ length s.past → IsOngoing s c t t.partial (deliver_first s es)
deliver_first-call s [] c t is few = quiet-call s s c t _ refl refl is refl
deliver_first-call s (e ∷ es) c t is few = pushed s (after_delivery s e es) c t (Delivered e) (place s.case e) refl refl is few refl

deliver-call : (s : State) (m : Bool) (c : ℕ) (t : Scan) → scan_of s c ≡ Some t → t.begun_at ≤ length s.past → IsOngoing s c t t.partial (deliver_when s m)
deliver-call s true c t is few = pushed s (after_clear s) c t Cleared [] refl refl is few refl
deliver-call s false c t is few = deliver_first-call s s.pending.events c t is few

begin-call : (s : State) (d : ℕ) (p : Path) (o : Option Scan) (c : ℕ) (t : Scan) → scan_of s d ≡ o → scan_of s c ≡ Some t → IsOngoing s c t t.partial (begin_or s d p o)
begin-call s d p (Some u) c t is_o is = quiet-call s s c t _ refl refl is refl
begin-call s d p None c t is_o is = slot-call s c d t _ _ is (apart s c d t is is_o) refl

read_next-call : (s : State) (d : ℕ) (u : Scan) (y : Option Path) (l : Option Look) (c : ℕ) (t : Scan) → scan_of s d ≡ Some u → scan_of s c ≡ Some t → IsOngoing s c t (own_read c (CallRead d) (read_next s d u y l).reply l t.partial) (read_next s d u y l)
read_next-call s d u None l c t is_u is = quiet-call s s c t _ refl refl is refl
read_next-call s d u (Some y) None c t is_u is = quiet-call s s c t _ refl refl is refl
read_next-call s d u (Some y) (Some l) c t is_u is = after_read-call s c d t u l _ _ _ is is_u

read_or-call : (s : State) (d : ℕ) (o : Option Scan) (l : Option Look) (c : ℕ) (t : Scan) → scan_of s d ≡ o → scan_of s c ≡ Some t → IsOngoing s c t (own_read c (CallRead d) (read_or s d o l).reply l t.partial) (read_or s d o l)
read_or-call s d None l c t is_o is = quiet-call s s c t _ refl refl is refl
read_or-call s d (Some u) l c t is_o is = read_next-call s d u (next_left u.partial) l c t is_o is

publish_when-call : (s : State) (d : ℕ) (u : Scan) (o v : Bool) (c : ℕ) (t : Scan) → (d ≢ c) → scan_of s c ≡ Some t → IsOngoing s c t t.partial (publish_when s d u o v)
publish_when-call s d u true v c t other is = slot-call s c d t None _ is other refl
publish_when-call s d u false true c t other is = slot-call s c d t None _ is other refl
publish_when-call s d u false false c t other is = quiet-call s (after_publish s d u) c t _ refl refl (ap open_scan (get-set_other s.scans d c None other) ∙ is) refl

publish_next-call : (s : State) (d : ℕ) (u : Scan) (y : Option Path) (c : ℕ) (t : Scan) → (d ≢ c) → scan_of s c ≡ Some t → IsOngoing s c t t.partial (publish_next s d u y)
publish_next-call s d u (Some y) c t other is = quiet-call s s c t _ refl refl is refl
publish_next-call s d u None c t other is = publish_when-call s d u _ _ c t other is

publish_or-call : (s : State) (d : ℕ) (o : Option Scan) (c : ℕ) (t : Scan) → (d ≢ c) → scan_of s c ≡ Some t → IsOngoing s c t t.partial (publish_or s d o)
publish_or-call s d None c t other is = quiet-call s s c t _ refl refl is refl
publish_or-call s d (Some u) c t other is = publish_next-call s d u (next_left u.partial) c t other is

-- a publish that does not close its scan
publish_when-closes : (s : State) (d : ℕ) (u : Scan) (o v : Bool) → is_closed_by (publish_when s d u o v).reply ≡ true
publish_when-closes s d u true v = refl
publish_when-closes s d u false true = refl
publish_when-closes s d u false false = refl

publish_next-open : (s : State) (d : ℕ) (u : Scan) (y : Option Path) (c : ℕ) (t : Scan) → is_closed_by (publish_next s d u y).reply ≡ false → scan_of s c ≡ Some t → IsOngoing s c t t.partial (publish_next s d u y)
publish_next-open s d u (Some y) c t off is = quiet-call s s c t _ refl refl is refl
publish_next-open s d u None c t off is = absurd (both_ways _ off (publish_when-closes s d u (is_overtaken s.case s.past u) (is_covered s.retained.pairs (place s.case u.path))))

publish_or-open : (s : State) (d : ℕ) (o : Option Scan) (c : ℕ) (t : Scan) → is_closed_by (publish_or s d o).reply ≡ false → scan_of s c ≡ Some t → IsOngoing s c t t.partial (publish_or s d o)
publish_or-open s d None c t off is = quiet-call s s c t _ refl refl is refl
publish_or-open s d (Some u) c t off is = publish_next-open s d u (next_left u.partial) c t off is

drop_or-open : (s : State) (d : ℕ) (o : Option Scan) (c : ℕ) (t : Scan) → is_closed_by (drop_or s d o).reply ≡ false → scan_of s c ≡ Some t → IsOngoing s c t t.partial (drop_or s d o)
drop_or-open s d None c t off is = quiet-call s s c t _ refl refl is refl
drop_or-open s d (Some u) c t off is = absurd (true≢false off)

and-right : (a b : Bool) → a ≡ true → (a && b) ≡ false → b ≡ false
and-right true b e h = h
and-right false b e h = absurd (true≢false (sym e))

drop_or-call : (s : State) (d : ℕ) (o : Option Scan) (c : ℕ) (t : Scan) → (d ≢ c) → scan_of s c ≡ Some t → IsOngoing s c t t.partial (drop_or s d o)
drop_or-call s d None c t other is = quiet-call s s c t _ refl refl is refl
drop_or-call s d (Some u) c t other is = slot-call s c d t None _ is other refl

fingerprint-call : (s : State) (inputs : List Input) (o : Option KeptPrint) (c : ℕ) (t : Scan) → scan_of s c ≡ Some t → IsOngoing s c t t.partial (fingerprint_or s inputs (seen_inputs s.case s.retained.pairs inputs) o)
fingerprint-call s inputs (Some k) c t is = quiet-call s s c t _ refl refl is refl
fingerprint-call s inputs None c t is = by (nat_lt (length (seen_inputs s.case s.retained.pairs inputs)) (length inputs))
  where
    by : (b : Bool) → IsOngoing s c t t.partial (fingerprint_when s (seen_inputs s.case s.retained.pairs inputs) b)
    by true = quiet-call s s c t _ refl refl is refl
    by false = quiet-call s (after_fingerprint s (seen_inputs s.case s.retained.pairs inputs)) c t _ refl refl is refl

other_scan : (d c : ℕ) → nat_eq d c ≡ false → d ≢ c
other_scan d c e same = both_ways (nat_eq d c) e (eq-eqb d c same)

ongoing : (a : Answers) (s : State) (call : Call) (c : ℕ) (t : Scan) → (is_on c call && is_closed_by (step a s call).reply) ≡ false → scan_of s c ≡ Some t → t.begun_at ≤ length s.past → IsOngoing s c t (own_read c call (step a s call).reply a.look t.partial) (step a s call)
ongoing a s (CallEdit edit) c t on is few = edit-call s edit c t a.edit is
ongoing a s (CallEvent e) c t on is few = event-call s e c t (has_room s.pending) is
ongoing a s CallLose c t on is few = quiet-call s (after_loss s) c t _ refl refl is refl
ongoing a s CallDeliver c t on is few = deliver-call s s.pending.mark c t is few
ongoing a s (CallBegin d p) c t on is few = begin-call s d p (scan_of s d) c t refl is
ongoing a s (CallRead d) c t on is few = read_or-call s d (scan_of s d) a.look c t refl is
ongoing a s (CallPublish d) c t on is few =
    split (nat_eq d c)
    (λ e. publish_or-open s d (scan_of s d) c t (and-right _ _ e on) is)
    (λ e. publish_or-call s d (scan_of s d) c t (other_scan d c e) is)
ongoing a s (CallDrop d) c t on is few =
    split (nat_eq d c)
    (λ e. drop_or-open s d (scan_of s d) c t (and-right _ _ e on) is)
    (λ e. drop_or-call s d (scan_of s d) c t (other_scan d c e) is)
ongoing a s (CallFind x) c t on is few = quiet-call s s c t _ refl refl is refl
ongoing a s (CallPart x) c t on is few = quiet-call s s c t _ refl refl is refl
ongoing a s (CallKind x) c t on is few = quiet-call s s c t _ refl refl is refl
ongoing a s (CallVersion x) c t on is few = quiet-call s s c t _ refl refl is refl
ongoing a s (CallFingerprint inputs) c t on is few = fingerprint-call s inputs (find (λ (k : KeptPrint). is_for_inputs inputs k.seen) s.kept) c t is

-- ---- a history

quiet-reply : (case : Case) (p : Path) (r : Reply) → is_no_memory r ≡ true → is_invalidating case p r ≡ false
quiet-reply case p Cleared e = absurd (true≢false (sym e))
quiet-reply case p (Delivered f) e = absurd (true≢false (sym e))
quiet-reply case p _ e = refl

own_read-none : (c : ℕ) (call : Call) (r : Reply) (l : Option Look) (t : PartialSnapshot) → is_no_memory r ≡ true → own_read c call r l t ≡ t
own_read-none c (CallRead d) (Saw x k n) l t e = absurd (true≢false (sym e))
own_read-none c (CallRead d) _ l t e = refl
own_read-none c _ r l t e = refl

operation-ongoing : (s : State) (o : Operation) (c : ℕ) (t : Scan) → IsAnswered s o → is_closing c o ≡ false → scan_of s c ≡ Some t → t.begun_at ≤ length s.past → IsOngoing s c t (own_step c o t.partial) (record { reply = o.reply; state = after_operation s o })
operation-ongoing s o c t answered keeps is few = by (is_no_memory o.reply) refl
  where
    by : (b : Bool) → is_no_memory o.reply ≡ b → IsOngoing s c t (own_read c o.call o.reply o.answers.look t.partial) (record { reply = o.reply; state = if b then s else (step o.answers s o.call).state })
    by true g =
        subst (λ u. IsOngoing s c t u (record { reply = o.reply; state = s })) (sym (own_read-none c o.call o.reply o.answers.look t.partial g)) (quiet-call s s c t o.reply refl refl is (quiet-reply s.case t.path o.reply g))
    by false g =
        let same = stepped s o g answered in
        subst (λ r. IsOngoing s c t (own_read c o.call r o.answers.look t.partial) (record { reply = r; state = (step o.answers s o.call).state })) (sym same)
        (ongoing o.answers s o.call c t (subst (λ r. (is_on c o.call && is_closed_by r) ≡ false) same keeps) is few)

-- the scan after the history, what was invalidated in it, and what its being overtaken says
record IsSince (s : State) (c : ℕ) (t : Scan) (h : List Operation) : Type 0 where
  scan : Scan
  is : scan_of (after s h) c ≡ Some scan
  path : scan.path ≡ t.path
  begun_at : scan.begun_at ≡ t.begun_at
  partial : scan.partial ≡ own_partial c h t.partial
  case : (after s h).case ≡ s.case
  grown : List Path
  past : (after s h).past ≡ s.past ++ grown
  overtaken : is_overtaken (after s h).case (after s h).past scan ≡ (is_overtaken s.case s.past t || is_invalidated_in s.case t.path h)

since : (s : State) (c : ℕ) (t : Scan) (h : List Operation) → AreAnswered s h → KeepsOpen c h → scan_of s c ≡ Some t → t.begun_at ≤ length s.past → IsSince s c t h
since s c t [] answered keeps is few = record { scan = t; is = is; path = refl; begun_at = refl; partial = refl; case = refl; grown = []; past = sym (append-nil s.past); overtaken = or_false _ }
since s c t (e ∷ h) answered keeps is few =
    let o = operation-ongoing s e c t answered.0 keeps.0 is few in
    let r = since (after_operation s e) c o.scan h answered.1 keeps.1 o.is (omega (arith, few, ap length o.past ∙ length-append s.past o.grown, o.begun_at)) in
    record {
      scan = r.scan;
      is = r.is;
      path = r.path ∙ o.path;
      begun_at = r.begun_at ∙ o.begun_at;
      partial = r.partial ∙ ap (own_partial c h) o.partial;
      case = r.case ∙ o.case;
      grown = o.grown ++ r.grown;
      past = r.past ∙ ap (λ l. l ++ r.grown) o.past ∙ append_assoc s.past o.grown r.grown;
      overtaken =
          r.overtaken
          ∙ (λ i. o.overtaken i || is_invalidated_in (o.case i) (o.path i) h)
          ∙ or_assoc (is_overtaken s.case s.past t) (is_invalidating s.case t.path e.reply) (is_invalidated_in s.case t.path h);
    }
  where
    or_assoc : (a b c : Bool) → ((a || b) || c) ≡ (a || (b || c))
    or_assoc true b c = refl
    or_assoc false b c = refl

set-in : (xs : List (Option Scan)) (i : ℕ) (o : Option Scan) → i < length xs → slice_get (slice_set xs i o) i ≡ Some o
set-in [] i o h = absurd (omega arith)
set-in (x ∷ xs) zero o h = refl
set-in (x ∷ xs) (suc i) o h = set-in xs i o (omega arith)

any-drop_all : (t : Path → Bool) (xs : List Path) → list_any t (drop (length xs) xs) ≡ false
any-drop_all t [] = refl
any-drop_all t (x ∷ xs) = any-drop_all t xs

-- since its begin a place related to the scan's was invalidated exactly where the scan is overtaken
pub overtaken-since : (s : State) (c : ℕ) (p : Path) (h : List Operation) → c < length s.scans → AreAnswered (after_begin s c p) h → KeepsOpen c h
    → is_scan_overtaken (after (after_begin s c p) h) (scan_of (after (after_begin s c p) h) c) ≡ is_invalidated_in s.case p h
overtaken-since s c p h few answered keeps =
    let t : Scan = record { path = p; begun_at = length s.past; partial = Unread } in
    let r = since (after_begin s c p) c t h answered keeps (ap open_scan (set-in s.scans c (Some t) few)) (omega arith) in
    ap (is_scan_overtaken (after (after_begin s c p) h)) r.is ∙ r.overtaken
    ∙ ap (λ b. b || is_invalidated_in s.case p h) (any-drop_all (λ d. is_related d (place s.case p)) s.past)

-- ---- the same by numbers

version_from-any : (n : ℕ) (es : List Path) (x : Path) → (list_any (λ e. is_related e x) es ≡ true → n < version_from n es x) × (list_any (λ e. is_related e x) es ≡ false → version_from n es x ≡ 0)
version_from-any n [] x = ((λ h. absurd (true≢false (sym h))), λ h. refl)
version_from-any n (e ∷ es) x =
    let deeper = version_from-any (n + 1) es x in
    split (is_related e x)
    (λ t. rw t ((λ h. omega arith), λ h. absurd (true≢false h)))
    (λ t. rw t ((λ h. omega (arith, deeper.0 h)), λ h. omega (arith, deeper.1 h)))

pub version_from-bound : (n : ℕ) (es : List Path) (x : Path) → version_from n es x ≤ n + length es
version_from-bound n [] x = omega arith
version_from-bound n (e ∷ es) x = split (is_related e x) (λ t. rw t (omega (arith, version_from-bound (n + 1) es x))) (λ t. rw t (omega (arith, version_from-bound (n + 1) es x)))

pub version_from-append : (n : ℕ) (es fs : List Path) (x : Path) → version_from n (es ++ fs) x ≡ max (version_from n es x) (version_from (n + length es) fs x)
version_from-append n [] fs x = rw (add-zero n) (omega arith)
version_from-append n (e ∷ es) fs x =
    let same : n + 1 + length es ≡ n + length (e ∷ es) = omega arith in
    let deeper : version_from (n + 1) (es ++ fs) x ≡ max (version_from (n + 1) es x) (version_from (n + length (e ∷ es)) fs x) =
    version_from-append (n + 1) es fs x ∙ ap (λ m. max (version_from (n + 1) es x) (version_from m fs x)) same in
    omega (arith, deeper)

-- a version is greater than it was exactly where a related place was invalidated since
pub version-later : (past since : List Path) (x : Path) → (version past x < version (past ++ since) x) ↔ (list_any (λ e. is_related e x) since ≡ true)
version-later past since x =
    let parts = version_from-any (0 + length past) since x in
    let bound = version_from-bound 0 past x in
    let sum = version_from-append 0 past since x in (
      (λ h. split (list_any (λ e. is_related e x) since) (λ t. t) (λ t. absurd (omega (arith, h, sum, parts.1 t)))),
      λ t. omega (arith, sum, bound, parts.0 t),
    )

-- what a scan in progress has read is a function of its own entries
pub partial-own : (s : State) (c : ℕ) (p : Path) (h : List Operation) → c < length s.scans → AreAnswered (after_begin s c p) h → KeepsOpen c h
    → (t : Scan) × (scan_of (after (after_begin s c p) h) c ≡ Some t) × (t.path ≡ p) × (t.partial ≡ own_partial c h Unread)
partial-own s c p h few answered keeps =
    let t : Scan = record { path = p; begun_at = length s.past; partial = Unread } in
    let r = since (after_begin s c p) c t h answered keeps (ap open_scan (set-in s.scans c (Some t) few)) (omega arith) in
    (r.scan, r.is, r.path, r.partial)

-- ---- a publish with nothing left

stale-when : (s : State) (c : ℕ) (t : Scan) (o v : Bool) → is_stale (publish_when s c t o v).reply ≡ o
stale-when s c t true v = refl
stale-when s c t false true = refl
stale-when s c t false false = refl

stale-next : (s : State) (c : ℕ) (t : Scan) (y : Option Path) → y ≡ None → is_stale (publish_next s c t y).reply ≡ is_overtaken s.case s.past t
stale-next s c t None e = stale-when s c t (is_overtaken s.case s.past t) (is_covered s.retained.pairs (place s.case t.path))
stale-next s c t (Some y) e = cc

stale-or : (s : State) (c : ℕ) (o : Option Scan) (t : Scan) → o ≡ Some t → next_left t.partial ≡ None → is_stale (publish_or s c o).reply ≡ is_scan_overtaken s o
stale-or s c None t e none = cc
stale-or s c (Some u) t e none = stale-next s c u (next_left u.partial) (ap (λ (v : Scan). next_left v.partial) (same u t e) ∙ none)
  where
    same : (u t : Scan) → Some u ≡ Some t → u ≡ t
    same u t e = cc

-- a publish is stale exactly where a reply since the begin says that a place related to its own was invalidated
pub stale-told : (a : Answers) (s : State) (c : ℕ) (p : Path) (h : List Operation) (t : Scan) → c < length s.scans → AreAnswered (after_begin s c p) h → KeepsOpen c h
    → scan_of (after (after_begin s c p) h) c ≡ Some t → next_left t.partial ≡ None → is_stale (step a (after (after_begin s c p) h) (CallPublish c)).reply ≡ is_invalidated_in s.case p h
stale-told a s c p h t few answered keeps is none =
    stale-or (after (after_begin s c p) h) c (scan_of (after (after_begin s c p) h) c) t is none ∙ overtaken-since s c p h few answered keeps

-- ---- the number of a stale publish

-- a begin of a closed scan answers the version of its path
pub begin-answers : (a : Answers) (s : State) (c : ℕ) (p : Path) → scan_of s c ≡ None → step a s (CallBegin c p) ≡ record { reply = Version (version s.past (place s.case p)); state = after_begin s c p }
begin-answers a s c p none = ap (begin_or s c p) none

stale-when-is : (s : State) (c : ℕ) (t : Scan) (o v : Bool) (n : ℕ) → (publish_when s c t o v).reply ≡ Stale n → (n ≡ version s.past (place s.case t.path)) × (o ≡ true)
stale-when-is s c t true v n e = (cc, refl)
stale-when-is s c t false true n e = cc
stale-when-is s c t false false n e = cc

stale-next-is : (s : State) (c : ℕ) (t : Scan) (y : Option Path) (n : ℕ) → (publish_next s c t y).reply ≡ Stale n → (n ≡ version s.past (place s.case t.path)) × (is_overtaken s.case s.past t ≡ true)
stale-next-is s c t (Some y) n e = cc
stale-next-is s c t None n e = stale-when-is s c t _ _ n e

stale-is : (s : State) (c : ℕ) (o : Option Scan) (t : Scan) (n : ℕ) → o ≡ Some t → (publish_or s c o).reply ≡ Stale n → (n ≡ version s.past (place s.case t.path)) × (is_overtaken s.case s.past t ≡ true)
stale-is s c None t n is e = cc
stale-is s c (Some u) t n is e = subst (λ (v : Scan). (n ≡ version s.past (place s.case v.path)) × (is_overtaken s.case s.past v ≡ true)) (same u t is) (stale-next-is s c u (next_left u.partial) n e)
  where
    same : (u t : Scan) → Some u ≡ Some t → u ≡ t
    same u t e = cc

-- a stale publish answers the version of the scan's path, and that is greater than it was at the scan's begin
pub stale-grown : (a : Answers) (s : State) (c : ℕ) (p : Path) (h : List Operation) (n : ℕ) → c < length s.scans → AreAnswered (after_begin s c p) h → KeepsOpen c h
    → (step a (after (after_begin s c p) h) (CallPublish c)).reply ≡ Stale n → (n ≡ version (after (after_begin s c p) h).past (place s.case p)) × (version s.past (place s.case p) < n)
stale-grown a s c p h n few answered keeps stale =
    let t : Scan = record { path = p; begun_at = length s.past; partial = Unread } in
    let r = since (after_begin s c p) c t h answered keeps (ap open_scan (set-in s.scans c (Some t) few)) (omega arith) in
    let e = stale-is (after (after_begin s c p) h) c (scan_of (after (after_begin s c p) h) c) r.scan n r.is stale in
    let number : n ≡ version (after (after_begin s c p) h).past (place s.case p) = e.0 ∙ (λ i. version (after (after_begin s c p) h).past (place (r.case i) (r.path i))) in
    let related : list_any (λ d. is_related d (place s.case p)) r.grown ≡ true =
    ap (list_any (λ d. is_related d (place s.case p))) (sym (drop-append_seam s.past r.grown))
    ∙ sym (λ i. list_any (λ d. is_related d (place (r.case i) (r.path i))) (drop (r.begun_at i) (r.past i)))
    ∙ e.1 in
    (number, subst (λ m. version s.past (place s.case p) < m) (sym (number ∙ ap (λ past. version past (place s.case p)) r.past)) ((version-later s.past r.grown (place s.case p)).1 related))
