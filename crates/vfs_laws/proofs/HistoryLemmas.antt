-- What holds after every legal history.
use Rattle.std.proofs.Common.{◌≡◌, ℕ, ◌≤◌, Bool, true, false, ◌&&◌, List, [], ◌∷◌, length, find, refl, Option, Some, None, nat_lt, if◌then◌else◌, subst, sym, ◌<◌, arith, ◌↔◌, ◌++◌}
use Rattle.std.specs.List.{AllByRecursion as Each}
use Rattle.vfs_model.specs.declared.Case.{Case}
use Rattle.vfs_model.specs.Paths.{Path, Name, IsShort, is_same_place, is_child}
use Rattle.vfs_model.specs.Edit.{Edit, Refusal, refusal, events}
use Rattle.vfs_model.specs.Scanning.{Scan, Look, next_left, is_overtaken, PartialSnapshot, Unread, NotThere, FileRead, DirRead, PartialChildren, NoChildren, PartialChild, next_left_in, count_left, count_left_in}
use Rattle.vfs_model.specs.State.{State, Call, CallEdit, CallEvent, CallLose, CallDeliver, CallBegin, CallRead, CallPublish, CallDrop, CallFind, CallPart, CallKind, CallVersion, CallFingerprint, Answers, AreDue, edit_answer_or, IsLookAt, IsLookFor, after_read, KeptPrint, step, scan_of, edit_by, deliver_when, deliver_first, begin_or, read_or, read_next, publish_or, publish_next, publish_when, drop_or, fingerprint_or, fingerprint_when, seen_inputs, is_for_inputs}
use Rattle.vfs_model.specs.World.{World, IsWorld}
use Rattle.vfs_model.specs.History.{IsOpening, Operation, is_no_memory, after_operation, after, IsCall, EachAt, IsAnswered, AreAnswered, IsLegalOperation, IsLegal, opening, empty_world}
use Rattle.vfs_model.specs.Fingerprint.{Input, Seen}
use Rattle.vfs_model.specs.Sound.{IsShortSlot, is_hit_in, IsCurrent, IsStillDir, IsTrueSlot, IsTrueKept, IsTrue, IsSound, IsSettled, IsScanned}
use Rattle.vfs_model.specs.Retained.{Pair, Retained, IsInShape}
use Rattle.std.proofs.lemmas.Bool.{both_ways, true≢false}
use Rattle.vfs_laws.proofs.Splits.{split_or, split_option}
use Rattle.vfs_laws.proofs.NameLemmas.{each-weaker}
use Rattle.vfs_laws.proofs.ScanningLemmas.{below_or-none}
use Rattle.vfs_laws.proofs.LimitLemmas.{step-limits}
use Rattle.vfs_laws.proofs.ShortLemmas.{step-short}
use Rattle.vfs_laws.proofs.DueLemmas.{due-shaped}
use Rattle.vfs_laws.proofs.SoundLemmas.{settled-scanned, after_event-sound, after_loss-sound, after_edit-sound, after_delivery-sound, after_clear-sound, after_close-sound, after_begin-sound, after_read-sound, after_publish-sound, after_fingerprint-sound}

edit_or-sound : (s : State) (edit : Edit) (r : Option Refusal) → refusal s.case s.world edit ≡ r → Each (λ (p : Path). length p ≤ 64) (events edit) → IsTrue s → IsTrue (edit_by s edit (edit_answer_or edit r)).state
edit_or-sound s edit (Some r) e few h = h
edit_or-sound s edit None e few h = after_edit-sound s edit e few h

deliver_first-sound : (s : State) (es : List Path) → s.pending.events ≡ es → IsTrue s → IsTrue (deliver_first s es).state
deliver_first-sound s [] e h = h
deliver_first-sound s (f ∷ es) e h = after_delivery-sound s f es e h

deliver_when-sound : (s : State) (m : Bool) → IsTrue s → IsTrue (deliver_when s m).state
deliver_when-sound s true h = after_clear-sound s h
deliver_when-sound s false h = deliver_first-sound s s.pending.events refl h

begin_or-sound : (s : State) (c : ℕ) (p : Path) (o : Option Scan) → IsTrue s → IsTrue (begin_or s c p o).state
begin_or-sound s c p (Some t) h = h
begin_or-sound s c p None h = after_begin-sound s c p h

read_next-sound : (s : State) (c : ℕ) (t : Scan) (y : Option Path) (l : Option Look) → IsLookAt s t y l → scan_of s c ≡ Some t → next_left t.partial ≡ y → IsTrue s → IsTrue (read_next s c t y l).state
read_next-sound s c t None l due is e h = h
read_next-sound s c t (Some y) None due is e h = h
read_next-sound s c t (Some y) (Some l) due is e h = subst (λ k. IsTrue (after_read s c t k)) (sym due) (after_read-sound s c t y is e h)

read_or-sound : (s : State) (c : ℕ) (o : Option Scan) (l : Option Look) → IsLookFor s o l → scan_of s c ≡ o → IsTrue s → IsTrue (read_or s c o l).state
read_or-sound s c None l due is h = h
read_or-sound s c (Some t) l due is h = read_next-sound s c t (next_left t.partial) l due is refl h

publish_when-sound : (s : State) (c : ℕ) (t : Scan) (o v : Bool) → scan_of s c ≡ Some t → next_left t.partial ≡ None → is_overtaken s.case s.past t ≡ o → IsTrue s → IsTrue (publish_when s c t o v).state
publish_when-sound s c t true v is e fresh h = after_close-sound s c h
publish_when-sound s c t false true is e fresh h = after_close-sound s c h
publish_when-sound s c t false false is e fresh h = after_publish-sound s c t is e fresh h

publish_next-sound : (s : State) (c : ℕ) (t : Scan) (y : Option Path) → scan_of s c ≡ Some t → next_left t.partial ≡ y → IsTrue s → IsTrue (publish_next s c t y).state
publish_next-sound s c t (Some y) is e h = h
publish_next-sound s c t None is e h = publish_when-sound s c t (is_overtaken s.case s.past t) _ is e refl h

publish_or-sound : (s : State) (c : ℕ) (o : Option Scan) → scan_of s c ≡ o → IsTrue s → IsTrue (publish_or s c o).state
publish_or-sound s c None is h = h
publish_or-sound s c (Some t) is h = publish_next-sound s c t (next_left t.partial) is refl h

drop_or-sound : (s : State) (c : ℕ) (o : Option Scan) → IsTrue s → IsTrue (drop_or s c o).state
drop_or-sound s c None h = h
drop_or-sound s c (Some t) h = after_close-sound s c h

fingerprint_or-sound : (s : State) (inputs : List Input) (o : Option KeptPrint) → IsTrue s → IsTrue (fingerprint_or s inputs (seen_inputs s.case s.retained.pairs inputs) o).state
fingerprint_or-sound s inputs (Some k) h = h
fingerprint_or-sound s inputs None h = by (nat_lt (length (seen_inputs s.case s.retained.pairs inputs)) (length inputs))
  where
    by : (b : Bool) → IsTrue (fingerprint_when s (seen_inputs s.case s.retained.pairs inputs) b).state
    by true = h
    by false = after_fingerprint-sound s inputs h

step-true : (a : Answers) (s : State) (call : Call) → IsCall call → AreDue s call a → IsTrue s → IsTrue (step a s call).state
step-true a s (CallEdit edit) few due h = subst (λ b. IsTrue (edit_by s edit b).state) (sym due) (edit_or-sound s edit (refusal s.case s.world edit) refl few h)
step-true a s (CallEvent e) few due h = after_event-sound s e h
step-true a s CallLose few due h = after_loss-sound s h
step-true a s CallDeliver few due h = deliver_when-sound s s.pending.mark h
step-true a s (CallBegin c p) few due h = begin_or-sound s c p (scan_of s c) h
step-true a s (CallRead c) few due h = read_or-sound s c (scan_of s c) a.look due refl h
step-true a s (CallPublish c) few due h = publish_or-sound s c (scan_of s c) refl h
step-true a s (CallDrop c) few due h = drop_or-sound s c (scan_of s c) h
step-true a s (CallFind x) few due h = h
step-true a s (CallPart x) few due h = h
step-true a s (CallKind x) few due h = h
step-true a s (CallVersion x) few due h = h
step-true a s (CallFingerprint inputs) few due h = fingerprint_or-sound s inputs (find (λ (k : KeptPrint). is_for_inputs inputs k.seen) s.kept) h

-- a step with answers that are due keeps a state sound
pub step-sound : (a : Answers) (s : State) (call : Call) → IsCall call → AreDue s call a → IsSound s → IsSound (step a s call).state
step-sound a s call few due h = record {
  limits = step-limits a s call few h.limits;
  short = step-short a s call few (due-shaped s call a few h.known.world due) h.short;
  known = step-true a s call few due h.known;
}

-- ---- histories

-- an operation that had memory has the reply of its step
pub stepped : (s : State) (o : Operation) → is_no_memory o.reply ≡ false → IsAnswered s o → o.reply ≡ (step o.answers s o.call).reply
stepped s o g answered = split_or answered (λ h. absurd (both_ways _ g (first_true _ _ h))) (λ h. h)
  where
    first_true : (a b : Bool) → (a && b) ≡ true → a ≡ true
    first_true true b h = refl
    first_true false b h = absurd (true≢false (sym h))

-- a legal operation keeps a state sound
pub after_operation-sound : (s : State) (o : Operation) → IsLegalOperation s o → IsSound s → IsSound (after_operation s o)
after_operation-sound s o legal h = by (is_no_memory o.reply) refl
  where
    by : (b : Bool) → is_no_memory o.reply ≡ b → IsSound (if b then s else (step o.answers s o.call).state)
    by true g = h
    by false g = step-sound o.answers s o.call legal.call (legal.due g) h

-- a legal history keeps a state sound
pub after-sound : (s : State) (h : List Operation) → IsLegal s h → IsSound s → IsSound (after s h)
after-sound s [] legal sound = sound
after-sound s (o ∷ h) legal sound = after-sound (after_operation s o) h legal.1 (after_operation-sound s o legal.0 sound)

-- an opening state is sound
pub opening-sound : (s : State) → IsOpening s → IsSound s
opening-sound s h = record {
  limits = h.limits;
  short = record {
    events = subst (Each IsShort) (sym h.settled.events) tt;
    scans = each-weaker _ _ (λ o e. subst IsShortSlot (sym e) tt) s.scans h.scans;
    pairs = subst (λ (r : Retained). Each (λ (p : Pair). IsShort p.path) r.pairs) (sym h.retained) tt;
    dirs = subst (λ (r : Retained). Each IsShort r.dirs) (sym h.retained) tt;
    roots = subst (Each (λ (k : KeptPrint). Each (λ (v : Seen). IsShort v.input.root) k.seen)) (sym h.kept) tt;
  };
  known = record {
    world = h.world;
    shape = subst (IsInShape s.case) (sym h.retained) (record { pairs = tt; trees = tt; dirs = tt; uncovered = tt });
    pairs = subst (λ (r : Retained). Each (IsCurrent s.case (is_hit_in s) s.world) r.pairs) (sym h.retained) tt;
    dirs = subst (λ (r : Retained). Each (IsStillDir s.case (is_hit_in s) s.world) r.dirs) (sym h.retained) tt;
    scans = each-weaker _ _ (λ o e. subst (IsTrueSlot s.case (is_hit_in s) s.world s.past) (sym e) tt) s.scans h.scans;
    kept = subst (Each (IsTrueKept s.case (is_hit_in s) s.world)) (sym h.kept) tt;
  };
}

-- after each legal history from an opening, where nothing waits, all that is known is what a scan gives
pub settled-after : (s : State) (h : List Operation) → IsOpening s → IsLegal s h → IsSettled (after s h) → IsScanned (after s h)
settled-after s h opening legal settled = settled-scanned (after s h) settled (after-sound s h legal (opening-sound s opening)).known

-- something is left exactly where there is a first location left
mutual
  count_left-none : (s : PartialSnapshot) → next_left s ≡ None → count_left s ≡ 0
  count_left-none Unread e = cc
  count_left-none NotThere e = refl
  count_left-none (FileRead bytes) e = refl
  count_left-none (DirRead partials) e = count_left_in-none partials e

  count_left_in-none : (partials : PartialChildren) → next_left_in partials ≡ None → count_left_in partials ≡ 0
  count_left_in-none NoChildren e = refl
  count_left_in-none (PartialChild n s more) e =
      let parts = below_or-none n (next_left s) (next_left_in more) e in
      let a = count_left-none s parts.0 in let b = count_left_in-none more parts.1 in
      omega arith

mutual
  count_left-some : (s : PartialSnapshot) (y : Path) → next_left s ≡ Some y → 0 < count_left s
  count_left-some Unread y e = omega arith
  count_left-some NotThere y e = cc
  count_left-some (FileRead bytes) y e = cc
  count_left-some (DirRead partials) y e = count_left_in-some partials y e

  count_left_in-some : (partials : PartialChildren) (y : Path) → next_left_in partials ≡ Some y → 0 < count_left_in partials
  count_left_in-some NoChildren y e = cc
  count_left_in-some (PartialChild n s more) y e = split_option (next_left s) (λ o. let b = count_left_in-some more y (rw o at e) in omega arith) (λ x o. let a = count_left-some s x o in omega arith)

-- nothing is left exactly where none is counted
pub unfinished : (s : PartialSnapshot) → (next_left s ≡ None) ↔ (count_left s ≡ 0)
unfinished s = (count_left-none s, λ e. split_option (next_left s) (λ o. o) (λ y o. absurd (omega (arith, count_left-some s y o))))

-- ---- the opening of the empty tree

off_root : (x : Path) (n : Name) → is_same_place [] (x ++ n ∷ []) ≡ false
off_root [] n = refl
off_root (a ∷ x) n = refl

no_child : (x : Path) → is_child x [] ≡ false
no_child [] = refl
no_child (a ∷ x) = refl

-- the tree that has only its root is a world
pub empty-is_world : (case : Case) → IsWorld case empty_world
empty-is_world case = record {
  root = refl;
  distinct = (tt, tt);
  closed = λ x n other. rw (off_root x n) refl;
  short = (omega arith, tt);
  few = λ x. rw (no_child x) (omega arith);
}

-- the opening over a world, with a capacity of 1 to 65,536, is an opening state
pub opening-is_opening : (case : Case) (capacity : ℕ) (world : World) → 1 ≤ capacity → capacity ≤ 65536 → IsWorld case world → IsOpening (opening case capacity world)
opening-is_opening case capacity world some_room room h = record { world = h; limits = record { scans = omega arith; kept = omega arith; inputs = tt; some_room = some_room; room = room; events = omega arith }; settled = record { events = refl; mark = refl }; past = refl; retained = refl; scans = (refl, (refl, (refl, (refl, (refl, (refl, (refl, (refl, (refl, (refl, (refl, (refl, (refl, (refl, (refl, (refl, tt)))))))))))))))); kept = refl }

-- ---- a history with one entry more

-- the state after one operation more
pub after-push : (s : State) (h : List Operation) (o : Operation) → after s (h ++ o ∷ []) ≡ after_operation (after s h) o
after-push s [] o = refl
after-push s (p ∷ h) o = after-push (after_operation s p) h o

-- a fact of each operation of a history, and of one operation more, is one of each of both
pub each_at-push : (fact : State → Operation → Type 0) (s : State) (h : List Operation) (o : Operation) → EachAt fact s h → fact (after s h) o → EachAt fact s (h ++ o ∷ [])
each_at-push fact s [] o each more = (more, tt)
each_at-push fact s (p ∷ h) o each more = (each.0, each_at-push fact (after_operation s p) h o each.1 more)

-- what follows from a fact of each operation is one of each
pub each_at-weaker : (fact other : State → Operation → Type 0) → ((s : State) (o : Operation) → fact s o → other s o) → (s : State) (h : List Operation) → EachAt fact s h → EachAt other s h
each_at-weaker fact other from s [] each = tt
each_at-weaker fact other from s (o ∷ h) each = (from s o each.0, each_at-weaker fact other from (after_operation s o) h each.1)

-- a legal history is answered
pub legal-answered : (s : State) (h : List Operation) → IsLegal s h → AreAnswered s h
legal-answered s h legal = each_at-weaker IsLegalOperation IsAnswered (λ s o legal. legal.answered) s h legal
