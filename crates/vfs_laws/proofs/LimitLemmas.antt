-- Each step keeps a state within its limits.
use Rattle.std.proofs.Common.{◌≡◌, ℕ, zero, suc, ◌+◌, ◌≤◌, Bool, true, false, List, [], ◌∷◌, length, drop, filter, find, refl, subst, sym, Option, Some, None, arith, length-append, length-drop, slice_set, nat_le, nat_lt, if◌then◌else◌}
use Rattle.std.proofs.lemmas.Bool.{ltb-true, ltb-false, leb-false}
use Rattle.vfs_model.specs.Paths.{Path, place}
use Rattle.vfs_model.specs.Edit.{Edit}
use Rattle.vfs_model.specs.Pending.{Pending, has_room, put, put_all}
use Rattle.vfs_model.specs.Scanning.{Scan, Look, next_left}
use Rattle.vfs_model.specs.Fingerprint.{Input, Seen}
use Rattle.vfs_model.specs.State.{State, KeptPrint, Call, CallEdit, CallEvent, CallLose, CallDeliver, CallBegin, CallRead, CallPublish, CallDrop, CallFind, CallPart, CallKind, CallVersion, CallFingerprint, step, after_edit, edit_by, EditAnswer, Refuses, Does, Answers, after_event, after_loss, after_clear, after_delivery, deliver_first, deliver_when, with_scan, scan_of, begin_or, read_or, read_next, publish_or, publish_next, publish_when, drop_or, with_kept, fingerprint_or, fingerprint_when, seen_or, seen_inputs, is_for_inputs}
use Rattle.vfs_model.specs.Sound.{IsInputCount, IsInLimits}
use Rattle.vfs_model.specs.History.{IsCall, AreInputs}
use Rattle.vfs_model.specs.Retained.{Pair, part_of}
use Rattle.vfs_model.specs.declared.Case.{Case}
use Rattle.vfs_model.specs.Snapshot.{Snapshot}
use Rattle.std.specs.List.{AllByRecursion as Each}
use Rattle.vfs_laws.proofs.NameLemmas.{each-weaker}
use Rattle.vfs_laws.proofs.RetainedLemmas.{each-filter, each-append, each-drop}
use Rattle.vfs_laws.proofs.Splits.{split}

length-filter_le : {X : Type 0} (t : X → Bool) (xs : List X) → length (filter t xs) ≤ length xs
length-filter_le t [] = omega arith
length-filter_le t (x ∷ xs) = split (t x) (λ h. rw h (omega (arith, length-filter_le t xs))) (λ h. rw h (omega (arith, length-filter_le t xs)))

length-slice_set : {X : Type 0} (xs : List X) (i : ℕ) (x : X) → length (slice_set xs i x) ≡ length xs
length-slice_set [] i x = refl
length-slice_set (y ∷ xs) zero x = omega arith
length-slice_set (y ∷ xs) (suc i) x = omega (arith, length-slice_set xs i x)

record IsWithin (capacity : ℕ) (p : Pending) : Type 0 where
  same : p.capacity ≡ capacity
  events : length p.events ≤ capacity

put-within : (c : ℕ) (e : Path) (p : Pending) → IsWithin c p → IsWithin c (put e p)
put-within c e p h =
    split (has_room p)
    (λ t. rw t (record { same = h.same; events = omega (arith, length-append p.events (e ∷ []), room p t, h.same) }))
    (λ t. rw t (record { same = h.same; events = omega arith }))
  where
    room : (p : Pending) → has_room p ≡ true → length p.events + 1 ≤ p.capacity
    room p t = let few = ltb-true (length p.events) p.capacity t in omega (arith, few)

put_all-within : (c : ℕ) (es : List Path) (p : Pending) → IsWithin c p → IsWithin c (put_all es p)
put_all-within c [] p h = h
put_all-within c (e ∷ es) p h = put_all-within c es (put e p) (put-within c e p h)

queue-within : (s : State) → IsInLimits s → IsWithin s.pending.capacity s.pending
queue-within s h = record { same = refl; events = h.events }

-- the new pending has the same capacity, and as many events at most
with_pending : (s new : State) → new.scans ≡ s.scans → length new.kept ≤ length s.kept → Each (λ (k : KeptPrint). IsInputCount (length k.seen)) new.kept → IsWithin s.pending.capacity new.pending → IsInLimits s → IsInLimits new
with_pending s new scans kept counts f h = record {
  scans = subst (λ l. length l ≡ 16) (sym scans) h.scans;
  kept = omega (arith, kept, h.kept);
  inputs = counts;
  some_room = omega (arith, f.same, h.some_room);
  room = omega (arith, f.same, h.room);
  events = omega (arith, f.same, f.events);
}

edit-limits : (s : State) (edit : Edit) (a : EditAnswer) → IsInLimits s → IsInLimits (edit_by s edit a).state
edit-limits s edit (Refuses r) h = h
edit-limits s edit (Does told) h = with_pending s (after_edit s edit told) refl (omega arith) h.inputs (put_all-within _ told s.pending (queue-within s h)) h

deliver_first-limits : (s : State) (es : List Path) → s.pending.events ≡ es → IsInLimits s → IsInLimits (deliver_first s es).state
deliver_first-limits s [] is h = h
deliver_first-limits s (e ∷ es) is h =
    with_pending s (after_delivery s e es) refl (length-filter_le _ s.kept) (each-weaker _ _ (λ k b. b.0) _ (each-filter (λ (k : KeptPrint). IsInputCount (length k.seen)) _ s.kept h.inputs)) (record { same = refl; events = fewer (subst (λ l. length l ≤ s.pending.capacity) is h.events) }) h
  where
    fewer : length (e ∷ es) ≤ s.pending.capacity → length es ≤ s.pending.capacity
    fewer t = omega (arith, t)

deliver-limits : (s : State) (m : Bool) → IsInLimits s → IsInLimits (deliver_when s m).state
deliver-limits s true h = with_pending s (after_clear s) refl (omega arith) tt (record { same = refl; events = h.events }) h
deliver-limits s false h = deliver_first-limits s s.pending.events refl h

slot-limits : (s : State) (c : ℕ) (o : Option Scan) → IsInLimits s → IsInLimits (with_scan s c o)
slot-limits s c o h = record { scans = omega (arith, length-slice_set s.scans c o, h.scans); kept = h.kept; inputs = h.inputs; some_room = h.some_room; room = h.room; events = h.events }

begin-limits : (s : State) (c : ℕ) (p : Path) (o : Option Scan) → IsInLimits s → IsInLimits (begin_or s c p o).state
begin-limits s c p (Some t) h = h
begin-limits s c p None h = slot-limits s c _ h

read_next-limits : (s : State) (c : ℕ) (t : Scan) (y : Option Path) (l : Option Look) → IsInLimits s → IsInLimits (read_next s c t y l).state
read_next-limits s c t None l h = h
read_next-limits s c t (Some y) None h = h
read_next-limits s c t (Some y) (Some l) h = slot-limits s c _ h

after_read-limits : (s : State) (c : ℕ) (o : Option Scan) (l : Option Look) → IsInLimits s → IsInLimits (read_or s c o l).state
after_read-limits s c None l h = h
after_read-limits s c (Some t) l h = read_next-limits s c t (next_left t.partial) l h

publish_when-limits : (s : State) (c : ℕ) (t : Scan) (o v : Bool) → IsInLimits s → IsInLimits (publish_when s c t o v).state
publish_when-limits s c t true v h = slot-limits s c None h
publish_when-limits s c t false true h = slot-limits s c None h
publish_when-limits s c t false false h = record { scans = omega (arith, length-slice_set s.scans c None, h.scans); kept = h.kept; inputs = h.inputs; some_room = h.some_room; room = h.room; events = h.events }

publish_next-limits : (s : State) (c : ℕ) (t : Scan) (y : Option Path) → IsInLimits s → IsInLimits (publish_next s c t y).state
publish_next-limits s c t (Some y) h = h
publish_next-limits s c t None h = publish_when-limits s c t _ _ h

publish-limits : (s : State) (c : ℕ) (o : Option Scan) → IsInLimits s → IsInLimits (publish_or s c o).state
publish-limits s c None h = h
publish-limits s c (Some t) h = publish_next-limits s c t (next_left t.partial) h

drop-limits : (s : State) (c : ℕ) (o : Option Scan) → IsInLimits s → IsInLimits (drop_or s c o).state
drop-limits s c None h = h
drop-limits s c (Some t) h = slot-limits s c None h

length-with_kept : (ks : List KeptPrint) (k : KeptPrint) → length ks ≤ 64 → length (with_kept ks k) ≤ 64
length-with_kept ks k few =
    split (nat_le 64 (length ks))
    (λ t. rw t (omega (arith, length-append (drop 1 ks) (k ∷ []), length-drop 1 ks, few)))
    (λ t. rw t (let few = leb-false 64 (length ks) t in omega (arith, length-append ks (k ∷ []), few)))

seen_or-count : (i : Input) (o : Option Snapshot) (more : List Seen) (n : ℕ) → length more ≤ n → length (seen_or i o more) ≤ n + 1
seen_or-count i None more n h = omega arith
seen_or-count i (Some f) more n h = omega (arith, h)

seen_inputs-count : (case : Case) (pairs : List Pair) (inputs : List Input) → length (seen_inputs case pairs inputs) ≤ length inputs
seen_inputs-count case pairs [] = omega arith
seen_inputs-count case pairs (i ∷ more) =
    let h = seen_or-count i (part_of case pairs (place case i.root)) (seen_inputs case pairs more) (length more) (seen_inputs-count case pairs more) in
    omega (arith, h)

-- what holds of each kept fingerprint and of the new one holds of those kept then
pub each-with_kept : (P : KeptPrint → Type 0) (ks : List KeptPrint) (k : KeptPrint) → Each P ks → P k → Each P (with_kept ks k)
each-with_kept P ks k h one = each-append P (if nat_le 64 (length ks) then drop 1 ks else ks) _ (split (nat_le 64 (length ks)) (λ e. rw e (each-drop P 1 ks h)) (λ e. rw e h)) (one, tt)

fingerprint-limits : (s : State) (inputs : List Input) (o : Option KeptPrint) → AreInputs inputs → IsInLimits s → IsInLimits (fingerprint_or s inputs (seen_inputs s.case s.retained.pairs inputs) o).state
fingerprint-limits s inputs (Some k) few h = h
fingerprint-limits s inputs None few h = by (nat_lt (length seen) (length inputs)) refl
  where
    seen : List Seen
    seen = seen_inputs s.case s.retained.pairs inputs

    by : (b : Bool) → nat_lt (length seen) (length inputs) ≡ b → IsInLimits (fingerprint_when s seen b).state
    by true e = h
    by false e =
        let all = ltb-false (length seen) (length inputs) e in
        let count = seen_inputs-count s.case s.retained.pairs inputs in
        record {
          scans = h.scans;
          kept = length-with_kept s.kept _ h.kept;
          inputs = each-with_kept _ s.kept _ h.inputs (record { some = omega (arith, all, few.some); few = omega (arith, count, few.few) });
          some_room = h.some_room;
          room = h.room;
          events = h.events;
        }

-- a step keeps a state within its limits
pub step-limits : (a : Answers) (s : State) (call : Call) → IsCall call → IsInLimits s → IsInLimits (step a s call).state
step-limits a s (CallEdit edit) few h = edit-limits s edit a.edit h
step-limits a s (CallEvent e) few h = with_pending s (after_event s e) refl (omega arith) h.inputs (put-within _ e s.pending (queue-within s h)) h
step-limits a s CallLose few h = with_pending s (after_loss s) refl (omega arith) h.inputs (record { same = refl; events = omega arith }) h
step-limits a s CallDeliver few h = deliver-limits s s.pending.mark h
step-limits a s (CallBegin c p) few h = begin-limits s c p (scan_of s c) h
step-limits a s (CallRead c) few h = after_read-limits s c (scan_of s c) a.look h
step-limits a s (CallPublish c) few h = publish-limits s c (scan_of s c) h
step-limits a s (CallDrop c) few h = drop-limits s c (scan_of s c) h
step-limits a s (CallFind x) few h = h
step-limits a s (CallPart x) few h = h
step-limits a s (CallKind x) few h = h
step-limits a s (CallVersion x) few h = h
step-limits a s (CallFingerprint inputs) few h = fingerprint-limits s inputs (find (λ (k : KeptPrint). is_for_inputs inputs k.seen) s.kept) few h
