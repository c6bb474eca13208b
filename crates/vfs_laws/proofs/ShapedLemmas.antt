-- Each step keeps a state in shape, whether or not the tree tells its content.
use Rattle.std.proofs.Common.{◌≡◌, ℕ, Bool, true, false, List, [], ◌∷◌, length, drop, find, refl, sym, ap, subst, Option, Some, None, arith, nat_lt}
use Rattle.std.specs.List.{AllByRecursion as Each}
use Rattle.vfs_model.specs.declared.Case.{Case}
use Rattle.vfs_model.specs.Paths.{Path, place}
use Rattle.vfs_model.specs.Edit.{Edit}
use Rattle.vfs_model.specs.Snapshot.{Snapshot, IsTree}
use Rattle.vfs_model.specs.Retained.{Pair, part_of, IsInShape}
use Rattle.vfs_model.specs.Scanning.{Scan, Look, Unread, partial_children, partial_names, next_left, snapshot_made, IsListed, IsShallow}
use Rattle.vfs_model.specs.Fingerprint.{Input, Seen}
use Rattle.vfs_model.specs.State.{State, KeptPrint, Call, CallEdit, CallEvent, CallLose, CallDeliver, CallBegin, CallRead, CallPublish, CallDrop, CallFind, CallPart, CallKind, CallVersion, CallFingerprint, Answers, EditAnswer, Refuses, Does, step, edit_by, deliver_first, deliver_when, is_touched, with_scan, scan_of, begin_or, read_or, read_next, publish_or, publish_next, publish_when, drop_or, seen_or, seen_inputs, fingerprint_or, fingerprint_when, is_for_inputs}
use Rattle.vfs_model.specs.Sound.{IsLookBelow, IsLookOf, AreShapedAnswers, IsShapedScan, IsShapedSlot, IsShapedPrint, IsShaped, IsTrueSlot, IsSound, is_hit_in}
use Rattle.vfs_model.specs.History.{IsCall}
use Rattle.vfs_laws.proofs.NameLemmas.{each-weaker}
use Rattle.vfs_laws.proofs.RetainedLemmas.{tree-sub, each-filter}
use Rattle.vfs_laws.proofs.FindLemmas.{part-from}
use Rattle.vfs_laws.proofs.WorldLemmas.{length-place}
use Rattle.vfs_laws.proofs.ScanningLemmas.{partial_at-unread, look-partial, after_look-listed, after_look-deep, snapshot_made-tree}
use Rattle.vfs_laws.proofs.ContentsLemmas.{after_read-adds}
use Rattle.vfs_laws.proofs.ShapeLemmas.{after_invalidation-in_shape, after_store-in_shape}
use Rattle.vfs_laws.proofs.SoundLemmas.{each-set, slot-true}
use Rattle.vfs_laws.proofs.LimitLemmas.{step-limits, each-with_kept}
use Rattle.vfs_laws.proofs.ShortLemmas.{step-short}

-- all of the shape but the limits and the paths
abbrev Shape : State → Type 0
Shape s = IsInShape s.case s.retained × Each (IsShapedSlot s.case) s.scans × Each (IsShapedPrint s.case) s.kept

edit-shape : (s : State) (edit : Edit) (a : EditAnswer) → Shape s → Shape (edit_by s edit a).state
edit-shape s edit (Refuses r) h = h
edit-shape s edit (Does told) h = h

deliver_first-shape : (s : State) (es : List Path) → Shape s → Shape (deliver_first s es).state
deliver_first-shape s [] h = h
deliver_first-shape s (e ∷ es) h = (after_invalidation-in_shape s.case (place s.case e) s.retained h.0, h.1, each-weaker _ _ (λ k b. b.0) _ (each-filter (IsShapedPrint s.case) (λ k. Rattle.std.specs.Prelude.not (is_touched s.case (place s.case e) k)) s.kept h.2))

deliver-shape : (s : State) (m : Bool) → Shape s → Shape (deliver_when s m).state
deliver-shape s true h = (record { pairs = tt; trees = tt; dirs = tt; uncovered = tt }, h.1, tt)
deliver-shape s false h = deliver_first-shape s s.pending.events h

slot-shape : (s : State) (c : ℕ) (o : Option Scan) → IsShapedSlot s.case o → Shape s → Shape (with_scan s c o)
slot-shape s c o t h = (h.0, each-set (IsShapedSlot s.case) s.scans c o t h.1, h.2)

after_begin-shape : (case : Case) (p : Path) (n : ℕ) → IsShapedScan case (record { path = p; begun_at = n; partial = Unread })
after_begin-shape case p n = record {
  partial = λ x. subst (λ t. IsListed case (partial_names (partial_children t))) (sym (partial_at-unread case x)) (record { order = tt; few = omega arith });
  shallow = λ x deep. ap (λ t. partial_names (partial_children t)) (partial_at-unread case x);
  front = tt;
}

begin-shape : (s : State) (c : ℕ) (p : Path) (o : Option Scan) → Shape s → Shape (begin_or s c p o).state
begin-shape s c p (Some t) h = h
begin-shape s c p None h = slot-shape s c _ (after_begin-shape s.case p (length s.past)) h

read_next-shape : (s : State) (c : ℕ) (t : Scan) (y : Option Path) (l : Option Look) → IsLookBelow s.case t.path y l → scan_of s c ≡ Some t → next_left t.partial ≡ y → Shape s → Shape (read_next s c t y l).state
read_next-shape s c t None l looks is e h = h
read_next-shape s c t (Some y) None looks is e h = h
read_next-shape s c t (Some y) (Some l) looks is e h =
    let old = slot-true (IsShapedSlot s.case) s.scans c t h.1 is in
    slot-shape s c _ (record {
      partial = after_look-listed s.case l t.partial y (look-partial s.case l looks.listed) old.partial e;
      shallow = after_look-deep s.case l (length t.path) t.partial y (λ deep. looks.shallow (omega (arith, deep, length-place s.case y))) old.partial e old.shallow;
      front = (after_read-adds l t.partial y old.front e).1;
    }) h

after_read-shape : (s : State) (c : ℕ) (o : Option Scan) (l : Option Look) → IsLookOf s.case o l → scan_of s c ≡ o → Shape s → Shape (read_or s c o l).state
after_read-shape s c None l looks is h = h
after_read-shape s c (Some t) l looks is h = read_next-shape s c t (next_left t.partial) l looks is refl h

publish_when-shape : (s : State) (c : ℕ) (t : Scan) (o v : Bool) → scan_of s c ≡ Some t → next_left t.partial ≡ None → Shape s → Shape (publish_when s c t o v).state
publish_when-shape s c t true v is e h = slot-shape s c None tt h
publish_when-shape s c t false true is e h = slot-shape s c None tt h
publish_when-shape s c t false false is e h =
    let old = slot-true (IsShapedSlot s.case) s.scans c t h.1 is in
    (after_store-in_shape s.case (place s.case t.path) (snapshot_made t.partial) s.retained (snapshot_made-tree s.case t.partial old.partial e) h.0, each-set (IsShapedSlot s.case) s.scans c None tt h.1, h.2)

publish_next-shape : (s : State) (c : ℕ) (t : Scan) (y : Option Path) → scan_of s c ≡ Some t → next_left t.partial ≡ y → Shape s → Shape (publish_next s c t y).state
publish_next-shape s c t (Some y) is e h = h
publish_next-shape s c t None is e h = publish_when-shape s c t _ _ is e h

publish-shape : (s : State) (c : ℕ) (o : Option Scan) → scan_of s c ≡ o → Shape s → Shape (publish_or s c o).state
publish-shape s c None is h = h
publish-shape s c (Some t) is h = publish_next-shape s c t (next_left t.partial) is refl h

drop-shape : (s : State) (c : ℕ) (o : Option Scan) → Shape s → Shape (drop_or s c o).state
drop-shape s c None h = h
drop-shape s c (Some t) h = slot-shape s c None tt h

seen-trees : (case : Case) (pairs : List Pair) (inputs : List Input) → Each (λ (r : Pair). IsTree case r.snapshot) pairs → Each (λ (v : Seen). IsTree case v.snapshot) (seen_inputs case pairs inputs)
seen-trees case pairs [] h = tt
seen-trees case pairs (i ∷ more) h = by (part_of case pairs (place case i.root)) refl (seen-trees case pairs more h)
  where
    by : (o : Option Snapshot) → part_of case pairs (place case i.root) ≡ o → Each (λ (v : Seen). IsTree case v.snapshot) (seen_inputs case pairs more) → Each (λ (v : Seen). IsTree case v.snapshot) (seen_or i o (seen_inputs case pairs more))
    by None is rest = tt
    by (Some f) is rest =
        let from = part-from case (λ (r : Pair). IsTree case r.snapshot) pairs (place case i.root) f h is in
        (subst (IsTree case) from.part (tree-sub case from.pair.snapshot (drop (length from.pair.path) (place case i.root)) from.holds), rest)

fingerprint-shape : (s : State) (inputs : List Input) (o : Option KeptPrint) → Shape s → Shape (fingerprint_or s inputs (seen_inputs s.case s.retained.pairs inputs) o).state
fingerprint-shape s inputs (Some k) h = h
fingerprint-shape s inputs None h = by (nat_lt (length (seen_inputs s.case s.retained.pairs inputs)) (length inputs))
  where
    by : (b : Bool) → Shape (fingerprint_when s (seen_inputs s.case s.retained.pairs inputs) b).state
    by true = h
    by false = (h.0, h.1, each-with_kept (IsShapedPrint s.case) s.kept _ h.2 (record { digest = refl; trees = seen-trees s.case s.retained.pairs inputs h.0.trees }))

step-shape : (a : Answers) (s : State) (call : Call) → AreShapedAnswers s call a → Shape s → Shape (step a s call).state
step-shape a s (CallEdit edit) told h = edit-shape s edit a.edit h
step-shape a s (CallEvent e) told h = h
step-shape a s CallLose told h = h
step-shape a s CallDeliver told h = deliver-shape s s.pending.mark h
step-shape a s (CallBegin c p) told h = begin-shape s c p (scan_of s c) h
step-shape a s (CallRead c) told h = after_read-shape s c (scan_of s c) a.look told refl h
step-shape a s (CallPublish c) told h = publish-shape s c (scan_of s c) refl h
step-shape a s (CallDrop c) told h = drop-shape s c (scan_of s c) h
step-shape a s (CallFind x) told h = h
step-shape a s (CallPart x) told h = h
step-shape a s (CallKind x) told h = h
step-shape a s (CallVersion x) told h = h
step-shape a s (CallFingerprint inputs) told h = fingerprint-shape s inputs (find (λ (k : KeptPrint). is_for_inputs inputs k.seen) s.kept) h

-- a step whose answers are in shape keeps a state in shape
pub step-shaped : (a : Answers) (s : State) (call : Call) → IsCall call → AreShapedAnswers s call a → IsShaped s → IsShaped (step a s call).state
step-shaped a s call few told h =
    let t = step-shape a s call told (h.shape, h.scans, h.kept) in
    record { limits = step-limits a s call few h.limits; short = step-short a s call few told h.short; shape = t.0; scans = t.1; kept = t.2 }

-- a sound state is in shape
pub sound-shaped : (s : State) → IsSound s → IsShaped s
sound-shaped s h = record {
  limits = h.limits;
  short = h.short;
  shape = h.shape;
  scans = each-weaker _ _ slot s.scans h.scans;
  kept = each-weaker _ _ (λ k t. record { digest = t.digest; trees = t.trees }) s.kept h.kept;
}
  where
    slot : (o : Option Scan) → IsTrueSlot s.case (is_hit_in s) s.world s.past o → IsShapedSlot s.case o
    slot None t = tt
    slot (Some scan) t = record { partial = t.partial; shallow = subst (λ n. IsShallow s.case n scan.partial) (length-place s.case scan.path) t.shallow; front = t.front }
