-- No step brings in a path of more than 64 names.
use Rattle.std.proofs.Common.{◌≡◌, ℕ, suc, ◌+◌, ◌≤◌, Bool, true, false, List, [], ◌∷◌, ◌++◌, length, drop, map, filter, find, refl, Option, Some, None, arith, length-append, length-drop, nat_lt}
use Rattle.std.specs.List.{AllByRecursion as Each}
use Rattle.vfs_model.specs.declared.Case.{Case}
use Rattle.vfs_model.specs.Paths.{Name, Path, IsShort, place, folded_name, is_same_name, is_at_or_above}
use Rattle.vfs_model.specs.Snapshot.{Snapshot, Missing, File, Dir, Children, Nothing, Child, child, children_of}
use Rattle.vfs_model.specs.Retained.{Pair, part_of, pieces_beside, pieces, dirs_from, pairs_left, dirs_left, all_pairs_left, all_dirs_left, is_covered, ancestors, known_above}
use Rattle.vfs_model.specs.Pending.{Pending, has_room, put, put_all}
use Rattle.vfs_model.specs.Edit.{Edit}
use Rattle.vfs_model.specs.Scanning.{Scan, Look, next_left, snapshot_made}
use Rattle.vfs_model.specs.Fingerprint.{Input, Seen}
use Rattle.vfs_model.specs.State.{State, KeptPrint, Call, CallEdit, CallEvent, CallLose, CallDeliver, CallBegin, CallRead, CallPublish, CallDrop, CallFind, CallPart, CallKind, CallVersion, CallFingerprint, Answers, EditAnswer, Refuses, Does, step, edit_by, deliver_first, deliver_when, with_scan, scan_of, begin_or, read_or, read_next, publish_or, publish_next, publish_when, drop_or, seen_or, seen_inputs, fingerprint_or, fingerprint_when, is_for_inputs}
use Rattle.vfs_model.specs.Sound.{AreShortEvents, AreShapedAnswers, IsShortSlot, HasShortPaths}
use Rattle.vfs_model.specs.History.{AreInputs, IsCall}
use Rattle.vfs_laws.proofs.Splits.{split}
use Rattle.vfs_laws.proofs.NameLemmas.{each-weaker}
use Rattle.vfs_laws.proofs.RetainedLemmas.{each-append, each-filter, each-insert_pair, each-insert_dirs}
use Rattle.vfs_laws.proofs.WorldLemmas.{length-place}
use Rattle.vfs_laws.proofs.SoundLemmas.{each-set, slot-true}
use Rattle.vfs_laws.proofs.LimitLemmas.{each-with_kept}

-- the pair's path is short
abbrev IsShortPair : Pair → Type 0
IsShortPair r = IsShort r.path

-- the roots beside a kept fingerprint are short
abbrev HasShortRoots : KeptPrint → Type 0
HasShortRoots k = Each (λ (v : Seen). IsShort v.input.root) k.seen

-- a filter leaves what holds of each
each-left : {X : Type 0} (P : X → Type 0) (t : X → Bool) (xs : List X) → Each P xs → Each P (filter t xs)
each-left P t xs h = each-weaker _ _ (λ x b. b.0) _ (each-filter P t xs h)

place-short : (case : Case) (p : Path) → IsShort p → IsShort (place case p)
place-short case p few = omega (arith, length-place case p, few)

-- ---- an invalidation

pieces_beside-short : (case : Case) (p : Path) (cs : Children) (n : Name) (inner : List Pair) → length p + 1 ≤ 64 → Each IsShortPair inner → Each IsShortPair (pieces_beside case p cs n inner)
pieces_beside-short case p Nothing n inner few h = tt
pieces_beside-short case p (Child name s more) n inner few h =
    let rest = pieces_beside-short case p more n inner few h in
    split (is_same_name (folded_name case name) n)
    (λ e. rw e (each-append IsShortPair inner _ h rest))
    (λ e. rw e (omega (arith, length-append p (folded_name case name ∷ []), few), rest))

-- the pieces beside the way to a short place are short
pieces-short : (case : Case) (p : Path) (s : Snapshot) (x : Path) → length p + length x ≤ 64 → Each IsShortPair (pieces case p s x)
pieces-short case p s [] few = tt
pieces-short case p s (n ∷ x) few =
    pieces_beside-short case p (children_of s) n _ (omega (arith, few))
    (pieces-short case (p ++ n ∷ []) (child case (children_of s) n) x (omega (arith, length-append p (n ∷ []), few)))

dirs_from-short : (case : Case) (p : Path) (s : Snapshot) (x : Path) → length p + length x ≤ 64 → Each IsShort (dirs_from case p s x)
dirs_from-short case p s [] few = tt
dirs_from-short case p Missing (n ∷ x) few = tt
dirs_from-short case p (File digest) (n ∷ x) few = tt
dirs_from-short case p (Dir children) (n ∷ x) few =
    (omega (arith, few), dirs_from-short case (p ++ n ∷ []) (child case children n) x (omega (arith, length-append p (n ∷ []), few)))

-- the names of a place below another are no more than those of the place
rest-short : (p e : Path) → IsShort p → IsShort e → length p + length (drop (length p) e) ≤ 64
rest-short p e a b = omega (arith, length-drop (length p) e, a, b)

pairs_left-short : (case : Case) (e : Path) (r : Pair) → IsShort e → IsShortPair r → Each IsShortPair (pairs_left case e r)
pairs_left-short case e r few h =
    split (is_at_or_above e r.path)
    (λ t. rw t tt)
    (λ t. rw t (split (is_at_or_above r.path e) (λ u. rw u (pieces-short case r.path r.snapshot _ (rest-short r.path e h few))) (λ u. rw u (h, tt))))

dirs_left-short : (case : Case) (e : Path) (r : Pair) → IsShort e → IsShortPair r → Each IsShort (dirs_left case e r)
dirs_left-short case e r few h = split (is_at_or_above r.path e) (λ u. rw u (dirs_from-short case r.path r.snapshot _ (rest-short r.path e h few))) (λ u. rw u tt)

all_pairs_left-short : (case : Case) (e : Path) (rs : List Pair) → IsShort e → Each IsShortPair rs → Each IsShortPair (all_pairs_left case e rs)
all_pairs_left-short case e [] few h = tt
all_pairs_left-short case e (r ∷ rs) few h = each-append IsShortPair (pairs_left case e r) _ (pairs_left-short case e r few h.0) (all_pairs_left-short case e rs few h.1)

all_dirs_left-short : (case : Case) (e : Path) (rs : List Pair) (ds : List Path) → IsShort e → Each IsShortPair rs → Each IsShort ds → Each IsShort (all_dirs_left case e rs ds)
all_dirs_left-short case e [] ds few h k = each-left IsShort _ ds k
all_dirs_left-short case e (r ∷ rs) ds few h k = each-insert_dirs IsShort (dirs_left case e r) _ (dirs_left-short case e r few h.0) (all_dirs_left-short case e rs ds few h.1 k)

-- ---- a store

map-short : (k : ℕ) (n : Name) (ds : List Path) → Each (λ (d : Path). length d ≤ k) ds → Each (λ (d : Path). length d ≤ suc k) (map (λ d. n ∷ d) ds)
map-short k n [] h = tt
map-short k n (d ∷ ds) h = (omega (arith, h.0), map-short k n ds h.1)

ancestors-above : (p : Path) → Each (λ (d : Path). length d ≤ length p) (ancestors p)
ancestors-above [] = tt
ancestors-above (n ∷ x) = (omega arith, map-short (length x) n (ancestors x) (ancestors-above x))

ancestors-short : (p : Path) → IsShort p → Each IsShort (ancestors p)
ancestors-short p few = each-weaker _ _ (λ d h. omega (arith, few, h)) _ (ancestors-above p)

known_above-short : (p : Path) (s : Snapshot) → IsShort p → Each IsShort (known_above p s)
known_above-short p Missing few = tt
known_above-short p (File digest) few = ancestors-short p few
known_above-short p (Dir children) few = ancestors-short p few

-- ---- the queue

put-short : (e : Path) (p : Pending) → IsShort e → Each IsShort p.events → Each IsShort (put e p).events
put-short e p few h = split (has_room p) (λ t. rw t (each-append IsShort p.events _ h (few, tt))) (λ t. rw t tt)

put_all-short : (es : List Path) (p : Pending) → Each IsShort es → Each IsShort p.events → Each IsShort (put_all es p).events
put_all-short [] p few h = h
put_all-short (e ∷ es) p few h = put_all-short es (put e p) few.1 (put-short e p few.0 h)

-- ---- each call

edit-short : (s : State) (edit : Edit) (a : EditAnswer) → AreShortEvents a → HasShortPaths s → HasShortPaths (edit_by s edit a).state
edit-short s edit (Refuses r) few h = h
edit-short s edit (Does told) few h = record { events = put_all-short told s.pending few h.events; scans = h.scans; pairs = h.pairs; dirs = h.dirs; roots = h.roots }

deliver_first-short : (s : State) (es : List Path) → Each IsShort es → HasShortPaths s → HasShortPaths (deliver_first s es).state
deliver_first-short s [] few h = h
deliver_first-short s (e ∷ es) few h =
    let at : IsShort (place s.case e) = place-short s.case e few.0 in
    record {
      events = few.1;
      scans = h.scans;
      pairs = all_pairs_left-short s.case _ s.retained.pairs at h.pairs;
      dirs = all_dirs_left-short s.case _ s.retained.pairs s.retained.dirs at h.pairs h.dirs;
      roots = each-left HasShortRoots _ s.kept h.roots;
    }

deliver-short : (s : State) (m : Bool) → HasShortPaths s → HasShortPaths (deliver_when s m).state
deliver-short s true h = record { events = h.events; scans = h.scans; pairs = tt; dirs = tt; roots = tt }
deliver-short s false h = deliver_first-short s s.pending.events h.events h

slot-short : (s : State) (c : ℕ) (o : Option Scan) → IsShortSlot o → HasShortPaths s → HasShortPaths (with_scan s c o)
slot-short s c o few h = record { events = h.events; scans = each-set IsShortSlot s.scans c o few h.scans; pairs = h.pairs; dirs = h.dirs; roots = h.roots }

begin-short : (s : State) (c : ℕ) (p : Path) (o : Option Scan) → IsShort p → HasShortPaths s → HasShortPaths (begin_or s c p o).state
begin-short s c p (Some t) few h = h
begin-short s c p None few h = slot-short s c _ few h

read_next-short : (s : State) (c : ℕ) (t : Scan) (y : Option Path) (l : Option Look) → IsShort t.path → HasShortPaths s → HasShortPaths (read_next s c t y l).state
read_next-short s c t None l few h = h
read_next-short s c t (Some y) None few h = h
read_next-short s c t (Some y) (Some l) few h = slot-short s c _ few h

after_read-short : (s : State) (c : ℕ) (o : Option Scan) (l : Option Look) → scan_of s c ≡ o → HasShortPaths s → HasShortPaths (read_or s c o l).state
after_read-short s c None l is h = h
after_read-short s c (Some t) l is h = read_next-short s c t (next_left t.partial) l (slot-true IsShortSlot s.scans c t h.scans is) h

publish_when-short : (s : State) (c : ℕ) (t : Scan) (o v : Bool) → is_covered s.retained.pairs (place s.case t.path) ≡ v → IsShort t.path → HasShortPaths s → HasShortPaths (publish_when s c t o v).state
publish_when-short s c t true v e few h = slot-short s c None tt h
publish_when-short s c t false true e few h = slot-short s c None tt h
publish_when-short s c t false false e few h =
    let at : IsShort (place s.case t.path) = place-short s.case t.path few in
    record {
      events = h.events;
      scans = each-set IsShortSlot s.scans c None tt h.scans;
      pairs = rw e (each-insert_pair IsShortPair _ _ at (each-left IsShortPair _ s.retained.pairs h.pairs));
      dirs = rw e (each-insert_dirs IsShort (known_above (place s.case t.path) (snapshot_made t.partial)) _ (known_above-short _ _ at) (each-left IsShort _ s.retained.dirs h.dirs));
      roots = h.roots;
    }

publish_next-short : (s : State) (c : ℕ) (t : Scan) (y : Option Path) → IsShort t.path → HasShortPaths s → HasShortPaths (publish_next s c t y).state
publish_next-short s c t (Some y) few h = h
publish_next-short s c t None few h = publish_when-short s c t _ _ refl few h

publish-short : (s : State) (c : ℕ) (o : Option Scan) → scan_of s c ≡ o → HasShortPaths s → HasShortPaths (publish_or s c o).state
publish-short s c None is h = h
publish-short s c (Some t) is h = publish_next-short s c t (next_left t.partial) (slot-true IsShortSlot s.scans c t h.scans is) h

drop-short : (s : State) (c : ℕ) (o : Option Scan) → HasShortPaths s → HasShortPaths (drop_or s c o).state
drop-short s c None h = h
drop-short s c (Some t) h = slot-short s c None tt h

seen_or-short : (i : Input) (o : Option Snapshot) (more : List Seen) → IsShort i.root → Each (λ (v : Seen). IsShort v.input.root) more → Each (λ (v : Seen). IsShort v.input.root) (seen_or i o more)
seen_or-short i None more few h = tt
seen_or-short i (Some s) more few h = (few, h)

seen_inputs-short : (case : Case) (rs : List Pair) (inputs : List Input) → Each (λ (i : Input). IsShort i.root) inputs → Each (λ (v : Seen). IsShort v.input.root) (seen_inputs case rs inputs)
seen_inputs-short case rs [] few = tt
seen_inputs-short case rs (i ∷ more) few = seen_or-short i (part_of case rs (place case i.root)) _ few.0 (seen_inputs-short case rs more few.1)

fingerprint-short : (s : State) (inputs : List Input) (o : Option KeptPrint) → AreInputs inputs → HasShortPaths s → HasShortPaths (fingerprint_or s inputs (seen_inputs s.case s.retained.pairs inputs) o).state
fingerprint-short s inputs (Some k) few h = h
fingerprint-short s inputs None few h = by (nat_lt (length (seen_inputs s.case s.retained.pairs inputs)) (length inputs))
  where
    by : (b : Bool) → HasShortPaths (fingerprint_when s (seen_inputs s.case s.retained.pairs inputs) b).state
    by true = h
    by false = record { events = h.events; scans = h.scans; pairs = h.pairs; dirs = h.dirs; roots = each-with_kept HasShortRoots s.kept _ h.roots (seen_inputs-short s.case s.retained.pairs inputs few.short) }

-- a step of a call that may be made, whose answers are in shape, leaves each path of the state short
pub step-short : (a : Answers) (s : State) (call : Call) → IsCall call → AreShapedAnswers s call a → HasShortPaths s → HasShortPaths (step a s call).state
step-short a s (CallEdit edit) may told h = edit-short s edit a.edit told h
step-short a s (CallEvent e) may told h = record { events = put-short e s.pending may h.events; scans = h.scans; pairs = h.pairs; dirs = h.dirs; roots = h.roots }
step-short a s CallLose may told h = record { events = tt; scans = h.scans; pairs = h.pairs; dirs = h.dirs; roots = h.roots }
step-short a s CallDeliver may told h = deliver-short s s.pending.mark h
step-short a s (CallBegin c p) may told h = begin-short s c p (scan_of s c) may.1 h
step-short a s (CallRead c) may told h = after_read-short s c (scan_of s c) a.look refl h
step-short a s (CallPublish c) may told h = publish-short s c (scan_of s c) refl h
step-short a s (CallDrop c) may told h = drop-short s c (scan_of s c) h
step-short a s (CallFind x) may told h = h
step-short a s (CallPart x) may told h = h
step-short a s (CallKind x) may told h = h
step-short a s (CallVersion x) may told h = h
step-short a s (CallFingerprint inputs) may told h = fingerprint-short s inputs (find (λ (k : KeptPrint). is_for_inputs inputs k.seen) s.kept) may h
