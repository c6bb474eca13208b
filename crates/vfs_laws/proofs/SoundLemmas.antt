-- Each step keeps a state sound.
use Rattle.std.proofs.Common.{◌≡◌, ◌≢◌, ◌⊎◌, ℕ, suc, zero, ◌≤◌, Bool, true, false, not, ◌||◌, List, [], ◌∷◌, ◌++◌, length, map, drop, refl, sym, ap, ◌∙◌, subst, Option, Some, None, arith, append_assoc, append-nil, inl, inr, length-append, slice_get, slice_set, nat_le, if◌then◌else◌}
use Rattle.std.proofs.lemmas.Bool.{both_ways, true≢false, or_parts, or_from, false_from_ne_true, not-true}
use Rattle.std.specs.List.{list_any, AllByRecursion as Each}
use Rattle.vfs_model.specs.declared.Case.{Case}
use Rattle.vfs_model.specs.Paths.{Name, Path, place, is_at_or_above, is_related}
use Rattle.vfs_model.specs.World.{World, Entry, Node, Directory, Regular, at, names, IsClosed, Status, IsMissing, IsFile, IsDir, status_of, IsWorld}
use Rattle.vfs_model.specs.Edit.{Edit, refusal, is_told, apply, events}
use Rattle.vfs_model.specs.Snapshot.{Snapshot, IsTree}
use Rattle.vfs_model.specs.Scan.{Agrees, scan}
use Rattle.vfs_model.specs.Pending.{Pending, has_room, put, put_all, is_hit}
use Rattle.vfs_model.specs.Retained.{Pair, part_of, is_covered, ancestors, known_above}
use Rattle.vfs_model.specs.Scanning.{Scan, PartialSnapshot, look_of, look_of_node, partial_of_look, IsListed, partial_children, partial_names, Unread, NotThere, FileRead, DirRead, look, next_left, after_look, snapshot_made, decided_status, is_overtaken}
use Rattle.vfs_model.specs.Fingerprint.{Input, Seen, fingerprint}
use Rattle.vfs_model.specs.State.{KeptPrint, State, after_edit, after_event, after_loss, after_clear, after_delivery, is_touched, with_scan, look_below, open_scan, scan_of, after_begin, after_read, after_close, after_publish, after_fingerprint, seen_or, seen_inputs}
use Rattle.vfs_model.specs.Sound.{is_hit_in, IsCurrent, IsStillDir, above_scan, IsTelling, IsTrueScan, IsTrueSlot, root_pair, IsTrueKept, IsTrue, IsSettled, IsScanned, scanned_input}
use Rattle.vfs_laws.proofs.Splits.{split, split_or}
use Rattle.vfs_laws.proofs.PathLemmas.{same_name-refl, at_or_above-trans}
use Rattle.vfs_laws.proofs.NameLemmas.{each-weaker}
use Rattle.vfs_laws.proofs.EditLemmas.{apply-elsewhere}
use Rattle.vfs_laws.proofs.SameLemmas.{IsAlike, alike, status-node}
use Rattle.vfs_laws.proofs.FewLemmas.{accepted-world}
use Rattle.vfs_laws.proofs.ScanLemmas.{agreeing-scan}
use Rattle.vfs_laws.proofs.FindLemmas.{part-from}
use Rattle.vfs_laws.proofs.ShapeLemmas.{after_invalidation-in_shape, after_store-in_shape}
use Rattle.vfs_laws.proofs.RetainedLemmas.{IsDelivered, agrees-sub, tree-sub, rest-is, each-append, each-drop, each-filter, each-insert_pair, each-insert_dirs, all_pairs_left-current, all_dirs_left-still, quiet}
use Rattle.vfs_laws.proofs.ContentsLemmas.{after_read-adds}
use Rattle.vfs_laws.proofs.ScanningLemmas.{nowhere, partial_at-unread, told-unread, after_read-tells, after_look-partial, after_look-shallow, snapshot_made-agrees, snapshot_made-tree}

-- ---- the events that wait

-- a step after which fewer places are free of events, and the same stands at those, spelled the same
pub record IsQuieter (case : Case) (before after : Path → Bool) (old new : World) : Type 0 where
  pub free : (x : Path) → after x ≡ false → before x ≡ false
  pub same : (x : Path) → after x ≡ false → IsAlike (at case new x) (at case old x)

-- the status at a place that is free afterwards is the one before
status-kept : (case : Case) (before after : Path → Bool) (old new : World) → IsQuieter case before after old new → (x : Path) → after x ≡ false → status_of (at case new x) ≡ status_of (at case old x)
status-kept case before after old new quieter x miss = status-node _ _ (quieter.same x miss).node

-- what agrees with the world before such a step agrees with it afterwards
pub current-kept : (case : Case) (before after : Path → Bool) (old new : World) → IsQuieter case before after old new → (r : Pair) → IsCurrent case before old r → IsCurrent case after new r
current-kept case before after old new quieter r current x miss =
    let h = current x (quieter.free _ miss) in
    record {
      same_kind = h.same_kind ∙ sym (status-kept case before after old new quieter (r.path ++ x) miss);
      same_spelling = λ n e. (quieter.same (r.path ++ x) miss).name ∙ h.same_spelling n e;
    }

-- what is a directory before such a step is one afterwards
pub still-kept : (case : Case) (before after : Path → Bool) (old new : World) → IsQuieter case before after old new → (d : Path) → IsStillDir case before old d → IsStillDir case after new d
still-kept case before after old new quieter d still miss = status-kept case before after old new quieter d miss ∙ still (quieter.free d miss)

-- what a scan tells before such a step it tells afterwards
pub telling-kept : (case : Case) (before after : Path → Bool) (old new : World) → IsQuieter case before after old new → (overtaken : Bool) (p : Path) (t : PartialSnapshot) → IsTelling case before old overtaken p t → IsTelling case after new overtaken p t
telling-kept case before after old new quieter overtaken p t h = record {
  partial = h.partial;
  shallow = h.shallow;
  front = h.front;
  tells = λ o x miss.
      let told = h.tells o x (quieter.free _ miss) in
      record {
        kind = λ g e. told.kind g e ∙ sym (status-kept case before after old new quieter (p ++ x) miss);
        spelling = λ n e. (quieter.same (p ++ x) miss).name ∙ told.spelling n e;
      };
  above = λ o. each-weaker _ _ (still-kept case before after old new quieter) _ (h.above o);
}

slot-kept : (case : Case) (before after : Path → Bool) (old new : World) (past : List Path) → IsQuieter case before after old new → (s : Option Scan) → IsTrueSlot case before old past s → IsTrueSlot case after new past s
slot-kept case before after old new past quieter None h = tt
slot-kept case before after old new past quieter (Some s) h = record { begun_at = h.begun_at; telling = telling-kept case before after old new quieter (is_overtaken case past s) (place case s.path) s.partial h.telling }

-- a kept fingerprint that is true before such a step is true afterwards
pub kept-kept : (case : Case) (before after : Path → Bool) (old new : World) → IsQuieter case before after old new → (k : KeptPrint) → IsTrueKept case before old k → IsTrueKept case after new k
kept-kept case before after old new quieter k h = record {
  digest = h.digest;
  trees = h.trees;
  current = each-weaker _ _ (λ (v : Seen) c. current-kept case before after old new quieter (root_pair case v) c) k.seen h.current;
}

-- a step that only makes the world and what waits different
quieter-sound : (s : State) (after : Pending) (new : World) → IsQuieter s.case (is_hit_in s) (is_hit s.case after) s.world new → IsWorld s.case new → IsTrue s → IsTrue (record s { world = new; pending = after })
quieter-sound s after new quieter world h = record {
  world = world;
  shape = h.shape;
  pairs = each-weaker _ _ (current-kept s.case (is_hit_in s) (is_hit s.case after) s.world new quieter) _ h.pairs;
  dirs = each-weaker _ _ (still-kept s.case (is_hit_in s) (is_hit s.case after) s.world new quieter) _ h.dirs;
  scans = each-weaker _ _ (slot-kept s.case (is_hit_in s) (is_hit s.case after) s.world new s.past quieter) _ h.scans;
  kept = each-weaker _ _ (kept-kept s.case (is_hit_in s) (is_hit s.case after) s.world new quieter) _ h.kept;
}

-- where a place is free after a put, it was before, and the event is not at or above it
told-append : (case : Case) (es : List Path) (e x : Path) → is_told case (es ++ e ∷ []) x ≡ false → (is_told case es x ≡ false) × (is_at_or_above (place case e) x ≡ false)
told-append case [] e x h = (refl, (or_parts _ _ h).0)
told-append case (f ∷ es) e x h =
    let parts = or_parts _ _ h in let deeper = told-append case es e x parts.1 in
    (or_from _ _ parts.0 deeper.0, deeper.1)

put-free : (case : Case) (e : Path) (p : Pending) (x : Path) → is_hit case (put e p) x ≡ false → (is_hit case p x ≡ false) × (is_at_or_above (place case e) x ≡ false)
put-free case e p x h =
    split (has_room p)
    (λ r.
    let h' : (p.mark || is_told case (p.events ++ e ∷ []) x) ≡ false = rw r at h in
    let parts = or_parts p.mark _ h' in
    let t = told-append case p.events e x parts.1 in
    (or_from _ _ parts.0 t.0, t.1))
    (λ r. let h' : (true || is_told case [] x) ≡ false = rw r at h in absurd (true≢false h'))

put_all-free : (case : Case) (es : List Path) (p : Pending) (x : Path) → is_hit case (put_all es p) x ≡ false → (is_hit case p x ≡ false) × (is_told case es x ≡ false)
put_all-free case [] p x h = (h, refl)
put_all-free case (e ∷ es) p x h =
    let deeper = put_all-free case es (put e p) x h in
    let one = put-free case e p x deeper.0 in
    (one.0, or_from _ _ one.1 deeper.1)

-- an event more keeps what is known true
pub after_event-sound : (s : State) (e : Path) → IsTrue s → IsTrue (after_event s e)
after_event-sound s e h = quieter-sound s (put e s.pending) s.world (record { free = λ x m. (put-free s.case e s.pending x m).0; same = λ x m. alike _ _ refl }) h.world h

-- a loss keeps what is known true
pub after_loss-sound : (s : State) → IsTrue s → IsTrue (after_loss s)
after_loss-sound s h = quieter-sound s _ s.world (record { free = λ x m. absurd (true≢false m); same = λ x m. alike _ _ refl }) h.world h

-- an edit that is not refused, with its events, keeps what is known true
pub after_edit-sound : (s : State) (edit : Edit) → refusal s.case s.world edit ≡ None → Each (λ (p : Path). length p ≤ 64) (events edit) → IsTrue s → IsTrue (after_edit s edit (events edit))
after_edit-sound s edit accepted few h =
    quieter-sound s (put_all (events edit) s.pending) (apply s.case s.world edit)
    (record {
      free = λ x m. (put_all-free s.case (events edit) s.pending x m).0;
      same = λ x m. alike _ _ (apply-elsewhere s.case s.world edit x (put_all-free s.case (events edit) s.pending x m).1);
    })
    (accepted-world s.case s.world edit accepted few h.world)
    h

-- ---- a delivery

ancestors-above : (p : Path) → Each (λ d. is_at_or_above d p ≡ true) (ancestors p)
ancestors-above [] = tt
ancestors-above (n ∷ x) = (refl, by (ancestors x) (ancestors-above x))
  where
    by : (ds : List Path) → Each (λ d. is_at_or_above d x ≡ true) ds → Each (λ d. is_at_or_above d (n ∷ x) ≡ true) (map (λ d. n ∷ d) ds)
    by [] h = tt
    by (d ∷ ds) h = (rw (same_name-refl n) h.0, by ds h.1)

above_scan-above : (p : Path) (t : PartialSnapshot) → Each (λ d. is_at_or_above d p ≡ true) (above_scan p t)
above_scan-above p Unread = tt
above_scan-above p NotThere = tt
above_scan-above p (FileRead bytes) = ancestors-above p
above_scan-above p (DirRead partials) = ancestors-above p

each-both : {X : Type 0} (P Q R : X → Type 0) → ((x : X) → P x → Q x → R x) → (xs : List X) → Each P xs → Each Q xs → Each R xs
each-both P Q R f [] h k = tt
each-both P Q R f (x ∷ xs) h k = (f x h.0 k.0, each-both P Q R f xs h.1 k.1)

-- what is pushed stays behind what is dropped
pub drop-push : {X : Type 0} (n : ℕ) (xs : List X) (x : X) → n ≤ length xs → drop n (xs ++ x ∷ []) ≡ drop n xs ++ x ∷ []
drop-push zero xs x h = refl
drop-push (suc n) [] x h = absurd (omega arith)
drop-push (suc n) (y ∷ xs) x h = drop-push n xs x (omega arith)

any-push : {X : Type 0} (t : X → Bool) (xs : List X) (x : X) → list_any t (xs ++ x ∷ []) ≡ false → (list_any t xs ≡ false) × (t x ≡ false)
any-push t [] x h = (refl, (or_parts _ _ h).0)
any-push t (y ∷ xs) x h =
    let parts = or_parts _ _ h in let deeper = any-push t xs x parts.1 in
    (or_from _ _ parts.0 deeper.0, deeper.1)

-- a scan that is not overtaken after an invalidation was not before, and has nothing to do with the place
overtaken-push : (case : Case) (past : List Path) (e : Path) (s : Scan) → s.begun_at ≤ length past → is_overtaken case (past ++ e ∷ []) s ≡ false
    → (is_overtaken case past s ≡ false) × (is_related e (place case s.path) ≡ false)
overtaken-push case past e s h o =
    any-push (λ d. is_related d (place case s.path)) (drop s.begun_at past) e (ap (list_any (λ d. is_related d (place case s.path))) (sym (drop-push s.begun_at past e h)) ∙ o)

-- the place above one that has nothing to do with e is not at or below e
off-above : (e d p : Path) → is_related e p ≡ false → is_at_or_above d p ≡ true → is_at_or_above e d ≡ false
off-above e d p off on = false_from_ne_true _ (λ u. both_ways _ (or_parts _ _ off).0 (at_or_above-trans e d p u on))

scan-after_delivery : (case : Case) (world : World) (before after : Path → Bool) (past : List Path) (e : Path) → IsDelivered case e before after → (s : Scan) → IsTrueScan case before world past s → IsTrueScan case after world (past ++ e ∷ []) s
scan-after_delivery case world before after past e gone s h = record {
  begun_at = omega (arith, h.begun_at, length-append past (e ∷ []));
  telling = record {
    partial = h.partial;
    shallow = h.shallow;
    front = h.front;
    tells = λ o x miss.
        let q = overtaken-push case past e s h.begun_at o in
        h.tells q.0 x (gone.misses _ (quiet e (place case s.path) x q.1) miss);
    above = λ o.
        let q = overtaken-push case past e s h.begun_at o in
        each-both _ _ _ (λ d still on miss. still (gone.misses d (off-above e d (place case s.path) q.1 on) miss)) _ (h.above q.0) (above_scan-above (place case s.path) s.partial);
  };
}

slot-after_delivery : (case : Case) (world : World) (before after : Path → Bool) (past : List Path) (e : Path) → IsDelivered case e before after → (s : Option Scan) → IsTrueSlot case before world past s → IsTrueSlot case after world (past ++ e ∷ []) s
slot-after_delivery case world before after past e gone None h = tt
slot-after_delivery case world before after past e gone (Some s) h = scan-after_delivery case world before after past e gone s h

kept-after_delivery : (case : Case) (world : World) (before after : Path → Bool) (e : Path) → IsDelivered case e before after → (k : KeptPrint) → IsTrueKept case before world k → not (is_touched case e k) ≡ true → IsTrueKept case after world k
kept-after_delivery case world before after e gone k h off = record {
  digest = h.digest;
  trees = h.trees;
  current = by k.seen (not-true _ off) h.current;
}
  where
    by : (seen : List Seen) → list_any (λ (v : Seen). is_related e (place case v.input.root)) seen ≡ false → Each (λ (v : Seen). IsCurrent case before world (root_pair case v)) seen → Each (λ (v : Seen). IsCurrent case after world (root_pair case v)) seen
    by [] o c = tt
    by (v ∷ seen) o c =
        let parts = or_parts _ _ o in
        (λ x miss. c.0 x (gone.misses _ (quiet e (place case v.input.root) x parts.0) miss), by seen parts.1 c.1)

-- the delivery of the first event keeps what is known true
pub after_delivery-sound : (s : State) (e : Path) (rest : List Path) → s.pending.events ≡ e ∷ rest → IsTrue s → IsTrue (after_delivery s e rest)
after_delivery-sound s e rest is h = record {
  world = h.world;
  shape = after_invalidation-in_shape s.case (place s.case e) s.retained h.shape;
  pairs = all_pairs_left-current s.case s.world (is_hit_in s) (is_hit_in (after_delivery s e rest)) (place s.case e) gone s.retained.pairs h.shape.trees h.pairs;
  dirs = all_dirs_left-still s.case s.world (is_hit_in s) (is_hit_in (after_delivery s e rest)) (place s.case e) gone s.retained.pairs s.retained.dirs h.pairs h.dirs;
  scans = each-weaker _ _ (slot-after_delivery s.case s.world (is_hit_in s) (is_hit_in (after_delivery s e rest)) s.past (place s.case e) gone) s.scans h.scans;
  kept = each-weaker _ _ (λ (k : KeptPrint) both. kept-after_delivery s.case s.world (is_hit_in s) (is_hit_in (after_delivery s e rest)) (place s.case e) gone k both.0 both.1) _ (each-filter _ (λ k. not (is_touched s.case (place s.case e) k)) s.kept h.kept);
}
  where
    gone : IsDelivered s.case (place s.case e) (is_hit_in s) (is_hit_in (after_delivery s e rest))
    gone = record {
      misses = λ x off miss.
          let parts = or_parts s.pending.mark _ miss in
          or_from _ _ parts.0 (ap (λ es. is_told s.case es x) is ∙ or_from _ _ off parts.1);
    }

-- the delivery of the mark keeps what is known true
pub after_clear-sound : (s : State) → IsTrue s → IsTrue (after_clear s)
after_clear-sound s h = record {
  world = h.world;
  shape = record { pairs = tt; trees = tt; dirs = tt; uncovered = tt };
  pairs = tt;
  dirs = tt;
  scans = each-weaker _ _ slot s.scans h.scans;
  kept = tt;
}
  where
    slot : (o : Option Scan) → IsTrueSlot s.case (is_hit_in s) s.world s.past o → IsTrueSlot s.case (is_hit_in (after_clear s)) s.world (s.past ++ [] ∷ []) o
    slot None t = tt
    slot (Some scan) t = record {
      begun_at = omega (arith, t.begun_at, length-append s.past ([] ∷ []));
      telling = record {
        partial = t.partial;
        shallow = t.shallow;
        front = t.front;
        tells = λ o x miss. absurd (true≢false (overtaken-push s.case s.past [] scan t.begun_at o).1);
        above = λ o. absurd (true≢false (overtaken-push s.case s.past [] scan t.begun_at o).1);
      };
    }

-- ---- scans

-- what holds of each and of what is set holds of each then
pub each-set : {X : Type 0} (P : X → Type 0) (xs : List X) (i : ℕ) (x : X) → P x → Each P xs → Each P (slice_set xs i x)
each-set P [] i x h k = tt
each-set P (y ∷ xs) zero x h k = (h, k.1)
each-set P (y ∷ xs) (suc i) x h k = (k.0, each-set P xs i x h k.1)

-- what holds of each scan holds of one in progress
pub slot-true : (P : Option Scan → Type 0) (xs : List (Option Scan)) (i : ℕ) (s : Scan) → Each P xs → open_scan (slice_get xs i) ≡ Some s → P (Some s)
slot-true P [] i s h e = absurd (by s e)
  where
    by : (s : Scan) → None ≡ Some s → ⊥
    by s e = cc
slot-true P (o ∷ xs) zero s h e = subst P e h.0
slot-true P (o ∷ xs) (suc i) s h e = slot-true P xs i s h.1 e

with_scan-sound : (s : State) (c : ℕ) (o : Option Scan) → IsTrueSlot s.case (is_hit_in s) s.world s.past o → IsTrue s → IsTrue (with_scan s c o)
with_scan-sound s c o t h = record {
  world = h.world;
  shape = h.shape;
  pairs = h.pairs;
  dirs = h.dirs;
  scans = each-set _ s.scans c o t h.scans;
  kept = h.kept;
}

-- a scan that is closed keeps what is known true
pub after_close-sound : (s : State) (c : ℕ) → IsTrue s → IsTrue (after_close s c)
after_close-sound s c h = with_scan-sound s c None tt h

-- a begin keeps what is known true
pub after_begin-sound : (s : State) (c : ℕ) (p : Path) → IsTrue s → IsTrue (after_begin s c p)
after_begin-sound s c p h = with_scan-sound s c _ (record {
  begun_at = omega arith;
  telling = record {
    partial = λ x. subst (λ t. IsListed s.case (partial_names (partial_children t))) (sym (partial_at-unread s.case x)) (record { order = tt; few = omega arith });
    shallow = λ x deep. ap (λ t. partial_names (partial_children t)) (partial_at-unread s.case x);
    front = tt;
    tells = λ o x miss. record {
      kind = λ g e. absurd (undecided g (sym (ap decided_status (partial_at-unread s.case x)) ∙ e));
      spelling = λ n e. absurd (untold n (sym (told-unread s.case x) ∙ e));
    };
    above = λ o. tt;
  };
}) h
  where
    undecided : (g : Status) → None ≡ Some g → ⊥
    undecided g e = cc

    untold : (n : Name) → None ≡ Some n → ⊥
    untold n e = cc

is_dir-or : (g : Status) → (g ≡ IsDir) ⊎ (g ≢ IsDir)
is_dir-or IsMissing = inr (λ e. cc)
is_dir-or (IsFile digest) = inr (λ e. cc)
is_dir-or IsDir = inl refl

-- above what is there stand directories
above-dirs : (case : Case) (world : World) (q p : Path) → IsClosed case world → (at case world (q ++ p) ≢ None) → Each (λ d. status_of (at case world (q ++ d)) ≡ IsDir) (ancestors p)
above-dirs case world q [] closed there = tt
above-dirs case world q (n ∷ x) closed there = (
  split_or (is_dir-or (status_of (at case world q)))
      (λ e. ap (λ z. status_of (at case world z)) (append-nil q) ∙ e)
      (λ e. absurd (there (nowhere case world q n x closed (closed q n e)))),
  by (ancestors x) (above-dirs case world (q ++ n ∷ []) x closed (λ e. there (ap (at case world) (sym (append_assoc q (n ∷ []) x)) ∙ e))),
)
  where
    by : (ds : List Path) → Each (λ d. status_of (at case world ((q ++ n ∷ []) ++ d)) ≡ IsDir) ds → Each (λ d. status_of (at case world (q ++ d)) ≡ IsDir) (map (λ d. n ∷ d) ds)
    by [] h = tt
    by (d ∷ ds) h = (ap (λ z. status_of (at case world z)) (sym (append_assoc q (n ∷ []) d)) ∙ h.0, by ds h.1)

-- above what a look sees stand directories
above-seen : (case : Case) (excused : Path → Bool) (world : World) (p : Path) → IsClosed case world → Each (IsStillDir case excused world) (above_scan p (partial_of_look (look case world p)))
above-seen case excused world p closed = by (at case world p) refl
  where
    dirs : (e : Entry) → at case world p ≡ Some e → Each (IsStillDir case excused world) (ancestors p)
    dirs e is = each-weaker _ _ (λ d h miss. h) _ (above-dirs case world [] p closed (λ n. absurd (clash e (sym n ∙ is))))
      where
        clash : (e : Entry) → None ≡ Some e → ⊥
        clash e h = cc

    by_node : (e : Entry) (node : Node) → at case world p ≡ Some e → Each (IsStillDir case excused world) (above_scan p (partial_of_look (look_of_node node (names case world p))))
    by_node e Directory is = dirs e is
    by_node e (Regular bytes) is = dirs e is

    by : (o : Option Entry) → at case world p ≡ o → Each (IsStillDir case excused world) (above_scan p (partial_of_look (look_of o (names case world p))))
    by None is = tt
    by (Some e) is = by_node e e.node is

above-after_look : (case : Case) (excused : Path → Bool) (world : World) (p : Path) (t : PartialSnapshot) (y : Path) → IsClosed case world → next_left t ≡ Some y → Each (IsStillDir case excused world) (above_scan p t) → Each (IsStillDir case excused world) (above_scan p (after_look (look case world (p ++ place case y)) t))
above-after_look case excused world p Unread y closed e h =
    let nil : y ≡ [] = heads e in
    subst (λ q. Each (IsStillDir case excused world) (above_scan p (partial_of_look (look case world q)))) (sym (append-nil p) ∙ ap (λ z. p ++ place case z) (sym nil)) (above-seen case excused world p closed)
  where
    heads : {y : Path} → Some [] ≡ Some y → y ≡ []
    heads e = cc
above-after_look case excused world p NotThere y closed e h = tt
above-after_look case excused world p (FileRead bytes) y closed e h = h
above-after_look case excused world p (DirRead partials) y closed e h = h

-- a read of what is there keeps what is known true
pub after_read-sound : (s : State) (c : ℕ) (t : Scan) (y : Path) → scan_of s c ≡ Some t → next_left t.partial ≡ Some y → IsTrue s → IsTrue (after_read s c t (look_below s t y))
after_read-sound s c t y is left h =
    let old = slot-true (IsTrueSlot s.case (is_hit_in s) s.world s.past) s.scans c t h.scans is in
    with_scan-sound s c _ (record {
      begun_at = old.begun_at;
      telling = record {
        partial = after_look-partial s.case s.world (place s.case t.path) t.partial y h.world.few old.partial left;
        shallow = after_look-shallow s.case s.world (place s.case t.path) t.partial y h.world.short old.partial left old.shallow;
        front = (after_read-adds (look_below s t y) t.partial y old.front left).1;
        tells = λ o x miss. after_read-tells s.case s.world (place s.case t.path) t.partial y x h.world.closed old.partial left (old.tells o x miss);
        above = λ o. above-after_look s.case (is_hit_in s) s.world (place s.case t.path) t.partial y h.world.closed left (old.above o);
      };
    }) h

known-snapshot_made : (p : Path) (t : PartialSnapshot) → known_above p (snapshot_made t) ≡ above_scan p t
known-snapshot_made p Unread = refl
known-snapshot_made p NotThere = refl
known-snapshot_made p (FileRead bytes) = refl
known-snapshot_made p (DirRead partials) = refl

-- a publish with nothing left, of a scan that is not overtaken, keeps what is known true
pub after_publish-sound : (s : State) (c : ℕ) (t : Scan) → scan_of s c ≡ Some t → next_left t.partial ≡ None → is_overtaken s.case s.past t ≡ false → IsTrue s → IsTrue (after_publish s c t)
after_publish-sound s c t is left fresh h =
    let shape = after_store-in_shape s.case p (snapshot_made t.partial) s.retained (snapshot_made-tree s.case t.partial old.partial left) h.shape in
    split (is_covered s.retained.pairs p)
    (λ o. rw o (with_scan-sound s c None tt h))
    (λ o. rw o (record {
      world = h.world;
      shape = rw o at shape;
      pairs = each-insert_pair _ new _ (λ x miss. snapshot_made-agrees s.case s.world p t.partial x old.partial left (old.tells fresh x miss)) (each-weaker _ _ (λ r b. b.0) _ (each-filter (IsCurrent s.case (is_hit_in s) s.world) _ s.retained.pairs h.pairs));
      dirs = each-insert_dirs _ (known_above p (snapshot_made t.partial)) _ (subst (Each (IsStillDir s.case (is_hit_in s) s.world)) (sym (known-snapshot_made p t.partial)) (old.above fresh)) (each-weaker _ _ (λ d b. b.0) _ (each-filter (IsStillDir s.case (is_hit_in s) s.world) _ s.retained.dirs h.dirs));
      scans = each-set _ s.scans c None tt h.scans;
      kept = h.kept;
    }))
  where
    p : Path
    p = place s.case t.path

    new : Pair
    new = record { path = p; snapshot = snapshot_made t.partial }

    old : IsTrueScan s.case (is_hit_in s) s.world s.past t
    old = slot-true (IsTrueSlot s.case (is_hit_in s) s.world s.past) s.scans c t h.scans is

-- ---- fingerprints

-- what is found for an input is a tree, and current
abbrev IsTrueSeen : State → Seen → Type 0
IsTrueSeen s v = IsTree s.case v.snapshot × IsCurrent s.case (is_hit_in s) s.world (root_pair s.case v)

seen_inputs-true : (s : State) (inputs : List Input) → IsTrue s → Each (IsTrueSeen s) (seen_inputs s.case s.retained.pairs inputs)
seen_inputs-true s [] h = tt
seen_inputs-true s (i ∷ more) h = by (part_of s.case s.retained.pairs (place s.case i.root)) refl (seen_inputs-true s more h)
  where
    by : (o : Option Snapshot) → part_of s.case s.retained.pairs (place s.case i.root) ≡ o → Each (IsTrueSeen s) (seen_inputs s.case s.retained.pairs more) → Each (IsTrueSeen s) (seen_or i o (seen_inputs s.case s.retained.pairs more))
    by None is rest = tt
    by (Some f) is rest =
        let root = place s.case i.root in
        let Q : Pair → Type 0 = λ r. IsTree s.case r.snapshot × IsCurrent s.case (is_hit_in s) s.world r in
        let from = part-from s.case Q s.retained.pairs root f (each-both _ _ Q (λ r a b. (a, b)) _ h.shape.trees h.pairs) is in
        let z = drop (length from.pair.path) root in
        let path_is = rest-is from.pair.path root from.above in (
          (
            subst (IsTree s.case) from.part (tree-sub s.case from.pair.snapshot z from.holds.0),
            (λ x miss.
                subst (λ (t : Path × Snapshot). Agrees s.case s.world t.0 t.1 x) (λ i. (path_is i, from.part i))
                (agrees-sub s.case s.world from.pair.path from.pair.snapshot z x
                (from.holds.1 (z ++ x) (ap (is_hit_in s) (sym (append_assoc from.pair.path z x) ∙ ap (λ v. v ++ x) path_is) ∙ miss)))),
          ),
          rest,
        )

-- a kept fingerprint more keeps what is known true
pub after_fingerprint-sound : (s : State) (inputs : List Input) → IsTrue s → IsTrue (after_fingerprint s (seen_inputs s.case s.retained.pairs inputs))
after_fingerprint-sound s inputs h = record {
  world = h.world;
  shape = h.shape;
  pairs = h.pairs;
  dirs = h.dirs;
  scans = h.scans;
  kept = each-append (IsTrueKept s.case (is_hit_in s) s.world) (if nat_le 64 (length s.kept) then drop 1 s.kept else s.kept) _ (split (nat_le 64 (length s.kept)) (λ e. rw e (each-drop _ 1 s.kept h.kept)) (λ e. rw e h.kept))
      (record { digest = refl; trees = each-weaker _ _ (λ v b. b.0) _ seen_true; current = each-weaker _ _ (λ v b. b.1) _ seen_true }, tt);
}
  where
    seen_true : Each (IsTrueSeen s) (seen_inputs s.case s.retained.pairs inputs)
    seen_true = seen_inputs-true s inputs h

-- ---- a settled state

no_hit : (s : State) → IsSettled s → (x : Path) → is_hit_in s x ≡ false
no_hit s h x = or_from _ _ h.mark (ap (λ es. is_told s.case es x) h.events)

current-scanned : (s : State) → IsSettled s → IsTrue s → (r : Pair) → IsTree s.case r.snapshot → IsCurrent s.case (is_hit_in s) s.world r → r.snapshot ≡ scan s.case s.world r.path
current-scanned s settled h r tree current = agreeing-scan s.case s.world r.path r.snapshot h.world.short tree (λ x. current x (no_hit s settled _))

-- where nothing waits, all that is known is what a scan gives
pub settled-scanned : (s : State) → IsSettled s → IsTrue s → IsScanned s
settled-scanned s settled h = record {
  pairs = each-both _ _ _ (current-scanned s settled h) s.retained.pairs h.shape.trees h.pairs;
  dirs = each-weaker _ _ (λ d t. t (no_hit s settled d)) s.retained.dirs h.dirs;
  prints = each-weaker _ _ (λ k t. t.digest ∙ ap (fingerprint s.case) (by k.seen t.trees t.current)) s.kept h.kept;
}
  where
    by : (seen : List Seen) → Each (λ (v : Seen). IsTree s.case v.snapshot) seen → Each (λ (v : Seen). IsCurrent s.case (is_hit_in s) s.world (root_pair s.case v)) seen → seen ≡ map (scanned_input s.case s.world) (map (λ (v : Seen). v.input) seen)
    by [] t c = refl
    by (v ∷ seen) t c =
        let one = current-scanned s settled h (root_pair s.case v) t.0 c.0 in
        λ i. record { input = v.input; snapshot = one i } ∷ by seen t.1 c.1 i
