-- A build shows the fingerprint of its inputs in the world.
use Rattle.std.proofs.Math.ListN.{length-set}
use Rattle.std.proofs.Common.{◌≡◌, ℕ, zero, suc, ◌+◌, ◌<◌, Bool, true, false, List, [], ◌∷◌, length, drop, find, nat_lt, Option, Some, None, refl, sym, ap, subst, ◌∙◌, arith, slice_get, slice_set, ◌⊎◌, inl, inr}
use Rattle.std.specs.Prelude.{is_some, map}
use Rattle.std.specs.List.{list_any, AllByRecursion as Each}
use Rattle.vfs_model.specs.Paths.{Path, place, is_related}
use Rattle.vfs_model.specs.Snapshot.{Snapshot}
use Rattle.vfs_model.specs.Retained.{is_covered, part_of}
use Rattle.vfs_model.specs.Scanning.{Scan, Unread, next_left, after_look, snapshot_made, is_overtaken}
use Rattle.vfs_model.specs.Fingerprint.{Input, Seen}
use Rattle.vfs_model.specs.State.{State, Call, Outcome, KeptPrint, CallDeliver, CallBegin, CallRead, CallPublish, CallFind, CallFingerprint, AllRead, Found, glance, deliver, deliver_when, deliver_first, open_scan, scan_of, begin_or, read_or, read_next, publish_or, publish_next, publish_when, after_publish, fingerprint_or, fingerprint_when, seen_inputs, is_for_inputs, look_due, look_due_at, look_below, answers, told_step}
use Rattle.vfs_model.specs.Sound.{IsTrue, IsSound, IsSettled, fingerprint_of}
use Rattle.vfs_model.specs.History.{Operation, after_operation, after}
use Rattle.vfs_laws.proofs.SoundLemmas.{after_begin-sound, after_read-sound, after_publish-sound}
use Rattle.vfs_laws.proofs.StoreLemmas.{unretained-free, store-retained, store-keeps}
use Rattle.vfs_laws.proofs.FingerprintLemmas.{fingerprint-known, fingerprint-is-of-world}
use Rattle.vfs_laws.proofs.HistoryLemmas.{step-sound, after-sound}
use Rattle.script_report.specs.Stages.{Stage, Whole, Asks, Delivers, Reads, next_call, delivered, was_read, advance, stage_after, Follows}
use Rattle.script_report.specs.Lines.{Counts, no_counts, with_hit, with_miss, build_text, built_text, root_read, root_found, taking, building, stage_of, line_stage, IsAsking}
use Rattle.script_report.specs.Runs.{AreTold, LineRun, IsLineRun, AreRuns, operations_of, ShowsWhereBuilt, BuildsShow}
use Rattle.script_report.proofs.LegalLemmas.{command-due, stage-legal}
use Rattle.script_text.specs.declared.script.Command.{Command}
use Rattle.script_text.specs.declared.script.Command.TheVariants.{Build}
use Rattle.script_text.specs.declared.script.Line.{Line}
use Rattle.fingerprint_norms.specs.Meaning.{input_of}
use Rattle.script_report.proofs.SameLemmas.{AreTold-first, AreTold-rest, AreTold-front, AreTold-back, none-due, same-call, whole-text}

-- the part that is retained of the root, as a find sees it
abbrev pub part_at : State → Path → Option Snapshot
part_at s root = part_of s.case s.retained.pairs (place s.case root)

-- a slot that was set is there
set-here : (xs : List (Option Scan)) (c : ℕ) (o : Option Scan) → c < length xs → slice_get (slice_set xs c o) c ≡ Some o
set-here [] c o h = absurd (omega arith)
set-here (x ∷ xs) zero o h = refl
set-here (x ∷ xs) (suc c) o h = set-here xs c o (omega (arith, h))

-- a scan of p that began in the state s is in progress in the state u, and nothing else has changed; what is known is true
record IsUnderWay (s : State) (c : ℕ) (p : Path) (u : State) : Type 0 where
  same_case : u.case ≡ s.case
  same_world : u.world ≡ s.world
  same_pending : u.pending ≡ s.pending
  same_retained : u.retained ≡ s.retained
  same_past : u.past ≡ s.past
  few_scans : length u.scans ≡ length s.scans
  known : IsTrue u
  scan : Scan
  path : scan.path ≡ p
  begun_at : scan.begun_at ≡ length s.past
  here : scan_of u c ≡ Some scan

begun : (s : State) (c : ℕ) (p : Path) → c < length s.scans → scan_of s c ≡ None → IsTrue s → IsUnderWay s c p (told_step s (CallBegin c p)).state
begun s c p within closed known =
    let scan : Scan = record { path = p; begun_at = length s.past; partial = Unread } in
    subst (λ (o : Option Scan). IsUnderWay s c p (begin_or s c p o).state) (sym closed) (record {
      same_case = refl;
      same_world = refl;
      same_pending = refl;
      same_retained = refl;
      same_past = refl;
      few_scans = length-set s.scans c (Some scan);
      known = after_begin-sound s c p known;
      scan = scan;
      path = refl;
      begun_at = refl;
      here = ap open_scan (set-here s.scans c (Some scan) within);
    })

-- nothing was invalidated since the begin, so the scan is not overtaken
dropped-all : {X : Type 0} (xs : List X) → drop (length xs) xs ≡ []
dropped-all [] = refl
dropped-all (x ∷ xs) = dropped-all xs

fresh : (s : State) (c : ℕ) (p : Path) (u : State) (w : IsUnderWay s c p u) → is_overtaken u.case u.past w.scan ≡ false
fresh s c p u w =
    let since : drop w.scan.begun_at u.past ≡ [] = (λ i. drop (w.begun_at i) (w.same_past i)) ∙ dropped-all s.past in
    ap (λ (es : List Path). list_any (λ e. is_related e (place u.case w.scan.path)) es) since

-- the part that is retained of a place is the same where what is retained is
same-part : (s u : State) (x : Path) → u.case ≡ s.case → u.retained ≡ s.retained → is_some (part_at u x) ≡ is_some (part_at s x)
same-part s u x same_case same_retained = λ i. is_some (part_at (record u { case = same_case i; retained = same_retained i }) x)

-- a root is not retained, so no pair stands strictly above it
uncovered : (s u : State) (p : Path) → u.case ≡ s.case → u.retained ≡ s.retained → part_at s p ≡ None → is_covered u.retained.pairs (place u.case p) ≡ false
uncovered s u p same_case same_retained none = unretained-free u.case u.retained.pairs (place u.case p) (same-part s u p same_case same_retained ∙ ap is_some none)

-- nothing waits in the state, what it knows is true, and the caller's scan is closed
pub record IsAtRest (c : ℕ) (s : State) : Type 0 where
  pub waits : IsSettled s
  pub known : IsTrue s
  pub within : c < length s.scans
  pub closed : scan_of s c ≡ None

-- the case and the world are the same in both states, and what is retained stays so
pub record KeepsRoots (s t : State) : Type 0 where
  pub case : t.case ≡ s.case
  pub world : t.world ≡ s.world
  pub kept : (x : Path) → is_some (part_at s x) ≡ true → is_some (part_at t x) ≡ true

-- the publish of a scan that is not overtaken, and whose path is not covered, stores
stored-state : (u : State) (c : ℕ) (scan : Scan) → scan_of u c ≡ Some scan → next_left scan.partial ≡ None → is_overtaken u.case u.past scan ≡ false → is_covered u.retained.pairs (place u.case scan.path) ≡ false
    → (told_step u (CallPublish c)).state ≡ after_publish u c scan
stored-state u c scan here next new free =
    ap (λ (o : Option Scan). (publish_or u c o).state) here
    ∙ ap (λ (y : Option Path). (publish_next u c scan y).state) next
    ∙ (λ i. (publish_when u c scan (new i) (free i)).state)

-- what holds after the scan of a root
record IsRootScanned (s : State) (c : ℕ) (p : Path) (t : State) : Type 0 where
  rests : IsAtRest c t
  keeps : KeepsRoots s t
  stored : is_some (part_at t p) ≡ true

after-store : (s : State) (c : ℕ) (p : Path) (u : State) (w : IsUnderWay s c p u) → c < length s.scans → IsSettled s → next_left w.scan.partial ≡ None → IsRootScanned s c p (after_publish u c w.scan)
after-store s c p u w within waits next =
    let few = w.few_scans in
    let t = after_publish u c w.scan in
    let made = snapshot_made w.scan.partial in
    let there = place u.case w.scan.path in
    record {
      rests = record {
        waits = subst (λ pending. IsSettled (record t { pending = pending })) (sym w.same_pending) (record { events = waits.events; mark = waits.mark });
        known = after_publish-sound u c w.scan w.here next (fresh s c p u w) w.known;
        within = omega (arith, within, few, length-set u.scans c None);
        closed = ap open_scan (set-here u.scans c None (omega (arith, within, few)));
      };
      keeps = record {
        case = w.same_case;
        world = w.same_world;
        kept = λ x h. store-keeps u.case there made u.retained (place u.case x) (same-part s u x w.same_case w.same_retained ∙ h);
      };
      stored = subst (λ (q : Path). is_some (part_at t q) ≡ true) w.path (store-retained u.case there made u.retained);
    }

-- a call for a fingerprint leaves the world as it is
when-world : (s : State) (seen : List Seen) (missing : Bool) → (fingerprint_when s seen missing).state.world ≡ s.world
when-world s seen true = refl
when-world s seen false = refl

or-world : (s : State) (inputs : List Input) (seen : List Seen) (o : Option KeptPrint) → (fingerprint_or s inputs seen o).state.world ≡ s.world
or-world s inputs seen (Some k) = refl
or-world s inputs seen None = when-world s seen (nat_lt (length seen) (length inputs))

fingerprint-world : (s : State) (inputs : List Input) → (told_step s (CallFingerprint inputs)).state.world ≡ s.world
fingerprint-world s inputs = or-world s inputs (seen_inputs s.case s.retained.pairs inputs) (find (λ (k : KeptPrint). is_for_inputs inputs k.seen) s.kept)

-- ---- one operation of a told run

-- what is left of a run after the call that was due
record Goes (caller : ℕ) (s : State) (stage : Stage) (text : List ℕ) (last : State) (h : List Operation) : Type 0 where
  told : AreTold s h
  follows : Follows caller stage h
  whole : stage_after stage h ≡ Whole text
  ends : after s h ≡ last

step-goes : (caller : ℕ) (s : State) (stage : Stage) (text : List ℕ) (last : State) (o : Operation) (h : List Operation) (call : Call) → next_call stage ≡ Some call → Goes caller s stage text last (o ∷ h) → Goes caller (told_step s call).state (advance stage (told_step s call).reply) text last h
step-goes caller s stage text last o h call due g =
    let first = AreTold-first s o h g.told in
    let same : o.call ≡ call = same-call (next_call stage) o.call call g.follows.1 due in
    let reply : o.reply ≡ (told_step s call).reply = first.0 ∙ ap (λ z. (told_step s z).reply) same in
    let state : after_operation s o ≡ (told_step s call).state = first.1 ∙ ap (λ z. (told_step s z).state) same in
    record {
      told = subst (λ z. AreTold z h) state (AreTold-rest s o h g.told);
      follows = subst (λ z. Follows caller (advance stage z) h) reply g.follows.2;
      whole = subst (λ z. stage_after (advance stage z) h ≡ Whole text) reply g.whole;
      ends = ap (λ z. after z h) (sym state) ∙ g.ends;
    }

stage-goes : (caller : ℕ) (s : State) (a b : Stage) (text : List ℕ) (last : State) (h : List Operation) → a ≡ b → Goes caller s a text last h → Goes caller s b text last h
stage-goes caller s a b text last h same g = subst (λ z. Goes caller s z text last h) same g

-- ---- the reads of a root

-- what comes of a read
record IsReadOn (s : State) (c : ℕ) (p : Path) (u : State) : Type 0 where
  under_way : IsUnderWay s c p (told_step u (CallRead c)).state
  goes_on : (n : ℕ) (next : Option ℕ → Stage) → was_read c n next (told_step u (CallRead c)).reply ≡ Reads c (n + 1) next

record IsReadWhole (s : State) (c : ℕ) (p : Path) (u : State) : Type 0 where
  left : (w : IsUnderWay s c p (told_step u (CallRead c)).state) × (next_left w.scan.partial ≡ None)
  ends : (n : ℕ) (next : Option ℕ → Stage) → was_read c n next (told_step u (CallRead c)).reply ≡ next (Some n)

one-read : (s : State) (c : ℕ) (p : Path) (u : State) → c < length s.scans → IsUnderWay s c p u → IsReadOn s c p u ⊎ IsReadWhole s c p u
one-read s c p u within w = by (next_left w.scan.partial) refl
  where
    by : (y : Option Path) → next_left w.scan.partial ≡ y → IsReadOn s c p u ⊎ IsReadWhole s c p u
    by None e =
        let same : told_step u (CallRead c) ≡ record { reply = AllRead; state = u } = ap (λ (o : Option Scan). read_or u c o (look_due u o)) w.here ∙ ap (λ (y : Option Path). read_next u c w.scan y (look_due_at u w.scan y)) e in
        inr (record {
          left = subst (λ z. (v : IsUnderWay s c p z.state) × (next_left v.scan.partial ≡ None)) (sym same) (w, e);
          ends = λ n next. ap (λ z. was_read c n next z.reply) same;
        })
    by (Some y) e =
        let after_it : Scan = record { path = w.scan.path; begun_at = w.scan.begun_at; partial = after_look (look_below u w.scan y) w.scan.partial } in
        let few = w.few_scans in
        let fits : c < length u.scans = omega (arith, within, few) in
        let same = ap (λ (o : Option Scan). read_or u c o (look_due u o)) w.here ∙ ap (λ (y : Option Path). read_next u c w.scan y (look_due_at u w.scan y)) e in
        inl (record {
          under_way = subst (λ z. IsUnderWay s c p z.state) (sym same) (record {
            same_case = w.same_case;
            same_world = w.same_world;
            same_pending = w.same_pending;
            same_retained = w.same_retained;
            same_past = w.same_past;
            few_scans = length-set u.scans c (Some after_it) ∙ w.few_scans;
            known = after_read-sound u c w.scan y w.here e w.known;
            scan = after_it;
            path = w.path;
            begun_at = w.begun_at;
            here = ap open_scan (set-here u.scans c (Some after_it) fits);
          });
          goes_on = λ n next. ap (λ z. was_read c n next z.reply) same;
        })

-- where the reads end: the scan is under way with nothing left, and the run goes on with the rest
record ReadsEnd (s : State) (c : ℕ) (p : Path) (next : Option ℕ → Stage) (text : List ℕ) (last : State) : Type 0 where
  count : ℕ
  at : State
  rest : List Operation
  under_way : IsUnderWay s c p at
  left : next_left under_way.scan.partial ≡ None
  goes : Goes c at (next (Some count)) text last rest

reads-end : (s : State) (c : ℕ) (p : Path) (u : State) (n : ℕ) (next : Option ℕ → Stage) (text : List ℕ) (last : State) (h : List Operation) → c < length s.scans → IsUnderWay s c p u → Goes c u (Reads c n next) text last h → ReadsEnd s c p next text last
reads-end s c p u n next text last [] within w g = absurd (none-due (Reads c n next) text (CallRead c) g.whole refl)
reads-end s c p u n next text last (o ∷ h) within w g =
    let on = step-goes c u (Reads c n next) text last o h (CallRead c) refl g in
    let v = (told_step u (CallRead c)).state in
    elim (one-read s c p u within w) [
      | inl more ↦ reads-end s c p v (n + 1) next text last h within more.under_way (stage-goes c v _ (Reads c (n + 1) next) text last h (more.goes_on n next) on)
      | inr all ↦ record { count = n; at = v; rest = h; under_way = all.left.0; left = all.left.1; goes = stage-goes c v _ (next (Some n)) text last h (all.ends n next) on }
    ]

next-op : (caller : ℕ) (s : State) (stage : Stage) (text : List ℕ) (last : State) (h : List Operation) (call : Call) → next_call stage ≡ Some call → Goes caller s stage text last h → (rest : List Operation) × Goes caller (told_step s call).state (advance stage (told_step s call).reply) text last rest
next-op caller s stage text last [] call due g = absurd (none-due stage text call g.whole due)
next-op caller s stage text last (o ∷ h) call due g = (h, step-goes caller s stage text last o h call due g)

-- ---- the scan of a root

-- what comes of a root that is not retained
record RootEnd (s : State) (c : ℕ) (p : Path) (k : Counts) (more : Counts → Stage) (text : List ℕ) (last : State) : Type 0 where
  count : ℕ
  at : State
  rest : List Operation
  scanned : IsRootScanned s c p at
  goes : Goes c at (more (with_miss k count)) text last rest

root-end : (s : State) (c : ℕ) (p : Path) (k : Counts) (more : Counts → Stage) (text : List ℕ) (last : State) (h : List Operation) → IsAtRest c s → part_at s p ≡ None → Goes c s (Asks (CallBegin c p) (λ reply. Reads c 0 (root_read c k more))) text last h → RootEnd s c p k more text last
root-end s c p k more text last h rests none g =
    let first = next-op c s (Asks (CallBegin c p) (λ reply. Reads c 0 (root_read c k more))) text last h (CallBegin c p) refl g in
    let reads = reads-end s c p (told_step s (CallBegin c p)).state 0 (root_read c k more) text last first.0 rests.within (begun s c p rests.within rests.closed rests.known) first.1 in
    let u = reads.at in
    let w = reads.under_way in
    let end = next-op c u (root_read c k more (Some reads.count)) text last reads.rest (CallPublish c) refl reads.goes in
    let free : is_covered u.retained.pairs (place u.case w.scan.path) ≡ false = subst (λ (q : Path). is_covered u.retained.pairs (place u.case q) ≡ false) (sym w.path) (uncovered s u p w.same_case w.same_retained none) in
    let is = stored-state u c w.scan w.here reads.left (fresh s c p u w) free in
    record {
      count = reads.count;
      at = (told_step u (CallPublish c)).state;
      rest = end.0;
      scanned = subst (IsRootScanned s c p) (sym is) (after-store s c p u w rests.within rests.waits reads.left);
      goes = end.1;
    }

-- ---- the inputs

-- what comes of the inputs of a build: nothing waits then either, each input is counted once, all that was retained is retained, and so are the roots
record TakenEnd (s : State) (c : ℕ) (all inputs : List Input) (k : Counts) (text : List ℕ) (last : State) : Type 0 where
  counts : Counts
  at : State
  rest : List Operation
  rests : IsAtRest c at
  keeps : KeepsRoots s at
  counted : counts.hits + counts.misses ≡ k.hits + k.misses + length inputs
  retained : Each (λ (i : Input). is_some (part_at at i.root) ≡ true) inputs
  goes : Goes c at (taking c all [] counts) text last rest

-- more inputs behind one whose root is retained
one-more : (s t : State) (c : ℕ) (all : List Input) (i : Input) (more : List Input) (k l : Counts) (text : List ℕ) (last : State) → KeepsRoots s t → is_some (part_at t i.root) ≡ true → l.hits + l.misses ≡ k.hits + k.misses + 1 → TakenEnd t c all more l text last → TakenEnd s c all (i ∷ more) k text last
one-more s t c all i more k l text last keeps stored one e = record {
  counts = e.counts;
  at = e.at;
  rest = e.rest;
  rests = e.rests;
  keeps = record {
    case = e.keeps.case ∙ keeps.case;
    world = e.keeps.world ∙ keeps.world;
    kept = λ x h. e.keeps.kept x (keeps.kept x h);
  };
  counted = let n = e.counted in omega (arith, n, one);
  retained = (e.keeps.kept i.root stored, e.retained);
  goes = e.goes;
}

taken-end : (s : State) (c : ℕ) (all inputs : List Input) (k : Counts) (text : List ℕ) (last : State) (h : List Operation) → IsAtRest c s → Goes c s (taking c all inputs k) text last h → TakenEnd s c all inputs k text last
taken-end s c all [] k text last h rests g = record {
  counts = k;
  at = s;
  rest = h;
  rests = rests;
  keeps = record { case = refl; world = refl; kept = λ x e. e };
  counted = omega arith;
  retained = tt;
  goes = g;
}
taken-end s c all (i ∷ more) k text last h rests g =
    let on = next-op c s (taking c all (i ∷ more) k) text last h (CallFind i.root) refl g in
    by (λ t l rest rest_at goes. taken-end t c all more l text last rest rest_at goes) on.0 (part_at s i.root) refl on.1
  where
    by : ((t : State) (l : Counts) (rest : List Operation) → IsAtRest c t → Goes c t (taking c all more l) text last rest → TakenEnd t c all more l text last) → (rest : List Operation) (o : Option Snapshot) → part_at s i.root ≡ o
        → Goes c s (root_found c i.root k (taking c all more) (Found (glance (part_at s i.root)))) text last rest → TakenEnd s c all (i ∷ more) k text last
    by again rest (Some part) e g =
        let hit : Goes c s (taking c all more (with_hit k)) text last rest = subst (λ z. Goes c s (root_found c i.root k (taking c all more) (Found (glance z))) text last rest) e g in
        one-more s s c all i more k (with_hit k) text last (record { case = refl; world = refl; kept = λ x h. h }) (ap is_some e) (omega arith) (again s (with_hit k) rest rests hit)
    by again rest None e g =
        let miss = subst (λ z. Goes c s (root_found c i.root k (taking c all more) (Found (glance z))) text last rest) e g in
        let end = root-end s c i.root k (taking c all more) text last rest rests e miss in
        one-more s end.at c all i more k (with_miss k end.count) text last end.scanned.keeps end.scanned.stored (omega arith) (again end.at (with_miss k end.count) end.rest end.scanned.rests end.goes)

-- ---- the deliveries

-- the two states have one case, one world and the same scans
record HasSameScans (s t : State) : Type 0 where
  case : t.case ≡ s.case
  world : t.world ≡ s.world
  scans : t.scans ≡ s.scans

-- what comes of a delivery: something was delivered, or nothing waits
record IsDeliveredOn (s : State) (d : Outcome) : Type 0 where
  same : HasSameScans s d.state
  goes_on : (n : ℕ) (next : ℕ → Stage) → delivered n next d.reply ≡ Delivers (n + 1) next

record IsDeliveredWhole (s : State) (d : Outcome) : Type 0 where
  settled : IsSettled s
  stays : d.state ≡ s
  ends : (n : ℕ) (next : ℕ → Stage) → delivered n next d.reply ≡ next n

one-delivery : (s : State) → IsDeliveredOn s (deliver s) ⊎ IsDeliveredWhole s (deliver s)
one-delivery s = by s.pending.mark refl
  where
    first : (events : List Path) → s.pending.mark ≡ false → s.pending.events ≡ events → IsDeliveredOn s (deliver_first s events) ⊎ IsDeliveredWhole s (deliver_first s events)
    first [] m e = inr (record { settled = record { events = e; mark = m }; stays = refl; ends = λ n next. refl })
    first (x ∷ rest) m e = inl (record { same = record { case = refl; world = refl; scans = refl }; goes_on = λ n next. refl })

    by : (mark : Bool) → s.pending.mark ≡ mark → IsDeliveredOn s (deliver_when s mark) ⊎ IsDeliveredWhole s (deliver_when s mark)
    by true m = inl (record { same = record { case = refl; world = refl; scans = refl }; goes_on = λ n next. refl })
    by false m = first s.pending.events m refl

record DeliversEnd (s : State) (c : ℕ) (next : ℕ → Stage) (text : List ℕ) (last : State) : Type 0 where
  count : ℕ
  at : State
  rest : List Operation
  sound : IsSound at
  settled : IsSettled at
  same : HasSameScans s at
  goes : Goes c at (next count) text last rest

delivers-end : (s : State) (c : ℕ) (n : ℕ) (next : ℕ → Stage) (text : List ℕ) (last : State) (h : List Operation) → IsSound s → Goes c s (Delivers n next) text last h → DeliversEnd s c next text last
delivers-end s c n next text last [] sound g = absurd (none-due (Delivers n next) text CallDeliver g.whole refl)
delivers-end s c n next text last (o ∷ h) sound g =
    let on = step-goes c s (Delivers n next) text last o h CallDeliver refl g in
    let v = (told_step s CallDeliver).state in
    elim (one-delivery s) [
      | inl more ↦
          let e = delivers-end v c (n + 1) next text last h (step-sound (answers s CallDeliver) s CallDeliver tt tt sound) (stage-goes c v _ (Delivers (n + 1) next) text last h (more.goes_on n next) on) in
          record {
            count = e.count;
            at = e.at;
            rest = e.rest;
            sound = e.sound;
            settled = e.settled;
            same = record { case = e.same.case ∙ more.same.case; world = e.same.world ∙ more.same.world; scans = e.same.scans ∙ more.same.scans };
            goes = e.goes;
          }
      | inr all ↦ record {
        count = n;
        at = s;
        rest = h;
        sound = sound;
        settled = all.settled;
        same = record { case = refl; world = refl; scans = refl };
        goes = subst (λ z. Goes c z (next n) text last h) all.stays (stage-goes c v _ (next n) text last h (all.ends n next) on);
      }
    ]

-- ---- the whole

-- a whole stage is followed by nothing more
whole-ends : (c : ℕ) (s : State) (x text : List ℕ) (last : State) (h : List Operation) → Goes c s (Whole x) text last h → (text ≡ x) × (last ≡ s)
whole-ends c s x text last [] g = (sym (whole-text (Whole x) x text refl g.whole), sym g.ends)
whole-ends c s x text last (o ∷ h) g = absurd (none-due (Whole x) x o.call refl g.follows.1)

pub build-shows : (s : State) (c : ℕ) (inputs : List Input) (h : List Operation) (text : List ℕ) → IsSound s → c < length s.scans → scan_of s c ≡ None → AreTold s h → Follows c (building c false inputs) h → stage_after (building c false inputs) h ≡ Whole text
    → (k : Counts) × (k.hits + k.misses ≡ length inputs) × (text ≡ build_text k (fingerprint_of s.case s.world inputs)) × ((after s h).world ≡ s.world)
build-shows s c inputs h text sound within closed told follows whole =
    let rest = delivers-end s c 0 (λ n. taking c inputs inputs no_counts) text (after s h) h sound (record { told = told; follows = follows; whole = whole; ends = refl }) in
    let u = rest.at in
    let rests : IsAtRest c u = record {
      waits = rest.settled;
      known = rest.sound.known;
      within = subst (λ (scans : List (Option Scan)). c < length scans) (sym rest.same.scans) within;
      closed = ap (λ (scans : List (Option Scan)). scan_of (record s { scans = scans }) c) rest.same.scans ∙ closed;
    } in
    let taken = taken-end u c inputs inputs no_counts text (after s h) rest.rest rests rest.goes in
    let t = taken.at in
    let end = next-op c t (taking c inputs [] taken.counts) text (after s h) taken.rest (CallFingerprint inputs) refl taken.goes in
    let last = whole-ends c (told_step t (CallFingerprint inputs)).state (built_text taken.counts (told_step t (CallFingerprint inputs)).reply) text (after s h) end.0 end.1 in
    let known = fingerprint-known (answers t (CallFingerprint inputs)) t inputs taken.retained in
    let of_world = fingerprint-is-of-world (answers t (CallFingerprint inputs)) t inputs known.0 taken.rests.waits taken.rests.known known.1 in
    let case_is = taken.keeps.case ∙ rest.same.case in
    let world_is = taken.keeps.world ∙ rest.same.world in
    let digest : known.0 ≡ fingerprint_of s.case s.world inputs = of_world ∙ (λ i. fingerprint_of (case_is i) (world_is i) inputs) in (
      taken.counts,
      (let n = taken.counted in omega (arith, n)),
      last.0 ∙ ap (built_text taken.counts) known.1 ∙ ap (build_text taken.counts) digest,
      ap (λ z. z.world) last.1 ∙ fingerprint-world t inputs ∙ world_is,
    )

-- ---- the builds of a run

line-shows : (s : State) (line : Line) (run : LineRun) → IsSound s → line.caller < 16 → IsLineRun s line run → AreTold s run.operations → (command : Command) → line.command ≡ command → ShowsWhereBuilt s line.caller command run
line-shows s line run sound fits is told (Build inputs) e = λ closed.
    let stage : line_stage s line ≡ building line.caller false (map input_of inputs) = ap (λ c. stage_of line.caller (is_some (scan_of s line.caller)) c) e ∙ ap (λ (o : Option Scan). building line.caller (is_some o) (map input_of inputs)) closed in
    let sixteen = sound.limits.scans in
    let shows = build-shows s line.caller (map input_of inputs) run.operations run.text sound (omega (arith, fits, sixteen)) closed told (subst (λ z. Follows line.caller z run.operations) stage is.follows) (subst (λ z. stage_after z run.operations ≡ Whole run.text) stage is.whole) in
    record { counts = shows.0; counted = shows.1; text = shows.2; world = shows.3 }
line-shows s line run sound fits is told _ e = tt

pub builds-show : (s : State) (lines : List Line) (runs : List LineRun) → Each IsAsking lines → IsSound s → AreRuns s lines runs → AreTold s (operations_of runs) → BuildsShow s lines runs
builds-show s [] runs asking sound follows told = tt
builds-show s (line ∷ lines) [] asking sound follows told = tt
builds-show s (line ∷ lines) (run ∷ runs) asking sound follows told =
    let h = run.operations in
    let here = AreTold-front s h (operations_of runs) told in
    let legal = stage-legal line.caller s (line_stage s line) h (command-due line.caller _ line.command asking.0.0 asking.0.1) follows.0.follows here.made here.due in (
      line-shows s line run sound asking.0.0 follows.0 here line.command refl,
      builds-show (after s h) lines runs asking.1 (after-sound s h legal sound) follows.1 (AreTold-back s h (operations_of runs) told),
    )
