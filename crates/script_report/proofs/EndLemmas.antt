-- Over a tree that tells its world every line ends.
use Rattle.std.proofs.Math.ListN.{length-set}
use Rattle.std.proofs.Common.{◌≡◌, ℕ, zero, suc, ◌+◌, ◌-◌, ◌<◌, ◌≤◌, Bool, true, false, List, [], ◌∷◌, ◌++◌, length, Option, Some, None, refl, sym, ap, subst, ◌∙◌, arith, append_assoc, append-nil, length-append, slice_get, slice_set, if◌then◌else◌, nat_lt, find}
use Rattle.std.specs.List.{count_by, AllByRecursion as Each}
use Rattle.vfs_model.specs.declared.Case.{Case}
use Rattle.vfs_model.specs.Paths.{Name, Path, folded_name, place}
use Rattle.vfs_model.specs.Pending.{deliveries_due, has_room}
use Rattle.vfs_model.specs.World.{World, Entry, Node, Directory, Regular, at, names, AreShort}
use Rattle.vfs_model.specs.Snapshot.{Snapshot, Missing, File, Dir, Child, Children, Nothing}
use Rattle.vfs_model.specs.Scan.{listing, snapshot_of_node, snapshot_of, scan_down}
use Rattle.vfs_model.specs.Scanning.{Look, look, look_of, look_of_node, PartialSnapshot, Unread, NotThere, FileRead, DirRead, PartialChildren, NoChildren, PartialChild, unread, partial_of_look, next_left, next_left_in, below_or, after_look, after_look_in, Scan, is_overtaken}
use Rattle.vfs_model.specs.State.{State, Call, CallEdit, CallEvent, CallLose, CallDeliver, CallBegin, CallRead, CallPublish, CallDrop, CallFind, CallPart, CallKind, CallVersion, CallFingerprint, Reply, Done, Overflow, Fits, Saw, NoScan, AllRead, NothingPending, EditAnswer, Refuses, Does, KeptPrint, AreDue, all_fit, edit_by, edit_answer, read_next, read_or, open_scan, scan_of, told_step, answers, look_due, look_due_at, deliver, deliver_when, deliver_first, begin_or, publish_or, publish_next, publish_when, drop_or, fingerprint_or, fingerprint_when, seen_inputs, is_for_inputs}
use Rattle.vfs_model.specs.Edit.{Edit}
use Rattle.vfs_model.specs.Retained.{is_covered}
use Rattle.vfs_model.specs.Fingerprint.{Input, Seen}
use Rattle.vfs_model.specs.Sound.{IsSound}
use Rattle.vfs_model.specs.History.{Operation, IsCall, is_no_memory, after_operation, after}
use Rattle.vfs_laws.proofs.NameLemmas.{some-is}
use Rattle.vfs_laws.proofs.Splits.{split_option}
use Rattle.vfs_laws.proofs.ScanningLemmas.{names-none, below_or-none}
use Rattle.vfs_laws.proofs.HistoryLemmas.{step-sound, after-sound}
use Rattle.vfs_laws.proofs.DueLemmas.{told-due}
use Rattle.script_text.specs.declared.script.Line.{Line}
use Rattle.script_report.specs.Stages.{Stage, Whole, Asks, Delivers, Reads, next_call, delivered, was_read, advance, stage_after, Follows, EachDue}
use Rattle.script_report.specs.Lines.{line_stage, IsAsking}
use Rattle.script_report.specs.Runs.{IsMade, AreTold, AreMade, AreTrue, asked_in, is_failed, failed, LineRun, AreRuns, operations_of}
use Rattle.script_report.proofs.EachAtLemmas.{EachAt-append, failed-append}
use Rattle.script_report.proofs.LegalLemmas.{command-due, stage-legal}

-- how many locations a snapshot tells of, its own among them
abbrev mutual
  locations : Snapshot → ℕ
  locations Missing = 1
  locations (File digest) = 1
  locations (Dir children) = suc (locations_in children)

  locations_in : Children → ℕ
  locations_in Nothing = 0
  locations_in (Child name s more) = locations s + locations_in more

-- the reply says that something was seen
abbrev is_saw : Reply → Bool
is_saw (Saw p kind left) = true
is_saw _ = false

-- ---- what is left to read

-- how many reads are left below a location that has so many levels below it, and of its children
abbrev mutual
  left_of : Case → World → ℕ → Path → PartialSnapshot → ℕ
  left_of case world levels p Unread = locations (scan_down case world levels p)
  left_of case world levels p NotThere = 0
  left_of case world levels p (FileRead bytes) = 0
  left_of case world levels p (DirRead below) = left_in case world (levels - 1) p below

  left_in : Case → World → ℕ → Path → PartialChildren → ℕ
  left_in case world levels p NoChildren = 0
  left_in case world levels p (PartialChild n s more) = left_of case world levels (p ++ folded_name case n ∷ []) s + left_in case world levels p more

-- the children that a look lists are left to read
left_in-unread : (case : Case) (world : World) (levels : ℕ) (p : Path) (ns : List Name)
    → left_in case world levels p (unread ns) ≡ locations_in (listing (λ n. scan_down case world levels (p ++ folded_name case n ∷ [])) ns)
left_in-unread case world levels p [] = refl
left_in-unread case world levels p (n ∷ ns) = ap (λ k. locations (scan_down case world levels (p ++ folded_name case n ∷ [])) + k) (left_in-unread case world levels p ns)

-- a look at what stands at a location leaves the children to read
seen-node : (case : Case) (world : World) (levels : ℕ) (p : Path) (node : Node) (ns : List Name) (cs : Children) → left_in case world (levels - 1) p (unread ns) ≡ locations_in cs
    → locations (snapshot_of_node node cs) ≡ suc (left_of case world levels p (partial_of_look (look_of_node node ns)))
seen-node case world levels p Directory ns cs h = ap suc (sym h)
seen-node case world levels p (Regular bytes) ns cs h = refl

seen-entry : (case : Case) (world : World) (levels : ℕ) (p : Path) (e : Option Entry) (ns : List Name) (cs : Children) → left_in case world (levels - 1) p (unread ns) ≡ locations_in cs
    → locations (snapshot_of e cs) ≡ suc (left_of case world levels p (partial_of_look (look_of e ns)))
seen-entry case world levels p None ns cs h = refl
seen-entry case world levels p (Some e) ns cs h = seen-node case world levels p e.node ns cs h

-- a look at an unread location leaves one read less
seen-one : (case : Case) (world : World) (levels : ℕ) (p : Path) → AreShort world → 64 ≤ length p + levels
    → locations (scan_down case world levels p) ≡ suc (left_of case world levels p (partial_of_look (look case world p)))
unfolding scan_down
seen-one case world zero p short deep =
    let none : names case world p ≡ [] = names-none case world p short (omega (arith, deep)) in
    seen-entry case world zero p (at case world p) (names case world p) Nothing (ap (λ ns. left_in case world 0 p (unread ns)) none)
seen-one case world (suc levels) p short deep =
    let one : suc levels - 1 ≡ levels = omega arith in
    seen-entry case world (suc levels) p (at case world p) (names case world p) (listing (λ n. scan_down case world levels (p ++ folded_name case n ∷ [])) (names case world p))
    (ap (λ k. left_in case world k p (unread (names case world p))) one ∙ left_in-unread case world levels p (names case world p))

-- the first location left is in the first child with one, and else in the others
by_first : {P : Type 0} (n : Name) (o more : Option Path) (y : Path) → below_or n o more ≡ Some y → ((x : Path) → o ≡ Some x → y ≡ n ∷ x → P) → (o ≡ None → more ≡ Some y → P) → P
by_first n None more y e first rest = rest refl e
by_first n (Some x) more y e first rest = first x refl (sym (some-is _ _ e))

-- where the names go on below a child
go-on : (case : Case) (p : Path) (n : Name) (x : Path) → p ++ place case (n ∷ x) ≡ (p ++ folded_name case n ∷ []) ++ place case x
go-on case p n x = sym (append_assoc p (folded_name case n ∷ []) (place case x))

deeper : (p : Path) (k : Name) (levels : ℕ) → 64 ≤ length p + levels → 64 ≤ length (p ++ k ∷ []) + (levels - 1)
deeper p k levels deep = let l = length-append p (k ∷ []) in omega (arith, l, deep)

-- a look at the first location left leaves one read less
mutual
  read-one : (case : Case) (world : World) (levels : ℕ) (p : Path) (s : PartialSnapshot) (y : Path) → AreShort world → 64 ≤ length p + levels → next_left s ≡ Some y
      → left_of case world levels p s ≡ suc (left_of case world levels p (after_look (look case world (p ++ place case y)) s))
  read-one case world levels p Unread y short deep e =
      let here : p ≡ p ++ place case y = sym (append-nil p) ∙ ap (λ x. p ++ place case x) (some-is _ _ e) in
      seen-one case world levels p short deep ∙ ap (λ q. suc (left_of case world levels p (partial_of_look (look case world q)))) here
  read-one case world levels p NotThere y short deep e = cc
  read-one case world levels p (FileRead bytes) y short deep e = cc
  read-one case world levels p (DirRead below) y short deep e = read-one-in case world levels p below y short deep e

  read-one-in : (case : Case) (world : World) (levels : ℕ) (p : Path) (below : PartialChildren) (y : Path) → AreShort world → 64 ≤ length p + levels → next_left_in below ≡ Some y
      → left_in case world (levels - 1) p below ≡ suc (left_in case world (levels - 1) p (after_look_in (look case world (p ++ place case y)) below))
  read-one-in case world levels p NoChildren y short deep e = cc
  read-one-in case world levels p (PartialChild n s more) y short deep e =
      by_first n (next_left s) (next_left_in more) y e
      (λ x first is.
      let one = read-one case world (levels - 1) (p ++ folded_name case n ∷ []) s x short (deeper p (folded_name case n) levels deep) first in
      let l = look case world ((p ++ folded_name case n ∷ []) ++ place case x) in
      let same : look case world (p ++ place case y) ≡ l = ap (λ z. look case world (p ++ place case z)) is ∙ ap (look case world) (go-on case p n x) in
      rw (same, first) (omega (arith, one)))
      (λ none rest.
      let one = read-one-in case world levels p more y short deep rest in
      rw none (omega (arith, one)))

-- where nothing is left, no read is left
mutual
  read-none : (case : Case) (world : World) (levels : ℕ) (p : Path) (s : PartialSnapshot) → next_left s ≡ None → left_of case world levels p s ≡ 0
  read-none case world levels p Unread e = cc
  read-none case world levels p NotThere e = refl
  read-none case world levels p (FileRead bytes) e = refl
  read-none case world levels p (DirRead below) e = read-none-in case world (levels - 1) p below e

  read-none-in : (case : Case) (world : World) (levels : ℕ) (p : Path) (below : PartialChildren) → next_left_in below ≡ None → left_in case world levels p below ≡ 0
  read-none-in case world levels p NoChildren e = refl
  read-none-in case world levels p (PartialChild n s more) e =
      let parts = below_or-none n (next_left s) (next_left_in more) e in
      let a = read-none case world levels (p ++ folded_name case n ∷ []) s parts.0 in
      let b = read-none-in case world levels p more parts.1 in
      omega (arith, a, b)

-- ---- reads of a state

-- what was set is there
set-here : {X : Type 0} (xs : List X) (i : ℕ) (x : X) → i < length xs → slice_get (slice_set xs i x) i ≡ Some x
set-here [] i x h = absurd (omega arith)
set-here (y ∷ xs) zero x h = refl
set-here (y ∷ xs) (suc i) x h = set-here xs i x (omega arith)

-- the scan with the number is in progress in the world, within so many scans, and has so many reads left
record IsReading (case : Case) (world : World) (c few n : ℕ) (s : State) : Type 0 where
  scan : Scan
  same_case : s.case ≡ case
  same_world : s.world ≡ world
  few_scans : length s.scans ≡ few
  open_here : scan_of s c ≡ Some scan
  reads : left_of case world 64 (place case scan.path) scan.partial ≡ n

-- a read where some are left sees something, and one less is left
read-sees : (case : Case) (world : World) (c few n : ℕ) (s : State) (scan : Scan) (y : Option Path) → AreShort world → c < few → s.case ≡ case → s.world ≡ world → length s.scans ≡ few → scan_of s c ≡ Some scan → next_left scan.partial ≡ y
    → left_of case world 64 (place case scan.path) scan.partial ≡ suc n
    → (is_saw (read_next s c scan y (look_due_at s scan y)).reply ≡ true) × IsReading case world c few n (read_next s c scan y (look_due_at s scan y)).state
read-sees case world c few n s scan None short within same_case same_world few_scans open_here next left =
    absurd (let none = read-none case world 64 (place case scan.path) scan.partial next in omega (arith, none, left))
read-sees case world c few n s scan (Some y) short within same_case same_world few_scans open_here next left =
    let l = look s.case s.world (place s.case scan.path ++ place s.case y) in
    let after : Scan = record { path = scan.path; begun_at = scan.begun_at; partial = after_look l scan.partial } in
    let fits : c < length s.scans = omega (arith, within, few_scans) in
    let here : look case world (place case scan.path ++ place case y) ≡ l = λ i. look (sym same_case i) (sym same_world i) (place (sym same_case i) scan.path ++ place (sym same_case i) y) in
    let one = read-one case world 64 (place case scan.path) scan.partial y short (omega arith) next in (
      refl,
      record {
        scan = after;
        same_case = same_case;
        same_world = same_world;
        few_scans = length-set s.scans c (Some after) ∙ few_scans;
        open_here = ap open_scan (set-here s.scans c (Some after) fits);
        reads = let two : left_of case world 64 (place case scan.path) (after_look l scan.partial) ≡ left_of case world 64 (place case scan.path) (after_look (look case world (place case scan.path ++ place case y)) scan.partial) = ap (λ k. left_of case world 64 (place case scan.path) (after_look k scan.partial)) (sym here) in omega (arith, one, two, left);
      },
    )

-- a read where some are left, and one where none is
one-read : (case : Case) (world : World) (c few n : ℕ) (s : State) → AreShort world → c < few → IsReading case world c few (suc n) s → (is_saw (told_step s (CallRead c)).reply ≡ true) × IsReading case world c few n (told_step s (CallRead c)).state
one-read case world c few n s short within r =
    rw r.open_here (read-sees case world c few n s r.scan (next_left r.scan.partial) short within r.same_case r.same_world r.few_scans r.open_here refl r.reads)

no-more : (s : State) (c : ℕ) (scan : Scan) (l : Option Look) (y : Option Path) → y ≡ None → (read_next s c scan y l).reply ≡ AllRead
no-more s c scan l None e = refl
no-more s c scan l (Some y) e = cc

none-read : (case : Case) (world : World) (c few : ℕ) (s : State) → AreShort world → IsReading case world c few 0 s → (told_step s (CallRead c)).reply ≡ AllRead
none-read case world c few s short r =
    rw r.open_here
    (split_option (next_left r.scan.partial)
    (λ e. no-more s c r.scan _ (next_left r.scan.partial) e)
    (λ y e. absurd (let one = read-one case world 64 (place case r.scan.path) r.scan.partial y short (omega arith) e in let left = r.reads in omega (arith, one, left))))

-- where none is due nothing happens
first-none : (s : State) (events : List Path) → length events ≡ 0 → ((deliver_first s events).reply ≡ NothingPending) × ((deliver_first s events).state ≡ s)
first-none s [] h = (refl, refl)
first-none s (x ∷ rest) h = absurd (omega arith)

when-none : (s : State) (mark : Bool) → s.pending.mark ≡ mark → deliveries_due s.pending ≡ 0 → ((deliver_when s mark).reply ≡ NothingPending) × ((deliver_when s mark).state ≡ s)
when-none s true m h = absurd (let h' = rw m at h in omega (arith, h'))
when-none s false m h = first-none s s.pending.events (let h' = rw m at h in omega (arith, h'))

deliver-none : (s : State) → deliveries_due s.pending ≡ 0 → ((deliver s).reply ≡ NothingPending) × ((deliver s).state ≡ s)
deliver-none s h = when-none s s.pending.mark refl h

-- where one is due something is delivered, and one less is due
deliver-more : (s : State) (due : ℕ) → deliveries_due s.pending ≡ suc due → (deliveries_due (deliver s).state.pending ≡ due) × ((n : ℕ) (next : ℕ → Stage) → delivered n next (deliver s).reply ≡ Delivers (n + 1) next)
deliver-more s due e = by s.pending.mark refl
  where
    first : (events : List Path) → s.pending.mark ≡ false → s.pending.events ≡ events → (deliveries_due (deliver_first s events).state.pending ≡ due) × ((n : ℕ) (next : ℕ → Stage) → delivered n next (deliver_first s events).reply ≡ Delivers (n + 1) next)
    first [] m is = absurd (let e' = rw (m, is) at e in omega (arith, e'))
    first (x ∷ rest) m is = ((let e' = rw (m, is) at e in rw m (omega (arith, e'))), λ n next. refl)

    by : (mark : Bool) → s.pending.mark ≡ mark → (deliveries_due (deliver_when s mark).state.pending ≡ due) × ((n : ℕ) (next : ℕ → Stage) → delivered n next (deliver_when s mark).reply ≡ Delivers (n + 1) next)
    by true m = ((let e' = rw m at e in omega (arith, e')), λ n next. refl)
    by false m = first s.pending.events m refl

-- no step wants memory
read-given : (s : State) (c : ℕ) (o : Option Scan) → (is_no_memory (read_or s c o (look_due s o)).reply ≡ false) × (count_by is_failed (asked_in (CallRead c) (read_or s c o (look_due s o)).reply (record { edit = Does []; look = look_due s o })) ≡ 0)
read-given s c None = (refl, refl)
read-given s c (Some scan) = by (next_left scan.partial)
  where
    by : (y : Option Path) → (is_no_memory (read_next s c scan y (look_due_at s scan y)).reply ≡ false) × (count_by is_failed (asked_in (CallRead c) (read_next s c scan y (look_due_at s scan y)).reply (record { edit = Does []; look = look_due_at s scan y })) ≡ 0)
    by None = (refl, refl)
    by (Some y) = (refl, refl)

either-given : (b : Bool) (x y : Reply) → is_no_memory x ≡ false → is_no_memory y ≡ false → is_no_memory (if b then x else y) ≡ false
either-given true x y h k = h
either-given false x y h k = k

edit-given : (s : State) (edit : Edit) (a : EditAnswer) → is_no_memory (edit_by s edit a).reply ≡ false
edit-given s edit (Refuses cause) = refl
edit-given s edit (Does told) = either-given (all_fit told s.pending) Done Overflow refl refl

first-given : (s : State) (events : List Path) → is_no_memory (deliver_first s events).reply ≡ false
first-given s [] = refl
first-given s (e ∷ rest) = refl

mark-given : (s : State) (mark : Bool) → is_no_memory (deliver_when s mark).reply ≡ false
mark-given s true = refl
mark-given s false = first-given s s.pending.events

begin-given : (s : State) (c : ℕ) (p : Path) (o : Option Scan) → is_no_memory (begin_or s c p o).reply ≡ false
begin-given s c p None = refl
begin-given s c p (Some scan) = refl

when-given : (s : State) (c : ℕ) (scan : Scan) (overtaken covered : Bool) → is_no_memory (publish_when s c scan overtaken covered).reply ≡ false
when-given s c scan true covered = refl
when-given s c scan false true = refl
when-given s c scan false false = refl

left-given : (s : State) (c : ℕ) (scan : Scan) (y : Option Path) → is_no_memory (publish_next s c scan y).reply ≡ false
left-given s c scan None = when-given s c scan (is_overtaken s.case s.past scan) (is_covered s.retained.pairs (place s.case scan.path))
left-given s c scan (Some y) = refl

publish-given : (s : State) (c : ℕ) (o : Option Scan) → is_no_memory (publish_or s c o).reply ≡ false
publish-given s c None = refl
publish-given s c (Some scan) = left-given s c scan (next_left scan.partial)

drop-given : (s : State) (c : ℕ) (o : Option Scan) → is_no_memory (drop_or s c o).reply ≡ false
drop-given s c None = refl
drop-given s c (Some scan) = refl

known-given : (s : State) (seen : List Seen) (missing : Bool) → is_no_memory (fingerprint_when s seen missing).reply ≡ false
known-given s seen true = refl
known-given s seen false = refl

print-given : (s : State) (inputs : List Input) (seen : List Seen) (o : Option KeptPrint) → is_no_memory (fingerprint_or s inputs seen o).reply ≡ false
print-given s inputs seen (Some k) = refl
print-given s inputs seen None = known-given s seen (nat_lt (length seen) (length inputs))

told-given : (s : State) (call : Call) → is_no_memory (told_step s call).reply ≡ false
told-given s (CallEdit edit) = edit-given s edit (edit_answer s edit)
told-given s (CallEvent e) = either-given (has_room s.pending) Fits Overflow refl refl
told-given s CallLose = refl
told-given s CallDeliver = mark-given s s.pending.mark
told-given s (CallBegin c p) = begin-given s c p (scan_of s c)
told-given s (CallRead c) = (read-given s c (scan_of s c)).0
told-given s (CallPublish c) = publish-given s c (scan_of s c)
told-given s (CallDrop c) = drop-given s c (scan_of s c)
told-given s (CallFind x) = refl
told-given s (CallPart x) = refl
told-given s (CallKind x) = refl
told-given s (CallVersion x) = refl
told-given s (CallFingerprint inputs) = print-given s inputs (seen_inputs s.case s.retained.pairs inputs) (find (λ (k : KeptPrint). is_for_inputs inputs k.seen) s.kept)

-- ---- one operation

-- the rest of a stage from the state
record Ends (caller : ℕ) (s : State) (stage : Stage) : Type 0 where
  operations : List Operation
  text : List ℕ
  follows : Follows caller stage operations
  whole : stage_after stage operations ≡ Whole text
  told : AreTold s operations

told-fails-not : (s : State) (call : Call) → count_by is_failed (asked_in call (told_step s call).reply (answers s call)) ≡ 0
told-fails-not s (CallRead c) = (read-given s c (scan_of s c)).1
told-fails-not s (CallEdit edit) = refl
told-fails-not s _ = refl

prepend : (caller : ℕ) (s : State) (stage : Stage) (call : Call) → next_call stage ≡ Some call → Ends caller (told_step s call).state (advance stage (told_step s call).reply) → Ends caller s stage
prepend caller s stage call due e =
    let o : Operation = record { caller = caller; call = call; answers = answers s call; reply = (told_step s call).reply } in
    let given = told-given s call in
    let next : (told_step s call).state ≡ after_operation s o = ap (λ b. if b then s else (told_step s call).state) (sym given) in
    record {
      operations = o ∷ e.operations;
      text = e.text;
      follows = (refl, due, e.follows);
      whole = e.whole;
      told = record {
        made = (record { given = given; reply = refl }, subst (λ z. AreMade z e.operations) next e.told.made);
        due = (told-due s call, subst (λ z. AreTrue z e.operations) next e.told.due);
        whole =
            let both = failed-append (o ∷ []) e.operations in
            let one : failed (o ∷ []) ≡ 0 = ap (count_by is_failed) (append-nil (asked_in call o.reply o.answers)) ∙ told-fails-not s call in
            let rest = e.told.whole in
            omega (arith, both, one, rest);
      };
    }

-- ---- deliveries

delivers-complete : (caller : ℕ) (next : ℕ → Stage) → ((n : ℕ) (t : State) → IsSound t → Ends caller t (next n)) → (due n : ℕ) (s : State) → deliveries_due s.pending ≡ due → IsSound s → Ends caller s (Delivers n next)
delivers-complete caller next rest zero n s e sound =
    let none = deliver-none s e in
    prepend caller s (Delivers n next) CallDeliver refl
    (subst (λ z. Ends caller z (delivered n next (deliver s).reply)) (sym none.1) (subst (λ r. Ends caller s (delivered n next r)) (sym none.0) (rest n s sound)))
delivers-complete caller next rest (suc due) n s e sound =
    let more = deliver-more s due e in
    prepend caller s (Delivers n next) CallDeliver refl
    (subst (λ z. Ends caller (deliver s).state z) (sym (more.1 n next)) (delivers-complete caller next rest due (n + 1) (deliver s).state more.0 (step-sound (answers s CallDeliver) s CallDeliver tt tt sound)))

-- ---- reads

saw-more : (c n : ℕ) (next : Option ℕ → Stage) (r : Reply) → is_saw r ≡ true → was_read c n next r ≡ Reads c (n + 1) next
saw-more c n next (Saw path kind left) e = refl
saw-more c n next _ e = cc

reads-complete : (caller c few : ℕ) (case : Case) (world : World) (next : Option ℕ → Stage) → ((n : ℕ) (t : State) → IsSound t → Ends caller t (next (Some n))) → AreShort world → c < few → c < 16 → (left n : ℕ) (s : State) → IsReading case world c few left s → IsSound s → Ends caller s (Reads c n next)
reads-complete caller c few case world next rest short within call zero n s r sound =
    let all = none-read case world c few s short r in
    prepend caller s (Reads c n next) (CallRead c) refl
    (subst (λ z. Ends caller (told_step s (CallRead c)).state (was_read c n next z)) (sym all) (rest n (told_step s (CallRead c)).state (step-sound (answers s (CallRead c)) s (CallRead c) call (told-due s (CallRead c)) sound)))
reads-complete caller c few case world next rest short within call (suc left) n s r sound =
    let one = one-read case world c few left s short within r in
    prepend caller s (Reads c n next) (CallRead c) refl
    (subst (λ z. Ends caller (told_step s (CallRead c)).state z) (sym (saw-more c n next (told_step s (CallRead c)).reply one.0))
    (reads-complete caller c few case world next rest short within call left (n + 1) (told_step s (CallRead c)).state one.1 (step-sound (answers s (CallRead c)) s (CallRead c) call (told-due s (CallRead c)) sound)))

reads-from : (caller c n : ℕ) (next : Option ℕ → Stage) (s : State) (o : Option Scan) → scan_of s c ≡ o → ((n : ℕ) (t : State) → IsSound t → Ends caller t (next (Some n))) → c < 16 → IsSound s → Ends caller s (Reads c n next)
reads-from caller c n next s None e rest call sound =
    let same : told_step s (CallRead c) ≡ record { reply = NoScan; state = s } = ap (λ (o : Option Scan). read_or s c o (look_due s o)) e in
    prepend caller s (Reads c n next) (CallRead c) refl (subst (λ z. Ends caller z.state (was_read c n next z.reply)) (sym same) (rest n s sound))
reads-from caller c n next s (Some scan) e rest call sound =
    let sixteen = sound.limits.scans in
    reads-complete caller c (length s.scans) s.case s.world next rest sound.known.world.short (omega (arith, sixteen, call)) call (left_of s.case s.world 64 (place s.case scan.path) scan.partial) n s
    (record { scan = scan; same_case = refl; same_world = refl; few_scans = refl; open_here = e; reads = refl })
    sound

-- ---- stages and lines

completes : (caller : ℕ) (stage : Stage) (s : State) → EachDue IsCall stage → IsSound s → Ends caller s stage
completes caller (Whole text) s due sound = record { operations = []; text = text; follows = tt; whole = refl; told = record { made = tt; due = tt; whole = refl } }
completes caller (Asks call next) s due sound = prepend caller s (Asks call next) call refl (completes caller (next (told_step s call).reply) (told_step s call).state (due.1 (told_step s call).reply) (step-sound (answers s call) s call due.0 (told-due s call) sound))
completes caller (Delivers n next) s due sound = delivers-complete caller next (λ m t ok. completes caller (next m) t (due.1 m) ok) (deliveries_due s.pending) n s refl sound
completes caller (Reads c n next) s due sound = reads-from caller c n next s (scan_of s c) refl (λ m t ok. completes caller (next (Some m)) t (due.1 (Some m)) ok) due.0 sound

-- a told run of lines
record RunsOn (s : State) (lines : List Line) : Type 0 where
  runs : List LineRun
  follows : AreRuns s lines runs
  told : AreTold s (operations_of runs)

pub lines-complete : (s : State) (lines : List Line) → Each IsAsking lines → IsSound s → (runs : List LineRun) × AreRuns s lines runs × AreTold s (operations_of runs)
lines-complete s [] asking sound = ([], tt, record { made = tt; due = tt; whole = refl })
lines-complete s (line ∷ lines) asking sound =
    let due = command-due line.caller _ line.command asking.0.0 asking.0.1 in
    let e = completes line.caller (line_stage s line) s due sound in
    let legal = stage-legal line.caller s (line_stage s line) e.operations due e.follows e.told.made e.told.due in
    let rest = lines-complete (after s e.operations) lines asking.1 (after-sound s e.operations legal sound) in (
      record { operations = e.operations; text = e.text } ∷ rest.0,
      (record { follows = e.follows; whole = e.whole }, rest.1),
      record {
        made = EachAt-append IsMade s e.operations (operations_of rest.0) e.told.made rest.2.made;
        due = EachAt-append (λ z o. AreDue z o.call o.answers) s e.operations (operations_of rest.0) e.told.due rest.2.due;
        whole = let both = failed-append e.operations (operations_of rest.0) in let a = e.told.whole in let b = rest.2.whole in omega (arith, both, a, b);
      },
    )
