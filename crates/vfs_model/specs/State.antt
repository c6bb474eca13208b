-- The state of the machine, its calls and its replies.
use Rattle.std.specs.Prelude.{◌≡◌, ℕ, Bool, true, false, ◌&&◌, not, List, [], ◌∷◌, ◌++◌, length, drop, filter, find, if◌then◌else◌, nat_lt, nat_le, Option, Some, None, slice_get, slice_set}
use Rattle.std.specs.List.{list_any}
use Rattle.vfs_model.specs.Paths.{Path, Case, place, is_same_place, is_related}
use Rattle.vfs_model.specs.World.{World, Kind, MissingKind, FileKind, DirKind, kind_of_status}
use Rattle.vfs_model.specs.Edit.{Edit, Refusal, refusal, apply, events}
use Rattle.vfs_model.specs.Pending.{Pending, has_room, put, put_all, version}
use Rattle.vfs_model.specs.Snapshot.{Snapshot, Missing, File, Dir, status}
use Rattle.vfs_model.specs.Retained.{Pair, Retained, part_of, kind_of, after_invalidation, is_covered, after_store}
use Rattle.vfs_model.specs.Scanning.{Scan, Unread, Look, SeesNothing, SeesFile, SeesDir, look, next_left, count_left, after_look, snapshot_made, is_overtaken}
use Rattle.vfs_model.specs.Fingerprint.{Sensitivity, Absolute, Relative, NameOnly, Ignored, Input, Seen, digest_of, fingerprint}

-- a kept fingerprint, with the inputs and the snapshots that it is of
pub record KeptPrint : Type 0 where
  pub seen : List Seen
  pub digest : List ℕ

-- all that a machine keeps, with the world that it looks at
pub record State : Type 0 where
  pub case : Case
  pub world : World
  pub pending : Pending
  pub retained : Retained
  -- the places invalidated so far
  pub past : List Path
  pub scans : List (Option Scan)
  pub kept : List KeptPrint

-- what a caller may ask; the number in a call of a scan is the scan's, and a begin has its path too
pub data Call : Type 0 where
  CallEdit : Edit → Call
  CallEvent : Path → Call
  CallLose : Call
  CallDeliver : Call
  CallBegin : ℕ → Path → Call
  CallRead : ℕ → Call
  CallPublish : ℕ → Call
  CallDrop : ℕ → Call
  CallFind : Path → Call
  CallPart : Path → Call
  CallKind : Path → Call
  CallVersion : Path → Call
  CallFingerprint : List Input → Call

-- what a find tells: a kind, and a digest for all but what is missing
pub record Glance : Type 0 where
  pub kind : Kind
  pub digest : Option (List ℕ)

-- what a caller is answered
pub data Reply : Type 0 where
  Refused : Refusal → Reply
  Done : Reply
  Overflow : Reply
  Fits : Reply
  -- after a loss; it tells nothing
  Lost : Reply
  -- the mark was delivered
  Cleared : Reply
  -- the event was delivered
  Delivered : Path → Reply
  NothingPending : Reply
  -- the scan is in progress already
  AlreadyOpen : Reply
  Version : ℕ → Reply
  -- the scan is closed
  NoScan : Reply
  -- no location is left to read
  AllRead : Reply
  -- the path that was read, its kind, and how many locations are left
  Saw : Path → Kind → ℕ → Reply
  -- so many locations are left
  Unfinished : ℕ → Reply
  -- the scan is overtaken; the version of its path
  Stale : ℕ → Reply
  -- a pair stands strictly above the scan's path
  Covered : Reply
  Stored : Reply
  -- whether the scan was in progress
  Dropped : Bool → Reply
  Found : Option Glance → Reply
  KindIs : Option Kind → Reply
  Part : Option Snapshot → Reply
  Is : List ℕ → Reply
  -- the first input, from 0, whose root is not known
  Unknown : ℕ → Reply
  -- the look of a read failed
  Fault : Reply
  NoMemory : Reply

-- a reply, and the state after it
pub record Outcome : Type 0 where
  pub reply : Reply
  pub state : State

-- the reply, with the state as it was
abbrev pub no_change : State → Reply → Outcome
no_change s reply = record { reply = reply; state = s }

-- ---- what the tree answers

-- what the tree answers to an edit: why it refuses it, or the events of the edit that it did
pub data EditAnswer : Type 0 where
  Refuses : Refusal → EditAnswer
  Does : (events : List Path) → EditAnswer

-- what the tree answers in a call, to an edit and to a look; None is a look that failed, and what was not asked counts nothing
pub record Answers : Type 0 where
  pub edit : EditAnswer
  pub look : Option Look

-- one answer in the list of all that a tree gave: to an edit, or to a look, of which None is one that failed; want of memory is no answer
pub data TreeAnswer : Type 0 where
  ToEdit : EditAnswer → TreeAnswer
  ToLook : Option Look → TreeAnswer

-- ---- edits and events

-- each of the events fits in the queue when its turn comes
abbrev pub all_fit : List Path → Pending → Bool
all_fit [] p = true
all_fit (e ∷ more) p = has_room p && all_fit more (put e p)

-- the world after the edit, and the tree's events in the queue
abbrev pub after_edit : State → Edit → List Path → State
after_edit s edit told = record s { world = apply s.case s.world edit; pending = put_all told s.pending }

-- the outcome of an edit, by what the tree answers
abbrev pub edit_by : State → Edit → EditAnswer → Outcome
edit_by s edit (Refuses cause) = no_change s (Refused cause)
edit_by s edit (Does told) = record { reply = if all_fit told s.pending then Done else Overflow; state = after_edit s edit told }

-- the event goes into the queue
abbrev pub after_event : State → Path → State
after_event s e = record s { pending = put e s.pending }

-- events were lost: the queue is emptied, and the mark is set
abbrev pub after_loss : State → State
after_loss s = record s { pending = record { events = []; capacity = s.pending.capacity; mark = true } }

-- ---- deliveries

-- the mark is delivered: it goes, the root is invalidated, and nothing is retained or kept any more
abbrev pub after_clear : State → State
after_clear s = record s {
  pending = record { events = s.pending.events; capacity = s.pending.capacity; mark = false };
  past = s.past ++ [] ∷ [];
  retained = record { pairs = []; dirs = [] };
  kept = [];
}

-- some root of the kept fingerprint is related to the place
abbrev pub is_touched : Case → Path → KeptPrint → Bool
is_touched case e k = list_any (λ (v : Seen). is_related e (place case v.input.root)) k.seen

-- the first event is delivered: it leaves the queue, its place is invalidated, and the kept fingerprints with a root related to it go
abbrev pub after_delivery : State → Path → List Path → State
after_delivery s e rest = record s {
  pending = record { events = rest; capacity = s.pending.capacity; mark = s.pending.mark };
  past = s.past ++ place s.case e ∷ [];
  retained = after_invalidation s.case (place s.case e) s.retained;
  kept = filter (λ k. not (is_touched s.case (place s.case e) k)) s.kept;
}

-- the outcome of a delivery where the mark is clear, by the events that wait
abbrev pub deliver_first : State → List Path → Outcome
deliver_first s [] = no_change s NothingPending
deliver_first s (e ∷ rest) = record { reply = Delivered e; state = after_delivery s e rest }

-- the outcome of a delivery, by whether the mark is set
abbrev pub deliver_when : State → Bool → Outcome
deliver_when s true = record { reply = Cleared; state = after_clear s }
deliver_when s false = deliver_first s s.pending.events

-- the outcome of a delivery: the mark comes before the events
abbrev pub deliver : State → Outcome
deliver s = deliver_when s s.pending.mark

-- ---- scans

-- the scan that is in progress, where there is one
abbrev pub open_scan : Option (Option Scan) → Option Scan
open_scan None = None
open_scan (Some scan) = scan

-- the scan with the number, where it is in progress
abbrev pub scan_of : State → ℕ → Option Scan
scan_of s c = open_scan (slice_get s.scans c)

-- the state with this scan at the number, or with a closed one
abbrev pub with_scan : State → ℕ → Option Scan → State
with_scan s c scan = record s { scans = slice_set s.scans c scan }

-- the state after the begin of a scan of p, with p itself left
abbrev pub after_begin : State → ℕ → Path → State
after_begin s c p = with_scan s c (Some (record { path = p; begun_at = length s.past; partial = Unread }))

-- the outcome of a begin, by whether the scan is in progress: it answers the version of p
abbrev pub begin_or : State → ℕ → Path → Option Scan → Outcome
begin_or s c p (Some scan) = no_change s AlreadyOpen
begin_or s c p None = record { reply = Version (version s.past (place s.case p)); state = after_begin s c p }

-- the kind that a look gives
abbrev pub kind_of_look : Look → Kind
kind_of_look SeesNothing = MissingKind
kind_of_look (SeesFile bytes) = FileKind
kind_of_look (SeesDir ns) = DirKind

-- the state after a read whose look gave this
abbrev pub after_read : State → ℕ → Scan → Look → State
after_read s c scan l = with_scan s c (Some (record { path = scan.path; begun_at = scan.begun_at; partial = after_look l scan.partial }))

-- the outcome of a read of a scan in progress, by the first location left and by what the look at it gave; None is a look that failed
abbrev pub read_next : State → ℕ → Scan → Option Path → Option Look → Outcome
read_next s c scan None l = no_change s AllRead
read_next s c scan (Some y) None = no_change s Fault
read_next s c scan (Some y) (Some l) = record { reply = Saw (scan.path ++ y) (kind_of_look l) (count_left (after_look l scan.partial)); state = after_read s c scan l }

-- the outcome of a read, by whether the scan is in progress
abbrev pub read_or : State → ℕ → Option Scan → Option Look → Outcome
read_or s c None l = no_change s NoScan
read_or s c (Some scan) l = read_next s c scan (next_left scan.partial) l

-- the state with the scan closed
abbrev pub after_close : State → ℕ → State
after_close s c = with_scan s c None

-- the state with the scan closed, and with the snapshot of what it read stored
abbrev pub after_publish : State → ℕ → Scan → State
after_publish s c scan = record s {
  scans = slice_set s.scans c None;
  retained = after_store (place s.case scan.path) (snapshot_made scan.partial) s.retained;
}

-- the outcome of a publish with nothing left, by whether the scan is overtaken, and whether a pair stands strictly above its path
abbrev pub publish_when : State → ℕ → Scan → Bool → Bool → Outcome
publish_when s c scan true covered = record { reply = Stale (version s.past (place s.case scan.path)); state = after_close s c }
publish_when s c scan false true = record { reply = Covered; state = after_close s c }
publish_when s c scan false false = record { reply = Stored; state = after_publish s c scan }

-- the outcome of a publish with nothing left
abbrev pub publish_done : State → ℕ → Scan → Outcome
publish_done s c scan = publish_when s c scan (is_overtaken s.case s.past scan) (is_covered s.retained.pairs (place s.case scan.path))

-- the outcome of a publish of a scan in progress, by the first location left
abbrev pub publish_next : State → ℕ → Scan → Option Path → Outcome
publish_next s c scan (Some y) = no_change s (Unfinished (count_left scan.partial))
publish_next s c scan None = publish_done s c scan

-- the outcome of a publish, by whether the scan is in progress
abbrev pub publish_or : State → ℕ → Option Scan → Outcome
publish_or s c None = no_change s NoScan
publish_or s c (Some scan) = publish_next s c scan (next_left scan.partial)

-- the outcome of a drop, by whether the scan is in progress
abbrev pub drop_or : State → ℕ → Option Scan → Outcome
drop_or s c None = no_change s (Dropped false)
drop_or s c (Some scan) = record { reply = Dropped true; state = after_close s c }

-- ---- fingerprints

-- the two take the same of a path
abbrev pub is_same_sensitivity : Sensitivity → Sensitivity → Bool
is_same_sensitivity Absolute Absolute = true
is_same_sensitivity Relative Relative = true
is_same_sensitivity NameOnly NameOnly = true
is_same_sensitivity Ignored Ignored = true
is_same_sensitivity _ _ = false

-- a kept fingerprint is of this very list of inputs: the same roots, spelled the same, taken in the same way
abbrev pub is_for_inputs : List Input → List Seen → Bool
is_for_inputs [] [] = true
is_for_inputs [] (v ∷ seen) = false
is_for_inputs (i ∷ inputs) [] = false
is_for_inputs (i ∷ inputs) (v ∷ seen) =
    is_same_place i.root v.input.root && is_same_sensitivity i.sensitivity v.input.sensitivity && is_for_inputs inputs seen

-- the input with the part at its root, in front of more; nothing where the root is not known
abbrev pub seen_or : Input → Option Snapshot → List Seen → List Seen
seen_or i None more = []
seen_or i (Some s) more = record { input = i; snapshot = s } ∷ more

-- the inputs with the parts at their roots, up to the first that is not known
abbrev pub seen_inputs : Case → List Pair → List Input → List Seen
seen_inputs case pairs [] = []
seen_inputs case pairs (i ∷ more) = seen_or i (part_of case pairs (place case i.root)) (seen_inputs case pairs more)

-- one more is kept, last of all; where there were 64, the first goes
abbrev pub with_kept : List KeptPrint → KeptPrint → List KeptPrint
with_kept kept k = (if nat_le 64 (length kept) then drop 1 kept else kept) ++ k ∷ []

-- the state with the fingerprint of these inputs and snapshots kept
abbrev pub after_fingerprint : State → List Seen → State
after_fingerprint s seen = record s { kept = with_kept s.kept (record { seen = seen; digest = fingerprint s.case seen }) }

-- the outcome of a fingerprint that is not kept, by whether some root is unknown
abbrev pub fingerprint_when : State → List Seen → Bool → Outcome
fingerprint_when s seen true = no_change s (Unknown (length seen))
fingerprint_when s seen false = record { reply = Is (fingerprint s.case seen); state = after_fingerprint s seen }

-- the outcome of a fingerprint, by the kept one of this very list, where there is one
abbrev pub fingerprint_or : State → List Input → List Seen → Option KeptPrint → Outcome
fingerprint_or s inputs seen (Some k) = no_change s (Is k.digest)
fingerprint_or s inputs seen None = fingerprint_when s seen (nat_lt (length seen) (length inputs))

-- the digest; what is missing has none
abbrev pub digest_or : Snapshot → Option (List ℕ)
digest_or Missing = None
digest_or (File digest) = Some digest
digest_or (Dir children) = Some (digest_of (Dir children))

-- what a find answers of the part at the place
abbrev pub glance : Option Snapshot → Option Glance
glance None = None
glance (Some s) = Some (record { kind = kind_of_status (status s); digest = digest_or s })

-- ---- the step

-- the reply of a call and the state after it, by what the tree answers in it
abbrev pub step : Answers → State → Call → Outcome
step a s (CallEdit edit) = edit_by s edit a.edit
step a s (CallEvent e) = record { reply = if has_room s.pending then Fits else Overflow; state = after_event s e }
step a s CallLose = record { reply = Lost; state = after_loss s }
step a s CallDeliver = deliver s
step a s (CallBegin c p) = begin_or s c p (scan_of s c)
step a s (CallRead c) = read_or s c (scan_of s c) a.look
step a s (CallPublish c) = publish_or s c (scan_of s c)
step a s (CallDrop c) = drop_or s c (scan_of s c)
step a s (CallFind x) = no_change s (Found (glance (part_of s.case s.retained.pairs (place s.case x))))
step a s (CallPart x) = no_change s (Part (part_of s.case s.retained.pairs (place s.case x)))
step a s (CallKind x) = no_change s (KindIs (kind_of s.case s.retained (place s.case x)))
step a s (CallVersion x) = no_change s (Version (version s.past (place s.case x)))
step a s (CallFingerprint inputs) =
    fingerprint_or s inputs (seen_inputs s.case s.retained.pairs inputs) (find (λ (k : KeptPrint). is_for_inputs inputs k.seen) s.kept)

-- ---- a tree that tells its world

-- what the look at the names y below a scan's path gives, where it does not fail
abbrev pub look_below : State → Scan → Path → Look
look_below s scan y = look s.case s.world (place s.case scan.path ++ place s.case y)

-- the answer to an edit, by its refusal
abbrev pub edit_answer_or : Edit → Option Refusal → EditAnswer
edit_answer_or edit None = Does (events edit)
edit_answer_or edit (Some r) = Refuses r

-- the answer that is due to an edit: its first refusal, or its events
abbrev pub edit_answer : State → Edit → EditAnswer
edit_answer s edit = edit_answer_or edit (refusal s.case s.world edit)

-- what is seen at the first location left, where there is one
abbrev pub look_due_at : State → Scan → Option Path → Option Look
look_due_at s scan None = None
look_due_at s scan (Some y) = Some (look_below s scan y)

-- what is seen at the first location left of a scan
abbrev pub look_due : State → Option Scan → Option Look
look_due s None = None
look_due s (Some scan) = look_due_at s scan (next_left scan.partial)

-- the look saw what is at the location y below the scan's path, or it failed
abbrev pub IsLookAt : State → Scan → Option Path → Option Look → Type 0
IsLookAt s scan None l = Unit {0}
IsLookAt s scan (Some y) None = Unit {0}
IsLookAt s scan (Some y) (Some l) = l ≡ look_below s scan y

-- the look is of the first location left of the scan, where it is in progress
abbrev pub IsLookFor : State → Option Scan → Option Look → Type 0
IsLookFor s None l = Unit {0}
IsLookFor s (Some scan) l = IsLookAt s scan (next_left scan.partial) l

-- the answers are true of the world: an edit's is the one that is due, and a look saw what is there or failed
abbrev pub AreDue : State → Call → Answers → Type 0
AreDue s (CallEdit edit) a = a.edit ≡ edit_answer s edit
AreDue s (CallRead c) a = IsLookFor s (scan_of s c) a.look
AreDue s _ a = Unit {0}

-- the answers of a tree that tells its world, and whose looks never fail
abbrev pub answers : State → Call → Answers
answers s (CallEdit edit) = record { edit = edit_answer s edit; look = None }
answers s (CallRead c) = record { edit = Does []; look = look_due s (scan_of s c) }
answers s _ = record { edit = Does []; look = None }

-- the step over a tree that tells its world, and whose looks never fail
abbrev pub told_step : State → Call → Outcome
told_step s call = step (answers s call) s call
