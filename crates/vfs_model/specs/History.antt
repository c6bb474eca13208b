-- Histories: calls, what the tree answered in them, and replies.
use Rattle.std.specs.Prelude.{◌≡◌, ℕ, ◌≤◌, ◌<◌, Bool, true, false, ◌&&◌, List, [], ◌∷◌, ◌++◌, length, if◌then◌else◌, nat_eq, Option, Some, None, ◌⊎◌, replicate}
use Rattle.std.specs.List.{list_any, AllByRecursion as Each}
use Rattle.vfs_model.specs.Paths.{Path, Case, place, IsShort, is_related}
use Rattle.vfs_model.specs.World.{IsWorld, World, Directory}
use Rattle.vfs_model.specs.Edit.{events}
use Rattle.vfs_model.specs.Snapshot.{Snapshot}
use Rattle.vfs_model.specs.Retained.{Retained, after_invalidation, after_store}
use Rattle.vfs_model.specs.Scanning.{Scan, snapshot_made, is_overtaken, Look, PartialSnapshot, after_look}
use Rattle.vfs_model.specs.Sound.{IsInLimits, IsSettled}
use Rattle.vfs_model.specs.Fingerprint.{Input}
use Rattle.vfs_model.specs.State.{State, Call, CallEdit, CallEvent, CallLose, CallDeliver, CallBegin, CallRead, CallPublish, CallDrop, CallFind, CallPart, CallKind, CallVersion, CallFingerprint, Answers, AreDue, Reply, Cleared, Delivered, Stored, Stale, Covered, Dropped, NoMemory, Saw, step, scan_of}

-- an operation: who called, the call, what the tree answered in it, and the reply
pub record Operation : Type 0 where
  pub caller : ℕ
  pub call : Call
  pub answers : Answers
  pub reply : Reply

-- the reply says that memory was wanting, and so the call did nothing
abbrev pub is_no_memory : Reply → Bool
is_no_memory NoMemory = true
is_no_memory _ = false

-- the state after an operation
abbrev pub after_operation : State → Operation → State
after_operation s o = if is_no_memory o.reply then s else (step o.answers s o.call).state

-- the state after a history
abbrev pub after : State → List Operation → State
after s [] = s
after s (o ∷ h) = after (after_operation s o) h

-- 1 to 64 inputs, whose roots are short
pub record AreInputs (inputs : List Input) : Type 0 where
  pub some : 1 ≤ length inputs
  pub few : length inputs ≤ 64
  pub short : Each (λ (i : Input). IsShort i.root) inputs

-- what a call asks of its caller: paths of at most 64 names, one of the scans 0 to 15, and 1 to 64 inputs
abbrev pub IsCall : Call → Type 0
IsCall (CallEdit edit) = Each IsShort (events edit)
IsCall (CallEvent p) = IsShort p
IsCall CallLose = Unit {0}
IsCall CallDeliver = Unit {0}
IsCall (CallBegin c p) = (c < 16) × IsShort p
IsCall (CallRead c) = c < 16
IsCall (CallPublish c) = c < 16
IsCall (CallDrop c) = c < 16
IsCall (CallFind p) = IsShort p
IsCall (CallPart p) = IsShort p
IsCall (CallKind p) = IsShort p
IsCall (CallVersion p) = IsShort p
IsCall (CallFingerprint inputs) = AreInputs inputs

-- the call takes memory, and so may answer that it is wanting
abbrev pub takes_memory : Call → Bool
takes_memory (CallEvent e) = false
takes_memory CallLose = false
takes_memory (CallDrop c) = false
takes_memory (CallFind x) = false
takes_memory (CallKind x) = false
takes_memory (CallVersion x) = false
takes_memory _ = true

-- the reply is that of the step for what the tree answered, or it says that memory was wanting, of a call that takes memory
abbrev pub IsAnswered : State → Operation → Type 0
IsAnswered s o = ((is_no_memory o.reply && takes_memory o.call) ≡ true) ⊎ (o.reply ≡ (step o.answers s o.call).reply)

-- the call is one that may be made, it is answered, and unless memory was wanting what the tree answered is true of the world
pub record IsLegalOperation (s : State) (o : Operation) : Type 0 where
  pub call : IsCall o.call
  pub answered : IsAnswered s o
  pub due : is_no_memory o.reply ≡ false → AreDue s o.call o.answers

-- the fact holds of each operation, and of the state in which it stands
abbrev pub EachAt : (State → Operation → Type 0) → State → List Operation → Type 0
EachAt fact s [] = Unit {0}
EachAt fact s (o ∷ h) = fact s o × EachAt fact (after_operation s o) h

-- each operation is answered where it stands, whatever the tree answered
abbrev pub AreAnswered : State → List Operation → Type 0
AreAnswered = EachAt IsAnswered

-- each operation is legal where it stands
abbrev pub IsLegal : State → List Operation → Type 0
IsLegal = EachAt IsLegalOperation

-- ---- what invalidates a place

-- the reply says that a place related to p was invalidated
abbrev pub is_invalidating : Case → Path → Reply → Bool
is_invalidating case p Cleared = true
is_invalidating case p (Delivered e) = is_related (place case e) (place case p)
is_invalidating case p _ = false

-- the call publishes or drops the scan
abbrev pub is_on : ℕ → Call → Bool
is_on c (CallPublish d) = nat_eq d c
is_on c (CallDrop d) = nat_eq d c
is_on c _ = false

-- the reply says that the scan of its call was closed
abbrev pub is_closed_by : Reply → Bool
is_closed_by (Stale n) = true
is_closed_by Covered = true
is_closed_by Stored = true
is_closed_by (Dropped was_open) = was_open
is_closed_by _ = false

-- the operation closes the scan
abbrev pub is_closing : ℕ → Operation → Bool
is_closing c o = is_on c o.call && is_closed_by o.reply

-- the reply says that the scan is overtaken
abbrev pub is_stale : Reply → Bool
is_stale (Stale n) = true
is_stale _ = false

-- ---- what changes what is retained

-- a change of what is retained: a snapshot is kept at a path, what has to do with a path is gone, or all is gone
pub data Change : Type 0 where
  Kept : (path : Path) → Snapshot → Change
  Gone : (path : Path) → Change
  AllGone : Change

-- the name of a board on which changes are shown; which numbers it has says nothing but which board it is
abbrev pub BoardName : Type 0
BoardName = List ℕ

-- the changes so far, in order, and the board on which they are shown
pub record ChangeLog : Type 0 where
  pub board : BoardName
  pub changes : List Change

-- the log with these changes behind the others; its board stays
abbrev pub with_changes : List Change → ChangeLog → ChangeLog
with_changes more log = record { board = log.board; changes = log.changes ++ more }

-- the change of a publish that stored what the scan read
abbrev pub change_kept : Option Scan → List Change
change_kept None = []
change_kept (Some scan) = Kept scan.path (snapshot_made scan.partial) ∷ []

-- the changes that a call makes, by its reply: at most one
abbrev pub changes_of : State → Call → Reply → List Change
changes_of s (CallPublish c) Stored = change_kept (scan_of s c)
changes_of s call (Delivered e) = Gone e ∷ []
changes_of s call Cleared = AllGone ∷ []
changes_of s call _ = []

-- the changes of a history, in order
abbrev pub changes : State → List Operation → List Change
changes s [] = []
changes s (o ∷ h) = changes_of s o.call o.reply ++ changes (after_operation s o) h

-- what is retained after a change
abbrev pub after_change : Case → Change → Retained → Retained
after_change case (Kept p t) retained = after_store (place case p) t retained
after_change case (Gone e) retained = after_invalidation case (place case e) retained
after_change case AllGone retained = record { pairs = []; dirs = [] }

-- what is retained after these changes
abbrev pub after_changes : Case → List Change → Retained → Retained
after_changes case [] retained = retained
after_changes case (c ∷ more) retained = after_changes case more (after_change case c retained)

-- some reply says that a place related to p was invalidated
abbrev pub is_invalidated_in : Case → Path → List Operation → Bool
is_invalidated_in case p h = list_any (λ (o : Operation). is_invalidating case p o.reply) h

-- no operation closes the scan
abbrev pub KeepsOpen : ℕ → List Operation → Type 0
KeepsOpen c h = Each (λ (o : Operation). is_closing c o ≡ false) h

-- the scan c that is in progress is overtaken
abbrev pub is_scan_overtaken : State → Option Scan → Bool
is_scan_overtaken s None = false
is_scan_overtaken s (Some scan) = is_overtaken s.case s.past scan

-- a state before any call: its world is one, its numbers are within the limits, nothing is pending, invalidated, retained or kept, and each of the sixteen scans is closed
pub record IsOpening (s : State) : Type 0 where
  pub world : IsWorld s.case s.world
  pub limits : IsInLimits s
  pub settled : IsSettled s
  pub past : s.past ≡ []
  pub retained : s.retained ≡ record { pairs = []; dirs = [] }
  pub scans : Each (λ (o : Option Scan). o ≡ None) s.scans
  pub kept : s.kept ≡ []

-- the state before any call, of the world and the capacity that are given
abbrev pub opening : Case → ℕ → World → State
opening case capacity world = record {
  case = case;
  world = world;
  pending = record { events = []; capacity = capacity; mark = false };
  retained = record { pairs = []; dirs = [] };
  past = [];
  scans = replicate 16 None;
  kept = [];
}

-- the tree that has only its root
abbrev pub empty_world : World
empty_world = record { path = []; node = Directory } ∷ []

-- ---- a scan by its own operations

-- what the scan c has after a call: the look of its own read comes in
abbrev pub own_read : ℕ → Call → Reply → Option Look → PartialSnapshot → PartialSnapshot
own_read c (CallRead d) (Saw x kind n) (Some l) t = if nat_eq d c then after_look l t else t
own_read c call reply look t = t

-- what the scan c has after an operation
abbrev pub own_step : ℕ → Operation → PartialSnapshot → PartialSnapshot
own_step c o t = own_read c o.call o.reply o.answers.look t

-- what the scan c has after a history in which nothing closes it
abbrev pub own_partial : ℕ → List Operation → PartialSnapshot → PartialSnapshot
own_partial c [] t = t
own_partial c (o ∷ h) t = own_partial c h (own_step c o t)
