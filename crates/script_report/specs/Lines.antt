-- What a command line asks for, and what is printed for it.
use Rattle.std.specs.Prelude.{ℕ, ◌<◌, ◌+◌, Bool, true, false, List, [], ◌∷◌, ◌++◌, codes, map, Option, Some, None, is_some}
use Rattle.std.specs.Fmt.{decimal}
use Rattle.hex.specs.Hex.{encode_lower}
use Rattle.vfs_model.specs.Paths.{Path, IsShort}
use Rattle.vfs_model.specs.Fingerprint.{Input}
use Rattle.vfs_model.specs.State.{State, Call, CallEdit, CallEvent, CallLose, CallDeliver, CallBegin, CallRead, CallPublish, CallDrop, CallFind, CallKind, CallVersion, CallFingerprint, Reply, AlreadyOpen, Found, Fault, Is, scan_of}
use Rattle.vfs_model.specs.History.{IsCall, AreInputs}
use Rattle.world_model.specs.Meaning.{edit_of}
use Rattle.fingerprint_norms.specs.Meaning.{input_of}
use Rattle.script_text.specs.declared.script.Command.{Command}
use Rattle.script_text.specs.declared.script.Command.TheVariants.{Edit, Event, Lose, Deliver, Settle, Begin, Read, Publish, Abandon, Scan, Find, KindOf, VersionOf, Print, Build}
use Rattle.script_text.specs.declared.script.Line.{Line}
use Rattle.script_report.specs.Replies.{reply_text}
use Rattle.script_report.specs.Stages.{Stage, Whole, Asks, Delivers, Reads, chained}

-- the reply is all that is printed
abbrev pub tells : Reply → Stage
tells reply = Whole (reply_text reply)

-- the one call, and its reply is all that is printed
abbrev pub one_call : Call → Stage
one_call call = Asks call tells

-- ---- settle

-- deliveries until nothing is pending, and their number is told
abbrev pub settling : Stage
settling = Delivers 0 (λ n. Whole (codes "settled " ++ decimal n))

-- ---- scan

-- the reply to the publication is told, and how many reads there were
abbrev pub published : ℕ → Reply → Stage
published reads reply = Whole (reply_text reply ++ codes " reads " ++ decimal reads)

-- the scan is published, unless a look failed: then it stays in progress
abbrev pub read_whole : ℕ → Option ℕ → Stage
read_whole caller None = tells Fault
read_whole caller (Some reads) = Asks (CallPublish caller) (published reads)

-- the scan is read to its end, unless it was in progress before
abbrev pub begun : ℕ → Reply → Stage
begun caller AlreadyOpen = tells AlreadyOpen
begun caller _ = Reads caller 0 (read_whole caller)

-- a begin, reads to the end, and a publication
abbrev pub scanning : ℕ → Path → Stage
scanning caller path = Asks (CallBegin caller path) (begun caller)

-- ---- build

-- how many roots were retained and how many were not, and how many locations were read for these
pub record Counts : Type 0 where
  pub hits : ℕ
  pub misses : ℕ
  pub reads : ℕ

-- one more root was retained
abbrev pub with_hit : Counts → Counts
with_hit k = record { hits = k.hits + 1; misses = k.misses; reads = k.reads }

-- one more root was not, and so many locations were read for it
abbrev pub with_miss : Counts → ℕ → Counts
with_miss k reads = record { hits = k.hits; misses = k.misses + 1; reads = k.reads + reads }

-- the text of a build: the digest, and the counts
abbrev pub build_text : Counts → List ℕ → List ℕ
build_text k digest =
    codes "build " ++ encode_lower digest ++ codes " hits " ++ decimal k.hits ++ codes " misses " ++ decimal k.misses ++ codes " reads " ++ decimal k.reads

-- the same by the reply to the call for the fingerprint
abbrev pub built_text : Counts → Reply → List ℕ
built_text k (Is digest) = build_text k digest
built_text k reply = reply_text reply

-- the scan of a root is published, and the build goes on; where a look failed, the scan is dropped
abbrev pub root_read : ℕ → Counts → (Counts → Stage) → Option ℕ → Stage
root_read caller k more None = Asks (CallDrop caller) (λ reply. tells Fault)
root_read caller k more (Some reads) = Asks (CallPublish caller) (λ reply. more (with_miss k reads))

-- a root that is not retained is scanned
abbrev pub root_found : ℕ → Path → Counts → (Counts → Stage) → Reply → Stage
root_found caller root k more (Found None) = Asks (CallBegin caller root) (λ reply. Reads caller 0 (root_read caller k more))
root_found caller root k more _ = more (with_hit k)

-- the inputs are taken in order, and at last the fingerprint of all of them
abbrev pub taking : ℕ → List Input → List Input → Counts → Stage
taking caller all [] k = Asks (CallFingerprint all) (λ reply. Whole (built_text k reply))
taking caller all (i ∷ more) k = Asks (CallFind i.root) (root_found caller i.root k (taking caller all more))

-- nothing was taken yet
abbrev pub no_counts : Counts
no_counts = record { hits = 0; misses = 0; reads = 0 }

-- all that is pending is delivered, and the inputs are taken; nothing is asked where the caller's scan is in progress
abbrev pub building : ℕ → Bool → List Input → Stage
building caller true inputs = tells AlreadyOpen
building caller false inputs = Delivers 0 (λ n. taking caller inputs inputs no_counts)

-- ---- lines

-- what a command asks for, where this caller gives it, and its scan is in progress or not
abbrev pub stage_of : ℕ → Bool → Command → Stage
stage_of caller busy (Edit edit) = one_call (CallEdit (edit_of edit))
stage_of caller busy (Event path) = one_call (CallEvent path)
stage_of caller busy Lose = one_call CallLose
stage_of caller busy Deliver = one_call CallDeliver
stage_of caller busy Settle = settling
stage_of caller busy (Begin path) = one_call (CallBegin caller path)
stage_of caller busy Read = one_call (CallRead caller)
stage_of caller busy Publish = one_call (CallPublish caller)
stage_of caller busy Abandon = one_call (CallDrop caller)
stage_of caller busy (Scan path) = scanning caller path
stage_of caller busy (Find path) = one_call (CallFind path)
stage_of caller busy (KindOf path) = one_call (CallKind path)
stage_of caller busy (VersionOf path) = one_call (CallVersion path)
stage_of caller busy (Print inputs) = one_call (CallFingerprint (map input_of inputs))
stage_of caller busy (Build inputs) = building caller busy (map input_of inputs)

-- what a line asks for in the state
abbrev pub line_stage : State → Line → Stage
line_stage s line = stage_of line.caller (is_some (scan_of s line.caller)) line.command

-- what a line asks for among the calls of others, where each call has a place: a find has none, and no line is a build
abbrev pub placed : ℕ → Command → Stage
placed caller (Find path) = Whole []
placed caller command = stage_of caller false command

-- what the lines of one caller ask for there, one after the other
abbrev pub race_stage : List Line → Stage
race_stage [] = Whole []
race_stage (line ∷ more) = chained (placed line.caller line.command) (race_stage more)

-- what a command names may be asked for
abbrev pub MayAsk : Command → Type 0
MayAsk (Edit edit) = IsCall (CallEdit (edit_of edit))
MayAsk (Event path) = IsShort path
MayAsk (Begin path) = IsShort path
MayAsk (Scan path) = IsShort path
MayAsk (Find path) = IsShort path
MayAsk (KindOf path) = IsShort path
MayAsk (VersionOf path) = IsShort path
MayAsk (Print inputs) = AreInputs (map input_of inputs)
MayAsk (Build inputs) = AreInputs (map input_of inputs)
MayAsk _ = Unit {0}

-- the line is of one of the sixteen callers, and what it names may be asked for
abbrev pub IsAsking : Line → Type 0
IsAsking line = (line.caller < 16) × MayAsk line.command
