-- What calls and replies stand for.
use Rattle.std.specs.Prelude.{◌≤◌, ◌<◌, ◌^◌, ℕ, Bool, true, false, List, Option, map, length, option_map}
use Rattle.fingerprint_norms.specs.Meaning.{input_of}
use Rattle.scan_walk.specs.Scans.{running_at, AreDigests}
use Rattle.snapshot_tree.specs.Meaning.{glance_of}
use Rattle.world_model.specs.Meaning.{edit_of}
use Rattle.vfs_model.specs.State.{Call, CallEdit, CallEvent, CallLose, CallDeliver, CallBegin, CallRead, CallPublish, CallDrop, CallFind, CallKind, CallVersion, CallFingerprint, Reply, Lost, Dropped, Found, KindIs, Version}
use Rattle.vfs_model.specs.Stands.{RunningScan}
use Rattle.vfs_machine.specs.Steps.{edited_reply, fit_reply, delivered_reply, began_reply, readed_reply, answer_reply, printed_reply}
use Rattle.vfs_machine.specs.declared.calls.Call.{Call as CallValue}
use Rattle.vfs_machine.specs.declared.calls.Call.TheVariants as call
use Rattle.vfs_machine.specs.declared.calls.Reply.{Reply as ReplyValue}
use Rattle.vfs_machine.specs.declared.calls.Reply.TheVariants as reply
use Rattle.vfs_machine.specs.declared.calls.SideCall.{SideCall}
use Rattle.vfs_machine.specs.declared.calls.SideCall.TheVariants as side
use Rattle.vfs_machine.specs.declared.calls.SideReply.{SideReply}
use Rattle.vfs_machine.specs.declared.calls.SideReply.TheVariants as side_reply

-- ---- calls that have a place

-- the call of the model, on the scan with this number
abbrev pub call_of : ℕ → CallValue → Call
call_of scan (call.Edit edit) = CallEdit (edit_of edit)
call_of scan (call.Event path) = CallEvent path
call_of scan call.Lose = CallLose
call_of scan call.Deliver = CallDeliver
call_of scan (call.Begin path) = CallBegin scan path
call_of scan call.Read = CallRead scan
call_of scan call.Publish = CallPublish scan

-- the reply of the model
abbrev pub reply_of : ReplyValue → Reply
reply_of (reply.Edited edited) = edited_reply edited
reply_of (reply.Fit fit) = fit_reply fit
reply_of reply.Lost = Lost
reply_of (reply.Delivered delivered) = delivered_reply delivered
reply_of (reply.Began began) = began_reply began
reply_of (reply.Readed readed) = readed_reply readed
reply_of (reply.Answer answer) = answer_reply answer

-- the reply is of the call's own kind
abbrev pub is_to : CallValue → ReplyValue → Bool
is_to (call.Edit edit) (reply.Edited edited) = true
is_to (call.Event path) (reply.Fit fit) = true
is_to call.Lose reply.Lost = true
is_to call.Deliver (reply.Delivered delivered) = true
is_to (call.Begin path) (reply.Began began) = true
is_to call.Read (reply.Readed readed) = true
is_to call.Publish (reply.Answer answer) = true
is_to _ _ = false

-- a publication has the digests of what its scan read
abbrev pub HasDigests : List (Option RunningScan) → ℕ → CallValue → List (List ℕ) → Type 0
HasDigests scans scan call.Publish digests = AreDigests (running_at scans scan) digests
HasDigests scans scan _ digests = Unit {0}

-- a delivery has room for one more invalidation
abbrev pub HasCount : ℕ → CallValue → Type 0
HasCount count call.Deliver = count < 2 ^ 62
HasCount count _ = Unit {0}

-- ---- calls that have no place

-- the call of the model, on the scan with this number
abbrev pub side_call_of : ℕ → SideCall → Call
side_call_of scan (side.Find path) = CallFind path.now
side_call_of scan (side.Kind path) = CallKind path.now
side_call_of scan (side.Version path) = CallVersion path.now
side_call_of scan (side.Print inputs) = CallFingerprint (map input_of inputs.now)
side_call_of scan side.Abandon = CallDrop scan

-- the reply of the model
abbrev pub side_reply_of : SideReply → Reply
side_reply_of (side_reply.Found found) = Found (option_map glance_of found)
side_reply_of (side_reply.Known kind) = KindIs kind
side_reply_of (side_reply.Version version) = Version version
side_reply_of (side_reply.Printed printed) = printed_reply printed
side_reply_of (side_reply.Dropped was_open) = Dropped was_open

-- the reply is of the call's own kind
abbrev pub is_to_side : SideCall → SideReply → Bool
is_to_side (side.Find path) (side_reply.Found found) = true
is_to_side (side.Kind path) (side_reply.Known kind) = true
is_to_side (side.Version path) (side_reply.Version version) = true
is_to_side (side.Print inputs) (side_reply.Printed printed) = true
is_to_side side.Abandon (side_reply.Dropped was_open) = true
is_to_side _ _ = false

-- a call for a fingerprint has 1 to 64 inputs
abbrev pub HasFewInputs : SideCall → Type 0
HasFewInputs (side.Print inputs) = (1 ≤ length inputs.now) × (length inputs.now ≤ 64)
HasFewInputs _ = Unit {0}
