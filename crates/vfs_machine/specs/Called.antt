-- What a call of a machine owes.
use Rattle.std.specs.Prelude.{◌≡◌, ◌≤◌, ◌+◌, ◌⊎◌, ℕ, List, [], ◌∷◌, Option, Some, None, is_some, option_map}
use Rattle.vfs_model.specs.Paths.{Path}
use Rattle.vfs_model.specs.World.{World}
use Rattle.vfs_model.specs.Edit.{events}
use Rattle.vfs_model.specs.Faults.{Rose}
use Rattle.vfs_model.specs.Pending.{Pending, deliveries_due}
use Rattle.vfs_model.specs.Scanning.{Look}
use Rattle.vfs_model.specs.State.{State, Call, CallEdit, CallEvent, CallLose, CallDeliver, CallRead, CallPublish, Reply, Saw, Fault, NoMemory, Answers, AreDue, EditAnswer, Does, TreeAnswer, ToEdit, ToLook, step}
use Rattle.vfs_model.specs.Sound.{AreShapedAnswers}
use Rattle.vfs_model.specs.Stands.{Parts, Stands}
use Rattle.vfs_model.specs.Steps.{IsStepOf, IsLogged, IsMemoryLast}
use Rattle.world_model.specs.Told.{TreeTold, with_answers}
use Rattle.vfs_machine.specs.Whole.{told_of}

-- ---- what the tree is asked

-- the tree tells of no other events than those of the edit
abbrev pub HasItsEvents : Call → EditAnswer → Type 0
HasItsEvents (CallEdit edit) (Does told) = told ≡ events edit
HasItsEvents call answer = Unit {0}

-- memory was wanting before the look, or behind one that did not fail
abbrev pub MayHaveLooked : Option Look → List TreeAnswer → Type 0
MayHaveLooked None asked = asked ≡ []
MayHaveLooked (Some look) asked = (asked ≡ []) ⊎ (asked ≡ ToLook (Some look) ∷ [])

-- the tree was asked to look, and saw something
abbrev pub HasSeen : Option Look → List TreeAnswer → Type 0
HasSeen None asked = ⊥
HasSeen (Some look) asked = asked ≡ ToLook (Some look) ∷ []

-- the tree was asked to look, and the look failed
abbrev pub HasNotSeen : Option Look → List TreeAnswer → Type 0
HasNotSeen None asked = asked ≡ ToLook None ∷ []
HasNotSeen (Some look) asked = ⊥

-- the tree was asked to do an edit, or to look where a read has a location left, and nothing else
abbrev pub AreAsked : Call → Reply → Answers → List TreeAnswer → Type 0
AreAsked (CallEdit edit) NoMemory a asked = asked ≡ []
AreAsked (CallEdit edit) reply a asked = asked ≡ ToEdit a.edit ∷ []
AreAsked (CallRead c) (Saw path kind left) a asked = HasSeen a.look asked
AreAsked (CallRead c) Fault a asked = HasNotSeen a.look asked
AreAsked (CallRead c) NoMemory a asked = MayHaveLooked a.look asked
AreAsked call reply a asked = asked ≡ []

-- the count of failed looks never falls, and it rose where the look of a read failed
abbrev pub CountsFaults : Call → Reply → ℕ → ℕ → Type 0
CountsFaults (CallRead c) Fault before now = Rose before now
CountsFaults call reply before now = before ≤ now

-- ---- what stays

-- an edit leaves it told or untold, a read leaves the content, and another call all that the tree tells
abbrev pub TellsAfter : Call → TreeTold → TreeTold → Type 0
TellsAfter (CallEdit edit) old new = is_some new.content ≡ is_some old.content
TellsAfter (CallRead c) old new = new.content ≡ old.content
TellsAfter call old new = new ≡ old

-- a delivery and a publication add their change to those that are told, and no other call adds one
abbrev pub HasLog : {V : Type 0} → (V → Path → ℕ) → (V → ℕ) → Parts V → Parts V → Call → Reply → Type 0
HasLog at count old new CallDeliver reply = IsLogged at count old new CallDeliver reply
HasLog at count old new (CallPublish c) reply = IsLogged at count old new (CallPublish c) reply
HasLog at count old new call reply = new.log ≡ old.log

-- no call but a delivery changes the versions
abbrev pub HasVersions : {V : Type 0} → Call → V → V → Type 0
HasVersions CallDeliver old new = Unit {0}
HasVersions call old new = new ≡ old

-- no call but an edit, an event, a loss and a delivery changes what is pending
abbrev pub HasPending : Call → Pending → Pending → Type 0
HasPending (CallEdit edit) old new = Unit {0}
HasPending (CallEvent event) old new = Unit {0}
HasPending CallLose old new = Unit {0}
HasPending CallDeliver old new = Unit {0}
HasPending call old new = new ≡ old

-- the invalidations that were made, and those that are due
abbrev pub spent : {V : Type 0} → (V → ℕ) → Parts V → ℕ
spent count m = count m.versions + deliveries_due m.pending

-- so many more invalidations are due after the call, or fewer
abbrev pub dues_of : Call → ℕ
dues_of (CallEdit edit) = 2
dues_of (CallEvent event) = 1
dues_of CallLose = 1
dues_of call = 0

-- ---- the call

-- between the two the call was made, and had this reply
pub record IsCalled {V : Type 0} (at : V → Path → ℕ) (count : V → ℕ) (old new : Parts V) (call : Call) (reply : Reply) : Type 0 where
  -- what the tree answered, and what of it was asked
  pub answers : Answers
  pub asked : List TreeAnswer
  -- the machine stands afterwards for the states of the model's step, and the reply is the step's
  pub stepped : IsStepOf at count old new answers call reply
  -- memory was wanting only where the reply that is due needs it
  pub last : IsMemoryLast at count old (λ s. step answers s call) reply
  -- the answers have the shape of answers; where the content is told they are true of it, or a look failed
  pub shaped : (s : State) → Stands at count old s → AreShapedAnswers s call answers
  pub due : (w : World) → old.content ≡ Some w → (s : State) → Stands at count old s → AreDue s call answers
  pub told : HasItsEvents call answers.edit
  -- what was asked is added to the answers that are told
  pub are_asked : AreAsked call reply answers asked
  pub answered : new.answers ≡ option_map (with_answers asked) old.answers
  pub faults : CountsFaults call reply old.faults new.faults
  -- what stays
  pub tells : TellsAfter call (told_of old) (told_of new)
  pub log : HasLog at count old new call reply
  pub versions : HasVersions call old.versions new.versions
  pub pending : HasPending call old.pending new.pending
  pub spends : spent count new ≤ spent count old + dues_of call
