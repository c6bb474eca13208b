-- What a call of a machine owes: the reply of the model's step, and a machine that stands for the step's state.
use Rattle.std.specs.Prelude.{◌≡◌, ℕ, Bool, true, false, List, Some, None, find, is_some, option_map}
use Rattle.vfs_model.specs.Paths.{Path}
use Rattle.vfs_model.specs.World.{World}
use Rattle.vfs_model.specs.Fingerprint.{Input}
use Rattle.vfs_model.specs.State.{State, KeptPrint, Call, Reply, Refused, NothingPending, AlreadyOpen, NoScan, AllRead, Unfinished, Stale, Covered, Part, Unknown, Outcome, Answers, is_for_inputs, step, told_step}
use Rattle.vfs_model.specs.History.{is_no_memory, changes_of, with_changes}
use Rattle.vfs_model.specs.Stands.{Parts, Stands}

-- the reply and the state are those of the outcome, unless memory was wanting
abbrev pub outcome_unless : Bool → Reply → State → Outcome → (State → Type 0) → Type 0
outcome_unless true r s o P = P s
outcome_unless false r s o P = (r ≡ o.reply) × P o.state

-- the reply is that of the outcome, and the fact holds of its state; where memory was wanting it holds of the state before
abbrev pub IsOutcome : Reply → State → Outcome → (State → Type 0) → Type 0
IsOutcome r s o P = outcome_unless (is_no_memory r) r s o P

-- for every state that the machine stands for, the reply is that of the step, and the machine stands for the step's state afterwards
abbrev pub IsStepOf : {V : Type 0} → (V → Path → ℕ) → (V → ℕ) → Parts V → Parts V → Answers → Call → Reply → Type 0
IsStepOf at count old new a call r = (s : State) → Stands at count old s → IsOutcome r s (step a s call) (Stands at count new)

-- the same of a tree that tells its content, whose answers are those of the world
abbrev pub IsToldStepOf : {V : Type 0} → (V → Path → ℕ) → (V → ℕ) → Parts V → Parts V → Call → Reply → Type 0
IsToldStepOf at count old new call r =
    (w : World) → old.content ≡ Some w → (s : State) → Stands at count old s → IsOutcome r s (told_step s call) (Stands at count new)

-- for every state that the machine stands for, the call adds the changes of its own entry to those that are told, and nothing else
abbrev pub IsLogged : {V : Type 0} → (V → Path → ℕ) → (V → ℕ) → Parts V → Parts V → Call → Reply → Type 0
IsLogged at count old new call r = (s : State) → Stands at count old s → new.log ≡ option_map (with_changes (changes_of s call r)) old.log

-- the reply needs no memory, and so it comes before want of it
abbrev pub is_before_memory : Reply → Bool
is_before_memory (Refused r) = true
is_before_memory NothingPending = true
is_before_memory AlreadyOpen = true
is_before_memory NoScan = true
is_before_memory AllRead = true
is_before_memory (Unfinished n) = true
is_before_memory (Stale n) = true
is_before_memory Covered = true
is_before_memory (Unknown n) = true
is_before_memory (Part None) = true
is_before_memory _ = false

-- for every state that the machine stands for, memory was wanting only where the reply that is due needs it
abbrev pub IsMemoryLast : {V : Type 0} → (V → Path → ℕ) → (V → ℕ) → Parts V → (State → Outcome) → Reply → Type 0
IsMemoryLast at count m due r = (s : State) → Stands at count m s → is_no_memory r ≡ true → is_before_memory (due s).reply ≡ false

-- a fingerprint of this very list of inputs is kept, and so the reply to a question for it needs no memory
abbrev pub is_kept : State → List Input → Bool
is_kept s inputs = is_some (find (λ (k : KeptPrint). is_for_inputs inputs k.seen) s.kept)
