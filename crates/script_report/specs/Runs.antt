-- A run of lines: the operations that they ask for, what the tree answered in these, and what is printed.
use Rattle.std.specs.Prelude.{◌≡◌, ℕ, Bool, true, false, List, [], ◌∷◌, map, None, length, ◌+◌}
use Rattle.std.specs.List.{flat_map, count_by}
use Rattle.vfs_model.specs.State.{State, Call, CallEdit, CallRead, Reply, Saw, Fault, Answers, TreeAnswer, ToEdit, ToLook, AreDue, step, scan_of}
use Rattle.vfs_model.specs.Fingerprint.{Input}
use Rattle.vfs_model.specs.Sound.{IsSound, fingerprint_of}
use Rattle.fingerprint_norms.specs.Meaning.{input_of}
use Rattle.script_text.specs.declared.script.Command.{Command}
use Rattle.script_text.specs.declared.script.Command.TheVariants.{Build}
use Rattle.vfs_model.specs.History.{Operation, is_no_memory, after, EachAt}
use Rattle.script_text.specs.declared.script.Line.{Line}
use Rattle.script_text.specs.Writing.{ended}
use Rattle.script_report.specs.Stages.{Whole, Follows, stage_after}
use Rattle.script_report.specs.Lines.{Counts, build_text, line_stage}

-- ---- operations

-- the call was answered, by the reply of its step for what the tree answered
pub record IsMade (s : State) (o : Operation) : Type 0 where
  pub given : is_no_memory o.reply ≡ false
  pub reply : o.reply ≡ (step o.answers s o.call).reply

-- each of the calls was answered by the reply of its step
abbrev pub AreMade : State → List Operation → Type 0
AreMade = EachAt IsMade

-- in each of them what the tree answered is true of the world; a look may have failed
abbrev pub AreTrue : State → List Operation → Type 0
AreTrue = EachAt (λ s o. AreDue s o.call o.answers)

-- what the tree was asked in a call with this reply
abbrev pub asked_in : Call → Reply → Answers → List TreeAnswer
asked_in (CallEdit edit) reply a = ToEdit a.edit ∷ []
asked_in (CallRead c) (Saw path kind left) a = ToLook a.look ∷ []
asked_in (CallRead c) Fault a = ToLook a.look ∷ []
asked_in call reply a = []

-- the same of an operation
abbrev pub asked_by : Operation → List TreeAnswer
asked_by o = asked_in o.call o.reply o.answers

-- what the tree answered in these operations, in order
abbrev pub asked : List Operation → List TreeAnswer
asked h = flat_map asked_by h

-- the answer is that of a look that failed
abbrev pub is_failed : TreeAnswer → Bool
is_failed (ToLook None) = true
is_failed _ = false

-- how many looks failed in these operations
abbrev pub failed : List Operation → ℕ
failed h = count_by is_failed (asked h)

-- the operations were made over a tree that tells its world, and no look of it failed
pub record AreTold (s : State) (h : List Operation) : Type 0 where
  pub made : AreMade s h
  pub due : AreTrue s h
  pub whole : failed h ≡ 0

-- ---- lines

-- the operations of a line, and what was printed for it
pub record LineRun : Type 0 where
  pub operations : List Operation
  pub text : List ℕ

-- the operations are all that the line asks for, and make this text
pub record IsLineRun (s : State) (line : Line) (run : LineRun) : Type 0 where
  pub follows : Follows line.caller (line_stage s line) run.operations
  pub whole : stage_after (line_stage s line) run.operations ≡ Whole run.text

-- the same of lines, one after the other
abbrev pub AreRuns : State → List Line → List LineRun → Type 0
AreRuns s [] [] = Unit {0}
AreRuns s [] (run ∷ runs) = ⊥
AreRuns s (line ∷ lines) [] = ⊥
AreRuns s (line ∷ lines) (run ∷ runs) = IsLineRun s line run × AreRuns (after s run.operations) lines runs

-- all their operations, in order
abbrev pub operations_of : List LineRun → List Operation
operations_of runs = flat_map (λ (r : LineRun). r.operations) runs

-- the lines that are printed
abbrev pub texts_of : List LineRun → List (List ℕ)
texts_of runs = map (λ (r : LineRun). ended r.text) runs

-- a run of the lines from the state: the calls were made that they ask for
pub record IsRun (s : State) (lines : List Line) (runs : List LineRun) : Type 0 where
  pub follows : AreRuns s lines runs
  pub made : AreMade s (operations_of runs)

-- the state before each operation is sound, and so is the state after them all
pub record AreSound (s : State) (h : List Operation) : Type 0 where
  pub before : EachAt (λ z o. IsSound z) s h
  pub after_all : IsSound (after s h)

-- a line of a build shows the fingerprint of the inputs in the world, and counts each input once; and it leaves the world as it was
pub record ShowsTheWorld (s : State) (inputs : List Input) (run : LineRun) : Type 0 where
  pub counts : Counts
  pub counted : counts.hits + counts.misses ≡ length inputs
  pub text : run.text ≡ build_text counts (fingerprint_of s.case s.world inputs)
  pub world : (after s run.operations).world ≡ s.world

-- where the command is a build and the caller's scan is closed, it shows the fingerprint of its inputs in the world
abbrev pub ShowsWhereBuilt : State → ℕ → Command → LineRun → Type 0
ShowsWhereBuilt s caller (Build inputs) run = scan_of s caller ≡ None → ShowsTheWorld s (map input_of inputs) run
ShowsWhereBuilt s caller _ run = Unit {0}

-- each build among the lines shows the world in which it stands
abbrev pub BuildsShow : State → List Line → List LineRun → Type 0
BuildsShow s [] runs = Unit {0}
BuildsShow s (line ∷ lines) [] = Unit {0}
BuildsShow s (line ∷ lines) (run ∷ runs) = ShowsWhereBuilt s line.caller line.command run × BuildsShow (after s run.operations) lines runs
