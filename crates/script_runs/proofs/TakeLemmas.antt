-- The inputs of a build.
use Rattle.std.proofs.Common.{◌≡◌, ℕ, zero, suc, ◌+◌, ◌<◌, ◌≤◌, true, false, List, [], ◌∷◌, length, drop, get_or, map, Option, Some, None, refl, sym, ap, ◌∙◌, arith, add-one}
use Rattle.std.specs.Prelude.{is_some, option_map}
use Rattle.std.proofs.lemmas.Bool.{true≢false}
use Rattle.vfs_model.specs.Paths.{Path}
use Rattle.std.proofs.lemmas.List.{drop_all}
use Rattle.vfs_model.specs.State.{CallBegin, CallFind, Found}
use Rattle.vfs_model.specs.Fingerprint.{Input}
use Rattle.vfs_model.specs.Stands.{Parts}
use Rattle.fingerprint_norms.specs.declared.input.Input.{Input as InputValue}
use Rattle.fingerprint_norms.specs.Meaning.{input_of}
use Rattle.vfs_model.specs.History.{is_no_memory}
use Rattle.snapshot_tree.specs.declared.snapshot.Glance.{Glance}
use Rattle.snapshot_tree.specs.Meaning.{glance_of}
use Rattle.vfs_machine.specs.Steps.{answer_reply, began_reply}
use Rattle.vfs_machine.specs.declared.answers.Answer.{Answer}
use Rattle.vfs_machine.specs.declared.answers.Answer.TheVariants as answer
use Rattle.vfs_machine.specs.declared.answers.Began.{Began}
use Rattle.vfs_machine.specs.declared.answers.Began.TheVariants as began
use Rattle.script_report.specs.Stages.{Stage, Asks, Reads}
use Rattle.script_report.specs.Lines.{no_counts, Counts, with_hit, root_read, root_found, taking}
use Rattle.script_runs.specs.Making.{Leads, Stops}
use Rattle.script_runs.proofs.LeadLemmas.{leads-as, leads-then, stops-then}

-- a root that is retained, and one that is not
pub found-hit : (caller : ℕ) (root : Path) (k : Counts) (more : Counts → Stage) (o : Option Glance) → is_some o ≡ true → root_found caller root k more (Found (option_map glance_of o)) ≡ more (with_hit k)
found-hit caller root k more None e = absurd (true≢false (sym e))
found-hit caller root k more (Some x) e = refl

pub found-miss : (caller : ℕ) (root : Path) (k : Counts) (more : Counts → Stage) (o : Option Glance) → is_some o ≡ false → root_found caller root k more (Found (option_map glance_of o)) ≡ Asks (CallBegin caller root) (λ reply. Reads caller 0 (root_read caller k more))
found-miss caller root k more None e = refl
found-miss caller root k more (Some x) e = absurd (true≢false e)

pub answer-given : (r : Answer) → (r ≡ answer.NoMemory → ⊥) → is_no_memory (answer_reply r) ≡ false
answer-given answer.NoScan h = refl
answer-given (answer.Unfinished n) h = refl
answer-given (answer.Stale n) h = refl
answer-given answer.Covered h = refl
answer-given answer.Stored h = refl
answer-given answer.NoMemory h = absurd (h refl)

pub began-given : (r : Began) → (r ≡ began.NoMemory → ⊥) → is_no_memory (began_reply r) ≡ false
began-given began.AlreadyOpen h = refl
began-given (began.Version n) h = refl
began-given began.NoMemory h = absurd (h refl)

-- what is left from an element on
drop-at : {A : Type 0} (xs : List A) (i : ℕ) (x : A) → i < length xs → x ≡ get_or xs i x → drop i xs ≡ x ∷ drop (suc i) xs
drop-at [] i x lt e = absurd (omega arith)
drop-at (y ∷ xs) zero x lt e = ap (λ z. z ∷ xs) (sym e)
drop-at (y ∷ xs) (suc i) x lt e = drop-at xs i x (omega arith) e

-- the inputs of a build, from the one with the index on
abbrev pub taking_from : ℕ → List Input → ℕ → List InputValue → Counts → Stage
taking_from caller all i inputs k = taking caller all (map input_of (drop i inputs)) k

-- the stage at an input
abbrev pub asks_for : ℕ → InputValue → Counts → (Counts → Stage) → Stage
asks_for caller input k more = Asks (CallFind (input_of input).root) (root_found caller (input_of input).root k more)

taking-at : (caller : ℕ) (all : List Input) (inputs : List InputValue) (i : ℕ) (input : InputValue) (k : Counts) → i < length inputs → input ≡ get_or inputs i input → taking_from caller all i inputs k ≡ asks_for caller input k (taking_from caller all (i + 1) inputs)
taking-at caller all inputs i input k lt e =
    ap (λ (l : List InputValue). taking caller all (map input_of l) k) (drop-at inputs i input lt e)
    ∙ ap (λ (n : ℕ). asks_for caller input k (taking_from caller all n inputs)) (sym (add-one i))

-- one input more was taken, and what came of it
pub input-leads : {V : Type 0} (at : V → Path → ℕ) (count : V → ℕ) (old mid new : Parts V) (caller : ℕ) (inputs : List InputValue) (i : ℕ) (input : InputValue) (k : Counts) (end : (Counts → Stage) → Stage) → i < length inputs → input ≡ get_or inputs i input
    → ((all : List Input) → Leads at count old mid caller (taking caller all (map input_of inputs) no_counts) (taking_from caller all i inputs k)) → ((more : Counts → Stage) → Leads at count mid new caller (asks_for caller input k more) (end more))
    → (all : List Input) → Leads at count old new caller (taking caller all (map input_of inputs) no_counts) (end (taking_from caller all (i + 1) inputs))
input-leads at count old mid new caller inputs i input k end lt e before taken = λ all.
    let first = taking caller all (map input_of inputs) no_counts in
    leads-then at count old mid new caller first (asks_for caller input k (taking_from caller all (i + 1) inputs)) (end (taking_from caller all (i + 1) inputs))
    (leads-as at count old mid caller first _ (asks_for caller input k (taking_from caller all (i + 1) inputs)) (taking-at caller all inputs i input k lt e) (before all)) (taken (taking_from caller all (i + 1) inputs))

pub input-stops : {V : Type 0} (at : V → Path → ℕ) (count : V → ℕ) (old mid new : Parts V) (caller : ℕ) (inputs : List InputValue) (i : ℕ) (input : InputValue) (k : Counts) → i < length inputs → input ≡ get_or inputs i input
    → ((all : List Input) → Leads at count old mid caller (taking caller all (map input_of inputs) no_counts) (taking_from caller all i inputs k)) → ((more : Counts → Stage) → Stops at count mid new caller (asks_for caller input k more))
    → (all : List Input) → Stops at count old new caller (taking caller all (map input_of inputs) no_counts)
input-stops at count old mid new caller inputs i input k lt e before taken = λ all.
    let first = taking caller all (map input_of inputs) no_counts in
    stops-then at count old mid new caller first (asks_for caller input k (taking_from caller all (i + 1) inputs))
    (leads-as at count old mid caller first _ (asks_for caller input k (taking_from caller all (i + 1) inputs)) (taking-at caller all inputs i input k lt e) (before all)) (taken (taking_from caller all (i + 1) inputs))

-- all inputs were taken
pub all-taken : {V : Type 0} (at : V → Path → ℕ) (count : V → ℕ) (old new : Parts V) (caller : ℕ) (inputs : List InputValue) (i : ℕ) (k : Counts) → length inputs ≤ i
    → ((all : List Input) → Leads at count old new caller (taking caller all (map input_of inputs) no_counts) (taking_from caller all i inputs k)) → (all : List Input) → Leads at count old new caller (taking caller all (map input_of inputs) no_counts) (taking caller all [] k)
all-taken at count old new caller inputs i k past before = λ all.
    leads-as at count old new caller (taking caller all (map input_of inputs) no_counts) _ (taking caller all [] k) (ap (λ (l : List InputValue). taking caller all (map input_of l) k) (drop_all i inputs past)) (before all)
