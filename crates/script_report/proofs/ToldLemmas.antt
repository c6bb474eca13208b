-- Over a tree that tells its world, and whose looks do not fail, an operation is the told step.
use Rattle.std.proofs.Common.{◌≡◌, ℕ, [], ◌∷◌, refl, sym, ap, subst, ◌∙◌, Option, Some, None, if◌then◌else◌, arith}
use Rattle.std.specs.List.{count_by}
use Rattle.vfs_model.specs.Paths.{Path}
use Rattle.vfs_model.specs.Scanning.{Scan, Look, next_left}
use Rattle.vfs_model.specs.State.{State, Call, CallEdit, CallRead, Reply, Fault, Answers, ToLook, AreDue, IsLookFor, IsLookAt, edit_by, read_or, read_next, look_due, look_due_at, scan_of, step, told_step}
use Rattle.vfs_model.specs.History.{Operation, after_operation}
use Rattle.script_report.specs.Runs.{IsMade, asked_in, asked_by, is_failed}

read-next-told : (s : State) (c : ℕ) (scan : Scan) (y : Option Path) (l : Option Look) → (Fault ≡ (read_next s c scan y l).reply → l ≡ None → ⊥) → IsLookAt s scan y l → read_next s c scan y l ≡ read_next s c scan y (look_due_at s scan y)
read-next-told s c scan None l whole due = refl
read-next-told s c scan (Some y) None whole due = absurd (whole refl refl)
read-next-told s c scan (Some y) (Some l) whole due = ap (λ k. read_next s c scan (Some y) (Some k)) due

read-told : (s : State) (c : ℕ) (o : Option Scan) (l : Option Look) → (Fault ≡ (read_or s c o l).reply → l ≡ None → ⊥) → IsLookFor s o l → read_or s c o l ≡ read_or s c o (look_due s o)
read-told s c None l whole due = refl
read-told s c (Some scan) l whole due = read-next-told s c scan (next_left scan.partial) l whole due

none-failed : (c : ℕ) (a : Answers) (reply : Reply) → count_by is_failed (asked_in (CallRead c) reply a) ≡ 0 → reply ≡ Fault → a.look ≡ None → ⊥
none-failed c a reply few is none =
    let one : count_by is_failed (ToLook a.look ∷ []) ≡ 0 = subst (λ (r : Reply). count_by is_failed (asked_in (CallRead c) r a) ≡ 0) is few in
    let last : count_by is_failed (ToLook None ∷ []) ≡ 0 = subst (λ (l : Option Look). count_by is_failed (ToLook l ∷ []) ≡ 0) none one in
    omega (arith, last)

step-told : (s : State) (call : Call) (a : Answers) (reply : Reply) → reply ≡ (step a s call).reply → AreDue s call a → count_by is_failed (asked_in call reply a) ≡ 0 → step a s call ≡ told_step s call
step-told s (CallEdit edit) a reply is due few = ap (edit_by s edit) due
step-told s (CallRead c) a reply is due few = read-told s c (scan_of s c) a.look (λ fault none. none-failed c a reply few (is ∙ sym fault) none) due
step-told s _ a reply is due few = refl

pub operation-told : (s : State) (o : Operation) → IsMade s o → AreDue s o.call o.answers → count_by is_failed (asked_by o) ≡ 0 → (o.reply ≡ (told_step s o.call).reply) × (after_operation s o ≡ (told_step s o.call).state)
operation-told s o made due few =
    let same = step-told s o.call o.answers o.reply made.reply due few in (
      made.reply ∙ ap (λ z. z.reply) same,
      ap (λ b. if b then s else (step o.answers s o.call).state) made.given ∙ ap (λ z. z.state) same,
    )
