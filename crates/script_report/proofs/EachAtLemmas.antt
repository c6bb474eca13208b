-- Facts of each operation, over histories that are put together.
use Rattle.std.proofs.Common.{◌≡◌, ℕ, ◌+◌, List, [], ◌∷◌, ◌++◌, refl, ap, ◌∙◌}
use Rattle.std.specs.List.{count_by}
use Rattle.std.proofs.lemmas.List.Sums.{sum_by-append}
use Rattle.std.proofs.lemmas.Grind.{flat_map-append}
use Rattle.vfs_model.specs.State.{State}
use Rattle.vfs_model.specs.History.{Operation, after_operation, after, EachAt}
use Rattle.script_report.specs.Stages.{Stage, Follows, advance, stage_after}
use Rattle.script_report.specs.Runs.{asked, asked_by, is_failed, failed}

pub after-append : (s : State) (h k : List Operation) → after s (h ++ k) ≡ after (after s h) k
after-append s [] k = refl
after-append s (o ∷ h) k = after-append (after_operation s o) h k

pub EachAt-front : (P : State → Operation → Type 0) (s : State) (h k : List Operation) → EachAt P s (h ++ k) → EachAt P s h
EachAt-front P s [] k all = tt
EachAt-front P s (o ∷ h) k all = (all.0, EachAt-front P (after_operation s o) h k all.1)

pub EachAt-back : (P : State → Operation → Type 0) (s : State) (h k : List Operation) → EachAt P s (h ++ k) → EachAt P (after s h) k
EachAt-back P s [] k all = all
EachAt-back P s (o ∷ h) k all = EachAt-back P (after_operation s o) h k all.1

pub EachAt-append : (P : State → Operation → Type 0) (s : State) (h k : List Operation) → EachAt P s h → EachAt P (after s h) k → EachAt P s (h ++ k)
EachAt-append P s [] k first second = second
EachAt-append P s (o ∷ h) k first second = (first.0, EachAt-append P (after_operation s o) h k first.1 second)

pub asked-append : (h k : List Operation) → asked (h ++ k) ≡ asked h ++ asked k
asked-append h k = flat_map-append asked_by h k

pub failed-append : (h k : List Operation) → failed (h ++ k) ≡ failed h + failed k
failed-append h k = ap (count_by is_failed) (asked-append h k) ∙ sum_by-append _ (asked h) (asked k)

-- ---- stages

pub stage_after-append : (stage : Stage) (h k : List Operation) → stage_after stage (h ++ k) ≡ stage_after (stage_after stage h) k
stage_after-append stage [] k = refl
stage_after-append stage (o ∷ h) k = stage_after-append (advance stage o.reply) h k

pub Follows-append : (caller : ℕ) (stage : Stage) (h k : List Operation) → Follows caller stage h → Follows caller (stage_after stage h) k → Follows caller stage (h ++ k)
Follows-append caller stage [] k first second = second
Follows-append caller stage (o ∷ h) k first second = (first.0, first.1, Follows-append caller (advance stage o.reply) h k first.2 second)
