-- A generated script can be run, and its report has as many lines as it.
use Rattle.std.proofs.Common.{◌≡◌, ℕ, ◌+◌, ◌*◌, ◌≤◌, ◌<◌, ◌^◌, Bool, false, cond, List, [], ◌∷◌, ◌++◌, length, refl, sym, ap, subst, ◌∙◌, arith, lit<, lit≤}
use Rattle.std.specs.List.{concat, AllByRecursion as Each}
use Rattle.std.proofs.lemmas.List.Sums.{sum_by-cons, sum_by-append}
use Rattle.vfs_model.specs.History.{empty_world}
use Rattle.script_text.specs.Writing.{ended}
use Rattle.script_report.specs.Reports.{IsOneLine, IsReport}
use Rattle.script_report.proofs.ApartLemmas.{Apart}
use Rattle.script_report.proofs.PrintedLemmas.{report-printed}
use Rattle.script_report.proofs.ReportLemmas.{same-report}
use Rattle.script_runs.specs.Printing.{CanRun}
use Rattle.script_summary.specs.Generated.{generated}
use Rattle.script_summary.specs.Summary.{ends_line, count_lines, summary_of}
use Rattle.script_summary.proofs.GeneratedLemmas.{length-generated, each-generated}
use Rattle.vfs_tool.specs.Gen.{IsSummary}

-- ---- it can be run

pub generated-runs : (n : ℕ) → Each CanRun (generated n).lines
generated-runs n = each-generated CanRun (λ edit. (lit< tt, tt)) (lit< tt, (lit≤ tt, lit≤ tt)) n

pub generated-few : (n : ℕ) → n ≤ 1000 → length (generated n).lines < 2 ^ 61
generated-few n few = omega (arith, length-generated n)

-- ---- its report has as many lines

none_ends : (text : List ℕ) → Apart 10 text → count_lines text ≡ 0
none_ends [] h = refl
none_ends (b ∷ text) h =
    let rest = none_ends text h.1 in
    sum_by-cons (λ x. cond (ends_line x) 1 0) b text ∙ rw h.0 (omega (arith, rest))

one_ends : (text : List ℕ) → IsOneLine text → count_lines text ≡ 1
one_ends text h =
    let none = none_ends h.line h.unbroken in
    ap count_lines h.ended ∙ sum_by-append (λ x. cond (ends_line x) 1 0) h.line (10 ∷ []) ∙ omega (arith, none)

all_end : (texts : List (List ℕ)) → Each IsOneLine texts → count_lines (concat texts) ≡ length texts
all_end [] h = refl
all_end (text ∷ texts) h =
    let one = one_ends text h.0 in
    let rest = all_end texts h.1 in
    sum_by-append (λ x. cond (ends_line x) 1 0) text (concat texts) ∙ omega (arith, one, rest)

pub report-lines : (n : ℕ) (texts : List (List ℕ)) → IsReport (generated n) texts → (length texts ≡ 9 * n + 4) × (count_lines (concat texts) ≡ 9 * n + 4)
report-lines n texts report =
    let printed = report-printed empty_world (generated n) texts report in
    let many : length texts ≡ 9 * n + 4 = let a = printed.0 in let b = length-generated n in omega (arith, a, b) in
    (many, all_end texts printed.1 ∙ many)

pub same-summary : (n : ℕ) (a b : List ℕ) → IsSummary n a → IsSummary n b → a ≡ b
same-summary n a b one two =
    let same = same-report empty_world (generated n) one.0 two.0 one.1 two.1 in
    one.2 ∙ ap (λ (t : List (List ℕ)). summary_of (concat t)) same ∙ sym two.2
