use Rattle.std.proofs.Common.{rules, tests, ◌≡◌, ℕ, eqb, List, refl, ap, ◌∙◌}
use Rattle.std.specs.List.{sum_by}
use Rattle.std.proofs.lemmas.Iterator.Consumers.{YieldsList-end}
use Rattle.std.proofs.lemmas.Iterator.Splits.{YieldsList-from_slice_split}
use Rattle.script_summary.specs.declared.summary.Counts.{Counts}
use Rattle.script_summary.specs.Summary.{hits_in, misses_in, reads_in}
use Rattle.script_summary.proofs.summary.over_lines.Goals as goal

same_counts : (s : Counts) (h m r : ℕ) → s.hits ≡ h → s.misses ≡ m → s.reads ≡ r → s ≡ record { hits = h; misses = m; reads = r }
same_counts s h m r p q t = rw (← p, ← q, ← t) refl

pub returns : goal.returns
returns c =
    let all = YieldsList-end (YieldsList-from_slice_split _ (λ b. eqb b 10) c.args.text.now (cc) (cc) (cc) (λ x b q k. search (rules, tests))) c.loop-line.yielded _ c.loop-line.yielded_by _ _ c.in-None.is c.next.ensures.steps in
    let before = c.loop-line.invariant in
    same_counts c.loop-line.sums _ _ _
    (before.hits ∙ ap (λ (ls : List (List ℕ)). sum_by hits_in ls) all.0)
    (before.misses ∙ ap (λ (ls : List (List ℕ)). sum_by misses_in ls) all.0)
    (before.reads ∙ ap (λ (ls : List (List ℕ)). sum_by reads_in ls) all.0)
