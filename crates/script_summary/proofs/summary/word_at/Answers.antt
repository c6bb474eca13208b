use Rattle.std.proofs.Common.{rules, tests, ℕ, eqb, List, [], Option, unwrap_or, ap, ◌∙◌}
use Rattle.std.specs.List.{slice_split}
use Rattle.std.proofs.lemmas.Option.{unwrap_or-slice_get}
use Rattle.std.proofs.lemmas.Iterator.Consumers.{nth_from_yields_List}
use Rattle.std.proofs.lemmas.Iterator.Splits.{YieldsList-from_slice_split}
use Rattle.script_summary.proofs.summary.word_at.Goals as goal

pub returns-in-Some : goal.returns-in-Some
returns-in-Some c =
    let parts = slice_split (λ b. eqb b 32) c.args.line.now in
    let found = nth_from_yields_List c.nth.result c.nth.new.self c.args.place c.nth.ensures.ran (YieldsList-from_slice_split _ (λ b. eqb b 32) c.args.line.now c.split.ensures.rest c.split.ensures.done c.split.ensures.closure (λ x b q k. search (rules, tests))) in
    ap (λ (o : Option (List ℕ)). unwrap_or o []) (rw c.in-Some.is at found) ∙ unwrap_or-slice_get parts c.args.place []

pub returns-in-None : goal.returns-in-None
returns-in-None c =
    let parts = slice_split (λ b. eqb b 32) c.args.line.now in
    let found = nth_from_yields_List c.nth.result c.nth.new.self c.args.place c.nth.ensures.ran (YieldsList-from_slice_split _ (λ b. eqb b 32) c.args.line.now c.split.ensures.rest c.split.ensures.done c.split.ensures.closure (λ x b q k. search (rules, tests))) in
    ap (λ (o : Option (List ℕ)). unwrap_or o []) (rw c.in-None.is at found) ∙ unwrap_or-slice_get parts c.args.place []
