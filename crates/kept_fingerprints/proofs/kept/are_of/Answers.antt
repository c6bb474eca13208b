use Rattle.std.proofs.Common.{◌∙◌, nat_eq, length, rules, tests, sym}
use Rattle.std.proofs.lemmas.Bool.{eqb-true}
use Rattle.vfs_laws.proofs.Splits.{split}
use Rattle.std.proofs.lemmas.Iterator.{YieldsList-from_slice, YieldsList-from_zip}
use Rattle.std.proofs.lemmas.Iterator.Search.{all_from_yields_List}
use Rattle.fingerprint_norms.specs.declared.input.Input.{Input as InputValue}
use Rattle.fingerprint_norms.specs.declared.input.Seen.{Seen as SeenValue}
use Rattle.kept_fingerprints.proofs.InputLemmas.{is_one, same-inputs, other-inputs}
use Rattle.kept_fingerprints.proofs.kept.are_of.Goals as goal

pub returns-then-inputs-seen : goal.returns-then-inputs-seen
returns-then-inputs-seen c =
    all_from_yields_List {s = c.zip.result} (λ (p : InputValue × SeenValue). is_one p.0 p.1.input) c.all.new.self _ c.all.result c.all.ensures.ran (YieldsList-from_zip (YieldsList-from_slice {s = c.zip.result.a} c.args.inputs.now (search rules)) (YieldsList-from_slice {s = c.zip.result.b} c.args.seen.now (search rules))) (λ x b q k. search (rules, tests))
    ∙ same-inputs c.args.inputs.now c.args.seen.now c.if-inputs-seen.true

pub returns-else-inputs-seen : goal.returns-else-inputs-seen
returns-else-inputs-seen c = split (nat_eq (length c.args.inputs.now) (length c.args.seen.now)) (λ t. absurd (c.if-inputs-seen.false (eqb-true _ _ t))) (λ f. f) ∙ sym (other-inputs c.args.inputs.now c.args.seen.now c.if-inputs-seen.false)
