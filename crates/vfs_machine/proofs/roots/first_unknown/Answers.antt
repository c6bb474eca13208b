use Rattle.std.proofs.Common.{◌≡◌, ◌∙◌, not, is_some, length, map, rules, tests, sym}
use Rattle.std.proofs.lemmas.Iterator.{YieldsList-from_slice}
use Rattle.std.proofs.lemmas.Iterator.Search.{position_from_yields_List}
use Rattle.std.proofs.lemmas.Iterator.Adapters.{position_from-zero}
use Rattle.vfs_model.specs.Paths.{place}
use Rattle.vfs_model.specs.Retained.{part_of}
use Rattle.vfs_model.specs.State.{seen_inputs}
use Rattle.fingerprint_norms.specs.Meaning.{input_of}
use Rattle.fingerprint_norms.specs.declared.input.Input.{Input as InputValue}
use Rattle.vfs_machine.specs.Roots.{unknown_of}
use Rattle.vfs_machine.proofs.RootLemmas.{unknown-is}
use Rattle.vfs_machine.proofs.roots.first_unknown.Goals as goal

pub returns-in_err-number : goal.returns-in_err-number
returns-in_err-number g c =
    let case = c.args.vfs.now.held.case in
    let pairs = c.args.vfs.now.held.retained.pairs in
    let found : c.position.result ≡ unknown_of (length (seen_inputs case pairs (map input_of c.args.inputs.now))) (length c.args.inputs.now) =
    position_from_yields_List (λ (i : InputValue). not (is_some (part_of case pairs (place case i.root)))) _ _ c.position.result c.position.ensures.ran (YieldsList-from_slice c.args.inputs.now c.iter.ensures.rest) (λ x b q k. search (rules, tests))
    ∙ position_from-zero (λ (i : InputValue). not (is_some (part_of case pairs (place case i.root)))) c.args.inputs.now
    ∙ unknown-is case pairs c.args.inputs.now in
    c.from_residual.ensures ∙ sym c.in_err-number.was ∙ found

pub returns : goal.returns
returns g c =
    let case = c.args.vfs.now.held.case in
    let pairs = c.args.vfs.now.held.retained.pairs in
    let found : c.position.result ≡ unknown_of (length (seen_inputs case pairs (map input_of c.args.inputs.now))) (length c.args.inputs.now) =
    position_from_yields_List (λ (i : InputValue). not (is_some (part_of case pairs (place case i.root)))) _ _ c.position.result c.position.ensures.ran (YieldsList-from_slice c.args.inputs.now c.iter.ensures.rest) (λ x b q k. search (rules, tests))
    ∙ position_from-zero (λ (i : InputValue). not (is_some (part_of case pairs (place case i.root)))) c.args.inputs.now
    ∙ unknown-is case pairs c.args.inputs.now in
    sym c.in_ok-number.was ∙ found
