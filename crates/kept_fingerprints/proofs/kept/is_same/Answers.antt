use Rattle.std.proofs.Common.{◌∙◌, ◌&&◌, ap, sym}
use Rattle.vfs_model.specs.State.{is_same_sensitivity}
use Rattle.fingerprint_norms.specs.Meaning.{sensitivity_of}
use Rattle.kept_fingerprints.proofs.InputLemmas.{same-spelling, same-sensitivity}
use Rattle.kept_fingerprints.proofs.kept.is_same.Goals as goal

pub returns-then-eq : goal.returns-then-eq
returns-then-eq c =
    c.eq-then-eq.ensures
    ∙ same-sensitivity c.args.input.now.sensitivity c.args.other.now.sensitivity
    ∙ ap (λ b. b && is_same_sensitivity (sensitivity_of c.args.input.now.sensitivity) (sensitivity_of c.args.other.now.sensitivity)) (sym c.if-eq.true ∙ c.eq.ensures ∙ same-spelling c.args.input.now.root c.args.other.now.root)

pub returns-else-eq : goal.returns-else-eq
returns-else-eq c =
    c.if-eq.false
    ∙ ap (λ b. b && is_same_sensitivity (sensitivity_of c.args.input.now.sensitivity) (sensitivity_of c.args.other.now.sensitivity)) (sym c.if-eq.false ∙ c.eq.ensures ∙ same-spelling c.args.input.now.root c.args.other.now.root)
