use Rattle.std.proofs.Common.{map, sym, ◌∙◌}
use Rattle.fingerprint_norms.specs.Meaning.{input_of}
use Rattle.vfs_machine.proofs.KeptLemmas.{kept-stands}
use Rattle.vfs_machine.proofs.engine.Engine.fingerprint.Goals as goal

pub returns-in-Some-clause-step : goal.returns-in-Some-clause-step
returns-in-Some-clause-step g c =
    rw (← c.self.view_is) (λ a s st. kept-stands g.V.Versions.version g.V.Versions.count _ s (map input_of c.args.inputs.now) c.in-Some.digest (sym c.find.ensures ∙ c.in-Some.is) st)
