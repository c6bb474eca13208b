use Rattle.std.proofs.Common.{refl}
use Rattle.vfs_model.specs.State.{CallDeliver}
use Rattle.vfs_laws.proofs.KeepLemmas.{step-keeps}
use Rattle.vfs_machine.proofs.CalledLemmas.{quiet-called, spends-delivered}
use Rattle.vfs_machine.proofs.ToldLemmas.{tells-as-before, not_asked}
use Rattle.vfs_machine.proofs.machine.Machine.deliver.Goals as goal

pub invariant_of-self : goal.invariant_of-self
invariant_of-self g c =
    step-keeps g.V.Versions.version g.V.Versions.count _ _ not_asked CallDeliver _ tt (tells-as-before _ _ c.deliver.ensures.content) (λ s st. tt) (λ w told s st. tt) (c.deliver.ensures.step not_asked) c.self.invariant

pub returns-clause-called : goal.returns-clause-called
returns-clause-called g c =
    rw (← c.self.view_is)
    (quiet-called g.V.Versions.version g.V.Versions.count c.self.inside.engine c.deliver.new.self CallDeliver _ refl c.deliver.ensures.content (c.deliver.ensures.step not_asked) (c.deliver.ensures.last not_asked) c.deliver.ensures.log tt tt
    (spends-delivered c.deliver.result _ _ _ _ c.deliver.ensures.counts))
