use Rattle.std.proofs.Common.{refl}
use Rattle.vfs_model.specs.State.{CallPublish}
use Rattle.vfs_laws.proofs.KeepLemmas.{step-keeps}
use Rattle.vfs_machine.proofs.CalledLemmas.{quiet-called, spends-none}
use Rattle.vfs_machine.proofs.StaleLemmas.{publish-stale}
use Rattle.vfs_machine.proofs.ToldLemmas.{tells-as-before, not_asked}
use Rattle.vfs_machine.proofs.machine.Machine.publish.Goals as goal

pub invariant_of-self : goal.invariant_of-self
invariant_of-self g c =
    step-keeps g.V.Versions.version g.V.Versions.count _ _ not_asked (CallPublish c.args.scan) _ c.requires.number (tells-as-before _ _ c.publish.ensures.content) (λ s st. tt) (λ w told s st. tt) (c.publish.ensures.step not_asked) c.self.invariant

pub returns-clause-called : goal.returns-clause-called
returns-clause-called g c =
    rw (← c.self.view_is)
    (quiet-called g.V.Versions.version g.V.Versions.count c.self.inside.engine c.publish.new.self (CallPublish c.args.scan) _ refl c.publish.ensures.content (c.publish.ensures.step not_asked) (c.publish.ensures.last not_asked) c.publish.ensures.log c.publish.ensures.versions c.publish.ensures.pending
    (spends-none g.V.Versions.count c.self.inside.engine c.publish.new.self 0 c.publish.ensures.versions c.publish.ensures.pending))

pub returns-clause-stale : goal.returns-clause-stale
returns-clause-stale g c =
    rw (← c.self.view_is)
    (λ s p h few answered keeps st. publish-stale not_asked s c.args.scan p h c.publish.result _ few answered keeps (c.publish.ensures.step not_asked _ st) (c.publish.ensures.last not_asked _ st))
