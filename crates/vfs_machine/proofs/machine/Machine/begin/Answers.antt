use Rattle.std.proofs.Common.{refl}
use Rattle.vfs_model.specs.State.{CallBegin}
use Rattle.vfs_laws.proofs.KeepLemmas.{step-keeps}
use Rattle.vfs_machine.proofs.CalledLemmas.{quiet-called, spends-none}
use Rattle.vfs_machine.proofs.ToldLemmas.{tells-as-before, not_asked}
use Rattle.vfs_machine.proofs.machine.Machine.begin.Goals as goal

pub invariant_of-self : goal.invariant_of-self
invariant_of-self g c =
    step-keeps g.V.Versions.version g.V.Versions.count _ _ not_asked (CallBegin c.args.scan c.args.path.now) _ (c.requires, (rw c.len-short.ensures.names at c.len-short.ensures.short)) (tells-as-before _ _ c.begin.ensures.content) (λ s st. tt) (λ w told s st. tt) (c.begin.ensures.step not_asked) c.self.invariant

pub returns : goal.returns
returns g c =
    rw (← c.self.view_is)
    (quiet-called g.V.Versions.version g.V.Versions.count c.self.inside.engine c.begin.new.self (CallBegin c.args.scan c.args.path.now) _ refl c.begin.ensures.content (c.begin.ensures.step not_asked) (c.begin.ensures.last not_asked) c.begin.ensures.log c.begin.ensures.versions c.begin.ensures.pending
    (spends-none g.V.Versions.count c.self.inside.engine c.begin.new.self 0 c.begin.ensures.versions c.begin.ensures.pending))
