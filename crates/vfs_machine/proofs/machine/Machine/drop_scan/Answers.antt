use Rattle.std.proofs.Common.{refl}
use Rattle.vfs_model.specs.State.{CallDrop, Dropped}
use Rattle.vfs_laws.proofs.KeepLemmas.{step-keeps}
use Rattle.vfs_machine.proofs.CalledLemmas.{quiet-called, never-wanting, spends-none}
use Rattle.vfs_machine.proofs.ToldLemmas.{tells-as-before, not_asked}
use Rattle.vfs_machine.proofs.machine.Machine.drop_scan.Goals as goal

pub invariant_of-self : goal.invariant_of-self
invariant_of-self g c =
    step-keeps g.V.Versions.version g.V.Versions.count _ _ not_asked (CallDrop c.args.scan) (Dropped c.drop_scan.result) c.requires (tells-as-before _ _ c.drop_scan.ensures.content) (λ s st. tt) (λ w told s st. tt) (c.drop_scan.ensures.step not_asked) c.self.invariant

pub returns : goal.returns
returns g c =
    rw (← c.self.view_is)
    (quiet-called g.V.Versions.version g.V.Versions.count c.self.inside.engine c.drop_scan.new.self (CallDrop c.args.scan) (Dropped c.drop_scan.result) refl c.drop_scan.ensures.content (c.drop_scan.ensures.step not_asked) (never-wanting g.V.Versions.version g.V.Versions.count c.self.inside.engine (CallDrop c.args.scan) (Dropped c.drop_scan.result) refl) c.drop_scan.ensures.log c.drop_scan.ensures.versions c.drop_scan.ensures.pending
    (spends-none g.V.Versions.count c.self.inside.engine c.drop_scan.new.self 0 c.drop_scan.ensures.versions c.drop_scan.ensures.pending))
