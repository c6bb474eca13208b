use Rattle.std.proofs.Common.{refl}
use Rattle.vfs_model.specs.State.{CallLose, Lost}
use Rattle.vfs_laws.proofs.KeepLemmas.{step-keeps}
use Rattle.vfs_machine.proofs.CalledLemmas.{quiet-called, never-wanting, lost-due, spends-more}
use Rattle.vfs_machine.proofs.ToldLemmas.{tells-as-before, not_asked}
use Rattle.vfs_machine.proofs.machine.Machine.lose.Goals as goal

pub invariant_of-self : goal.invariant_of-self
invariant_of-self g c =
    step-keeps g.V.Versions.version g.V.Versions.count _ _ not_asked CallLose Lost tt (tells-as-before _ _ c.lose.ensures.content) (λ s st. tt) (λ w told s st. tt) (c.lose.ensures.step not_asked) c.self.invariant

pub returns : goal.returns
returns g c =
    rw (← c.self.view_is)
    (quiet-called g.V.Versions.version g.V.Versions.count c.self.inside.engine c.lose.new.self CallLose Lost refl c.lose.ensures.content (c.lose.ensures.step not_asked) (never-wanting g.V.Versions.version g.V.Versions.count c.self.inside.engine CallLose Lost refl) c.lose.ensures.log c.lose.ensures.versions tt
    (spends-more g.V.Versions.count c.self.inside.engine c.lose.new.self 1 c.lose.ensures.versions (lost-due g.V.Versions.version g.V.Versions.count c.self.inside.engine c.lose.new.self c.self.invariant (c.lose.ensures.step not_asked))))
