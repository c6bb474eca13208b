use Rattle.std.proofs.Common.{refl}
use Rattle.vfs_model.specs.State.{CallEvent}
use Rattle.vfs_laws.proofs.KeepLemmas.{step-keeps}
use Rattle.vfs_machine.specs.Steps.{fit_reply}
use Rattle.vfs_machine.proofs.CalledLemmas.{quiet-called, never-wanting, fit-given, spends-more}
use Rattle.vfs_machine.proofs.ToldLemmas.{tells-as-before, not_asked}
use Rattle.vfs_machine.proofs.machine.Machine.event.Goals as goal

pub invariant_of-self : goal.invariant_of-self
invariant_of-self g c =
    step-keeps g.V.Versions.version g.V.Versions.count _ _ not_asked (CallEvent c.args.path) _ (rw c.len-short.ensures.names at c.len-short.ensures.short) (tells-as-before _ _ c.event.ensures.content) (λ s st. tt) (λ w told s st. tt) (c.event.ensures.step not_asked) c.self.invariant

pub returns : goal.returns
returns g c =
    rw (← c.self.view_is)
    (quiet-called g.V.Versions.version g.V.Versions.count c.self.inside.engine c.event.new.self (CallEvent c.args.path) (fit_reply c.event.result) refl c.event.ensures.content (c.event.ensures.step not_asked) (never-wanting g.V.Versions.version g.V.Versions.count c.self.inside.engine (CallEvent c.args.path) (fit_reply c.event.result) (fit-given c.event.result)) c.event.ensures.log c.event.ensures.versions tt
    (spends-more g.V.Versions.count c.self.inside.engine c.event.new.self 1 c.event.ensures.versions c.event.ensures.waiting))
