use Rattle.vfs_model.specs.State.{CallEdit}
use Rattle.vfs_laws.proofs.KeepLemmas.{step-keeps}
use Rattle.world_model.specs.Meaning.{edit_of}
use Rattle.vfs_machine.specs.Steps.{edit_answers}
use Rattle.vfs_machine.proofs.EditLemmas.{given-short}
use Rattle.vfs_machine.proofs.CalledLemmas.{edit-called}
use Rattle.vfs_machine.proofs.machine.Machine.edit.Goals as goal

pub invariant_of-self : goal.invariant_of-self
invariant_of-self g c =
    step-keeps g.V.Versions.version g.V.Versions.count _ _ (edit_answers (edit_of c.args.edit.now) c.edit.result) (CallEdit (edit_of c.args.edit.now)) _ c.ask_lengths.ensures c.edit.ensures.tells (λ s st. given-short (edit_of c.args.edit.now) c.edit.result c.ask_lengths.ensures) c.edit.ensures.due c.edit.ensures.step c.self.invariant

pub returns-clause-called : goal.returns-clause-called
returns-clause-called g c =
    rw (← c.self.view_is)
    (edit-called g.V.Versions.version g.V.Versions.count c.self.inside.engine c.edit.new.self (edit_of c.args.edit.now) c.edit.result c.edit.ensures.step c.edit.ensures.due c.ask_lengths.ensures c.edit.ensures.answered c.edit.ensures.faults c.edit.ensures.tells c.edit.ensures.log c.edit.ensures.versions c.edit.ensures.waiting)
