use Rattle.std.proofs.Common.{ap, is_some}
use Rattle.vfs_model.specs.State.{CallRead}
use Rattle.vfs_laws.proofs.KeepLemmas.{step-keeps}
use Rattle.vfs_machine.specs.Steps.{read_answers}
use Rattle.vfs_machine.proofs.CalledLemmas.{read-called}
use Rattle.vfs_machine.proofs.machine.Machine.read.Goals as goal

pub invariant_of-self : goal.invariant_of-self
invariant_of-self g c =
    let look = c.read.ensures.read in
    step-keeps g.V.Versions.version g.V.Versions.count _ _ (read_answers look.given) (CallRead c.args.scan) _ c.requires (ap is_some c.read.ensures.content) look.looks look.due look.step c.self.invariant

pub returns-clause-called : goal.returns-clause-called
returns-clause-called g c =
    rw (← c.self.view_is)
    (read-called g.V.Versions.version g.V.Versions.count c.self.inside.engine c.read.new.self c.args.scan c.read.result c.read.ensures.read c.read.ensures.last c.read.ensures.fault c.read.ensures.faults c.read.ensures.content c.read.ensures.log c.read.ensures.versions c.read.ensures.pending)
