use Rattle.std.proofs.Common.{◌∙◌}
use Rattle.vfs_machine.proofs.SlotLemmas.{scanning-of}
use Rattle.vfs_machine.proofs.machine.Machine.scanning.Goals as goal

pub returns-clause-state : goal.returns-clause-state
returns-clause-state g c = rw (← c.self.view_is) (λ s st. c.scanning.ensures ∙ scanning-of g.V.Versions.version g.V.Versions.count _ s c.args.scan st)
