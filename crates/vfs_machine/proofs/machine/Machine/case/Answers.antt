use Rattle.vfs_laws.proofs.TruthLemmas.{truth-told, states-sound}
use Rattle.vfs_machine.proofs.machine.Machine.case.Goals as goal

pub returns-clause-world : goal.returns-clause-world
returns-clause-world g c = rw (← c.self.view_is) c.case.ensures.world

pub returns-clause-truth : goal.returns-clause-truth
returns-clause-truth g c = rw (← c.self.view_is) (λ w told. truth-told g.V.Versions.version g.V.Versions.count _ w told (c.case.ensures.world w told) c.self.invariant)

pub returns-clause-states : goal.returns-clause-states
returns-clause-states g c = rw (← c.self.view_is) (λ w told s st whole. states-sound g.V.Versions.version g.V.Versions.count _ w s told st whole c.self.invariant)
