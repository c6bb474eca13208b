use Rattle.vfs_laws.proofs.TruthLemmas.{machine-scanned}
use Rattle.vfs_machine.proofs.machine.Machine.settled.Goals as goal

pub returns-clause-scanned : goal.returns-clause-scanned
returns-clause-scanned g c =
    rw (← c.self.view_is)
    (λ is w told. let nothing = c.settled.ensures.0 is in machine-scanned g.V.Versions.version g.V.Versions.count _ w told (c.case-case.ensures.world w told) nothing.0 nothing.1 c.self.invariant)
