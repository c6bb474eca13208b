use Rattle.vfs_laws.proofs.TruthLemmas.{machine-scanned}
use Rattle.vfs_laws.proofs.settled_machines_are_scanned.Goals as goal

pub returns : goal.returns
returns _ c = machine-scanned
