use Rattle.vfs_laws.proofs.OvertakenLemmas.{partial-own}
use Rattle.vfs_laws.proofs.scans_are_their_own_entries.Goals as goal

pub returns : goal.returns
returns c = partial-own
