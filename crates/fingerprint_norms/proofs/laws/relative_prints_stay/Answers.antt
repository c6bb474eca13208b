use Rattle.vfs_laws.proofs.PrintLemmas.{relative-same}
use Rattle.fingerprint_norms.proofs.laws.relative_prints_stay.Goals as goal

pub returns : goal.returns
returns c = relative-same
