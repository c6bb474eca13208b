use Rattle.fingerprint_norms.proofs.LawLemmas.{digests-tell}
use Rattle.fingerprint_norms.proofs.laws.ignored_prints_tell_only_the_files.Goals as goal

pub returns : goal.returns
returns c = digests-tell
