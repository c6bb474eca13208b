use Rattle.vfs_laws.proofs.FingerprintLemmas.{fingerprint-known, fingerprint-is-of-world}
use Rattle.vfs_laws.proofs.settled_fingerprints_are_of_the_world.Goals as goal

pub returns : goal.returns
returns c = record { known = fingerprint-known; world = fingerprint-is-of-world }
