use Rattle.vfs_laws.proofs.StayLemmas.{after_invalidation-keeps}
use Rattle.vfs_laws.proofs.invalidation_keeps_the_rest.Goals as goal

pub returns : goal.returns
returns c = after_invalidation-keeps
