use Rattle.vfs_laws.proofs.FindLemmas.{after_invalidation-related, after_invalidation-before}
use Rattle.vfs_laws.proofs.invalidation_leaves_the_rest.Goals as goal

pub returns : goal.returns
returns c = record { related = after_invalidation-related; before = after_invalidation-before }
