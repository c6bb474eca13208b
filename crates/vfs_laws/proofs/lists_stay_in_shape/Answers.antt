use Rattle.vfs_laws.proofs.ShapeLemmas.{after_invalidation-in_shape, after_store-in_shape}
use Rattle.vfs_laws.proofs.lists_stay_in_shape.Goals as goal

pub returns : goal.returns
returns c = record { invalidated = after_invalidation-in_shape; stored = after_store-in_shape }
