use Rattle.vfs_laws.proofs.KnownLemmas.{after_store-known, after_invalidation-known}
use Rattle.vfs_laws.proofs.directories_above_are_known.Goals as goal

pub returns : goal.returns
returns c = record { stored = after_store-known; invalidated = after_invalidation-known }
