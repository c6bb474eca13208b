use Rattle.vfs_laws.proofs.FindLemmas.{after_store-at, after_store-elsewhere}
use Rattle.vfs_laws.proofs.store_is_found.Goals as goal

pub returns : goal.returns
returns c = record { below = after_store-at; elsewhere = after_store-elsewhere }
