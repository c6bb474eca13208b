use Rattle.vfs_laws.proofs.StoreLemmas.{store-keeps, store-retained}
use Rattle.vfs_laws.proofs.stores_keep_what_is_retained.Goals as goal

pub returns : goal.returns
returns c = record { keeps = store-keeps; stores = store-retained }
