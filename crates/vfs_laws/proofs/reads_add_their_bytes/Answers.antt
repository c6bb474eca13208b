use Rattle.vfs_laws.proofs.ContentsLemmas.{after_read-adds}
use Rattle.vfs_laws.proofs.reads_add_their_bytes.Goals as goal

pub returns : goal.returns
returns c = after_read-adds
