use Rattle.vfs_laws.proofs.OvertakenLemmas.{begin-answers, stale-grown}
use Rattle.vfs_laws.proofs.stale_numbers_have_grown.Goals as goal

pub returns : goal.returns
returns c = record {
  begin = begin-answers;
  number = λ a s c p h n few answered keeps stale. (stale-grown a s c p h n few answered keeps stale).0;
  grown = λ a s c p h n few answered keeps stale. (stale-grown a s c p h n few answered keeps stale).1;
}
