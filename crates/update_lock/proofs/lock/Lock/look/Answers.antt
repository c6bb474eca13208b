use Rattle.std.proofs.Common.{rules}
use Rattle.update_lock.proofs.Keeps.{looks}
use Rattle.update_lock.proofs.lock.Lock.look.Goals as goal

pub load-requires : goal.load-requires
load-requires g c = (search rules, search rules, looks _ _ _ _ _ _)
