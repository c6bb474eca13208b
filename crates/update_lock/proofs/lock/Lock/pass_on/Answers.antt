use Rattle.std.proofs.Common.{rules}
use Rattle.update_lock.proofs.Keeps.{passes}
use Rattle.update_lock.proofs.lock.Lock.pass_on.Goals as goal

pub fetch_add-requires : goal.fetch_add-requires
fetch_add-requires g c = let f = c.requires.follows in (search rules, search rules, passes _ _ _ _ _ _ f.0 f.1 f.2 f.3 f.4 f.5 f.6 f.7)
