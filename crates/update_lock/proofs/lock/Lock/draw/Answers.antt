use Rattle.std.proofs.Common.{rules}
use Rattle.update_lock.proofs.Keeps.{draws}
use Rattle.update_lock.proofs.lock.Lock.draw.Goals as goal

pub fetch_add-requires : goal.fetch_add-requires
fetch_add-requires g c = (search rules, search rules, draws _ _ _ _ _ _ c.requires.idle c.requires.few)
