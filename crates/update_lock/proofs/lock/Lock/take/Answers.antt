use Rattle.update_lock.proofs.Grown.{taken}
use Rattle.update_lock.proofs.lock.Lock.take.Goals as goal

pub returns-clause-finds : goal.returns-clause-finds
returns-clause-finds g c = taken g.J.Journaled _ c.args.seat.now.inner.me _ _ _ _ _ c.requires.seat.1 c.requires.seat.2 c.draw-place.ensures.draws c.wait.ensures.found c.take_out-value.ensures.taken.0 c.of-found.ensures
