use Rattle.std.proofs.Common.{ap, ◌∙◌}
use Rattle.update_lock.proofs.Grown.{grown}
use Rattle.update_lock.proofs.lock.Lock.give.Goals as goal

pub pass_on-requires-clause-follows : goal.pass_on-requires-clause-follows
pass_on-requires-clause-follows g c = let put = c.put_in.ensures.put in let h = c.requires.holds in
    (_, _, _, _, ap (λ m. m.0.lists) put ∙ c.requires.seat.2, ap (λ m. m.0.stage) put ∙ h.0, ap (λ m. m.1) put, c.requires.follows)

pub returns-clause-grows : goal.returns-clause-grows
returns-clause-grows g c = grown g.J.Journaled _ _ _ _ _ _ c.put_in.ensures.put c.requires.holds.0 c.requires.seat.2 c.pass_on.ensures.passes_on c.requires.follows
