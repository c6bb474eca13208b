use Rattle.std.proofs.Common.{rules, sym, subst, ◌∙◌}
use Rattle.std.specs.Option.{IsSome}
use Rattle.std.proofs.lemmas.List.Elements.{All-weaker}
use Rattle.update_lock.specs.Seats.{made_of, seats_of, IsKept, Has}
use Rattle.update_lock.proofs.Ending.{is_there, ended, kept}
use Rattle.update_lock.proofs.lock.Lock.close.Goals as goal

pub unwrap-value-requires : goal.unwrap-value-requires
unwrap-value-requires g c = let w = c.gather-whole.ensures.whole in
    let there = is_there g.J.Journaled (made_of c.args.self) (seats_of c.args.self) _ _ _ _ _ w.0 (w.3 ∙ c.requires.all) c.close_with-closed.ensures.values.2 c.take.ensures.value in subst IsSome (sym there.1) (search rules)

pub returns-clause-made : goal.returns-clause-made
returns-clause-made g c = let w = c.gather-whole.ensures.whole in
    let end = ended g.J.Journaled (made_of c.args.self) (seats_of c.args.self) _ _ _ _ _ _ w.0 (w.3 ∙ c.requires.all) c.close_with-closed.ensures.values.2 c.take.ensures.value c.unwrap-value.ensures in end.as_made

pub returns-clause-within : goal.returns-clause-within
returns-clause-within g c = let w = c.gather-whole.ensures.whole in
    let end = ended g.J.Journaled (made_of c.args.self) (seats_of c.args.self) _ _ _ _ _ _ w.0 (w.3 ∙ c.requires.all) c.close_with-closed.ensures.values.2 c.take.ensures.value c.unwrap-value.ensures in end.within

pub returns-clause-kept : goal.returns-clause-kept
returns-clause-kept g c = let w = c.gather-whole.ensures.whole in
    let end = ended g.J.Journaled (made_of c.args.self) (seats_of c.args.self) _ _ _ _ _ _ w.0 (w.3 ∙ c.requires.all) c.close_with-closed.ensures.values.2 c.take.ensures.value c.unwrap-value.ensures in
    All-weaker (λ s. Has s.inner.me.0 c.gather-whole.result.me.0) (λ s. IsKept c.unwrap-value.result s) (λ s h. kept g.J.Journaled (made_of c.args.self) (seats_of c.args.self) s.inner.me.0 c.gather-whole.result.me.0 c.unwrap-value.result h end) c.args.seats.items c.gather-whole.ensures.has

pub returns-clause-others : goal.returns-clause-others
returns-clause-others g c = let w = c.gather-whole.ensures.whole in
    let end = ended g.J.Journaled (made_of c.args.self) (seats_of c.args.self) _ _ _ _ _ _ w.0 (w.3 ∙ c.requires.all) c.close_with-closed.ensures.values.2 c.take.ensures.value c.unwrap-value.ensures in end.others
