use Rattle.std.proofs.Common.{ap, ◌∙◌, [], ◌∷◌, ◌++◌}
use Rattle.std.specs.Prelude.{Some}
use Rattle.update_lock.proofs.Seating.{starts_with}
use Rattle.update_lock.proofs.lock.Lock.make.Goals as goal

pub new-requires : goal.new-requires
new-requires g c = starts_with _ _ _ _ _ c.requires.seats.1 c.requires.empty c.of-made.ensures (c.push_reserved.ensures.items ∙ ap (λ l. l ++ Some c.args.value ∷ []) (c.reserve-2.ensures.items ∙ c.new-slots.ensures.items))
