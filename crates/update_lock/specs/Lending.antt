-- The value that `Held::value` lends.
use Rattle.std.specs.Borrow.{Lends, MutBor, Fml}
use denote.RattleType.{RattleType}
use Rattle.update_lock.specs.declared.seat.Held.{Held}
use Rattle.update_lock.specs.contracts.seat.Held.{the_row}

-- what is held, with another value
abbrev pub with_value : {J : Type 0} → Held J → J → Held J
with_value held given = record { place = held.place; value = given; found = held.found }

-- what is held ends with the last value behind what was lent
abbrev pub LendsValue : (R : RattleType) → MutBor (Held R.Denot) → MutBor R.Denot → Fml
LendsValue R held lent = Lends (the_row R) R held lent (with_value held.now)
