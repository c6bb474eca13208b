use Rattle.std.proofs.Common.{◌≡◌, ◌≤◌, ◌+◌, All, length, vec_capacity}
use Rattle.update_lock.specs.Seats.{IsSeatOf, IsAtRest}
use Rattle.update_lock.proofs.callers.seats_of.Given as goal

abbrev pub invariant-loop-caller : goal.invariant-loop-caller
invariant-loop-caller l = record {
  callers : All (λ c. IsSeatOf l.lock c.seat) l.callers.items;
  callers_rest : All (λ c. IsAtRest c.seat) l.callers.items;
  seats : All (λ s. IsSeatOf l.lock s) l.seats.items;
  seats_rest : All (λ s. IsAtRest s) l.seats.items;
  count : length l.seats.items + length l.callers.items ≡ length l.fn.callers.items;
  room : length l.fn.callers.items ≤ vec_capacity l.seats;
}

abbrev pub decreases-loop-caller : goal.decreases-loop-caller
decreases-loop-caller l = goal.left-loop-caller l
