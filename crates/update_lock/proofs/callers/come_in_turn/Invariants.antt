use Rattle.std.proofs.Common.{◌≡◌, ◌≤◌, ◌+◌, All, length, vec_capacity}
use Rattle.update_lock.specs.Seats.{IsSeatOf, IsAtRest, IsNew}
use Rattle.update_lock.proofs.callers.come_in_turn.Given as goal

abbrev pub invariant-loop-caller : goal.invariant-loop-caller
invariant-loop-caller g l = record {
  callers : All (λ c. IsSeatOf l.lock c.seat) l.callers.items;
  callers_new : All (λ c. IsNew c.seat) l.callers.items;
  seats : All (λ s. IsSeatOf l.lock s) l.seats.items;
  seats_rest : All (λ s. IsAtRest s) l.seats.items;
  count : length l.seats.items + length l.callers.items ≡ length l.fn.callers.items;
  room : length l.fn.callers.items ≤ vec_capacity l.seats;
  told : length l.calls.items ≡ length l.seats.items;
  told_room : length l.fn.callers.items ≤ vec_capacity l.calls;
}

abbrev pub decreases-loop-caller : goal.decreases-loop-caller
decreases-loop-caller g l = goal.left-loop-caller g l
