use Rattle.std.proofs.Common.{◌≡◌, ◌≤◌, ◌+◌, All, map, length, vec_capacity}
use Rattle.update_lock.specs.Seats.{IsSeatOf, IsNew, caller_of, numbers_from}
use Rattle.update_lock.proofs.callers.callers_of.Given as goal

abbrev pub invariant-loop-seat : goal.invariant-loop-seat
invariant-loop-seat l = record {
  seats : All (λ s. IsSeatOf l.lock s) l.seats.items;
  new : All (λ s. IsNew s) l.seats.items;
  numbered : map (λ s. caller_of s) l.seats.items ≡ numbers_from 0 (length l.seats.items);
  callers : All (λ c. IsSeatOf l.lock c.seat) l.callers.items;
  new_callers : All (λ c. IsNew c.seat) l.callers.items;
  count : length l.callers.items + length l.seats.items ≡ length l.initial.seats.items;
  room : length l.initial.seats.items ≤ vec_capacity l.callers;
  capacity : length l.initial.seats.items ≤ vec_capacity l.seats;
}

abbrev pub decreases-loop-seat : goal.decreases-loop-seat
decreases-loop-seat l = goal.left-loop-seat l
