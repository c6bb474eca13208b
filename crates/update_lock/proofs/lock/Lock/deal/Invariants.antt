use Rattle.std.proofs.Common.{◌≡◌, ◌+◌, ◌≤◌, [], length, map, All, vec_capacity}
use Rattle.update_lock.specs.Seats.{made_of, seats_of, caller_of, IsSeatOf, IsNew, numbers_from}
use Rattle.update_lock.proofs.Dealing.{left_view}
use Rattle.update_lock.proofs.lock.Lock.deal.Given as goal

abbrev pub invariant-loop : goal.invariant-loop
invariant-loop g l = record {
  same : l.rest.table_id ≡ l.self.table.shared.table_id;
  view : l.rest.me ≡ (left_view (made_of l.self) (seats_of l.self) (length l.row.items), []);
  count : l.counter ≡ length l.row.items + 1;
  room : seats_of l.self ≤ vec_capacity l.row;
  seats : All (λ s. IsSeatOf l.self s) l.row.items;
  new : All (λ s. IsNew s) l.row.items;
  callers : map (λ s. caller_of s) l.row.items ≡ numbers_from 0 (length l.row.items);
}
