use Rattle.std.proofs.Common.{◌≡◌, [], All}
use Rattle.std.specs.Prelude.{Some}
use Rattle.update_lock.specs.declared.view.Stage.TheVariants.{Idle}
use Rattle.update_lock.specs.Seats.{made_of, IsSeatOf, IsAtRest}
use Rattle.update_lock.proofs.Joining.{Joined}
use Rattle.update_lock.proofs.lock.Lock.gather.Given as goal

abbrev pub invariant-loop-seat : goal.invariant-loop-seat
invariant-loop-seat g l = record {
  same : l.whole.table_id ≡ l.self.table.shared.table_id;
  idle : l.whole.me.0.stage ≡ Idle;
  made : l.whole.me.0.made ≡ Some (made_of l.self);
  none_held : l.whole.me.1 ≡ [];
  seats : All (λ s. IsSeatOf l.self s) l.seats.items;
  rest : All (λ s. IsAtRest s) l.seats.items;
  joined : Joined (λ s. s.inner.me) l.fn.seats.items l.seats.items l.whole.me.0;
}

abbrev pub decreases-loop-seat : goal.decreases-loop-seat
decreases-loop-seat g l = goal.left-loop-seat g l
