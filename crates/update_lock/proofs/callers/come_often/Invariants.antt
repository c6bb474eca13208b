use Rattle.std.proofs.Common.{◌≡◌}
use Rattle.update_lock.specs.Seats.{IsSeatOf, IsAtRest, drawn_of, caller_of}
use Rattle.update_lock.proofs.callers.come_often.Given as goal

abbrev pub invariant-loop-number : goal.invariant-loop-number
invariant-loop-number g l = record {
  seat : IsSeatOf l.lock l.seat;
  rest : IsAtRest l.seat;
  drawn : drawn_of l.seat ≡ l.number;
  caller : caller_of l.seat ≡ l.caller;
}
