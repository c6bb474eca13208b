use Rattle.std.proofs.Common.{arith, ◌≡◌, ◌∙◌, ◌+◌, ap, length, length-append}
use Rattle.std.specs.Prelude.{Some}
use Rattle.std.proofs.lemmas.List.Elements.{All-pop}
use Rattle.update_lock.specs.Seats.{IsSeatOf, IsNew, caller_of}
use Rattle.update_lock.proofs.Dealing.{All-push, map-popped}
use Rattle.update_lock.proofs.callers.callers_of.Goals as goal

pub invariant_of-push_reserved : goal.invariant_of-push_reserved
invariant_of-push_reserved c = let last = map-popped (λ s. caller_of s) c.loop-seat.seats.items c.pop.new.self.items c.in-Some.seat c.in-Some.ensures.items c.loop-seat.invariant.numbered in
    let is : caller_of c.in-Some.seat ≡ length c.pop.new.self.items = last.1 in record { own = omega arith }

pub loop-seat-preserved : goal.loop-seat-preserved
loop-seat-preserved c = let inv = c.loop-seat.invariant in let e = c.in-Some.ensures.items in let push = c.push_reserved.ensures.items in
    let last = map-popped (λ s. caller_of s) c.loop-seat.seats.items c.pop.new.self.items c.in-Some.seat e inv.numbered in
    let seat = All-pop (λ s. IsSeatOf c.args.lock.now s) c.loop-seat.seats.items c.pop.new.self.items (Some c.in-Some.seat) e inv.seats in
    let new = All-pop (λ s. IsNew s) c.loop-seat.seats.items c.pop.new.self.items (Some c.in-Some.seat) e inv.new in
    let longer : length c.push_reserved.new.self.items ≡ length c.loop-seat.callers.items + 1 = ap length push ∙ length-append _ _ in let shorter : length c.loop-seat.seats.items ≡ length c.pop.new.self.items + 1 = ap length e ∙ length-append _ _ in record {
      seats = seat.0;
      new = new.0;
      numbered = last.0;
      callers = All-push c.loop-seat.callers.items c.push_reserved.new.self.items _ (λ c'. IsSeatOf c.args.lock.now c'.seat) push inv.callers seat.1;
      new_callers = All-push c.loop-seat.callers.items c.push_reserved.new.self.items _ (λ c'. IsNew c'.seat) push inv.new_callers new.1;
      count = omega arith;
      room = omega arith;
      capacity = omega arith;
    }
