use Rattle.std.proofs.Common.{arith, ◌≡◌, ◌∙◌, ◌+◌, ap, length, length-append}
use Rattle.std.specs.Prelude.{Some}
use Rattle.std.proofs.lemmas.List.Elements.{All-pop}
use Rattle.update_lock.specs.Seats.{IsSeatOf, IsAtRest}
use Rattle.update_lock.proofs.Dealing.{All-push}
use Rattle.update_lock.proofs.callers.seats_of.Goals as goal

pub loop-caller-preserved : goal.loop-caller-preserved
loop-caller-preserved c = let inv = c.loop-caller.invariant in let e = c.in-Some.ensures.items in let push = c.push_reserved.ensures.items in
    let seat = All-pop (λ z. IsSeatOf c.args.lock.now z.seat) c.loop-caller.callers.items c.pop.new.self.items (Some c.in-Some.caller) e inv.callers in
    let rest = All-pop (λ z. IsAtRest z.seat) c.loop-caller.callers.items c.pop.new.self.items (Some c.in-Some.caller) e inv.callers_rest in
    let longer : length c.push_reserved.new.self.items ≡ length c.loop-caller.seats.items + 1 = ap length push ∙ length-append _ _ in let shorter : length c.loop-caller.callers.items ≡ length c.pop.new.self.items + 1 = ap length e ∙ length-append _ _ in record {
      callers = seat.0;
      callers_rest = rest.0;
      seats = All-push c.loop-caller.seats.items c.push_reserved.new.self.items _ (λ s. IsSeatOf c.args.lock.now s) push inv.seats seat.1;
      seats_rest = All-push c.loop-caller.seats.items c.push_reserved.new.self.items _ (λ s. IsAtRest s) push inv.seats_rest rest.1;
      count = omega arith;
      room = omega arith;
    }
