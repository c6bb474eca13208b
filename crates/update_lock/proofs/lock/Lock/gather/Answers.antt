use Rattle.std.proofs.Common.{rules, arith, ◌≡◌, ap, sym, subst, ◌∙◌, [], ◌++◌, All}
use Rattle.std.specs.Prelude.{Some}
use Rattle.std.proofs.lemmas.List.Elements.{All-pop}
use Rattle.update_lock.specs.Steps.{both}
use Rattle.update_lock.specs.Seats.{IsSeatOf, IsAtRest, Has}
use Rattle.update_lock.proofs.Seating.{merges}
use Rattle.update_lock.proofs.Joining.{joins_first, joins_next, none_left}
use Rattle.update_lock.proofs.lock.Lock.gather.Goals as goal

pub loop-seat-init : goal.loop-seat-init
loop-seat-init g c = let is = c.into_inner-whole.ensures in let e = c.in-Some.ensures.items in
    let seat = All-pop (λ s. IsSeatOf c.args.self.now s) c.args.seats.items c.pop.new.self.items (Some c.in-Some.last) e c.requires.seats in
    let rest = All-pop (λ s. IsAtRest s) c.args.seats.items c.pop.new.self.items (Some c.in-Some.last) e c.requires.rest in record {
      same = ap (λ s. s.table_id) is ∙ seat.1.0;
      idle = ap (λ s. s.me.0.stage) is ∙ rest.1.0;
      made = ap (λ s. s.me.0.made) is ∙ seat.1.1;
      none_held = ap (λ s. s.me.1) is ∙ rest.1.1;
      seats = seat.0;
      rest = rest.0;
      joined = joins_first (λ s. s.inner.me) c.args.seats.items c.pop.new.self.items c.in-Some.last c.into_inner-whole.result.me.0 e seat.1.2 (ap (λ s. s.me.0) is);
    }

pub join_seat-requires : goal.join_seat-requires
join_seat-requires g c = let inv = c.loop-seat.invariant in let is = c.into_inner.ensures in let e = c.in-Some-pop.ensures.items in
    let seat = All-pop (λ s. IsSeatOf c.args.self.now s) c.loop-seat.seats.items c.pop-in-loop-seat.new.self.items (Some c.in-Some-pop.seat) e inv.seats in
    let rest = All-pop (λ s. IsAtRest s) c.loop-seat.seats.items c.pop-in-loop-seat.new.self.items (Some c.in-Some-pop.seat) e inv.rest in
    (inv.same, ap (λ s. s.table_id) is ∙ seat.1.0, ap (λ s. s.me.1) is ∙ rest.1.1, search rules, merges _ _ _ _ _ _ _ inv.idle (ap (λ s. s.me.0.stage) is ∙ rest.1.0))

pub loop-seat-preserved : goal.loop-seat-preserved
loop-seat-preserved g c = let inv = c.loop-seat.invariant in let is = c.into_inner.ensures in let e = c.in-Some-pop.ensures.items in let join = c.join_seat.ensures in
    let seat = All-pop (λ s. IsSeatOf c.args.self.now s) c.loop-seat.seats.items c.pop-in-loop-seat.new.self.items (Some c.in-Some-pop.seat) e inv.seats in
    let rest = All-pop (λ s. IsAtRest s) c.loop-seat.seats.items c.pop-in-loop-seat.new.self.items (Some c.in-Some-pop.seat) e inv.rest in record {
      same = join.0 ∙ inv.same;
      idle = ap (λ m. m.0.stage) join.2 ∙ inv.idle;
      made = ap (λ m. m.0.made) join.2 ∙ inv.made;
      none_held = ap (λ m. m.1) join.2 ∙ inv.none_held;
      seats = seat.0;
      rest = rest.0;
      joined = joins_next (λ s. s.inner.me) c.args.seats.items c.loop-seat.seats.items c.pop-in-loop-seat.new.self.items c.in-Some-pop.seat c.loop-seat.whole.me.0 c.join_seat.new.seat.me.0 e seat.1.2
          (ap (λ m. m.0) join.2 ∙ ap (λ s. both c.loop-seat.whole.me.0 s.me.0) is) inv.joined;
    }

pub returns-clause-has : goal.returns-clause-has
returns-clause-has g c = let d = c.loop-seat.invariant.joined in let empty : c.loop-seat.seats.items ≡ [] = none_left c.loop-seat.seats.items (λ h. let x = c.in_default-pop.ensures.variant.1 (omega arith) in cc) in
    let is = d.1 ∙ ap (λ l. l ++ d.0) empty in subst (All (λ s. Has s.inner.me.0 c.loop-seat.whole.me.0)) (sym is) d.3
