use Rattle.std.proofs.Common.{rules, arith, ◌≡◌, ◌+◌, ◌<◌, ℕ, ap, sym, ◌∙◌, length, length-append, []}
use Rattle.update_lock.specs.Steps.{first_alone, without_first}
use Rattle.update_lock.specs.Seats.{made_of, seats_of, caller_of, IsSeatOf, IsNew, numbers_from}
use Rattle.update_lock.proofs.Seating.{forks}
use Rattle.update_lock.proofs.Dealing.{left_view, cut_left, cut_right, last_new, All-push, map-push}
use Rattle.update_lock.proofs.lock.Lock.deal.Goals as goal

pub split_seat-inner-requires : goal.split_seat-inner-requires
split_seat-inner-requires g c = let v = c.loop.invariant.view in (search rules, search rules, forks _ _ _ _ _ (ap (λ m. m.0.stage) v) (ap (λ m. m.0.drawn) v))

pub loop-preserved : goal.loop-preserved
loop-preserved g c = let inv = c.loop.invariant in let split = c.split_seat-inner.ensures in let push = c.push_reserved.ensures in
    let n : ℕ = seats_of c.args.self.now in let x = made_of c.args.self.now in let k : ℕ = length c.loop.row.items in let counted = c.args.self.now.counted.0 in let less : k < n = omega arith in
    let long : length c.push_reserved.new.self.items ≡ k + 1 = ap length push.items ∙ length-append _ _ in
    let new = cut_right _ x n k _ less (split.4 ∙ ap (λ m. (first_alone m.0, [])) inv.view) in record {
      same = split.0 ∙ inv.same;
      view = split.2 ∙ (ap (λ m. (without_first m.0, m.1)) inv.view ∙ (ap (λ v. (v, [])) (cut_left _ x n k less) ∙ ap (λ z. (left_view x n z, [])) (sym long)));
      count = omega arith;
      room = omega arith;
      seats = All-push c.loop.row.items _ _ (λ s. IsSeatOf c.args.self.now s) push.items inv.seats (split.3 ∙ inv.same, new.made_is, new.single);
      new = All-push c.loop.row.items _ _ (λ s. IsNew s) push.items inv.new new.new;
      callers = map-push c.loop.row.items _ _ (λ s. caller_of s) push.items inv.callers new.caller;
    }

pub returns-clause-seats : goal.returns-clause-seats
returns-clause-seats g c = let n : ℕ = seats_of c.args.self.now in let k : ℕ = length c.loop.row.items in let counted = c.args.self.now.counted.0 in let x = made_of c.args.self.now in
    let new = last_new _ x n k _ (omega arith) c.loop.invariant.view in
    All-push c.loop.row.items _ _ (λ s. IsSeatOf c.args.self.now s) c.push_reserved-2.ensures.items c.loop.invariant.seats (c.loop.invariant.same, new.made_is, new.single)

pub returns-clause-new : goal.returns-clause-new
returns-clause-new g c = let n : ℕ = seats_of c.args.self.now in let k : ℕ = length c.loop.row.items in let counted = c.args.self.now.counted.0 in let x = made_of c.args.self.now in
    let new = last_new _ x n k _ (omega arith) c.loop.invariant.view in
    All-push c.loop.row.items _ _ (λ s. IsNew s) c.push_reserved-2.ensures.items c.loop.invariant.new new.new

pub returns-clause-callers : goal.returns-clause-callers
returns-clause-callers g c = let n : ℕ = seats_of c.args.self.now in let k : ℕ = length c.loop.row.items in let counted = c.args.self.now.counted.0 in let x = made_of c.args.self.now in
    let new = last_new _ x n k _ (omega arith) c.loop.invariant.view in
    let longer : length c.push_reserved-2.new.self.items ≡ k + 1 = ap length c.push_reserved-2.ensures.items ∙ length-append _ _ in let long : length c.push_reserved-2.new.self.items ≡ n = omega arith in
    map-push c.loop.row.items _ _ (λ s. caller_of s) c.push_reserved-2.ensures.items c.loop.invariant.callers new.caller ∙ ap (numbers_from 0) long

pub returns-clause-count : goal.returns-clause-count
returns-clause-count g c = let n : ℕ = seats_of c.args.self.now in let k : ℕ = length c.loop.row.items in let counted = c.args.self.now.counted.0 in
    let longer : length c.push_reserved-2.new.self.items ≡ k + 1 = ap length c.push_reserved-2.ensures.items ∙ length-append _ _ in omega arith
