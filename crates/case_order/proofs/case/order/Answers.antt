use Rattle.std.proofs.Common.{◌≡◌, ◌∙◌, sym, arith, get_or}
use Rattle.std.specs.Ordering.{nat_cmp}
use Rattle.vfs_model.specs.Paths as spec
use Rattle.case_order.proofs.OrderLemmas.{name_order-Equal, name_order-end, name_order-differs}
use Rattle.case_order.proofs.case.order.Goals as goal

pub returns-clause-value : goal.returns-clause-value
returns-clause-value c =
    c.cmp.ensures ∙ sym (c.loop-i.invariant ∙ name_order-end c.args.case c.args.a.now c.args.b.now c.loop-i.i (omega arith))

pub returns-clause-equal : goal.returns-clause-equal
returns-clause-equal c =
    rw (c.cmp.ensures ∙ sym (c.loop-i.invariant ∙ name_order-end c.args.case c.args.a.now c.args.b.now c.loop-i.i (omega arith)))
    (name_order-Equal c.args.case c.args.a.now c.args.b.now)

pub returns-then-is_ne-clause-equal : goal.returns-then-is_ne-clause-equal
returns-then-is_ne-clause-equal c =
    let bytes : c.cmp-here.result ≡ nat_cmp (spec.folded_byte c.args.case (get_or c.args.a.now c.loop-i.i 0)) (spec.folded_byte c.args.case (get_or c.args.b.now c.loop-i.i 0)) = cc in
    let here : c.cmp-here.result ≡ spec.name_order c.args.case c.args.a.now c.args.b.now =
    bytes ∙ sym (c.loop-i.invariant ∙ name_order-differs c.args.case c.args.a.now c.args.b.now c.loop-i.i (omega arith) (omega arith) (cc)) in
    rw here (name_order-Equal c.args.case c.args.a.now c.args.b.now)
