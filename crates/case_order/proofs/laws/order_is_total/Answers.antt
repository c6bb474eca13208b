use Rattle.case_order.proofs.OrderLemmas.{name_order-total}
use Rattle.case_order.proofs.laws.order_is_total.Goals as goal

pub returns : goal.returns
returns c = name_order-total c.args.case
