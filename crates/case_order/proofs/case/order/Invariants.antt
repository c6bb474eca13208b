use Rattle.std.proofs.Common.{◌≡◌, drop}
use Rattle.vfs_model.specs.Paths.{name_order}
use Rattle.case_order.proofs.case.order.Given as goal

abbrev pub invariant-loop-i : goal.invariant-loop-i
invariant-loop-i l = name_order l.case l.a l.b ≡ name_order l.case (drop l.i l.a) (drop l.i l.b)
