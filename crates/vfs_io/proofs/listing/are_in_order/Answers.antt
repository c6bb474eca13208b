use Rattle.std.proofs.lemmas.Fn.{always_returns_same}
use Rattle.vfs_io.specs.Folder.{comes_before}
use Rattle.vfs_io.proofs.OrderLemmas.{sorted-order}
use Rattle.vfs_io.proofs.listing.are_in_order.Goals as goal

pub returns : goal.returns
returns c =
    sorted-order c.args.case c.args.names.now c.is_sorted_by.result
    (c.is_sorted_by.ensures.cases (comes_before c.args.case) (always_returns_same _ _ _ (λ a r f' k. (k.met.1, λ j. record { 0 = k.met.0 j }))))
