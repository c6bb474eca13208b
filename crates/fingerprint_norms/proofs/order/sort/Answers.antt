use Rattle.std.proofs.Common.{rules, ◌≡◌, ◌∙◌, sym, ap}
use Rattle.std.proofs.lemmas.Fn.{always_returns_same}
use Rattle.std.proofs.lemmas.List.Sorted.{ranks_by, IsPermutation-map}
use Rattle.std.specs.Ordering.{is_lt}
use Rattle.vfs_model.specs.Fingerprint.{entry_order}
use Rattle.fingerprint_norms.specs.Meaning.{entry_of}
use Rattle.fingerprint_norms.proofs.OrderLemmas.{is_before, entry_order-total, sorted-permutation, sorted-same}
use Rattle.fingerprint_norms.proofs.order.sort.Goals as goal

pub returns : goal.returns
returns c =
    let in_order = c.in_ok-sort_by.ensures.sorted (λ x y. is_before (entry_of x) (entry_of y)) (ranks_by entry_order-total entry_of)
    (always_returns_same _ (λ a r. is_lt r ≡ is_before (entry_of a.0.now) (entry_of a.1.0.now)) _
    (λ a r f' k. let compared : (r ≡ entry_order (entry_of a.0.now) (entry_of a.1.0.now)) × (f' ≡ _) = search rules in (ap is_lt compared.0, compared.1))) in
    sym (sorted-same c.sort_by.new.self.items in_order)
    ∙ sorted-permutation _ _ (IsPermutation-map entry_of c.args.entries.now.items c.sort_by.new.self.items c.in_ok-sort_by.ensures.permutation)
