use Rattle.std.proofs.Common.{◌≡◌, take}
use Rattle.std.specs.List.{AllByRecursion as Each}
use Rattle.std.specs.declared.cmp.Ordering.TheVariants.{Less}
use Rattle.vfs_model.specs.Paths.{name_order}
use Rattle.child_map.specs.Keys.{entry_names}
use Rattle.child_map.proofs.list.seek_in_turn.Given as goal

abbrev pub invariant-loop-i : goal.invariant-loop-i
invariant-loop-i g l = Each (λ m. name_order l.case m l.name ≡ Less) (take l.i (entry_names l.entries))
