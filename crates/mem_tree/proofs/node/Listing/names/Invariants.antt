use Rattle.std.proofs.Common.{◌≡◌, map, take}
use Rattle.mem_tree.specs.declared.node.Child.{Child}
use Rattle.mem_tree.proofs.node.Listing.names.Given as goal

abbrev pub invariant-loop-child : goal.invariant-loop-child
invariant-loop-child l = l.names.items ≡ map (λ (c : Child). c.name) (take l.child-index l.child-items)
