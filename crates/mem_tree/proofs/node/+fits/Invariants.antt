use Rattle.std.proofs.Common.{◌≡◌, ◌+◌, ◌*◌, drop}
use Rattle.mem_tree.specs.FileTree.{children_fit}
use Rattle.mem_tree.specs.Nodes.{children_of}
use Rattle.mem_tree.proofs.node.+fits.Given as goal

abbrev pub decreases-Listing::fits : goal.decreases-Listing::fits
decreases-Listing::fits l = 2 * l.levels

abbrev pub decreases-Node::fits : goal.decreases-Node::fits
decreases-Node::fits l = 2 * l.levels + 1

abbrev pub invariant-Listing::fits-loop-child : goal.invariant-Listing::fits-loop-child
invariant-Listing::fits-loop-child l = children_fit l.levels (children_of l.child-items) ≡ children_fit l.levels (children_of (drop l.child-index l.child-items))
