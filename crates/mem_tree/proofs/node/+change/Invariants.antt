use Rattle.std.proofs.Common.{◌*◌, ◌+◌, length}
use Rattle.mem_tree.proofs.node.+change.Given as goal

abbrev pub decreases-Listing::change : goal.decreases-Listing::change
decreases-Listing::change l = 2 * length l.names.now + 1

abbrev pub decreases-change_children : goal.decreases-change_children
decreases-change_children l = 2 * length l.names.now
