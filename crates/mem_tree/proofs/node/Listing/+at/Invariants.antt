use Rattle.std.proofs.Common.{length}
use Rattle.mem_tree.proofs.node.Listing.+at.Given as goal

abbrev pub decreases-at : goal.decreases-at
decreases-at l = length l.names.now
