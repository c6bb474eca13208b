use Rattle.std.proofs.Common.{ap}
use Rattle.mem_tree.specs.Nodes.{named_of, tree_of_node}
use Rattle.mem_tree.proofs.TreeLemmas.{at-nothing, at-below_file, longer}
use Rattle.mem_tree.proofs.node.Listing.+at.Goals as goal

pub returns-in-None-clause-found : goal.returns-in-None-clause-found
returns-in-None-clause-found t c = at-nothing c.args.case c.args.self.now c.args.names.now c.name-item.result c.in-len1-up.len_at_least c.name-item.is c.in-None.ensures.child

pub returns-else-is_empty-clause-found : goal.returns-else-is_empty-clause-found
returns-else-is_empty-clause-found t c =
    at-below_file c.args.case c.args.self.now c.args.names.now c.name-item.result (named_of c.in-Some.child.now) c.in-File.bytes
    (longer c.args.names.now c.is_empty.result c.in-len1-up.len_at_least c.is_empty.ensures c.if-is_empty.false) c.name-item.is (ap tree_of_node c.in-File.is) c.in-Some.ensures.child
