use Rattle.std.proofs.Common.{◌∙◌}
use Rattle.mem_tree.proofs.SeekLemmas.{names_of-all}
use Rattle.mem_tree.proofs.node.Listing.names.Goals as goal

pub returns : goal.returns
returns c = c.from_vec.ensures ∙ names_of-all c.children-child-items.result.now c.args.self.now c.loop-child.names.items c.loop-child.child-index c.children-child-items.ensures c.loop-child.invariant c.loop-child-test.false
