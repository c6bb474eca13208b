use Rattle.mem_tree.proofs.TreeLemmas.{parent-is}
use Rattle.mem_tree.proofs.names.parent.Goals as goal

pub returns : goal.returns
returns c = parent-is c.args.path.now
