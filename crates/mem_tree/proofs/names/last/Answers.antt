use Rattle.mem_tree.proofs.TreeLemmas.{last-is}
use Rattle.mem_tree.proofs.names.last.Goals as goal

pub returns : goal.returns
returns c = last-is c.args.path.now c.index-path-path.result c.requires c.index-path-path.is
