use Rattle.snapshot_tree.proofs.BuilderLemmas.{missing-tree}
use Rattle.snapshot_hierarchy.proofs.tests.missing.Goals as goal

pub returns : goal.returns
returns c = missing-tree
