use Rattle.snapshot_tree.proofs.BuilderLemmas.{missing-tree}
use Rattle.publish_core.proofs.tests.missing.Goals as goal

pub returns : goal.returns
returns c = missing-tree
