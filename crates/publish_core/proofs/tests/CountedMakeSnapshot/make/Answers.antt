use Rattle.snapshot_tree.proofs.BuilderLemmas.{missing-tree}
use Rattle.publish_core.proofs.tests.CountedMakeSnapshot.make.Goals as goal

pub returns-clause-tree : goal.returns-clause-tree
returns-clause-tree c = missing-tree _
