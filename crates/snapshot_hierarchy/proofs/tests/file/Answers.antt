use Rattle.snapshot_tree.proofs.BuilderLemmas.{file-tree}
use Rattle.snapshot_hierarchy.proofs.tests.file.Goals as goal

pub returns-clause-tree : goal.returns-clause-tree
returns-clause-tree c = λ case. file-tree case c.file_digest.result
