use Rattle.std.proofs.Common.{◌∙◌, sym}
use Rattle.mem_tree.proofs.CaseLemmas.{alone-tree}
use Rattle.mem_tree.proofs.tree.MemTreeTree.set_case.Goals as goal

pub invariant_of-self : goal.invariant_of-self
invariant_of-self c = alone-tree c.args.case c.self.inside.root (sym c.is_empty.ensures ∙ c.if-not-is_empty.false)
