use Rattle.std.proofs.Common.{sym, ap, ◌∙◌, subst}
use Rattle.mem_tree.specs.FileTree.{Children, Branch, cleared, IsOrdered}
use Rattle.mem_tree.proofs.EditedLemmas.{cleared-ordered}
use Rattle.mem_tree.proofs.apply.move_node.Goals as goal

pub place-requires-clause-ordered : goal.place-requires-clause-ordered
place-requires-clause-ordered c =
    subst (λ (root : Children). IsOrdered c.args.case (Branch root))
    (sym (c.in_ok-clear.ensures.cleared ∙ ap (λ (root : Children). cleared c.args.case root c.args.from.now) c.in_ok-changed.ensures))
    (cleared-ordered c.args.case c.args.root.now c.args.from.now c.requires.ordered)
