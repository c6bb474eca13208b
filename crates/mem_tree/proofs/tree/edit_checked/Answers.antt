use Rattle.std.proofs.Common.{sym, subst, []}
use Rattle.vfs_model.specs.World.{IsSameBelow}
use Rattle.vfs_model.specs.Edit.{apply}
use Rattle.mem_tree.specs.FileTree.{Children, IsTree, world_of}
use Rattle.world_model.specs.Meaning.{edit_of}
use Rattle.mem_tree.proofs.EditedLemmas.{edited-tree, edited-same}
use Rattle.mem_tree.proofs.tree.edit_checked.Goals as goal

pub returns-clause-tree : goal.returns-clause-tree
returns-clause-tree c =
    subst (λ (root : Children). IsTree c.args.case root) (sym c.in_ok-edit_tree.ensures.edited)
    (edited-tree c.args.case c.args.root.now (edit_of c.args.edit.now) c.requires (sym c.in_ok-check.ensures.refused) c.in_ok-check.ensures.short)

pub returns-clause-applied : goal.returns-clause-applied
returns-clause-applied c =
    subst (λ (root : Children). IsSameBelow c.args.case (apply c.args.case (world_of c.args.root.now) (edit_of c.args.edit.now)) [] (world_of root) []) (sym c.in_ok-edit_tree.ensures.edited)
    (edited-same c.args.case c.args.root.now (edit_of c.args.edit.now) c.requires (sym c.in_ok-check.ensures.refused))
