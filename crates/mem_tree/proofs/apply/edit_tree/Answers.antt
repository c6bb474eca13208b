use Rattle.std.proofs.Common.{◌∙◌, sym}
use Rattle.std.proofs.lemmas.Result.{IfOk-weaker}
use Rattle.vfs_model.specs.Edit.{Move}
use Rattle.mem_tree.specs.FileTree.{edited}
use Rattle.world_model.specs.Meaning.{edit_of}
use Rattle.mem_tree.proofs.apply.edit_tree.Goals as goal

pub returns-in-Move-clause-edited : goal.returns-in-Move-clause-edited
returns-in-Move-clause-edited c =
    IfOk-weaker c.move_node.result _ _
    (λ u e.
    e
    ∙ (λ i. edited c.args.case c.args.root.now (Move (c.as_slice-in-Move.ensures.names i) (c.as_slice-in-Move-2.ensures.names i)))
    ∙ (λ i. edited c.args.case c.args.root.now (edit_of (sym c.in-Move.is i))))
    c.move_node.ensures.moved
