use Rattle.std.proofs.Common.{◌∙◌, sym, ap}
use Rattle.vfs_model.specs.Edit.{Write, refusal}
use Rattle.mem_tree.specs.FileTree.{world_of}
use Rattle.world_model.specs.Meaning.{edit_of}
use Rattle.mem_tree.proofs.refuse.check.Goals as goal

pub returns-in-Write-clause-refused : goal.returns-in-Write-clause-refused
returns-in-Write-clause-refused c =
    c.check_write.ensures c.in-Write.field-1
    ∙ ap (λ x. refusal c.args.case (world_of c.args.root.now) (Write x c.in-Write.field-1)) c.as_slice.ensures.names
    ∙ ap (λ e. refusal c.args.case (world_of c.args.root.now) (edit_of e)) (sym c.in-Write.is)
