use Rattle.std.proofs.Common.{IfErr, subst, true≢false}
use Rattle.vfs_model.specs.Edit.{refusal}
use Rattle.mem_tree.specs.FileTree.{world_of}
use Rattle.world_model.specs.Meaning.{edit_of, IsRefusal}
use Rattle.mem_tree.proofs.CaseLemmas.{never-read_only}
use Rattle.mem_tree.proofs.tree.MemTreeTree.apply.Goals as goal

pub returns-clause-editable : goal.returns-clause-editable
returns-clause-editable c e =
    let due = refusal c.self.inside.case (world_of c.self.inside.root) (edit_of c.args.edit.now) in
    true≢false (never-read_only c.self.inside.case (world_of c.self.inside.root) (edit_of c.args.edit.now) (subst (λ r. IfErr r (IsRefusal due)) e c.edit_checked.ensures.refused))
