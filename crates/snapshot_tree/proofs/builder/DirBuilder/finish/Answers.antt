use Rattle.std.proofs.Common.{◌≡◌, ◌∙◌, sym, ap, subst}
use Rattle.vfs_model.specs.Snapshot.{Dir, IsTree}
use Rattle.snapshot_tree.specs.Building.{Building}
use Rattle.snapshot_tree.specs.Meaning.{children_in}
use Rattle.snapshot_tree.proofs.BuilderLemmas.{tree-of_listing}
use Rattle.snapshot_tree.proofs.builder.DirBuilder.finish.Goals as goal

pub returns-in-Ok-clause-tree : goal.returns-in-Ok-clause-tree
returns-in-Ok-clause-tree c = λ trees.
    let made : c.args.self.children ≡ c.new-in-Ok.result =
    ap (λ (b : Building). b.children) (sym c.self.view_is) ∙ ap children_in (sym (c.in-Ok.ensures.ok ∙ c.from_vec.ensures)) ∙ sym c.new-in-Ok.ensures in
    subst (λ cs. IsTree c.args.self.case (Dir cs)) made (tree-of_listing c.args.self.case c.args.self.children (rw (← c.self.view_is) c.self.invariant) trees)
