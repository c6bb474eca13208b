use Rattle.std.proofs.Common.{sym, subst}
use Rattle.vfs_laws.proofs.HistoryLemmas.{empty-is_world}
use Rattle.mem_tree.specs.FileTree.{Children, IsTree}
use Rattle.mem_tree.proofs.tree.MemTree.new.Goals as goal

pub invariant_of-result : goal.invariant_of-result
invariant_of-result c = subst (λ (root : Children). IsTree c.args.case root) (sym c.empty.ensures) (record { ordered = (tt, tt); world = empty-is_world c.args.case })
