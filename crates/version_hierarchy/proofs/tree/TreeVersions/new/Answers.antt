use Rattle.std.proofs.Common.{[], sym, subst}
use Rattle.vfs_model.specs.Stands.{StandsFor}
use Rattle.tree_model.specs.Numbers.{at_in}
use Rattle.tree_model.proofs.NumbersLemmas.{stands-unnumbered}
use Rattle.version_hierarchy.proofs.tree.TreeVersions.new.Goals as goal

pub returns-clause-stands : goal.returns-clause-stands
returns-clause-stands c = subst (λ numbers. StandsFor (at_in c.args.case numbers) 0 []) (sym c.none.ensures) (stands-unnumbered c.args.case)
