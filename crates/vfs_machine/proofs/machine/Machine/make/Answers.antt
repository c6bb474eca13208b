use Rattle.std.proofs.Common.{sym, subst}
use Rattle.vfs_model.specs.Stands.{Parts, HasSound}
use Rattle.vfs_machine.proofs.OpenLemmas.{opening-has_sound}
use Rattle.vfs_machine.proofs.machine.Machine.make.Goals as goal

pub invariant_of-result : goal.invariant_of-result
invariant_of-result g c =
    subst (λ (m : Parts g.row.V.Denot). HasSound g.V.Versions.version g.V.Versions.count m) (sym c.in-Ok.ensures.made)
    (opening-has_sound g.V.Versions.version g.V.Versions.count (g.T.Tree.told c.args.tree) c.args.queue (g.R.Retain.held c.args.retained) c.args.versions c.requires.some c.requires.few c.requires.tree c.requires.nothing c.requires.none c.case-case.ensures.world)
