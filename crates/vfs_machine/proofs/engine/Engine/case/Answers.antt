use Rattle.std.proofs.Common.{◌≡◌, Some}
use Rattle.vfs_model.specs.World.{World, IsWorld}
use Rattle.vfs_machine.proofs.engine.Engine.case.Goals as goal

pub returns-clause-world : goal.returns-clause-world
returns-clause-world g c =
    let whole : (w : World) → (g.T.Tree.told c.self.inside.tree).content ≡ Some w → IsWorld c.self.inside.vfs.case w = rw (← c.self.invariant.one_case) c.case.ensures.world in
    rw (← c.self.view_is) whole
