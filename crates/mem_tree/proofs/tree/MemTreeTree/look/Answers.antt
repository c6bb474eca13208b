use Rattle.std.proofs.Common.{◌∙◌, ap, subst, length}
use Rattle.vfs_model.specs.Paths.{place}
use Rattle.vfs_model.specs.Scanning.{look}
use Rattle.vfs_model.specs.Sound.{IsLook}
use Rattle.mem_tree.specs.FileTree.{world_of}
use Rattle.mem_tree.specs.Held.{Held}
use Rattle.world_model.specs.Meaning.{look_seen}
use Rattle.mem_tree.proofs.LookLemmas.{look-shape}
use Rattle.mem_tree.proofs.tree.MemTreeTree.look.Goals as goal

pub returns-clause-shape : goal.returns-clause-shape
returns-clause-shape c =
    subst (λ (t : Held). IsLook t.case (length c.args.path.now) (look_seen c.in_ok-entry.entry)) c.self.view_is
    (look-shape c.self.inside.case (world_of c.self.inside.root) c.args.path.now (look_seen c.in_ok-entry.entry) c.self.invariant.world
    (c.in_ok-entry.ensures ∙ ap (λ x. look c.self.inside.case (world_of c.self.inside.root) (place c.self.inside.case x)) c.as_slice.ensures.names))
