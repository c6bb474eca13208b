use Rattle.std.proofs.Common.{refl, option_map}
use Rattle.vfs_model.specs.State.{CallFind, Found}
use Rattle.snapshot_tree.specs.Meaning.{glance_of}
use Rattle.vfs_machine.proofs.CalledLemmas.{quiet-called, never-wanting, spends-none}
use Rattle.vfs_machine.proofs.ToldLemmas.{not_asked}
use Rattle.vfs_machine.proofs.machine.Machine.find.Goals as goal

pub returns : goal.returns
returns g c =
    rw (← c.self.view_is)
    (quiet-called g.V.Versions.version g.V.Versions.count c.self.inside.engine c.self.inside.engine (CallFind c.args.path.now) (Found (option_map glance_of c.find.result)) refl refl (λ s st. (c.find.ensures not_asked s st, st)) (never-wanting g.V.Versions.version g.V.Versions.count c.self.inside.engine (CallFind c.args.path.now) (Found (option_map glance_of c.find.result)) refl) refl refl refl
    (spends-none g.V.Versions.count c.self.inside.engine c.self.inside.engine 0 refl refl))
