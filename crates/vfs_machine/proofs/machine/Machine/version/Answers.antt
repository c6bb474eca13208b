use Rattle.std.proofs.Common.{refl}
use Rattle.vfs_model.specs.State.{CallVersion, Version}
use Rattle.vfs_machine.proofs.CalledLemmas.{quiet-called, never-wanting, spends-none}
use Rattle.vfs_machine.proofs.ToldLemmas.{not_asked}
use Rattle.vfs_machine.proofs.machine.Machine.version.Goals as goal

pub returns : goal.returns
returns g c =
    rw (← c.self.view_is)
    (quiet-called g.V.Versions.version g.V.Versions.count c.self.inside.engine c.self.inside.engine (CallVersion c.args.path.now) (Version c.version.result) refl refl (λ s st. (c.version.ensures not_asked s st, st)) (never-wanting g.V.Versions.version g.V.Versions.count c.self.inside.engine (CallVersion c.args.path.now) (Version c.version.result) refl) refl refl refl
    (spends-none g.V.Versions.count c.self.inside.engine c.self.inside.engine 0 refl refl))
