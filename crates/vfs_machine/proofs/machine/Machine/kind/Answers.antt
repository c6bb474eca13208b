use Rattle.std.proofs.Common.{refl}
use Rattle.vfs_model.specs.State.{CallKind, KindIs}
use Rattle.vfs_machine.proofs.CalledLemmas.{quiet-called, never-wanting, spends-none}
use Rattle.vfs_machine.proofs.ToldLemmas.{not_asked}
use Rattle.vfs_machine.proofs.machine.Machine.kind.Goals as goal

pub returns : goal.returns
returns g c =
    rw (← c.self.view_is)
    (quiet-called g.V.Versions.version g.V.Versions.count c.self.inside.engine c.self.inside.engine (CallKind c.args.path.now) (KindIs c.kind.result) refl refl (λ s st. (c.kind.ensures not_asked s st, st)) (never-wanting g.V.Versions.version g.V.Versions.count c.self.inside.engine (CallKind c.args.path.now) (KindIs c.kind.result) refl) refl refl refl
    (spends-none g.V.Versions.count c.self.inside.engine c.self.inside.engine 0 refl refl))
