use Rattle.std.proofs.Common.{refl, ◌≡◌, true}
use Rattle.vfs_machine.proofs.StandsLemmas.{deliver-mark}
use Rattle.vfs_machine.proofs.engine.Engine.deliver_mark.Goals as goal

pub returns-in-Ok-clause-step : goal.returns-in-Ok-clause-step
returns-in-Ok-clause-step g c =
    let mark : c.self.inside.intake.mark ≡ true = rw (← c.self.view_is) at c.requires.mark in
    rw (← c.self.view_is)
    (λ a s st. deliver-mark g.V.Versions.version g.V.Versions.count _ _ s
    (record {
      case = c.in-Ok.ensures.case;
      content = refl;
      pending = c.drop_front.ensures;
      past = c.in-Ok.ensures.stands;
      scans = refl;
    })
    c.in-Ok.ensures.gone c.clear.ensures mark st)
