use Rattle.std.proofs.Common.{refl, ap, ◌≡◌, ◌∙◌, false, filter, not}
use Rattle.vfs_model.specs.declared.Case.{Case}
use Rattle.vfs_model.specs.Paths.{place}
use Rattle.vfs_model.specs.State.{KeptPrint, is_touched}
use Rattle.world_model.specs.Front.{IsFirst}
use Rattle.vfs_machine.proofs.StandsLemmas.{deliver-event}
use Rattle.vfs_machine.proofs.engine.Engine.deliver_event.Goals as goal

pub returns-in-Ok-clause-step : goal.returns-in-Ok-clause-step
returns-in-Ok-clause-step g c =
    let mark : c.self.inside.intake.mark ≡ false = rw (← c.self.view_is) at c.requires.mark in
    let first : IsFirst c.self.inside.intake.events c.args.path = rw (← c.self.view_is) at c.requires.first in
    rw (← c.self.view_is)
    (λ a s st. deliver-event g.V.Versions.version g.V.Versions.count _ _ c.args.path s
    (record {
      case = c.in-Ok.ensures.case;
      content = refl;
      pending = c.drop_front.ensures;
      past = c.in-Ok.ensures.stands;
      scans = refl;
    })
    c.in-Ok.ensures.gone (c.drop_related.ensures ∙ ap (λ (case : Case). filter (λ (k : KeptPrint). not (is_touched case (place case c.args.path) k)) c.self.inside.kept) (c.case.ensures.case ∙ c.in-Ok.ensures.case)) mark first st)
