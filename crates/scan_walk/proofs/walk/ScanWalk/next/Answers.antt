use Rattle.std.proofs.Common.{◌∙◌, ◌-◌, ap, length, slice_get}
use Rattle.scan_walk.proofs.StepLemmas.{walk-next}
use Rattle.scan_walk.proofs.walk.ScanWalk.next.Goals as goal

pub returns : goal.returns
returns c = rw (← c.self.view_is) (c.last.ensures.value ∙ ap (λ xs. slice_get xs (length xs - 1)) c.deref.ensures.value ∙ walk-next _ _ _ _ c.self.invariant)
