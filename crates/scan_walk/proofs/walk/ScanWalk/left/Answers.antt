use Rattle.std.proofs.Common.{◌≡◌, ◌↔◌, ◌∙◌, ℕ, sym, subst, None}
use Rattle.vfs_model.specs.Scanning.{next_left}
use Rattle.scan_walk.proofs.StepLemmas.{walk-left, count-done}
use Rattle.scan_walk.proofs.walk.ScanWalk.left.Goals as goal

pub returns-clause-count : goal.returns-clause-count
returns-clause-count c = rw (← c.self.view_is) (c.len.ensures ∙ c.self.inside.left.ok.0 ∙ walk-left _ _ _ _ c.self.invariant)

pub returns-clause-done : goal.returns-clause-done
returns-clause-done c = subst (λ (n : ℕ). (n ≡ 0) ↔ (next_left c.args.self.now.partial ≡ None)) (sym (returns-clause-count c)) (count-done c.args.self.now.partial)
