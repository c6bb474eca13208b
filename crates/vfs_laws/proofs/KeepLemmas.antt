-- A step keeps a machine sound.
use Rattle.std.proofs.Common.{◌≡◌, ℕ, Bool, true, false, is_some, refl, sym, ap, ◌∙◌, Option, Some, None}
use Rattle.std.proofs.lemmas.Bool.{true≢false}
use Rattle.vfs_model.specs.Paths.{Path}
use Rattle.vfs_model.specs.World.{World}
use Rattle.vfs_model.specs.State.{State, Call, Reply, Outcome, Answers, AreDue, step}
use Rattle.vfs_model.specs.History.{is_no_memory, IsCall}
use Rattle.vfs_model.specs.Sound.{AreShapedAnswers, IsShaped, IsSound}
use Rattle.vfs_model.specs.Stands.{Parts, Stands, HasSound}
use Rattle.vfs_model.specs.Steps.{outcome_unless, IsStepOf}
use Rattle.vfs_laws.proofs.HistoryLemmas.{step-sound}
use Rattle.vfs_laws.proofs.ShapedLemmas.{step-shaped}

-- a machine is sound after an outcome, where memory was wanting too
outcome-sound : {V : Type 0} (at : V → Path → ℕ) (count : V → ℕ) (new : Parts V) (wanting : Bool) (r : Reply) (s : State) (o : Outcome)
    → outcome_unless wanting r s o (Stands at count new) → IsShaped s → IsShaped o.state → ((w : World) → new.content ≡ Some w → IsSound s × IsSound o.state)
    → HasSound at count new
outcome-sound at count new true r s o owed before after sound = record { state = s; stands = owed; shaped = before; sound = λ w e. (sound w e).0 }
outcome-sound at count new false r s o owed before after sound = record { state = o.state; stands = owed.1; shaped = after; sound = λ w e. (sound w e).1 }

-- each step of a call that may be made keeps a machine sound
pub step-keeps : {V : Type 0} (at : V → Path → ℕ) (count : V → ℕ) (old new : Parts V) (a : Answers) (call : Call) (r : Reply) → IsCall call → is_some new.content ≡ is_some old.content
    → ((s : State) → Stands at count old s → AreShapedAnswers s call a) → ((w : World) → old.content ≡ Some w → (s : State) → Stands at count old s → AreDue s call a)
    → IsStepOf at count old new a call r → HasSound at count old → HasSound at count new
step-keeps at count old new a call r may told given due owed h =
    outcome-sound at count new (is_no_memory r) r s (step a s call) (owed s h.stands) h.shaped (step-shaped a s call may (given s h.stands) h.shaped) (λ w e. by old.content refl w e)
  where
    s : State
    s = h.state

    by : (o : Option World) → old.content ≡ o → (w : World) → new.content ≡ Some w → IsSound s × IsSound (step a s call).state
    by None is w e = absurd (true≢false (sym (ap is_some e) ∙ told ∙ ap is_some is))
    by (Some v) is w e = let before = h.sound v is in (before, step-sound a s call may (due v is s h.stands) before)
