-- A machine stands for the opening state at first.
use Rattle.std.proofs.Common.{◌≡◌, ◌∙◌, ◌≤◌, ℕ, zero, suc, List, [], replicate, Option, Some, None, refl, sym, subst}
use Rattle.vfs_model.specs.declared.Case.{Case}
use Rattle.vfs_model.specs.Paths.{Path}
use Rattle.vfs_model.specs.World.{World, IsWorld, IsSameBelow}
use Rattle.vfs_model.specs.Sound.{IsSound}
use Rattle.vfs_model.specs.History.{opening, empty_world}
use Rattle.vfs_model.specs.Stands.{StandsFor, Stands, HasSound, AreSlotsOf}
use Rattle.vfs_laws.proofs.NameLemmas.{some-is}
use Rattle.vfs_laws.proofs.SameLemmas.{same-refl}
use Rattle.vfs_laws.proofs.ShapedLemmas.{sound-shaped}
use Rattle.vfs_laws.proofs.HistoryLemmas.{empty-is_world, opening-is_opening, opening-sound}
use Rattle.world_model.specs.Told.{TreeTold}
use Rattle.snapshot_hierarchy.specs.Held.{Held, nothing}
use Rattle.vfs_machine.specs.Whole.{opening_parts}

-- closed scans are those of closed scans
slots-closed : (case : Case) (past : List Path) (n : ℕ) → AreSlotsOf case past (replicate n None) (replicate n None)
slots-closed case past zero = tt
slots-closed case past (suc n) = (tt, slots-closed case past n)

-- with nothing retained or invalidated, it is the opening state of a world that is the one told, where one is
pub opening-over : {V : Type 0} (at : V → Path → ℕ) (count : V → ℕ) (told : TreeTold) (queue : ℕ) (held : Held) (v : V) (w : World) → told.case ≡ held.case → ((u : World) → told.content ≡ Some u → IsSameBelow held.case w [] u [])
    → held.retained ≡ nothing → StandsFor (at v) (count v) [] → Stands at count (opening_parts told queue held v) (opening told.case queue w)
opening-over at count told queue held v w case same empty past = record {
  case = case;
  world = same;
  pending = refl;
  retained = sym empty;
  past = past;
  scans = slots-closed held.case [] 16;
  kept = refl;
}

-- over a tree that tells its world it is the opening state of that world
pub opening-stands : {V : Type 0} (at : V → Path → ℕ) (count : V → ℕ) (told : TreeTold) (queue : ℕ) (held : Held) (v : V) (w : World) → told.case ≡ held.case → told.content ≡ Some w → held.retained ≡ nothing → StandsFor (at v) (count v) []
    → Stands at count (opening_parts told queue held v) (opening told.case queue w)
opening-stands at count told queue held v w case content empty past =
    opening-over at count told queue held v w case (λ u e. subst (λ (x : World). IsSameBelow held.case w [] x []) (some-is w u (sym content ∙ e)) (same-refl held.case w)) empty past

opening-is_sound : (case : Case) (queue : ℕ) (w : World) → 1 ≤ queue → queue ≤ 65536 → IsWorld case w → IsSound (opening case queue w)
opening-is_sound case queue w some few whole = opening-sound (opening case queue w) (opening-is_opening case queue w some few whole)

-- and so it is sound at first, whether or not its tree tells its world
pub opening-has_sound : {V : Type 0} (at : V → Path → ℕ) (count : V → ℕ) (told : TreeTold) (queue : ℕ) (held : Held) (v : V) → 1 ≤ queue → queue ≤ 65536 → told.case ≡ held.case → held.retained ≡ nothing → StandsFor (at v) (count v) []
    → ((w : World) → told.content ≡ Some w → IsWorld told.case w) → HasSound at count (opening_parts told queue held v)
opening-has_sound {V} at count told queue held v some few case empty past whole = by told.content refl
  where
    by : (o : Option World) → told.content ≡ o → HasSound at count (opening_parts told queue held v)
    by None is =
        let sound = opening-is_sound told.case queue empty_world some few (empty-is_world told.case) in
        record {
          state = opening told.case queue empty_world;
          stands = opening-over at count told queue held v empty_world case (λ u e. absurd (clash u (sym is ∙ e))) empty past;
          shaped = sound-shaped (opening told.case queue empty_world) sound;
          sound = λ w e. sound;
        }
      where
        clash : (u : World) → None ≡ Some u → ⊥
        clash u e = cc
    by (Some w) is =
        let sound = opening-is_sound told.case queue w some few (whole w is) in
        record {
          state = opening told.case queue w;
          stands = opening-stands at count told queue held v w case is empty past;
          shaped = sound-shaped (opening told.case queue w) sound;
          sound = λ u e. sound;
        }
