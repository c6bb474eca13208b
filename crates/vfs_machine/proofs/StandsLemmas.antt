-- A machine that stands for a state still does after a delivery.
use Rattle.std.proofs.Common.{◌≡◌, ℕ, Bool, true, false, List, [], ◌∷◌, ◌++◌, drop, filter, not, Option, Some, None, refl, sym, ap, ◌∙◌, subst, arith, length-append, if◌then◌else◌}
use Rattle.std.proofs.lemmas.List.{take-append-le}
use Rattle.vfs_model.specs.declared.Case.{Case}
use Rattle.vfs_model.specs.Paths.{Path, place}
use Rattle.vfs_model.specs.World.{World, IsSameBelow}
use Rattle.vfs_model.specs.Pending.{Pending, version}
use Rattle.vfs_model.specs.Retained.{after_invalidation}
use Rattle.vfs_model.specs.Scanning.{Scan}
use Rattle.vfs_model.specs.State.{State, Delivered, Cleared, NothingPending, after_delivery, after_clear, deliver_first, deliver_when, is_touched}
use Rattle.vfs_model.specs.Stands.{StandsFor, RunningScan, Parts, Stands, IsScanOf, IsSlotOf, AreSlotsOf}
use Rattle.vfs_model.specs.Steps.{is_before_memory}
use Rattle.world_model.specs.Front.{without_front, IsFirst}
use Rattle.snapshot_hierarchy.specs.Held.{nothing}

-- ---- one more invalidation

scan-push : (case : Case) (past : List Path) (e : Path) (r : RunningScan) (s : Scan) → IsScanOf case past r s → IsScanOf case (past ++ e ∷ []) r s
scan-push case past e r s h = record {
  path = h.path;
  partial = h.partial;
  begun_at = let b = h.begun_at in let l = length-append past (e ∷ []) in omega (arith, b, l);
  seen = h.seen ∙ ap (λ p. version p (place case r.path)) (sym (take-append-le s.begun_at past (e ∷ []) h.begun_at));
}

slot-push : (case : Case) (past : List Path) (e : Path) (r : Option RunningScan) (s : Option Scan) → IsSlotOf case past r s → IsSlotOf case (past ++ e ∷ []) r s
slot-push case past e None None h = tt
slot-push case past e None (Some s) h = absurd h
slot-push case past e (Some r) None h = absurd h
slot-push case past e (Some r) (Some s) h = scan-push case past e r s h

-- the scans stay those of the state
slots-push : (case : Case) (past : List Path) (e : Path) (rs : List (Option RunningScan)) (ss : List (Option Scan)) → AreSlotsOf case past rs ss → AreSlotsOf case (past ++ e ∷ []) rs ss
slots-push case past e [] [] h = tt
slots-push case past e [] (s ∷ ss) h = absurd h
slots-push case past e (r ∷ rs) [] h = absurd h
slots-push case past e (r ∷ rs) (s ∷ ss) h = (slot-push case past e r s h.0, slots-push case past e rs ss h.1)

-- ---- the queue without its front

first-of : (xs : List Path) (e : Path) → IsFirst xs e → xs ≡ e ∷ drop 1 xs
first-of [] e h = absurd h
first-of (f ∷ rest) e h = ap (λ g. g ∷ rest) h

front-marked : (p : Pending) → p.mark ≡ true → record { events = p.events; capacity = p.capacity; mark = false } ≡ without_front p
front-marked p e = (λ i. record { events = if sym e i then p.events else drop 1 p.events; capacity = p.capacity; mark = false })

front-first : (p : Pending) → p.mark ≡ false → record { events = drop 1 p.events; capacity = p.capacity; mark = p.mark } ≡ without_front p
front-first p e = (λ i. record { events = if sym e i then p.events else drop 1 p.events; capacity = p.capacity; mark = e i })

-- ---- deliveries

-- what a delivery of the place did to all but what is retained and kept
pub record IsRaised {V : Type 0} (at : V → Path → ℕ) (count : V → ℕ) (old new : Parts V) (e : Path) : Type 0 where
  pub case : new.case ≡ old.case
  pub content : new.content ≡ old.content
  pub pending : new.pending ≡ without_front old.pending
  pub past : (past : List Path) → StandsFor (at old.versions) (count old.versions) past → StandsFor (at new.versions) (count new.versions) (past ++ e ∷ [])
  pub scans : new.scans ≡ old.scans

raised-world : {V : Type 0} (at : V → Path → ℕ) (count : V → ℕ) (old new : Parts V) (e : Path) (s : State) → IsRaised at count old new e → Stands at count old s
    → (w : World) → new.content ≡ Some w → IsSameBelow new.case s.world [] w []
raised-world at count old new e s r st w h = subst (λ (c : Case). IsSameBelow c s.world [] w []) (sym r.case) (st.world w (sym r.content ∙ h))

raised-slots : {V : Type 0} (at : V → Path → ℕ) (count : V → ℕ) (old new : Parts V) (e : Path) (s : State) → IsRaised at count old new e → Stands at count old s
    → AreSlotsOf new.case (s.past ++ e ∷ []) new.scans s.scans
raised-slots at count old new e s r st =
    subst (λ (c : Case). AreSlotsOf c (s.past ++ e ∷ []) new.scans s.scans) (sym r.case)
    (subst (λ (l : List (Option RunningScan)). AreSlotsOf old.case (s.past ++ e ∷ []) l s.scans) (sym r.scans) (slots-push old.case s.past e old.scans s.scans st.scans))

delivered-stands : {V : Type 0} (at : V → Path → ℕ) (count : V → ℕ) (old new : Parts V) (e : Path) (s : State)
    → IsRaised at count old new (place old.case e) → new.retained ≡ after_invalidation old.case (place old.case e) old.retained
    → new.kept ≡ filter (λ k. not (is_touched old.case (place old.case e) k)) old.kept → old.pending.mark ≡ false → Stands at count old s
    → Stands at count new (after_delivery s e (drop 1 old.pending.events))
delivered-stands {V} at count old new e s r gone dropped mark st =
    let P : Case → Type 0 = λ c. StandsFor (at new.versions) (count new.versions) (s.past ++ place c e ∷ []) in
    let Q : Case → Type 0 = λ c. AreSlotsOf new.case (s.past ++ place c e ∷ []) new.scans s.scans in
    record {
      case = st.case ∙ sym r.case;
      world = raised-world at count old new (place old.case e) s r st;
      pending = (λ i. record { events = drop 1 old.pending.events; capacity = (st.pending i).capacity; mark = (st.pending i).mark }) ∙ front-first old.pending mark ∙ sym r.pending;
      retained = (λ i. after_invalidation (st.case i) (place (st.case i) e) (st.retained i)) ∙ sym gone;
      past = subst P (sym st.case) (r.past s.past st.past);
      scans = subst Q (sym st.case) (raised-slots at count old new (place old.case e) s r st);
      kept = (λ i. filter (λ k. not (is_touched (st.case i) (place (st.case i) e) k)) (st.kept i)) ∙ sym dropped;
    }

-- the first event was delivered
pub deliver-event : {V : Type 0} (at : V → Path → ℕ) (count : V → ℕ) (old new : Parts V) (e : Path) (s : State)
    → IsRaised at count old new (place old.case e) → new.retained ≡ after_invalidation old.case (place old.case e) old.retained
    → new.kept ≡ filter (λ k. not (is_touched old.case (place old.case e) k)) old.kept → old.pending.mark ≡ false → IsFirst old.pending.events e → Stands at count old s
    → (Delivered e ≡ (deliver_when s s.pending.mark).reply) × Stands at count new (deliver_when s s.pending.mark).state
deliver-event {V} at count old new e s r gone dropped mark first st =
    subst (λ (m : Bool). (Delivered e ≡ (deliver_when s m).reply) × Stands at count new (deliver_when s m).state) (sym (ap (λ (p : Pending). p.mark) st.pending ∙ mark))
    (subst (λ (l : List Path). (Delivered e ≡ (deliver_first s l).reply) × Stands at count new (deliver_first s l).state) (sym (ap (λ (p : Pending). p.events) st.pending ∙ first-of old.pending.events e first))
    (refl, delivered-stands at count old new e s r gone dropped mark st))

cleared-stands : {V : Type 0} (at : V → Path → ℕ) (count : V → ℕ) (old new : Parts V) (s : State)
    → IsRaised at count old new [] → new.retained ≡ nothing → new.kept ≡ [] → old.pending.mark ≡ true → Stands at count old s
    → Stands at count new (after_clear s)
cleared-stands {V} at count old new s r gone none_kept mark st = record {
  case = st.case ∙ sym r.case;
  world = raised-world at count old new [] s r st;
  pending = (λ i. record { events = (st.pending i).events; capacity = (st.pending i).capacity; mark = false }) ∙ front-marked old.pending mark ∙ sym r.pending;
  retained = sym gone;
  past = r.past s.past st.past;
  scans = raised-slots at count old new [] s r st;
  kept = sym none_kept;
}

-- the mark was delivered
pub deliver-mark : {V : Type 0} (at : V → Path → ℕ) (count : V → ℕ) (old new : Parts V) (s : State)
    → IsRaised at count old new [] → new.retained ≡ nothing → new.kept ≡ [] → old.pending.mark ≡ true → Stands at count old s
    → (Cleared ≡ (deliver_when s s.pending.mark).reply) × Stands at count new (deliver_when s s.pending.mark).state
deliver-mark {V} at count old new s r gone none_kept mark st =
    subst (λ (m : Bool). (Cleared ≡ (deliver_when s m).reply) × Stands at count new (deliver_when s m).state) (sym (ap (λ (p : Pending). p.mark) st.pending ∙ mark))
    (refl, cleared-stands at count old new s r gone none_kept mark st)

-- nothing was pending
pub deliver-none : {V : Type 0} (at : V → Path → ℕ) (count : V → ℕ) (m : Parts V) (s : State) → m.pending.mark ≡ false → m.pending.events ≡ [] → Stands at count m s
    → (NothingPending ≡ (deliver_when s s.pending.mark).reply) × Stands at count m (deliver_when s s.pending.mark).state
deliver-none {V} at count m s mark empty st =
    subst (λ (b : Bool). (NothingPending ≡ (deliver_when s b).reply) × Stands at count m (deliver_when s b).state) (sym (ap (λ (p : Pending). p.mark) st.pending ∙ mark))
    (subst (λ (l : List Path). (NothingPending ≡ (deliver_first s l).reply) × Stands at count m (deliver_first s l).state) (sym (ap (λ (p : Pending). p.events) st.pending ∙ empty))
    (refl, st))

-- ---- want of memory

-- where the mark is set, the reply that is due needs memory
pub deliver-marked : {V : Type 0} (at : V → Path → ℕ) (count : V → ℕ) (m : Parts V) (s : State) → m.pending.mark ≡ true → Stands at count m s → is_before_memory (deliver_when s s.pending.mark).reply ≡ false
deliver-marked at count m s mark st = subst (λ (b : Bool). is_before_memory (deliver_when s b).reply ≡ false) (sym (ap (λ (p : Pending). p.mark) st.pending ∙ mark)) refl

-- and so it does where an event waits
pub deliver-waiting : {V : Type 0} (at : V → Path → ℕ) (count : V → ℕ) (m : Parts V) (e : Path) (s : State) → m.pending.mark ≡ false → IsFirst m.pending.events e → Stands at count m s → is_before_memory (deliver_when s s.pending.mark).reply ≡ false
deliver-waiting at count m e s mark first st =
    subst (λ (b : Bool). is_before_memory (deliver_when s b).reply ≡ false) (sym (ap (λ (p : Pending). p.mark) st.pending ∙ mark))
    (subst (λ (l : List Path). is_before_memory (deliver_first s l).reply ≡ false) (sym (ap (λ (p : Pending). p.events) st.pending ∙ first-of m.pending.events e first)) refl)
