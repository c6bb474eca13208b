-- The scans of a machine and those of the states that it stands for.
use Rattle.std.proofs.Common.{◌≡◌, ℕ, zero, suc, true, false, List, [], ◌∷◌, length, Option, Some, None, is_some, option_map, slice_get, slice_set, refl, sym, ap, ◌∙◌, subst, arith}
use Rattle.std.proofs.lemmas.List.{take_all}
use Rattle.vfs_model.specs.declared.Case.{Case}
use Rattle.vfs_model.specs.Paths.{Path, place}
use Rattle.vfs_model.specs.Pending.{version}
use Rattle.vfs_model.specs.Scanning.{Scan, Unread, contents}
use Rattle.vfs_model.specs.State.{State, AlreadyOpen, Version, Dropped, open_scan, scan_of, with_scan, begin_or, drop_or}
use Rattle.vfs_model.specs.Stands.{RunningScan, Parts, Stands, IsSlotOf, AreSlotsOf}
use Rattle.vfs_model.specs.Steps.{is_before_memory}
use Rattle.scan_walk.specs.Scans.{running_at}

slot-at : (case : Case) (past : List Path) (rs : List (Option RunningScan)) (ss : List (Option Scan)) (c : ℕ) → AreSlotsOf case past rs ss → IsSlotOf case past (running_at rs c) (open_scan (slice_get ss c))
slot-at case past [] [] c h = tt
slot-at case past [] (s ∷ ss) c h = absurd h
slot-at case past (r ∷ rs) [] c h = absurd h
slot-at case past (r ∷ rs) (s ∷ ss) zero h = h.0
slot-at case past (r ∷ rs) (s ∷ ss) (suc c) h = slot-at case past rs ss c h.1

pub slots-set : (case : Case) (past : List Path) (rs : List (Option RunningScan)) (ss : List (Option Scan)) (c : ℕ) (r : Option RunningScan) (s : Option Scan) → AreSlotsOf case past rs ss → IsSlotOf case past r s
    → AreSlotsOf case past (slice_set rs c r) (slice_set ss c s)
slots-set case past [] [] c r s h k = tt
slots-set case past [] (t ∷ ss) c r s h k = absurd h
slots-set case past (q ∷ rs) [] c r s h k = absurd h
slots-set case past (q ∷ rs) (t ∷ ss) zero r s h k = (k, h.1)
slots-set case past (q ∷ rs) (t ∷ ss) (suc c) r s h k = (h.0, slots-set case past rs ss c r s h.1 k)

-- the scan with the number is that of the state
pub slot-of : {V : Type 0} (at : V → Path → ℕ) (count : V → ℕ) (m : Parts V) (s : State) (c : ℕ) → Stands at count m s → IsSlotOf m.case s.past (running_at m.scans c) (scan_of s c)
slot-of at count m s c st = slot-at m.case s.past m.scans s.scans c st.scans

-- a machine whose scan with the number was set
pub with_slot-stands : {V : Type 0} (at : V → Path → ℕ) (count : V → ℕ) (m : Parts V) (s : State) (c : ℕ) (r : Option RunningScan) (t : Option Scan) → Stands at count m s → IsSlotOf m.case s.past r t
    → Stands at count (record m { scans = slice_set m.scans c r }) (with_scan s c t)
with_slot-stands at count m s c r t st slot = record {
  case = st.case;
  world = st.world;
  pending = st.pending;
  retained = st.retained;
  past = st.past;
  scans = slots-set m.case s.past m.scans s.scans c r t st.scans slot;
  kept = st.kept;
}

-- ---- a begin

open-by : (case : Case) (past : List Path) (s : State) (c : ℕ) (p : Path) (P : State → Type 0) (r : Option RunningScan) (t : Option Scan) → IsSlotOf case past r t → is_some r ≡ true → P s
    → (AlreadyOpen ≡ (begin_or s c p t).reply) × P (begin_or s c p t).state
open-by case past s c p P None t slot found h = cc
open-by case past s c p P (Some r) None slot found h = absurd slot
open-by case past s c p P (Some r) (Some t) slot found h = (refl, h)

-- the scan is in progress
pub begin-open : {V : Type 0} (at : V → Path → ℕ) (count : V → ℕ) (m : Parts V) (s : State) (c : ℕ) (p : Path) → is_some (running_at m.scans c) ≡ true → Stands at count m s
    → (AlreadyOpen ≡ (begin_or s c p (scan_of s c)).reply) × Stands at count m (begin_or s c p (scan_of s c)).state
begin-open at count m s c p found st = open-by m.case s.past s c p (λ t. Stands at count m t) (running_at m.scans c) (scan_of s c) (slot-of at count m s c st) found st

closed-by : (case : Case) (past : List Path) (r : Option RunningScan) (t : Option Scan) → IsSlotOf case past r t → is_some r ≡ false → t ≡ None
closed-by case past None None slot none = refl
closed-by case past None (Some t) slot none = absurd slot
closed-by case past (Some r) t slot none = cc

-- a scan of the path that begins now
abbrev pub fresh_scan : {V : Type 0} (at : V → Path → ℕ) (m : Parts V) (p : Path) → RunningScan
fresh_scan at m p = record { path = p; seen = at m.versions (place m.case p); partial = Unread }

-- the scan is closed, and begins
pub begin-closed : {V : Type 0} (at : V → Path → ℕ) (count : V → ℕ) (m : Parts V) (s : State) (c : ℕ) (p : Path) → is_some (running_at m.scans c) ≡ false → Stands at count m s
    → (Version (at m.versions (place m.case p)) ≡ (begin_or s c p (scan_of s c)).reply) × Stands at count (record m { scans = slice_set m.scans c (Some (fresh_scan at m p)) }) (begin_or s c p (scan_of s c)).state
begin-closed {V} at count m s c p none st =
    subst (λ (t : Option Scan). (Version (at m.versions (place m.case p)) ≡ (begin_or s c p t).reply) × Stands at count (record m { scans = slice_set m.scans c (Some (fresh_scan at m p)) }) (begin_or s c p t).state)
    (sym (closed-by m.case s.past (running_at m.scans c) (scan_of s c) (slot-of at count m s c st) none)) (
      ap Version (st.past.versions (place m.case p) ∙ ap (λ k. version s.past (place k p)) (sym st.case)),
      with_slot-stands at count m s c (Some (fresh_scan at m p)) (Some (record { path = p; begun_at = length s.past; partial = Unread })) st
          (record { path = refl; partial = refl; begun_at = omega arith; seen = st.past.versions (place m.case p) ∙ ap (λ l. version l (place m.case p)) (sym (take_all (length s.past) s.past (omega arith))) }),
    )

-- the same, where path, version and scan are known by equations
pub begin-with : {V : Type 0} (at : V → Path → ℕ) (count : V → ℕ) (m : Parts V) (s : State) (c : ℕ) (p : Path) (r : RunningScan) (n : ℕ) → r ≡ fresh_scan at m p → n ≡ r.seen → is_some (running_at m.scans c) ≡ false → Stands at count m s
    → (Version n ≡ (begin_or s c p (scan_of s c)).reply) × Stands at count (record m { scans = slice_set m.scans c (Some r) }) (begin_or s c p (scan_of s c)).state
begin-with {V} at count m s c p r n e f none st =
    let both = begin-closed at count m s c p none st in (
      ap Version (f ∙ ap (λ (q : RunningScan). q.seen) e) ∙ both.0,
      subst (λ (q : RunningScan). Stands at count (record m { scans = slice_set m.scans c (Some q) }) (begin_or s c p (scan_of s c)).state) (sym e) both.1,
    )

-- where the scan is closed, the reply that is due needs memory
pub begin-wanting : {V : Type 0} (at : V → Path → ℕ) (count : V → ℕ) (m : Parts V) (s : State) (c : ℕ) (p : Path) → is_some (running_at m.scans c) ≡ false → Stands at count m s
    → is_before_memory (begin_or s c p (scan_of s c)).reply ≡ false
begin-wanting at count m s c p none st =
    subst (λ (t : Option Scan). is_before_memory (begin_or s c p t).reply ≡ false) (sym (closed-by m.case s.past (running_at m.scans c) (scan_of s c) (slot-of at count m s c st) none)) refl

-- ---- a drop

-- the scan is closed already
pub drop-closed : {V : Type 0} (at : V → Path → ℕ) (count : V → ℕ) (m : Parts V) (s : State) (c : ℕ) → is_some (running_at m.scans c) ≡ false → Stands at count m s
    → (Dropped false ≡ (drop_or s c (scan_of s c)).reply) × Stands at count m (drop_or s c (scan_of s c)).state
drop-closed at count m s c none st =
    subst (λ (t : Option Scan). (Dropped false ≡ (drop_or s c t).reply) × Stands at count m (drop_or s c t).state)
    (sym (closed-by m.case s.past (running_at m.scans c) (scan_of s c) (slot-of at count m s c st) none)) (refl, st)

dropped-by : (case : Case) (past : List Path) (s : State) (c : ℕ) (P : State → Type 0) (r : Option RunningScan) (t : Option Scan) → IsSlotOf case past r t → is_some r ≡ true → P (with_scan s c None)
    → (Dropped true ≡ (drop_or s c t).reply) × P (drop_or s c t).state
dropped-by case past s c P None t slot found h = cc
dropped-by case past s c P (Some r) None slot found h = absurd slot
dropped-by case past s c P (Some r) (Some t) slot found h = (refl, h)

-- the scan is in progress, and is closed
pub drop-open : {V : Type 0} (at : V → Path → ℕ) (count : V → ℕ) (m : Parts V) (s : State) (c : ℕ) (xs : List (Option RunningScan)) → xs ≡ slice_set m.scans c None → is_some (running_at m.scans c) ≡ true → Stands at count m s
    → (Dropped true ≡ (drop_or s c (scan_of s c)).reply) × Stands at count (record m { scans = xs }) (drop_or s c (scan_of s c)).state
drop-open at count m s c xs set found st =
    dropped-by m.case s.past s c (λ t. Stands at count (record m { scans = xs }) t) (running_at m.scans c) (scan_of s c) (slot-of at count m s c st) found
    (subst (λ (ys : List (Option RunningScan)). Stands at count (record m { scans = ys }) (with_scan s c None)) (sym set) (with_slot-stands at count m s c None None st tt))

-- ---- contents

contents-by : (case : Case) (past : List Path) (r : Option RunningScan) (t : Option Scan) → IsSlotOf case past r t → option_map (λ (q : RunningScan). contents q.partial) r ≡ option_map (λ (q : Scan). contents q.partial) t
contents-by case past None None slot = refl
contents-by case past None (Some t) slot = absurd slot
contents-by case past (Some r) None slot = absurd slot
contents-by case past (Some r) (Some t) slot = ap (λ p. Some (contents p)) (sym slot.partial)

-- the contents of the scan are those of the state's
pub contents-of : {V : Type 0} (at : V → Path → ℕ) (count : V → ℕ) (m : Parts V) (s : State) (c : ℕ) → Stands at count m s
    → option_map (λ (q : RunningScan). contents q.partial) (running_at m.scans c) ≡ option_map (λ (q : Scan). contents q.partial) (scan_of s c)
contents-of at count m s c st = contents-by m.case s.past (running_at m.scans c) (scan_of s c) (slot-of at count m s c st)

open-too : (case : Case) (past : List Path) (r : Option RunningScan) (t : Option Scan) → IsSlotOf case past r t → is_some r ≡ is_some t
open-too case past None None slot = refl
open-too case past None (Some t) slot = absurd slot
open-too case past (Some r) None slot = absurd slot
open-too case past (Some r) (Some t) slot = refl

-- the scan is in progress where the state's is
pub scanning-of : {V : Type 0} (at : V → Path → ℕ) (count : V → ℕ) (m : Parts V) (s : State) (c : ℕ) → Stands at count m s → is_some (running_at m.scans c) ≡ is_some (scan_of s c)
scanning-of at count m s c st = open-too m.case s.past (running_at m.scans c) (scan_of s c) (slot-of at count m s c st)
