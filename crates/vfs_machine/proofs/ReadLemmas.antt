-- A machine that stands for a state still does after a read of a scan.
use Rattle.std.proofs.Common.{◌≡◌, ℕ, ◌+◌, List, ◌++◌, length, length-append, false, Option, Some, None, IfSome, slice_set, refl, sym, ap, ◌∙◌, subst}
use Rattle.vfs_model.specs.declared.Case.{Case}
use Rattle.vfs_model.specs.declared.Kind.{Kind}
use Rattle.vfs_model.specs.Paths.{Path, place}
use Rattle.vfs_model.specs.World.{World}
use Rattle.vfs_model.specs.Scanning.{Scan, Look, look, next_left, count_left, after_look}
use Rattle.vfs_model.specs.State.{State, TreeAnswer, NoScan, AllRead, Saw, Fault, scan_of, kind_of_look, read_or, read_next, look_below, look_due, look_due_at, IsLookAt, IsLookFor}
use Rattle.vfs_model.specs.Stands.{RunningScan, Parts, Stands, IsScanOf, IsSlotOf}
use Rattle.scan_walk.specs.declared.slots.Next.TheVariants as to
use Rattle.vfs_model.specs.Sound.{IsLook, IsLookBelow, IsLookOf}
use Rattle.vfs_model.specs.Steps.{is_before_memory}
use Rattle.scan_walk.specs.Scans.{running_at, IsNext}
use Rattle.scan_walk.proofs.LocationLemmas.{IsLocation, location-none, location-some}
use Rattle.vfs_laws.proofs.EditLemmas.{place-append}
use Rattle.vfs_laws.proofs.SameLemmas.{same-look}
use Rattle.vfs_machine.proofs.SlotLemmas.{slot-of, with_slot-stands}

-- ---- nothing is looked at

closed-by : (case : Case) (past : List Path) (l : Option Look) (s : State) (c : ℕ) (P : State → Type 0) (r : Option RunningScan) (t : Option Scan) → IsSlotOf case past r t → IsNext r to.Closed → P s
    → (NoScan ≡ (read_or s c t l).reply) × P (read_or s c t l).state
closed-by case past l s c P None None slot h p = (refl, p)
closed-by case past l s c P None (Some t) slot h p = absurd slot
closed-by case past l s c P (Some r) t slot h p = absurd h

-- the scan is closed
pub read-closed : {V : Type 0} (at : V → Path → ℕ) (count : V → ℕ) (m : Parts V) (l : Option Look) (s : State) (c : ℕ) → IsNext (running_at m.scans c) to.Closed → Stands at count m s
    → (NoScan ≡ (read_or s c (scan_of s c) l).reply) × Stands at count m (read_or s c (scan_of s c) l).state
read-closed at count m l s c h st = closed-by m.case s.past l s c (λ u. Stands at count m u) (running_at m.scans c) (scan_of s c) (slot-of at count m s c st) h st

done-by : (case : Case) (past : List Path) (l : Option Look) (s : State) (c : ℕ) (P : State → Type 0) (r : Option RunningScan) (t : Option Scan) → IsSlotOf case past r t → IsNext r to.Done → P s
    → (AllRead ≡ (read_or s c t l).reply) × P (read_or s c t l).state
done-by case past l s c P None t slot h p = absurd h
done-by case past l s c P (Some r) None slot h p = absurd slot
done-by case past l s c P (Some r) (Some t) slot h p =
    subst (λ (q : Option Path). (AllRead ≡ (read_next s c t q l).reply) × P (read_next s c t q l).state) (sym (ap next_left slot.partial ∙ location-none r h)) (refl, p)

-- nothing is left
pub read-done : {V : Type 0} (at : V → Path → ℕ) (count : V → ℕ) (m : Parts V) (l : Option Look) (s : State) (c : ℕ) → IsNext (running_at m.scans c) to.Done → Stands at count m s
    → (AllRead ≡ (read_or s c (scan_of s c) l).reply) × Stands at count m (read_or s c (scan_of s c) l).state
read-done at count m l s c h st = done-by m.case s.past l s c (λ u. Stands at count m u) (running_at m.scans c) (scan_of s c) (slot-of at count m s c st) h st

-- ---- a look was made

-- the tree may have counted faults and answered, and its content is the same
pub looked-stands : {V : Type 0} (at : V → Path → ℕ) (count : V → ℕ) (m : Parts V) (f : ℕ) (k : Option World) (q : Option (List TreeAnswer)) (s : State) → k ≡ m.content → Stands at count m s → Stands at count (record m { faults = f; content = k; answers = q }) s
looked-stands at count m f k q s e st = record {
  case = st.case;
  world = λ w h. st.world w (sym e ∙ h);
  pending = st.pending;
  retained = st.retained;
  past = st.past;
  scans = st.scans;
  kept = st.kept;
}

failed-by : (case : Case) (past : List Path) (p : Path) (s : State) (c : ℕ) (P : State → Type 0) (r : Option RunningScan) (t : Option Scan) → IsSlotOf case past r t → IsNext r (to.Location p) → P s
    → (Fault ≡ (read_or s c t None).reply) × P (read_or s c t None).state
failed-by case past p s c P None t slot h q = absurd h
failed-by case past p s c P (Some r) None slot h q = absurd slot
failed-by case past p s c P (Some r) (Some t) slot h q =
    subst (λ (y : Option Path). (Fault ≡ (read_next s c t y None).reply) × P (read_next s c t y None).state) (sym (ap next_left slot.partial ∙ (location-some r p h).next)) (refl, q)

-- the look failed
pub read-failed : {V : Type 0} (at : V → Path → ℕ) (count : V → ℕ) (m : Parts V) (f : ℕ) (k : Option World) (q : Option (List TreeAnswer)) (p : Path) (s : State) (c : ℕ) → k ≡ m.content → IsNext (running_at m.scans c) (to.Location p) → Stands at count m s
    → (Fault ≡ (read_or s c (scan_of s c) None).reply) × Stands at count (record m { faults = f; content = k; answers = q }) (read_or s c (scan_of s c) None).state
read-failed at count m f k q p s c e h st =
    failed-by m.case s.past p s c (λ u. Stands at count (record m { faults = f; content = k; answers = q }) u) (running_at m.scans c) (scan_of s c) (slot-of at count m s c st) h (looked-stands at count m f k q s e st)

-- the scan after the look
abbrev pub seen_at : Look → RunningScan → Option RunningScan
seen_at l r = Some (record r { partial = after_look l r.partial })

saw-at : {V : Type 0} (at : V → Path → ℕ) (count : V → ℕ) (m : Parts V) (l : Look) (p : Path) (n : ℕ) (s : State) (c : ℕ) (r : RunningScan) (t : Scan) → IsScanOf m.case s.past r t → (h : IsLocation r p) → n ≡ count_left (after_look l r.partial)
    → Stands at count m s
    → (Saw p (kind_of_look l) n ≡ (read_next s c t (Some h.names) (Some l)).reply) × Stands at count (record m { scans = slice_set m.scans c (seen_at l r) }) (read_next s c t (Some h.names) (Some l)).state
saw-at at count m l p n s c r t slot h len st = (
  (λ i. Saw ((h.path_is ∙ ap (λ q. q ++ h.names) (sym slot.path)) i) (kind_of_look l) ((len ∙ ap (λ k. count_left (after_look l k)) (sym slot.partial)) i)),
  with_slot-stands at count m s c (seen_at l r) (Some (record { path = t.path; begun_at = t.begun_at; partial = after_look l t.partial })) st
      (record { path = slot.path; partial = ap (after_look l) slot.partial; begun_at = slot.begun_at; seen = slot.seen }),
)

saw-by : {V : Type 0} (at : V → Path → ℕ) (count : V → ℕ) (m : Parts V) (xs : List (Option RunningScan)) (l : Look) (p : Path) (n : ℕ) (s : State) (c : ℕ) (r : Option RunningScan) (t : Option Scan) → IsSlotOf m.case s.past r t → IsNext r (to.Location p)
    → IfSome r (λ q. xs ≡ slice_set m.scans c (seen_at l q)) → IfSome r (λ q. n ≡ count_left (after_look l q.partial)) → Stands at count m s
    → (Saw p (kind_of_look l) n ≡ (read_or s c t (Some l)).reply) × Stands at count (record m { scans = xs }) (read_or s c t (Some l)).state
saw-by at count m xs l p n s c None t slot h set len st = absurd h
saw-by at count m xs l p n s c (Some r) None slot h set len st = absurd slot
saw-by at count m xs l p n s c (Some r) (Some t) slot h set len st =
    subst (λ (ys : List (Option RunningScan)). (Saw p (kind_of_look l) n ≡ (read_next s c t (next_left t.partial) (Some l)).reply) × Stands at count (record m { scans = ys }) (read_next s c t (next_left t.partial) (Some l)).state) (sym set)
    (subst (λ (y : Option Path). (Saw p (kind_of_look l) n ≡ (read_next s c t y (Some l)).reply) × Stands at count (record m { scans = slice_set m.scans c (seen_at l r) }) (read_next s c t y (Some l)).state) (sym (ap next_left slot.partial ∙ (location-some r p h).next))
    (saw-at at count m l p n s c r t slot (location-some r p h) len st))

-- the look saw what is at the location
pub read-saw : {V : Type 0} (at : V → Path → ℕ) (count : V → ℕ) (m : Parts V) (f : ℕ) (w : Option World) (q : Option (List TreeAnswer)) (xs : List (Option RunningScan)) (l : Look) (p : Path) (k : Kind) (n : ℕ) (s : State) (c : ℕ) → w ≡ m.content → k ≡ kind_of_look l
    → IsNext (running_at m.scans c) (to.Location p)
    → IfSome (running_at m.scans c) (λ q. xs ≡ slice_set m.scans c (seen_at l q)) → IfSome (running_at m.scans c) (λ q. n ≡ count_left (after_look l q.partial)) → Stands at count m s
    → (Saw p k n ≡ (read_or s c (scan_of s c) (Some l)).reply) × Stands at count (record m { faults = f; content = w; answers = q; scans = xs }) (read_or s c (scan_of s c) (Some l)).state
read-saw at count m f w q xs l p k n s c e d h set len st =
    let both = saw-by at count m xs l p n s c (running_at m.scans c) (scan_of s c) (slot-of at count m s c st) h set len st in
    (ap (λ j. Saw p j n) d ∙ both.0, looked-stands at count (record m { scans = xs }) f w q (read_or s c (scan_of s c) (Some l)).state e both.1)

-- ---- what the look is

-- a look that failed, or was not made, lists no names
pub no-look : (case : Case) (t : Option Scan) → IsLookOf case t None
no-look case None = tt
no-look case (Some t) = by (next_left t.partial)
  where
    by : (y : Option Path) → IsLookBelow case t.path y None
    by None = tt
    by (Some y) = tt

-- and says nothing of the world
pub no-word : (s : State) (t : Option Scan) → IsLookFor s t None
no-word s None = tt
no-word s (Some t) = by (next_left t.partial)
  where
    by : (y : Option Path) → IsLookAt s t y None
    by None = tt
    by (Some y) = tt

look-by : (case : Case) (past : List Path) (p : Path) (l : Look) (r : Option RunningScan) (t : Option Scan) → IsSlotOf case past r t → IsNext r (to.Location p) → IsLook case (length p) l → IsLookOf case t (Some l)
look-by case past p l None t slot h k = absurd h
look-by case past p l (Some r) None slot h k = absurd slot
look-by case past p l (Some r) (Some t) slot h k =
    let next = location-some r p h in
    let far : length p ≡ length t.path + length next.names = ap length next.path_is ∙ length-append r.path next.names ∙ ap (λ (z : Path). length z + length next.names) (sym slot.path) in
    subst (λ (y : Option Path). IsLookBelow case t.path y (Some l)) (sym (ap next_left slot.partial ∙ next.next)) (subst (λ (n : ℕ). IsLook case n l) far k)

-- the look at the next location lists names as a look does
pub look-of-state : {V : Type 0} (at : V → Path → ℕ) (count : V → ℕ) (m : Parts V) (p : Path) (l : Look) (s : State) (c : ℕ) → IsNext (running_at m.scans c) (to.Location p) → IsLook m.case (length p) l → Stands at count m s
    → IsLookOf s.case (scan_of s c) (Some l)
look-of-state at count m p l s c h k st =
    subst (λ (case : Case). IsLookOf case (scan_of s c) (Some l)) (sym st.case) (look-by m.case s.past p l (running_at m.scans c) (scan_of s c) (slot-of at count m s c st) h k)

-- ---- want of memory

wanting-by : (case : Case) (past : List Path) (p : Path) (s : State) (c : ℕ) (l : Option Look) (r : Option RunningScan) (t : Option Scan) → IsSlotOf case past r t → IsNext r (to.Location p) → is_before_memory (read_or s c t l).reply ≡ false
wanting-by case past p s c l None t slot h = absurd h
wanting-by case past p s c l (Some r) None slot h = absurd slot
wanting-by case past p s c l (Some r) (Some t) slot h =
    subst (λ (y : Option Path). is_before_memory (read_next s c t y l).reply ≡ false) (sym (ap next_left slot.partial ∙ (location-some r p h).next)) (by l)
  where
    by : (o : Option Look) → is_before_memory (read_next s c t (Some (location-some r p h).names) o).reply ≡ false
    by None = refl
    by (Some k) = refl

-- where a location is left, the reply that is due needs memory
pub read-wanting : {V : Type 0} (at : V → Path → ℕ) (count : V → ℕ) (m : Parts V) (p : Path) (l : Option Look) (s : State) (c : ℕ) → IsNext (running_at m.scans c) (to.Location p) → Stands at count m s
    → is_before_memory (read_or s c (scan_of s c) l).reply ≡ false
read-wanting at count m p l s c h st = wanting-by m.case s.past p s c l (running_at m.scans c) (scan_of s c) (slot-of at count m s c st) h

-- ---- over a told world

due-by : (case : Case) (past : List Path) (p : Path) (s : State) (w : World) (r : Option RunningScan) (t : Option Scan) → IsSlotOf case past r t → IsNext r (to.Location p) → s.case ≡ case
    → ((x : Path) → look case s.world x ≡ look case w x) → look_due s t ≡ Some (look case w (place case p))
due-by case past p s w None t slot h e same = absurd h
due-by case past p s w (Some r) None slot h e same = absurd slot
due-by case past p s w (Some r) (Some t) slot h e same =
    let next = location-some r p h in
    let where_is : place s.case t.path ++ place s.case next.names ≡ place case p = sym (place-append s.case t.path next.names) ∙ (λ i. place (e i) ((ap (λ q. q ++ next.names) slot.path ∙ sym next.path_is) i)) in
    ap (look_due_at s t) (ap next_left slot.partial ∙ next.next)
    ∙ ap Some ((λ i. look (e i) s.world (where_is i)) ∙ same (place case p))

-- the look that is due is that of the world that is told
pub look_due-told : {V : Type 0} (at : V → Path → ℕ) (count : V → ℕ) (m : Parts V) (w : World) (p : Path) (s : State) (c : ℕ) → m.content ≡ Some w → IsNext (running_at m.scans c) (to.Location p) → Stands at count m s
    → look_due s (scan_of s c) ≡ Some (look m.case w (place m.case p))
look_due-told at count m w p s c told h st =
    due-by m.case s.past p s w (running_at m.scans c) (scan_of s c) (slot-of at count m s c st) h st.case (λ x. same-look m.case s.world w x (st.world w told))

word-by : (case : Case) (past : List Path) (p : Path) (s : State) (w : World) (l : Look) (r : Option RunningScan) (t : Option Scan) → IsSlotOf case past r t → IsNext r (to.Location p) → look_due s t ≡ Some l → IsLookFor s t (Some l)
word-by case past p s w l None t slot h e = absurd h
word-by case past p s w l (Some r) None slot h e = absurd slot
word-by case past p s w l (Some r) (Some t) slot h e =
    let next = ap next_left slot.partial ∙ (location-some r p h).next in
    let due : Some (look_below s t (location-some r p h).names) ≡ Some l = sym (ap (look_due_at s t) next) ∙ e in
    let same : l ≡ look_below s t (location-some r p h).names = cc in
    subst (λ (y : Option Path). IsLookAt s t y (Some l)) (sym next) same

-- the look that is of the told world is true of each state
pub look-for-state : {V : Type 0} (at : V → Path → ℕ) (count : V → ℕ) (m : Parts V) (w : World) (p : Path) (l : Look) (s : State) (c : ℕ) → m.content ≡ Some w → l ≡ look m.case w (place m.case p) → IsNext (running_at m.scans c) (to.Location p) → Stands at count m s
    → IsLookFor s (scan_of s c) (Some l)
look-for-state at count m w p l s c told is h st =
    word-by m.case s.past p s w l (running_at m.scans c) (scan_of s c) (slot-of at count m s c st) h (look_due-told at count m w p s c told h st ∙ ap Some (sym is))

-- the read is the step with the look that is due
pub read-told : {V : Type 0} (at : V → Path → ℕ) (count : V → ℕ) (m : Parts V) (f : ℕ) (k : Option World) (q : Option (List TreeAnswer)) (xs : List (Option RunningScan)) (l : Look) (w : World) (p : Path) (kind : Kind) (n : ℕ) (s : State) (c : ℕ)
    → m.content ≡ Some w → l ≡ look m.case w (place m.case p) → k ≡ m.content → kind ≡ kind_of_look l → IsNext (running_at m.scans c) (to.Location p)
    → IfSome (running_at m.scans c) (λ q. xs ≡ slice_set m.scans c (seen_at l q)) → IfSome (running_at m.scans c) (λ q. n ≡ count_left (after_look l q.partial)) → Stands at count m s
    → (Saw p kind n ≡ (read_or s c (scan_of s c) (look_due s (scan_of s c))).reply) × Stands at count (record m { faults = f; content = k; answers = q; scans = xs }) (read_or s c (scan_of s c) (look_due s (scan_of s c))).state
read-told at count m f k q xs l w p kind n s c told is e d h set len st =
    subst (λ (look : Option Look). (Saw p kind n ≡ (read_or s c (scan_of s c) look).reply) × Stands at count (record m { faults = f; content = k; answers = q; scans = xs }) (read_or s c (scan_of s c) look).state)
    (ap Some is ∙ sym (look_due-told at count m w p s c told h st))
    (read-saw at count m f k q xs l p kind n s c e d h set len st)
