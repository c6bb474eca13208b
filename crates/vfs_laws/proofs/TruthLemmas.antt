-- What a sound machine knows is true of the content that its tree tells, in any order of its entries.
use Rattle.std.proofs.Common.{◌≡◌, ℕ, suc, ◌≤◌, Bool, false, List, [], ◌∷◌, length, refl, sym, ap, ◌∙◌, subst, Option, Some, None}
use Rattle.std.specs.List.{AllByRecursion as Each}
use Rattle.vfs_model.specs.declared.Case.{Case}
use Rattle.vfs_model.specs.Paths.{Path, IsShort, place}
use Rattle.vfs_model.specs.World.{World, IsWorld, IsSameBelow}
use Rattle.vfs_model.specs.Pending.{Pending, is_hit}
use Rattle.vfs_model.specs.Retained.{Pair, Retained}
use Rattle.vfs_model.specs.Scanning.{Scan}
use Rattle.vfs_model.specs.Fingerprint.{Seen}
use Rattle.vfs_model.specs.State.{State, KeptPrint}
use Rattle.vfs_model.specs.Sound.{IsInputCount, IsInLimits, IsShortSlot, HasShortPaths, IsSound, AreScanned, IsSettled}
use Rattle.vfs_model.specs.Stands.{RunningScan, Parts, IsSlotOf, AreSlotsOf, Stands, HasSound, has_grown, IsTrueRunning, KnowsTruth}
use Rattle.vfs_laws.proofs.NameLemmas.{each-weaker, some-is}
use Rattle.vfs_laws.proofs.SameLemmas.{alike-at, same-refl, same-sym, same-trans}
use Rattle.vfs_laws.proofs.SoundLemmas.{IsQuieter, current-kept, still-kept, telling-kept, kept-kept, settled-scanned}
use Rattle.vfs_laws.proofs.StandsLemmas.{truth-to, truth-from}

-- ---- in another order

-- where the order of the entries alone is another, the same stands at each place
reordered : (case : Case) (excused : Path → Bool) (v w : World) → IsSameBelow case v [] w [] → IsQuieter case excused excused v w
reordered case excused v w h = record { free = λ x miss. miss; same = λ x miss. alike-at case w v x (same-sym case v w h) }

-- what a scan of a machine tells is so in any order
running-reordered : (at : Path → ℕ) (case : Case) (excused : Path → Bool) (v w : World) → IsQuieter case excused excused v w → (o : Option RunningScan) → IsTrueRunning at case excused v o → IsTrueRunning at case excused w o
running-reordered at case excused v w quieter None h = tt
running-reordered at case excused v w quieter (Some r) h = telling-kept case excused excused v w quieter (has_grown at case r) (place case r.path) r.partial h

-- what a machine knows is true of a world in any order
truth-reordered : {V : Type 0} (at : V → Path → ℕ) (m : Parts V) (v w : World) → IsSameBelow m.case v [] w [] → IsWorld m.case w → KnowsTruth at m v → KnowsTruth at m w
truth-reordered at m v w same whole h = record {
  whole = whole;
  shape = h.shape;
  pairs = each-weaker _ _ (current-kept m.case hit hit v w quieter) _ h.pairs;
  dirs = each-weaker _ _ (still-kept m.case hit hit v w quieter) _ h.dirs;
  scans = each-weaker _ _ (running-reordered (at m.versions) m.case hit v w quieter) _ h.scans;
  kept = each-weaker _ _ (kept-kept m.case hit hit v w quieter) _ h.kept;
}
  where
    hit : Path → Bool
    hit = is_hit m.case m.pending

    quieter : IsQuieter m.case hit hit v w
    quieter = reordered m.case hit v w same

-- what a sound machine knows is true of each world that is the one its tree tells
truth-along : {V : Type 0} (at : V → Path → ℕ) (count : V → ℕ) (m : Parts V) (w v : World) → m.content ≡ Some w → IsSameBelow m.case w [] v [] → IsWorld m.case v → HasSound at count m → KnowsTruth at m v
truth-along at count m w v told same whole h =
    truth-reordered at m h.state.world v (same-trans m.case h.state.world w v (h.stands.world w told) same) whole (truth-to at count m h.state h.stands (h.sound w told).known)

-- what a sound machine knows is true of the content that its tree tells
pub truth-told : {V : Type 0} (at : V → Path → ℕ) (count : V → ℕ) (m : Parts V) (w : World) → m.content ≡ Some w → IsWorld m.case w → HasSound at count m → KnowsTruth at m w
truth-told at count m w told whole h = truth-along at count m w w told (same-refl m.case w) whole h

-- ---- each state

-- a machine has as many scans as the state that it stands for
length-slots : (case : Case) (past : List Path) (slots : List (Option RunningScan)) (scans : List (Option Scan)) → AreSlotsOf case past slots scans → length slots ≡ length scans
length-slots case past [] [] h = refl
length-slots case past [] (s ∷ scans) h = absurd h
length-slots case past (r ∷ slots) [] h = absurd h
length-slots case past (r ∷ slots) (s ∷ scans) h = ap suc (length-slots case past slots scans h.1)

-- the limits of one state are those of each that has as many scans, what is kept and what is pending
limits-along : (s t : State) → length s.scans ≡ length t.scans → s.kept ≡ t.kept → s.pending ≡ t.pending → IsInLimits s → IsInLimits t
limits-along s t scans kept pending h = record {
  scans = sym scans ∙ h.scans;
  kept = subst (λ (ks : List KeptPrint). length ks ≤ 64) kept h.kept;
  inputs = subst (Each (λ (k : KeptPrint). IsInputCount (length k.seen))) kept h.inputs;
  some_room = subst (λ (p : Pending). 1 ≤ p.capacity) pending h.some_room;
  room = subst (λ (p : Pending). p.capacity ≤ 65536) pending h.room;
  events = subst (λ (p : Pending). length p.events ≤ p.capacity) pending h.events;
}

-- the path of the running scan is short; nothing is asked of a closed one
abbrev IsShortRunning : Option RunningScan → Type 0
IsShortRunning None = Unit {0}
IsShortRunning (Some r) = IsShort r.path

slot-running : (case : Case) (past : List Path) (r : Option RunningScan) (o : Option Scan) → IsSlotOf case past r o → IsShortSlot o → IsShortRunning r
slot-running case past None None h few = tt
slot-running case past None (Some s) h few = absurd h
slot-running case past (Some r) None h few = absurd h
slot-running case past (Some r) (Some s) h few = subst IsShort h.path few

running-slot : (case : Case) (past : List Path) (r : Option RunningScan) (o : Option Scan) → IsSlotOf case past r o → IsShortRunning r → IsShortSlot o
running-slot case past None None h few = tt
running-slot case past None (Some s) h few = absurd h
running-slot case past (Some r) None h few = absurd h
running-slot case past (Some r) (Some s) h few = subst IsShort (sym h.path) few

slots-running : (case : Case) (past : List Path) (slots : List (Option RunningScan)) (scans : List (Option Scan)) → AreSlotsOf case past slots scans → Each IsShortSlot scans → Each IsShortRunning slots
slots-running case past [] [] h few = tt
slots-running case past [] (s ∷ scans) h few = absurd h
slots-running case past (r ∷ slots) [] h few = absurd h
slots-running case past (r ∷ slots) (s ∷ scans) h few = (slot-running case past r s h.0 few.0, slots-running case past slots scans h.1 few.1)

running-slots : (case : Case) (past : List Path) (slots : List (Option RunningScan)) (scans : List (Option Scan)) → AreSlotsOf case past slots scans → Each IsShortRunning slots → Each IsShortSlot scans
running-slots case past [] [] h few = tt
running-slots case past [] (s ∷ scans) h few = absurd h
running-slots case past (r ∷ slots) [] h few = absurd h
running-slots case past (r ∷ slots) (s ∷ scans) h few = (running-slot case past r s h.0 few.0, running-slots case past slots scans h.1 few.1)

-- of two states that a machine stands for, the paths of both are short where those of one are
short-along : {V : Type 0} (at : V → Path → ℕ) (count : V → ℕ) (m : Parts V) (s t : State) → Stands at count m s → Stands at count m t → HasShortPaths s → HasShortPaths t
short-along at count m s t stands other h = record {
  events = subst (λ (p : Pending). Each IsShort p.events) (stands.pending ∙ sym other.pending) h.events;
  scans = running-slots m.case t.past m.scans t.scans other.scans (slots-running m.case s.past m.scans s.scans stands.scans h.scans);
  pairs = subst (λ (r : Retained). Each (λ (p : Pair). IsShort p.path) r.pairs) (stands.retained ∙ sym other.retained) h.pairs;
  dirs = subst (λ (r : Retained). Each IsShort r.dirs) (stands.retained ∙ sym other.retained) h.dirs;
  roots = subst (Each (λ (k : KeptPrint). Each (λ (v : Seen). IsShort v.input.root) k.seen)) (stands.kept ∙ sym other.kept) h.roots;
}

-- each state over a world that a sound machine stands for is sound
pub states-sound : {V : Type 0} (at : V → Path → ℕ) (count : V → ℕ) (m : Parts V) (w : World) (s : State) → m.content ≡ Some w → Stands at count m s → IsWorld s.case s.world → HasSound at count m → IsSound s
states-sound at count m w s told stands whole h = record {
  limits = limits-along h.state s
      (sym (length-slots m.case h.state.past m.scans h.state.scans h.stands.scans) ∙ length-slots m.case s.past m.scans s.scans stands.scans)
      (h.stands.kept ∙ sym stands.kept)
      (h.stands.pending ∙ sym stands.pending)
      (h.sound w told).limits;
  short = short-along at count m h.state s h.stands stands (h.sound w told).short;
  known = truth-from at count m s stands
      (truth-along at count m w s.world told (same-sym m.case s.world w (stands.world w told)) (subst (λ case. IsWorld case s.world) stands.case whole) h);
}

-- ---- where nothing waits

-- a machine that stands for a state also does for the state over the very world that its tree tells
pub stands-told : {V : Type 0} (at : V → Path → ℕ) (count : V → ℕ) (m : Parts V) (w : World) (s : State) → m.content ≡ Some w → Stands at count m s → Stands at count m (record s { world = w })
stands-told at count m w s told h = record {
  case = h.case;
  world = λ v e. subst (λ u. IsSameBelow m.case w [] u []) (some-is w v (sym told ∙ e)) (same-refl m.case w);
  pending = h.pending;
  retained = h.retained;
  past = h.past;
  scans = h.scans;
  kept = h.kept;
}

-- where nothing waits in a machine, nothing waits in a state that it stands for
pub stands-settled : {V : Type 0} (at : V → Path → ℕ) (count : V → ℕ) (m : Parts V) (s : State) → m.pending.events ≡ [] → m.pending.mark ≡ false → Stands at count m s → IsSettled s
stands-settled at count m s events mark h = record { events = ap (λ (p : Pending). p.events) h.pending ∙ events; mark = ap (λ (p : Pending). p.mark) h.pending ∙ mark }

-- all that a sound machine knows is what a scan of the told content gives, where nothing waits
pub machine-scanned : {V : Type 0} (at : V → Path → ℕ) (count : V → ℕ) (m : Parts V) (w : World) → m.content ≡ Some w → IsWorld m.case w → m.pending.events ≡ [] → m.pending.mark ≡ false → HasSound at count m → AreScanned m.case w m.retained m.kept
machine-scanned at count m w told whole events mark h =
    subst (λ (c : Case × Retained × List KeptPrint). AreScanned c.0 w c.1 c.2) (λ i. (h.stands.case i, h.stands.retained i, h.stands.kept i))
    (settled-scanned s (stands-settled at count m s events mark stands) (truth-from at count m s stands (truth-told at count m w told whole h)))
  where
    s : State
    s = record h.state { world = w }

    stands : Stands at count m s
    stands = stands-told at count m w h.state told h.stands
