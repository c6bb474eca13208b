-- What a machine knows is what the state knows that it stands for.
use Rattle.std.proofs.Common.{◌≡◌, ℕ, zero, suc, Bool, List, [], ◌∷◌, ◌++◌, take, drop, refl, sym, ap, ◌∙◌, subst, Option, Some, None, arith, nat_lt}
use Rattle.std.proofs.lemmas.Bool.{ltb-true, ltb-false, false_from_ne_true}
use Rattle.std.specs.List.{list_any, AllByRecursion as Each}
use Rattle.vfs_model.specs.declared.Case.{Case}
use Rattle.vfs_model.specs.Paths.{Path, place, is_related}
use Rattle.vfs_model.specs.World.{World, IsWorld}
use Rattle.vfs_model.specs.Pending.{Pending, version, is_hit}
use Rattle.vfs_model.specs.Retained.{Retained, IsInShape}
use Rattle.vfs_model.specs.Scanning.{Scan, PartialSnapshot, is_overtaken}
use Rattle.vfs_model.specs.State.{State, KeptPrint}
use Rattle.vfs_model.specs.Sound.{IsCurrent, IsStillDir, IsTelling, IsTrueSlot, IsTrueKept, IsTrue}
use Rattle.vfs_model.specs.Stands.{StandsFor, RunningScan, Parts, IsScanOf, IsSlotOf, AreSlotsOf, Stands, has_grown, IsTrueRunning, KnowsTruth}
use Rattle.vfs_laws.proofs.Splits.{split}
use Rattle.vfs_laws.proofs.OvertakenLemmas.{version-later}

take-drop : {X : Type 0} (n : ℕ) (xs : List X) → take n xs ++ drop n xs ≡ xs
take-drop zero xs = refl
take-drop (suc n) [] = refl
take-drop (suc n) (x ∷ xs) = ap (λ ys. x ∷ ys) (take-drop n xs)

-- a scan is overtaken exactly where the version of its path has grown
pub overtaken-grown : (case : Case) (at : Path → ℕ) (count : ℕ) (past : List Path) (r : RunningScan) (s : Scan) → StandsFor at count past → IsScanOf case past r s → is_overtaken case past s ≡ has_grown at case r
overtaken-grown case at count past r s h is =
    ap (λ p. list_any (λ e. is_related e (place case p)) since) is.path ∙ sym by
  where
    x : Path
    x = place case r.path

    before : List Path
    before = take s.begun_at past

    since : List Path
    since = drop s.begun_at past

    now : at x ≡ version (before ++ since) x
    now = h.versions x ∙ ap (λ l. version l x) (sym (take-drop s.begun_at past))

    by : nat_lt r.seen (at x) ≡ list_any (λ e. is_related e x) since
    by =
        split (nat_lt r.seen (at x))
        (λ t. t ∙ sym ((version-later before since x).0 (omega (arith, ltb-true r.seen (at x) t, is.seen, now))))
        (λ f. f ∙ sym (false_from_ne_true _ (λ u. absurd (omega (arith, ltb-false r.seen (at x) f, is.seen, now, (version-later before since x).1 u)))))

slot-to : (case : Case) (excused : Path → Bool) (world : World) (at : Path → ℕ) (count : ℕ) (past : List Path) (o : Option RunningScan) (c : Option Scan) → StandsFor at count past → IsSlotOf case past o c → IsTrueSlot case excused world past c → IsTrueRunning at case excused world o
slot-to case excused world at count past None c h is t = tt
slot-to case excused world at count past (Some r) None h is t = absurd is
slot-to case excused world at count past (Some r) (Some s) h is t =
    let grown = overtaken-grown case at count past r s h is in
    subst (λ (v : Bool × Path × PartialSnapshot). IsTelling case excused world v.0 v.1 v.2) (λ i. (grown i, place case (is.path i), is.partial i)) t.telling

slot-from : (case : Case) (excused : Path → Bool) (world : World) (at : Path → ℕ) (count : ℕ) (past : List Path) (o : Option RunningScan) (c : Option Scan) → StandsFor at count past → IsSlotOf case past o c → IsTrueRunning at case excused world o → IsTrueSlot case excused world past c
slot-from case excused world at count past o None h is t = tt
slot-from case excused world at count past None (Some s) h is t = absurd is
slot-from case excused world at count past (Some r) (Some s) h is t =
    let grown = overtaken-grown case at count past r s h is in
    record {
      begun_at = is.begun_at;
      telling = subst (λ (v : Bool × Path × PartialSnapshot). IsTelling case excused world v.0 v.1 v.2) (λ i. (sym grown i, place case (sym is.path i), sym is.partial i)) t;
    }

slots-to : (case : Case) (excused : Path → Bool) (world : World) (at : Path → ℕ) (count : ℕ) (past : List Path) (slots : List (Option RunningScan)) (scans : List (Option Scan)) → StandsFor at count past → AreSlotsOf case past slots scans → Each (IsTrueSlot case excused world past) scans → Each (IsTrueRunning at case excused world) slots
slots-to case excused world at count past [] scans h is t = tt
slots-to case excused world at count past (o ∷ slots) [] h is t = absurd is
slots-to case excused world at count past (o ∷ slots) (c ∷ scans) h is t = (slot-to case excused world at count past o c h is.0 t.0, slots-to case excused world at count past slots scans h is.1 t.1)

slots-from : (case : Case) (excused : Path → Bool) (world : World) (at : Path → ℕ) (count : ℕ) (past : List Path) (slots : List (Option RunningScan)) (scans : List (Option Scan)) → StandsFor at count past → AreSlotsOf case past slots scans → Each (IsTrueRunning at case excused world) slots → Each (IsTrueSlot case excused world past) scans
slots-from case excused world at count past slots [] h is t = tt
slots-from case excused world at count past [] (c ∷ scans) h is t = absurd is
slots-from case excused world at count past (o ∷ slots) (c ∷ scans) h is t = (slot-from case excused world at count past o c h is.0 t.0, slots-from case excused world at count past slots scans h is.1 t.1)

-- what the state and the machine both keep
abbrev Common : Type 0
Common = Case × Pending × Retained × List KeptPrint

abbrev IsCommonTrue : World → Common → Type 0
IsCommonTrue world c =
    IsWorld c.0 world
    × IsInShape c.0 c.2
    × Each (IsCurrent c.0 (is_hit c.0 c.1) world) c.2.pairs
    × Each (IsStillDir c.0 (is_hit c.0 c.1) world) c.2.dirs
    × Each (IsTrueKept c.0 (is_hit c.0 c.1) world) c.3

common : {V : Type 0} (at : V → Path → ℕ) (count : V → ℕ) (m : Parts V) (s : State) → Stands at count m s → ◌≡◌ {A = Common} (s.case, s.pending, s.retained, s.kept) (m.case, m.pending, m.retained, m.kept)
common at count m s h = λ i. (h.case i, h.pending i, h.retained i, h.kept i)

-- a machine that stands for a state knows the truth where the state does
pub truth-to : {V : Type 0} (at : V → Path → ℕ) (count : V → ℕ) (m : Parts V) (s : State) → Stands at count m s → IsTrue s → KnowsTruth at m s.world
truth-to at count m s h t =
    let c = subst (IsCommonTrue s.world) (common at count m s h) (t.world, t.shape, t.pairs, t.dirs, t.kept) in
    record {
      whole = c.0;
      shape = c.1;
      pairs = c.2;
      dirs = c.3;
      scans = slots-to m.case (is_hit m.case m.pending) s.world (at m.versions) (count m.versions) s.past m.scans s.scans h.past h.scans
          (subst (λ (v : Case × Pending). Each (IsTrueSlot v.0 (is_hit v.0 v.1) s.world s.past) s.scans) (λ i. (h.case i, h.pending i)) t.scans);
      kept = c.4;
    }

-- a state knows the truth where a machine does that stands for it
pub truth-from : {V : Type 0} (at : V → Path → ℕ) (count : V → ℕ) (m : Parts V) (s : State) → Stands at count m s → KnowsTruth at m s.world → IsTrue s
truth-from at count m s h t =
    let c = subst (IsCommonTrue s.world) (sym (common at count m s h)) (t.whole, t.shape, t.pairs, t.dirs, t.kept) in
    record {
      world = c.0;
      shape = c.1;
      pairs = c.2;
      dirs = c.3;
      scans = subst (λ (v : Case × Pending). Each (IsTrueSlot v.0 (is_hit v.0 v.1) s.world s.past) s.scans) (λ i. (sym h.case i, sym h.pending i))
          (slots-from m.case (is_hit m.case m.pending) s.world (at m.versions) (count m.versions) s.past m.scans s.scans h.past h.scans t.scans);
      kept = c.4;
    }
