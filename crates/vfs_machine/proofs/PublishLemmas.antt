-- A machine that stands for a state still does after a publication.
use Rattle.std.proofs.Common.{◌≡◌, ℕ, ◌<◌, ◌≤◌, Bool, true, false, List, [], ◌∷◌, length, Option, Some, None, option_map, slice_set, refl, sym, ap, ◌∙◌, subst, arith}
use Rattle.std.proofs.lemmas.Bool.{true≢false, ltb-true, ltb-false}
use Rattle.vfs_model.specs.Paths.{Path, place}
use Rattle.vfs_model.specs.declared.Case.{Case}
use Rattle.vfs_model.specs.Pending.{version}
use Rattle.vfs_model.specs.Retained.{Retained, is_covered, after_store}
use Rattle.vfs_model.specs.Scanning.{Scan, PartialSnapshot, next_left, count_left, snapshot_made, is_overtaken, locations_left, first_of}
use Rattle.vfs_model.specs.State.{State, CallPublish, Reply, NoScan, Unfinished, Stale, Covered, Stored, scan_of, publish_or, publish_next, publish_done, publish_when}
use Rattle.vfs_model.specs.History.{Kept, ChangeLog, with_changes, change_kept, changes_of, is_no_memory}
use Rattle.vfs_model.specs.Stands.{RunningScan, Parts, Stands, IsScanOf, IsSlotOf, has_grown}
use Rattle.vfs_laws.proofs.WalkLemmas.{locations_left-next_left, locations_left-count_left}
use Rattle.publish_core.specs.declared.published.Published.{Published}
use Rattle.publish_core.specs.declared.published.Published.TheVariants as answer
use Rattle.publish_core.specs.Publication.{IsAnswer, retained_after}
use Rattle.snapshot_hierarchy.specs.Held.{Held}
use Rattle.vfs_laws.proofs.Splits.{split}
use Rattle.vfs_laws.proofs.StandsLemmas.{overtaken-grown}
use Rattle.scan_walk.specs.Scans.{running_at, AreDigests, AreContentsOf, IsDone}
use Rattle.vfs_machine.specs.Publish.{IsPublished, published_reply, scans_after}
use Rattle.vfs_machine.specs.Whole.{held_of}
use Rattle.vfs_model.specs.Steps.{IsOutcome, is_before_memory}
use Rattle.vfs_machine.proofs.SlotLemmas.{slot-of, slots-set}
use Rattle.vfs_laws.proofs.SoundLemmas.{each-set}
use Rattle.scan_walk.specs.Cased.{CasedScan, scans_in, IsUnder}
use Rattle.scan_walk.proofs.CasedLemmas.{set-in}
use Rattle.std.specs.List.{AllByRecursion as Each}

-- ---- what is left

first-none : (xs : List Path) → length xs ≡ 0 → first_of xs ≡ None
first-none [] e = refl
first-none (x ∷ xs) e = cc

first-some : (xs : List Path) → 0 < length xs → (y : Path) × (first_of xs ≡ Some y)
first-some [] h = absurd (omega (arith, h))
first-some (x ∷ xs) h = (x, refl)

none-left : (s : PartialSnapshot) → count_left s ≡ 0 → next_left s ≡ None
none-left s e = locations_left-next_left s ∙ first-none (locations_left s) (sym (locations_left-count_left s) ∙ e)

some-left : (s : PartialSnapshot) → 0 < count_left s → (y : Path) × (next_left s ≡ Some y)
some-left s h = let f = first-some (locations_left s) (subst (λ (n : ℕ). 0 < n) (locations_left-count_left s) h) in (f.0, locations_left-next_left s ∙ f.1)

-- ---- staleness

-- where the scan's path leads
where_is : {V : Type 0} (at : V → Path → ℕ) (count : V → ℕ) (m : Parts V) (s : State) (r : RunningScan) (t : Scan) → IsScanOf m.case s.past r t → Stands at count m s → place s.case t.path ≡ place m.case r.path
where_is at count m s r t slot st = λ i. place (st.case i) (slot.path i)

-- the scan is overtaken exactly where the version of its path has grown
overtaken-is : {V : Type 0} (at : V → Path → ℕ) (count : V → ℕ) (m : Parts V) (s : State) (r : RunningScan) (t : Scan) → IsScanOf m.case s.past r t → Stands at count m s → is_overtaken s.case s.past t ≡ has_grown (at m.versions) m.case r
overtaken-is at count m s r t slot st = ap (λ (k : Case). is_overtaken k s.past t) st.case ∙ overtaken-grown m.case (at m.versions) (count m.versions) s.past r t st.past slot

overtaken : {V : Type 0} (at : V → Path → ℕ) (count : V → ℕ) (m : Parts V) (s : State) (r : RunningScan) (t : Scan) → IsScanOf m.case s.past r t → Stands at count m s → r.seen < at m.versions (place m.case r.path)
    → is_overtaken s.case s.past t ≡ true
overtaken at count m s r t slot st h =
    overtaken-is at count m s r t slot st
    ∙ split (has_grown (at m.versions) m.case r) (λ grown. grown) (λ fresh. absurd (omega (arith, ltb-false r.seen (at m.versions (place m.case r.path)) fresh, h)))

in-time : {V : Type 0} (at : V → Path → ℕ) (count : V → ℕ) (m : Parts V) (s : State) (r : RunningScan) (t : Scan) → IsScanOf m.case s.past r t → Stands at count m s → at m.versions (place m.case r.path) ≤ r.seen
    → is_overtaken s.case s.past t ≡ false
in-time at count m s r t slot st h =
    overtaken-is at count m s r t slot st
    ∙ split (has_grown (at m.versions) m.case r) (λ grown. absurd (omega (arith, ltb-true r.seen (at m.versions (place m.case r.path)) grown, h))) (λ fresh. fresh)

closed-stands : {V : Type 0} (at : V → Path → ℕ) (count : V → ℕ) (m : Parts V) (s : State) (c : ℕ) (old new : Retained) (log : Option ChangeLog) → old ≡ new → Stands at count m s
    → Stands at count (record m { retained = new; log = log; scans = slice_set m.scans c None }) (record s { retained = old; scans = slice_set s.scans c None })
closed-stands at count m s c old new log e st = record {
  case = st.case;
  world = st.world;
  pending = st.pending;
  retained = e;
  past = st.past;
  scans = slots-set m.case s.past m.scans s.scans c None None st.scans tt;
  kept = st.kept;
}

kept-stands : {V : Type 0} (at : V → Path → ℕ) (count : V → ℕ) (m : Parts V) (s : State) (new : Retained) (log : Option ChangeLog) → new ≡ m.retained → Stands at count m s → Stands at count (record m { retained = new; log = log }) s
kept-stands at count m s new log e st = record {
  case = st.case;
  world = st.world;
  pending = st.pending;
  retained = st.retained ∙ sym e;
  past = st.past;
  scans = st.scans;
  kept = st.kept;
}

covered-is : {V : Type 0} (at : V → Path → ℕ) (count : V → ℕ) (m : Parts V) (s : State) (r : RunningScan) (t : Scan) → IsScanOf m.case s.past r t → Stands at count m s
    → is_covered s.retained.pairs (place s.case t.path) ≡ is_covered m.retained.pairs (place m.case r.path)
covered-is at count m s r t slot st = λ i. is_covered (st.retained i).pairs (where_is at count m s r t slot st i)

publish-by : {V : Type 0} (at : V → Path → ℕ) (count : V → ℕ) (m : Parts V) (s : State) (c : ℕ) (r : RunningScan) (t : Scan) (ret : Retained) (log : Option ChangeLog) (result : Published) → IsScanOf m.case s.past r t
    → IsAnswer (at m.versions (place m.case r.path)) r.seen (is_covered m.retained.pairs (place m.case r.path)) result
    → ret ≡ retained_after (place m.case r.path) (snapshot_made r.partial) m.retained result
    → Stands at count m s
    → IsOutcome (published_reply result) s (publish_done s c t) (λ u. Stands at count (record m { retained = ret; log = log; scans = scans_after m.scans c result }) u)
publish-by {V} at count m s c r t ret log (answer.Stale n) slot ok is_ret st =
    subst (λ (o : Bool). (Stale n ≡ (publish_when s c t o (is_covered s.retained.pairs (place s.case t.path))).reply) × Stands at count (record m { retained = ret; log = log; scans = slice_set m.scans c None }) (publish_when s c t o (is_covered s.retained.pairs (place s.case t.path))).state)
    (sym (overtaken at count m s r t slot st ok.1)) (
      ap Stale (ok.0 ∙ st.past.versions (place m.case r.path) ∙ ap (version s.past) (sym (where_is at count m s r t slot st))),
      closed-stands at count m s c s.retained ret log (st.retained ∙ sym is_ret) st,
    )
publish-by {V} at count m s c r t ret log answer.Covered slot ok is_ret st =
    subst (λ (o : Bool). (Covered ≡ (publish_when s c t o (is_covered s.retained.pairs (place s.case t.path))).reply) × Stands at count (record m { retained = ret; log = log; scans = slice_set m.scans c None }) (publish_when s c t o (is_covered s.retained.pairs (place s.case t.path))).state)
    (sym (in-time at count m s r t slot st ok.0))
    (subst (λ (v : Bool). (Covered ≡ (publish_when s c t false v).reply) × Stands at count (record m { retained = ret; log = log; scans = slice_set m.scans c None }) (publish_when s c t false v).state)
    (sym (covered-is at count m s r t slot st ∙ ok.1))
    (refl, closed-stands at count m s c s.retained ret log (st.retained ∙ sym is_ret) st))
publish-by {V} at count m s c r t ret log answer.Stored slot ok is_ret st =
    subst (λ (o : Bool). (Stored ≡ (publish_when s c t o (is_covered s.retained.pairs (place s.case t.path))).reply) × Stands at count (record m { retained = ret; log = log; scans = slice_set m.scans c None }) (publish_when s c t o (is_covered s.retained.pairs (place s.case t.path))).state)
    (sym (in-time at count m s r t slot st ok.0))
    (subst (λ (v : Bool). (Stored ≡ (publish_when s c t false v).reply) × Stands at count (record m { retained = ret; log = log; scans = slice_set m.scans c None }) (publish_when s c t false v).state)
    (sym (covered-is at count m s r t slot st ∙ ok.1)) (
      refl,
      closed-stands at count m s c (after_store (place s.case t.path) (snapshot_made t.partial) s.retained) ret log
          ((λ i. after_store (where_is at count m s r t slot st i) (ap snapshot_made slot.partial i) (st.retained i)) ∙ sym is_ret) st,
    ))
publish-by at count m s c r t ret log answer.NoMemory slot ok is_ret st = kept-stands at count m s ret log is_ret st

-- nothing is left of the scan that is in progress
end-of : (r : RunningScan) (t : Scan) → t.partial ≡ r.partial → option_map (λ (q : RunningScan). count_left q.partial) (Some r) ≡ Some 0 → next_left t.partial ≡ None
end-of r t same done =
    let zero_left : count_left r.partial ≡ 0 = cc in
    ap next_left same ∙ none-left r.partial zero_left

publish-slot : {V : Type 0} (at : V → Path → ℕ) (count : V → ℕ) (m : Parts V) (s : State) (c : ℕ) (r : Option RunningScan) (t : Option Scan) (new : Held) (result : Published) → IsSlotOf m.case s.past r t
    → option_map (λ (q : RunningScan). count_left q.partial) r ≡ Some 0 → IsPublished (at m.versions) (held_of m) new r result → Stands at count m s
    → IsOutcome (published_reply result) s (publish_or s c t) (λ u. Stands at count (record m { retained = new.retained; log = new.log; scans = scans_after m.scans c result }) u)
publish-slot at count m s c None t new result slot done ok st = absurd ok
publish-slot at count m s c (Some r) None new result slot done ok st = absurd slot
publish-slot {V} at count m s c (Some r) (Some t) new result slot done ok st =
    subst (λ (q : Option Path). IsOutcome (published_reply result) s (publish_next s c t q) (λ u. Stands at count (record m { retained = new.retained; log = new.log; scans = scans_after m.scans c result }) u))
    (sym (end-of r t slot.partial done))
    (publish-by at count m s c r t new.retained new.log result slot ok.answer ok.retained st)

-- ---- what is told of it

logged-by : (case : Case) (past : List Path) (at : Path → ℕ) (old new : Held) (s : State) (c : ℕ) (r : Option RunningScan) (result : Published) → IsSlotOf case past r (scan_of s c) → IsPublished at old new r result
    → new.log ≡ option_map (with_changes (changes_of s (CallPublish c) (published_reply result))) old.log
logged-by case past at old new s c None result slot ok = absurd ok
logged-by case past at old new s c (Some r) (answer.Stale n) slot ok = ok.log
logged-by case past at old new s c (Some r) answer.Covered slot ok = ok.log
logged-by case past at old new s c (Some r) answer.NoMemory slot ok = ok.log
logged-by case past at old new s c (Some r) answer.Stored slot ok = by (scan_of s c) slot
  where
    by : (t : Option Scan) → IsSlotOf case past (Some r) t → new.log ≡ option_map (with_changes (change_kept t)) old.log
    by None slot = absurd slot
    by (Some t) slot = ok.log ∙ (λ i. option_map (with_changes (Kept (sym slot.path i) (snapshot_made (sym slot.partial i)) ∷ [])) old.log)

-- the change of the publication is told where changes are, and nothing else
pub publish-logged : {V : Type 0} (at : V → Path → ℕ) (count : V → ℕ) (m : Parts V) (s : State) (c : ℕ) (new : Held) (result : Published) (reply : Reply) → reply ≡ published_reply result
    → IsPublished (at m.versions) (held_of m) new (running_at m.scans c) result → Stands at count m s
    → new.log ≡ option_map (with_changes (changes_of s (CallPublish c) reply)) m.log
publish-logged at count m s c new result reply e ok st =
    subst (λ (r : Reply). new.log ≡ option_map (with_changes (changes_of s (CallPublish c) r)) m.log) (sym e)
    (logged-by m.case s.past (at m.versions) (held_of m) new s c (running_at m.scans c) result (slot-of at count m s c st) ok)

-- ---- want of memory

wanting-by : {V : Type 0} (at : V → Path → ℕ) (count : V → ℕ) (m : Parts V) (s : State) (c : ℕ) (new : Held) (r : Option RunningScan) (t : Option Scan) → IsSlotOf m.case s.past r t
    → option_map (λ (q : RunningScan). count_left q.partial) r ≡ Some 0 → IsPublished (at m.versions) (held_of m) new r answer.NoMemory → Stands at count m s
    → is_before_memory (publish_or s c t).reply ≡ false
wanting-by at count m s c new None t slot done ok st = absurd ok
wanting-by at count m s c new (Some r) None slot done ok st = absurd slot
wanting-by at count m s c new (Some r) (Some t) slot done ok st =
    subst (λ (q : Option Path). is_before_memory (publish_next s c t q).reply ≡ false) (sym (end-of r t slot.partial done))
    (subst (λ (reply : Reply). is_before_memory reply ≡ false) (publish-by at count m s c r t (after_store (place m.case r.path) (snapshot_made r.partial) m.retained) m.log answer.Stored slot ok.answer refl st).0 refl)

-- memory was wanting only where the scan is neither stale nor covered
pub publish-last : {V : Type 0} (at : V → Path → ℕ) (count : V → ℕ) (m : Parts V) (s : State) (c : ℕ) (new : Held) (result : Published) (reply : Reply) → reply ≡ published_reply result
    → option_map (λ (q : RunningScan). count_left q.partial) (running_at m.scans c) ≡ Some 0 → IsPublished (at m.versions) (held_of m) new (running_at m.scans c) result → Stands at count m s
    → is_no_memory reply ≡ true → is_before_memory (publish_or s c (scan_of s c)).reply ≡ false
publish-last at count m s c new (answer.Stale n) reply e done ok st none = absurd (true≢false (sym none ∙ ap is_no_memory e))
publish-last at count m s c new answer.Covered reply e done ok st none = absurd (true≢false (sym none ∙ ap is_no_memory e))
publish-last at count m s c new answer.Stored reply e done ok st none = absurd (true≢false (sym none ∙ ap is_no_memory e))
publish-last at count m s c new answer.NoMemory reply e done ok st none = wanting-by at count m s c new (running_at m.scans c) (scan_of s c) (slot-of at count m s c st) done ok st

-- ---- nothing is published

closed-by : (case : Case) (past : List Path) (s : State) (c : ℕ) (P : State → Type 0) (r : Option RunningScan) (t : Option Scan) → IsSlotOf case past r t → option_map (λ (q : RunningScan). count_left q.partial) r ≡ None → P s
    → (NoScan ≡ (publish_or s c t).reply) × P (publish_or s c t).state
closed-by case past s c P None None slot e h = (refl, h)
closed-by case past s c P None (Some t) slot e h = absurd slot
closed-by case past s c P (Some r) t slot e h = cc

pub publish-closed : {V : Type 0} (at : V → Path → ℕ) (count : V → ℕ) (m : Parts V) (s : State) (c : ℕ) → option_map (λ (q : RunningScan). count_left q.partial) (running_at m.scans c) ≡ None → Stands at count m s
    → (NoScan ≡ (publish_or s c (scan_of s c)).reply) × Stands at count m (publish_or s c (scan_of s c)).state
publish-closed at count m s c e st = closed-by m.case s.past s c (λ u. Stands at count m u) (running_at m.scans c) (scan_of s c) (slot-of at count m s c st) e st

unfinished-by : (case : Case) (past : List Path) (s : State) (c k : ℕ) (P : State → Type 0) (r : Option RunningScan) (t : Option Scan) → IsSlotOf case past r t → option_map (λ (q : RunningScan). count_left q.partial) r ≡ Some k → 0 < k → P s
    → (Unfinished k ≡ (publish_or s c t).reply) × P (publish_or s c t).state
unfinished-by case past s c k P None t slot e h p = cc
unfinished-by case past s c k P (Some r) None slot e h p = absurd slot
unfinished-by case past s c k P (Some r) (Some t) slot e h p =
    let is : count_left r.partial ≡ k = cc in
    let some = some-left r.partial (subst (λ (n : ℕ). 0 < n) (sym is) h) in
    subst (λ (q : Option Path). (Unfinished k ≡ (publish_next s c t q).reply) × P (publish_next s c t q).state) (sym (ap next_left slot.partial ∙ some.1))
    (ap Unfinished (sym is ∙ ap count_left (sym slot.partial)), p)

pub publish-unfinished : {V : Type 0} (at : V → Path → ℕ) (count : V → ℕ) (m : Parts V) (s : State) (c k : ℕ) → option_map (λ (q : RunningScan). count_left q.partial) (running_at m.scans c) ≡ Some k → 0 < k → Stands at count m s
    → (Unfinished k ≡ (publish_or s c (scan_of s c)).reply) × Stands at count m (publish_or s c (scan_of s c)).state
publish-unfinished at count m s c k e h st = unfinished-by m.case s.past s c k (λ u. Stands at count m u) (running_at m.scans c) (scan_of s c) (slot-of at count m s c st) e h st

-- ---- the whole of it

pub publish-whole : {V : Type 0} (at : V → Path → ℕ) (count : V → ℕ) (m : Parts V) (s : State) (c : ℕ) (new : Held) (versions : V) (xs : List (Option RunningScan)) (result : Published) (reply : Reply)
    → new.case ≡ m.case → versions ≡ m.versions → xs ≡ scans_after m.scans c result → reply ≡ published_reply result
    → option_map (λ (q : RunningScan). count_left q.partial) (running_at m.scans c) ≡ Some 0 → IsPublished (at m.versions) (held_of m) new (running_at m.scans c) result → Stands at count m s
    → IsOutcome reply s (publish_or s c (scan_of s c)) (λ u. Stands at count (record m { case = new.case; retained = new.retained; log = new.log; versions = versions; scans = xs }) u)
publish-whole {V} at count m s c new versions xs result reply e1 e2 e3 e4 done ok st =
    let same : record m { retained = new.retained; log = new.log; scans = scans_after m.scans c result } ≡ record m { case = new.case; retained = new.retained; log = new.log; versions = versions; scans = xs } =
    λ i. record m { case = sym e1 i; retained = new.retained; log = new.log; versions = sym e2 i; scans = sym e3 i } in
    subst (λ (r : Reply). IsOutcome r s (publish_or s c (scan_of s c)) (λ u. Stands at count (record m { case = new.case; retained = new.retained; log = new.log; versions = versions; scans = xs }) u)) (sym e4)
    (subst (λ (n : Parts V). IsOutcome (published_reply result) s (publish_or s c (scan_of s c)) (λ u. Stands at count n u)) same
    (publish-slot at count m s c (running_at m.scans c) (scan_of s c) new result (slot-of at count m s c st) done ok st))

-- with nothing left, the digests are those of the contents
pub digests-of_contents : (r : Option RunningScan) (digests : List (List ℕ)) → option_map (λ (q : RunningScan). count_left q.partial) r ≡ Some 0 → AreDigests r digests → AreContentsOf r digests
digests-of_contents None digests done h = tt
digests-of_contents (Some r) digests done h = let zero_left : count_left r.partial ≡ 0 = cc in h (none-left r.partial zero_left)

-- and nothing is left where the count is 0
pub done-of_count : (r : Option RunningScan) → option_map (λ (q : RunningScan). count_left q.partial) r ≡ Some 0 → IsDone r
done-of_count None done = tt
done-of_count (Some r) done = let zero_left : count_left r.partial ≡ 0 = cc in none-left r.partial zero_left

-- ---- the scans

-- the scans are closed after a publication as they are alone
pub after-in : (xs : List (Option CasedScan)) (c : ℕ) (result : Published) → scans_in (scans_after xs c result) ≡ scans_after (scans_in xs) c result
after-in xs c (answer.Stale n) = set-in xs c None
after-in xs c answer.Covered = set-in xs c None
after-in xs c answer.Stored = set-in xs c None
after-in xs c answer.NoMemory = refl

-- and all have one case then
pub under-after : (case : Case) (xs : List (Option CasedScan)) (c : ℕ) (result : Published) → Each (IsUnder case) xs → Each (IsUnder case) (scans_after xs c result)
under-after case xs c (answer.Stale n) h = each-set (IsUnder case) xs c None tt h
under-after case xs c answer.Covered h = each-set (IsUnder case) xs c None tt h
under-after case xs c answer.Stored h = each-set (IsUnder case) xs c None tt h
under-after case xs c answer.NoMemory h = h
