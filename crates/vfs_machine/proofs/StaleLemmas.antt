-- When the publication of a scan is stale, by what was answered since its begin.
use Rattle.std.proofs.Common.{◌≡◌, ℕ, ◌<◌, Bool, true, false, List, length, Option, Some, None, refl, sym, ap, ◌∙◌, subst}
use Rattle.std.proofs.lemmas.Bool.{true≢false}
use Rattle.vfs_model.specs.Paths.{Path, place}
use Rattle.vfs_model.specs.Pending.{version}
use Rattle.vfs_model.specs.Scanning.{Scan, next_left}
use Rattle.vfs_model.specs.State.{State, CallPublish, Answers, Reply, NoScan, Unfinished, Stale, step, scan_of, after_begin, publish_or, publish_next, publish_when}
use Rattle.vfs_model.specs.History.{Operation, AreAnswered, KeepsOpen, after, is_invalidated_in, is_no_memory, is_stale}
use Rattle.vfs_model.specs.Steps.{IsOutcome, is_before_memory}
use Rattle.vfs_laws.proofs.OvertakenLemmas.{partial-own, stale-told, stale-grown}
use Rattle.vfs_machine.specs.declared.answers.Answer.{Answer}
use Rattle.vfs_machine.specs.declared.answers.Answer.TheVariants as answer
use Rattle.vfs_machine.specs.Steps.{answer_reply}
use Rattle.vfs_machine.specs.Publish.{IsStaleWhere}

-- the reply says that locations are left
abbrev is_unfinished : Reply → Bool
is_unfinished (Unfinished n) = true
is_unfinished _ = false

not-unfinished : (r : Reply) → is_before_memory r ≡ false → is_unfinished r ≡ false
not-unfinished (Unfinished n) h = cc
not-unfinished _ h = refl

not-stale : (r : Reply) → is_before_memory r ≡ false → is_stale r ≡ false
not-stale (Stale n) h = cc
not-stale _ h = refl

same-scan : (u t : Scan) → Some u ≡ Some t → u ≡ t
same-scan u t e = cc

-- nothing is left of the scan where its publication does not say so
ends : (s : State) (c : ℕ) (o : Option Scan) (t : Scan) (r : Reply) → o ≡ Some t → (publish_or s c o).reply ≡ r → is_unfinished r ≡ false → next_left t.partial ≡ None
ends s c None t r is e off = cc
ends s c (Some u) t r is e off = subst (λ (v : Scan). next_left v.partial ≡ None) (same-scan u t is) (by (next_left u.partial) e)
  where
    by : (y : Option Path) → (publish_next s c u y).reply ≡ r → y ≡ None
    by None e = refl
    by (Some y) e = absurd (true≢false (ap is_unfinished e ∙ off))

no-scan-when : (s : State) (c : ℕ) (t : Scan) (o v : Bool) → NoScan ≡ (publish_when s c t o v).reply → ⊥
no-scan-when s c t true v e = cc
no-scan-when s c t false true e = cc
no-scan-when s c t false false e = cc

no-scan-next : (s : State) (c : ℕ) (t : Scan) (y : Option Path) → NoScan ≡ (publish_next s c t y).reply → ⊥
no-scan-next s c t (Some y) e = cc
no-scan-next s c t None e = no-scan-when s c t _ _ e

-- the publication of a scan in progress does not say that it is closed
open-scan : (s : State) (c : ℕ) (o : Option Scan) (t : Scan) → o ≡ Some t → NoScan ≡ (publish_or s c o).reply → ⊥
open-scan s c None t is e = cc
open-scan s c (Some u) t is e = no-scan-next s c u (next_left u.partial) e

-- a related place was invalidated exactly where the reply is stale, unless locations are left
invalidated-is : (a : Answers) (s : State) (c : ℕ) (p : Path) (h : List Operation) (r : Reply) → c < length s.scans → AreAnswered (after_begin s c p) h → KeepsOpen c h
    → (step a (after (after_begin s c p) h) (CallPublish c)).reply ≡ r → is_unfinished r ≡ false → is_invalidated_in s.case p h ≡ is_stale r
invalidated-is a s c p h r few answered keeps e off =
    let own = partial-own s c p h few answered keeps in
    let end = ends (after (after_begin s c p) h) c (scan_of (after (after_begin s c p) h) c) own.0 r own.1 e off in
    sym (stale-told a s c p h own.0 few answered keeps own.1 end) ∙ ap is_stale e

-- the answer is stale exactly where a related place was invalidated since the begin of the scan
pub publish-stale : (a : Answers) (s : State) (c : ℕ) (p : Path) (h : List Operation) (result : Answer) (P : State → Type 0) → c < length s.scans → AreAnswered (after_begin s c p) h → KeepsOpen c h
    → IsOutcome (answer_reply result) (after (after_begin s c p) h) (step a (after (after_begin s c p) h) (CallPublish c)) P
    → (is_no_memory (answer_reply result) ≡ true → is_before_memory (step a (after (after_begin s c p) h) (CallPublish c)).reply ≡ false)
    → IsStaleWhere (is_invalidated_in s.case p h) (version s.past (place s.case p)) (version (after (after_begin s c p) h).past (place s.case p)) result
publish-stale a s c p h answer.NoScan P few answered keeps owed last =
    let own = partial-own s c p h few answered keeps in
    open-scan (after (after_begin s c p) h) c (scan_of (after (after_begin s c p) h) c) own.0 own.1 owed.0
publish-stale a s c p h (answer.Unfinished n) P few answered keeps owed last = tt
publish-stale a s c p h (answer.Stale n) P few answered keeps owed last =
    let grown = stale-grown a s c p h n few answered keeps (sym owed.0) in
    (invalidated-is a s c p h (Stale n) few answered keeps (sym owed.0) refl, grown.0, subst (λ (m : ℕ). version s.past (place s.case p) < m) grown.0 grown.1)
publish-stale a s c p h answer.Covered P few answered keeps owed last = invalidated-is a s c p h _ few answered keeps (sym owed.0) refl
publish-stale a s c p h answer.Stored P few answered keeps owed last = invalidated-is a s c p h _ few answered keeps (sym owed.0) refl
publish-stale a s c p h answer.NoMemory P few answered keeps owed last =
    let r = (step a (after (after_begin s c p) h) (CallPublish c)).reply in
    invalidated-is a s c p h r few answered keeps refl (not-unfinished r (last refl)) ∙ not-stale r (last refl)
