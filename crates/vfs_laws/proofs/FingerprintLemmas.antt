-- What the reply to a call for a fingerprint tells.
use Rattle.std.proofs.Common.{◌≡◌, ℕ, ◌≤◌, Bool, true, false, List, [], ◌∷◌, ◌++◌, length, map, find, refl, sym, ap, ◌∙◌, subst, Option, Some, None, arith, nat_lt}
use Rattle.std.proofs.lemmas.Bool.{and_parts, ltb-true, ltb-false}
use Rattle.std.specs.Prelude.{is_some}
use Rattle.std.specs.List.{AllByRecursion as Each}
use Rattle.vfs_model.specs.declared.Case.{Case}
use Rattle.vfs_model.specs.Paths.{place}
use Rattle.vfs_model.specs.Snapshot.{Snapshot}
use Rattle.vfs_model.specs.Retained.{Pair, part_of}
use Rattle.vfs_model.specs.Fingerprint.{Sensitivity, Absolute, Relative, NameOnly, Ignored, Input, Seen, fingerprint}
use Rattle.vfs_model.specs.State.{KeptPrint, State, CallFingerprint, Answers, Is, is_same_sensitivity, is_for_inputs, seen_or, seen_inputs, after_fingerprint, fingerprint_when, fingerprint_or, step}
use Rattle.vfs_model.specs.Sound.{IsTrue, IsSettled, inputs_of, fingerprint_of}
use Rattle.vfs_laws.proofs.Splits.{split}
use Rattle.vfs_laws.proofs.NameLemmas.{some-is}
use Rattle.vfs_laws.proofs.PathLemmas.{same_place-true}
use Rattle.vfs_laws.proofs.SoundLemmas.{after_fingerprint-sound, settled-scanned}

-- ---- the kept fingerprint of a list of inputs

same_sensitivity-true : (a b : Sensitivity) → is_same_sensitivity a b ≡ true → a ≡ b
same_sensitivity-true Absolute Absolute h = refl
same_sensitivity-true Relative Relative h = refl
same_sensitivity-true NameOnly NameOnly h = refl
same_sensitivity-true Ignored Ignored h = refl
same_sensitivity-true a b h = cc

-- a kept fingerprint that is of a list of inputs has this very list
for_inputs-same : (inputs : List Input) (seen : List Seen) → is_for_inputs inputs seen ≡ true → map (λ (v : Seen). v.input) seen ≡ inputs
for_inputs-same [] [] h = refl
for_inputs-same [] (v ∷ seen) h = cc
for_inputs-same (i ∷ inputs) [] h = cc
for_inputs-same (i ∷ inputs) (v ∷ seen) h =
    let parts = and_parts _ _ h in
    let first = and_parts _ _ parts.0 in
    let root : v.input.root ≡ i.root = sym (same_place-true i.root v.input.root first.0) in
    let taken : v.input.sensitivity ≡ i.sensitivity = sym (same_sensitivity-true i.sensitivity v.input.sensitivity first.1) in
    let rest = for_inputs-same inputs seen parts.1 in
    λ k. record { root = root k; sensitivity = taken k } ∷ rest k

-- the one that is found passes the test, and what holds of each holds of it
found-holds : (P : KeptPrint → Type 0) (test : KeptPrint → Bool) (ks : List KeptPrint) (k : KeptPrint) → Each P ks → find test ks ≡ Some k → P k × (test k ≡ true)
found-holds P test [] k h e = cc
found-holds P test (q ∷ ks) k h e =
    split (test q)
    (λ s. subst (λ (z : KeptPrint). P z × (test z ≡ true)) (some-is q k (rw s at e)) (h.0, s))
    (λ s. found-holds P test ks k h.1 (rw s at e))

-- ---- the inputs with what is retained of their roots

-- where no root is unknown, these are the inputs that were asked for
seen-all : (case : Case) (pairs : List Pair) (inputs : List Input) → length inputs ≤ length (seen_inputs case pairs inputs) → map (λ (v : Seen). v.input) (seen_inputs case pairs inputs) ≡ inputs
seen-all case pairs [] h = refl
seen-all case pairs (i ∷ more) h = by (part_of case pairs (place case i.root)) (seen-all case pairs more) h
  where
    rest : List Seen
    rest = seen_inputs case pairs more

    by : (o : Option Snapshot) → (length more ≤ length rest → map (λ (v : Seen). v.input) rest ≡ more) → length (i ∷ more) ≤ length (seen_or i o rest) → map (λ (v : Seen). v.input) (seen_or i o rest) ≡ i ∷ more
    by None same h = absurd (omega arith)
    by (Some f) same h = ap (λ xs. i ∷ xs) (same (omega arith))

-- where each root is retained, none is unknown
pub retained-all : (case : Case) (pairs : List Pair) (inputs : List Input) → Each (λ (i : Input). is_some (part_of case pairs (place case i.root)) ≡ true) inputs → length inputs ≤ length (seen_inputs case pairs inputs)
retained-all case pairs [] h = omega arith
retained-all case pairs (i ∷ more) h = by (part_of case pairs (place case i.root)) h.0 (retained-all case pairs more h.1)
  where
    by : (o : Option Snapshot) → is_some o ≡ true → length more ≤ length (seen_inputs case pairs more) → length (i ∷ more) ≤ length (seen_or i o (seen_inputs case pairs more))
    by None e n = cc
    by (Some f) e n = omega (arith, n)

-- ---- the reply

known-by : (s : State) (inputs : List Input) (o : Option KeptPrint) → length inputs ≤ length (seen_inputs s.case s.retained.pairs inputs)
    → (d : List ℕ) × ((fingerprint_or s inputs (seen_inputs s.case s.retained.pairs inputs) o).reply ≡ Is d)
known-by s inputs (Some k) all = (k.digest, refl)
known-by s inputs None all =
    let seen = seen_inputs s.case s.retained.pairs inputs in (
      fingerprint s.case seen,
      split (nat_lt (length seen) (length inputs))
          (λ t. absurd (let less = ltb-true (length seen) (length inputs) t in omega (arith, less, all)))
          (λ t. rw t refl),
    )

-- where each root is retained, the reply is a digest
pub fingerprint-known : (a : Answers) (s : State) (inputs : List Input) → Each (λ (i : Input). is_some (part_of s.case s.retained.pairs (place s.case i.root)) ≡ true) inputs → (d : List ℕ) × ((step a s (CallFingerprint inputs)).reply ≡ Is d)
fingerprint-known a s inputs retained = known-by s inputs (find (λ (k : KeptPrint). is_for_inputs inputs k.seen) s.kept) (retained-all s.case s.retained.pairs inputs retained)

-- what holds of each of a list holds of its last one
each-last : (P : KeptPrint → Type 0) (front : List KeptPrint) (k : KeptPrint) → Each P (front ++ k ∷ []) → P k
each-last P [] k h = h.0
each-last P (x ∷ front) k h = each-last P front k h.1

-- the new fingerprint of a settled state is that of the inputs in the world: once it is kept, all that is known is what a scan gives
new-is-of-world : (s : State) (inputs : List Input) → IsSettled s → IsTrue s → length inputs ≤ length (seen_inputs s.case s.retained.pairs inputs) → fingerprint s.case (seen_inputs s.case s.retained.pairs inputs) ≡ fingerprint_of s.case s.world inputs
new-is-of-world s inputs settled h all =
    let seen = seen_inputs s.case s.retained.pairs inputs in
    let new : KeptPrint = record { seen = seen; digest = fingerprint s.case seen } in
    let scanned = settled-scanned (after_fingerprint s seen) (record { events = settled.events; mark = settled.mark }) (after_fingerprint-sound s inputs h) in
    each-last (λ (k : KeptPrint). k.digest ≡ fingerprint_of s.case s.world (inputs_of k)) _ new scanned.prints ∙ ap (fingerprint_of s.case s.world) (seen-all s.case s.retained.pairs inputs all)

when-is-of-world : (s : State) (inputs : List Input) (d : List ℕ) (missing : Bool) → IsSettled s → IsTrue s → nat_lt (length (seen_inputs s.case s.retained.pairs inputs)) (length inputs) ≡ missing
    → (fingerprint_when s (seen_inputs s.case s.retained.pairs inputs) missing).reply ≡ Is d → d ≡ fingerprint_of s.case s.world inputs
when-is-of-world s inputs d true settled h e r = cc
when-is-of-world s inputs d false settled h e r =
    let all = ltb-false (length (seen_inputs s.case s.retained.pairs inputs)) (length inputs) e in
    let same : d ≡ fingerprint s.case (seen_inputs s.case s.retained.pairs inputs) = cc in
    same ∙ new-is-of-world s inputs settled h all

or-is-of-world : (s : State) (inputs : List Input) (d : List ℕ) (o : Option KeptPrint) → IsSettled s → IsTrue s → find (λ (k : KeptPrint). is_for_inputs inputs k.seen) s.kept ≡ o
    → (fingerprint_or s inputs (seen_inputs s.case s.retained.pairs inputs) o).reply ≡ Is d → d ≡ fingerprint_of s.case s.world inputs
or-is-of-world s inputs d (Some k) settled h e r =
    let scanned = settled-scanned s settled h in
    let found = found-holds (λ (q : KeptPrint). q.digest ≡ fingerprint_of s.case s.world (inputs_of q)) (λ (q : KeptPrint). is_for_inputs inputs q.seen) s.kept k scanned.prints e in
    let same : d ≡ k.digest = cc in
    same ∙ found.0 ∙ ap (fingerprint_of s.case s.world) (for_inputs-same inputs k.seen found.1)
or-is-of-world s inputs d None settled h e r = when-is-of-world s inputs d (nat_lt (length (seen_inputs s.case s.retained.pairs inputs)) (length inputs)) settled h refl r

-- in a settled state the digest that is answered is that of the inputs in the world, kept or new
pub fingerprint-is-of-world : (a : Answers) (s : State) (inputs : List Input) (d : List ℕ) → IsSettled s → IsTrue s → (step a s (CallFingerprint inputs)).reply ≡ Is d → d ≡ fingerprint_of s.case s.world inputs
fingerprint-is-of-world a s inputs d settled h r = or-is-of-world s inputs d (find (λ (k : KeptPrint). is_for_inputs inputs k.seen) s.kept) settled h refl r
