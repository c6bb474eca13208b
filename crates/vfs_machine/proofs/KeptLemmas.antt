-- What a machine answers when it is asked for a fingerprint.
use Rattle.std.proofs.Common.{◌≡◌, ◌∙◌, ℕ, List, find, Option, Some, None, option_map, [], false, sym, ap, subst}
use Rattle.vfs_model.specs.Paths.{Path}
use Rattle.vfs_model.specs.Fingerprint.{Input}
use Rattle.vfs_model.specs.State.{State, KeptPrint, Answers, Reply, CallFingerprint, Is, fingerprint_or, is_for_inputs, seen_inputs, step}
use Rattle.vfs_model.specs.declared.Case.{Case}
use Rattle.vfs_model.specs.World.{World, IsWorld}
use Rattle.vfs_model.specs.Sound.{IsSound, fingerprint_of}
use Rattle.vfs_model.specs.Steps.{IsStepOf, IsOutcome}
use Rattle.vfs_model.specs.Stands.{Parts, Stands, HasSound}
use Rattle.vfs_laws.proofs.TruthLemmas.{stands-told, stands-settled, states-sound}
use Rattle.vfs_laws.proofs.FingerprintLemmas.{fingerprint-is-of-world}
use Rattle.vfs_machine.proofs.ToldLemmas.{not_asked}
use Rattle.vfs_laws.proofs.NameLemmas.{some-is}

-- the fingerprint that is kept for this very list is the answer, and nothing changes
pub kept-stands : {V : Type 0} (at : V → Path → ℕ) (count : V → ℕ) (m : Parts V) (s : State) (inputs : List Input) (digest : List ℕ)
    → option_map (λ (k : KeptPrint). k.digest) (find (λ (k : KeptPrint). is_for_inputs inputs k.seen) m.kept) ≡ Some digest → Stands at count m s
    → (Is digest ≡ (fingerprint_or s inputs (seen_inputs s.case s.retained.pairs inputs) (find (λ (k : KeptPrint). is_for_inputs inputs k.seen) s.kept)).reply)
    × Stands at count m (fingerprint_or s inputs (seen_inputs s.case s.retained.pairs inputs) (find (λ (k : KeptPrint). is_for_inputs inputs k.seen) s.kept)).state
kept-stands at count m s inputs digest is st =
    by (find (λ (k : KeptPrint). is_for_inputs inputs k.seen) s.kept)
    (ap (λ ks. option_map (λ (k : KeptPrint). k.digest) (find (λ (k : KeptPrint). is_for_inputs inputs k.seen) ks)) st.kept ∙ is)
  where
    by : (o : Option KeptPrint) → option_map (λ (k : KeptPrint). k.digest) o ≡ Some digest
        → (Is digest ≡ (fingerprint_or s inputs (seen_inputs s.case s.retained.pairs inputs) o).reply)
        × Stands at count m (fingerprint_or s inputs (seen_inputs s.case s.retained.pairs inputs) o).state
    by None e = cc
    by (Some k) e = (ap Is (sym (some-is k.digest digest e)), st)

-- where nothing waits, a digest that is answered is the fingerprint of what the tree tells
pub digest-told : {V : Type 0} (at : V → Path → ℕ) (count : V → ℕ) (old new : Parts V) (w : World) (inputs : List Input) (r : Reply) (digest : List ℕ) → old.content ≡ Some w → IsWorld old.case w
    → old.pending.events ≡ [] → old.pending.mark ≡ false → HasSound at count old → ((a : Answers) → IsStepOf at count old new a (CallFingerprint inputs) r) → r ≡ Is digest → digest ≡ fingerprint_of old.case w inputs
digest-told at count old new w inputs r digest told whole events mark h stepped is =
    subst (λ (case : Case). digest ≡ fingerprint_of case w inputs) stands.case
    (fingerprint-is-of-world not_asked s inputs digest (stands-settled at count old s events mark stands) sound.known (sym answer.0))
  where
    s : State
    s = record h.state { world = w }

    stands : Stands at count old s
    stands = stands-told at count old w h.state told h.stands

    sound : IsSound s
    sound = states-sound at count old w s told stands (subst (λ case. IsWorld case w) (sym stands.case) whole) h

    answer : (Is digest ≡ (step not_asked s (CallFingerprint inputs)).reply) × Stands at count new (step not_asked s (CallFingerprint inputs)).state
    answer = subst (λ (t : Reply). IsOutcome t s (step not_asked s (CallFingerprint inputs)) (Stands at count new)) is (stepped not_asked s stands)
