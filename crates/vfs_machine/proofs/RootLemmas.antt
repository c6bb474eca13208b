-- What is seen at roots, up to the first that is not retained.
use Rattle.std.proofs.Common.{◌≡◌, ◌∙◌, ℕ, zero, suc, ◌+◌, ◌<◌, ◌≤◌, Bool, true, false, not, List, [], ◌∷◌, ◌++◌, length, map, drop, get_or, cond, nat_lt, if◌then◌else◌, Option, Some, None, is_some, option_map, refl, sym, ap, arith, add-one, add-zero, zero-add, append_assoc, append-nil, drop-cons}
use Rattle.std.specs.List.{position_from}
use Rattle.std.proofs.lemmas.Bool.{ltb-true, ltb-false, lt-ltb}
use Rattle.std.proofs.lemmas.List.{map_push, drop_all}
use Rattle.vfs_model.specs.declared.Case.{Case}
use Rattle.vfs_model.specs.Paths.{place}
use Rattle.vfs_model.specs.Snapshot.{Snapshot}
use Rattle.vfs_model.specs.Fingerprint.{Seen}
use Rattle.vfs_model.specs.Retained.{Pair, part_of}
use Rattle.vfs_model.specs.State.{seen_inputs, seen_or}
use Rattle.vfs_laws.proofs.Splits.{split}
use Rattle.snapshot_tree.specs.Meaning.{meaning_of}
use Rattle.fingerprint_norms.specs.Meaning.{input_of, seen_of}
use Rattle.fingerprint_norms.specs.declared.input.Input.{Input as InputValue}
use Rattle.fingerprint_norms.specs.declared.input.Seen.{Seen as SeenValue}
use Rattle.vfs_machine.specs.Roots.{unknown_of}

-- ---- the first root that is not retained

-- one more in front of both
unknown-suc : (n a b : ℕ) → option_map (λ k. n + 1 + k) (unknown_of a b) ≡ option_map (λ k. n + k) (unknown_of (suc a) (suc b))
unknown-suc n a b =
    split (nat_lt a b)
    (λ t. let less = ltb-true a b t in rw (t, lt-ltb (suc a) (suc b) (omega (arith, less))) (ap Some (omega arith)))
    (λ f. split (nat_lt (suc a) (suc b))
    (λ t. let less = ltb-true (suc a) (suc b) t in let more = ltb-false a b f in absurd (omega (arith, less, more)))
    (λ g. rw (f, g) refl))

-- the first root that is not retained, counted from n, stands behind those that are seen
pub unknown-from : (case : Case) (pairs : List Pair) (n : ℕ) (is : List InputValue)
    → position_from (λ (i : InputValue). not (is_some (part_of case pairs (place case i.root)))) n is
    ≡ option_map (λ k. n + k) (unknown_of (length (seen_inputs case pairs (map input_of is))) (length is))
unknown-from case pairs n [] = refl
unknown-from case pairs n (i ∷ is) = by (part_of case pairs (place case i.root)) (unknown-from case pairs (n + 1) is)
  where
    test : InputValue → Bool
    test j = not (is_some (part_of case pairs (place case j.root)))

    by : (o : Option Snapshot) → position_from test (n + 1) is ≡ option_map (λ k. n + 1 + k) (unknown_of (length (seen_inputs case pairs (map input_of is))) (length is))
        → cond (not (is_some o)) (Some n) (position_from test (n + 1) is)
        ≡ option_map (λ k. n + k) (unknown_of (length (seen_or (input_of i) o (seen_inputs case pairs (map input_of is)))) (suc (length is)))
    by None rest = rw (lt-ltb 0 (suc (length is)) (omega arith)) (ap Some (sym (add-zero n)))
    by (Some s) rest = rest ∙ unknown-suc n (length (seen_inputs case pairs (map input_of is))) (length is)

-- ---- the roots one after the other

-- what is seen from the input with the number on
seen-at : (case : Case) (pairs : List Pair) (is : List InputValue) (n : ℕ) (i : InputValue) → n < length is → i ≡ get_or is n i
    → seen_inputs case pairs (map input_of (drop n is)) ≡ seen_or (input_of i) (part_of case pairs (place case i.root)) (seen_inputs case pairs (map input_of (drop (n + 1) is)))
seen-at case pairs is n i within e =
    ap (λ js. seen_inputs case pairs (map input_of js)) (drop-cons is n i within ∙ (λ t. sym e t ∷ drop (sym (add-one n) t) is))

-- one more root was seen
pub root-seen : (case : Case) (pairs : List Pair) (is : List InputValue) (n : ℕ) (i : InputValue) (seen : List SeenValue) (v : SeenValue) (whole : List Seen) → n < length is → i ≡ get_or is n i
    → v.input ≡ i → Some (meaning_of v.snapshot) ≡ part_of case pairs (place case i.root)
    → map seen_of seen ++ seen_inputs case pairs (map input_of (drop n is)) ≡ whole
    → map seen_of (seen ++ v ∷ []) ++ seen_inputs case pairs (map input_of (drop (n + 1) is)) ≡ whole
root-seen case pairs is n i seen v whole within e same part before =
    let rest = seen_inputs case pairs (map input_of (drop (n + 1) is)) in
    let here : seen_inputs case pairs (map input_of (drop n is)) ≡ seen_of v ∷ rest =
    seen-at case pairs is n i within e ∙ (λ t. seen_or (input_of (sym same t)) (sym part t) rest) in
    ap (λ l. l ++ rest) (map_push seen_of seen v)
    ∙ append_assoc (map seen_of seen) (seen_of v ∷ []) rest
    ∙ ap (λ l. map seen_of seen ++ l) (sym here)
    ∙ before

-- a root is not retained: that is all that is seen
pub roots-stop : (case : Case) (pairs : List Pair) (is : List InputValue) (n : ℕ) (i : InputValue) (seen : List SeenValue) (whole : List Seen) → n < length is → i ≡ get_or is n i
    → None ≡ part_of case pairs (place case i.root)
    → map seen_of seen ++ seen_inputs case pairs (map input_of (drop n is)) ≡ whole → map seen_of seen ≡ whole
roots-stop case pairs is n i seen whole within e none before =
    sym (append-nil (map seen_of seen))
    ∙ ap (λ l. map seen_of seen ++ l) (sym (seen-at case pairs is n i within e ∙ ap (λ o. seen_or (input_of i) o (seen_inputs case pairs (map input_of (drop (n + 1) is)))) (sym none)))
    ∙ before

-- no root is left
pub roots-end : (case : Case) (pairs : List Pair) (is : List InputValue) (n : ℕ) (seen : List SeenValue) (whole : List Seen) → length is ≤ n
    → map seen_of seen ++ seen_inputs case pairs (map input_of (drop n is)) ≡ whole → map seen_of seen ≡ whole
roots-end case pairs is n seen whole past before =
    sym (append-nil (map seen_of seen))
    ∙ ap (λ js. map seen_of seen ++ seen_inputs case pairs (map input_of js)) (sym (drop_all n is past))
    ∙ before

-- the first root that is not retained is the one behind those that are seen
pub unknown-is : (case : Case) (pairs : List Pair) (is : List InputValue)
    → position_from (λ (i : InputValue). not (is_some (part_of case pairs (place case i.root)))) 0 is
    ≡ unknown_of (length (seen_inputs case pairs (map input_of is))) (length is)
unknown-is case pairs is = unknown-from case pairs 0 is ∙ same (unknown_of (length (seen_inputs case pairs (map input_of is))) (length is))
  where
    same : (o : Option ℕ) → option_map (λ k. 0 + k) o ≡ o
    same None = refl
    same (Some k) = ap Some (zero-add k)
