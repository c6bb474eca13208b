-- When two lists of inputs are the same.
use Rattle.std.proofs.Common.{◌≡◌, ◌∙◌, ◌&&◌, ◌||◌, suc, Bool, true, false, List, [], ◌∷◌, length, map, refl, sym, ap, arith}
use Rattle.std.specs.List.{zip, list_all, list_any}
use Rattle.std.specs.Str.{bytes_eq}
use Rattle.std.specs.Cmp.Lexicographic.{pointwise, bytes_decides}
use denote.Enum.Bare.{sameb}
use Rattle.fingerprint_norms.specs.contracts.input.Sensitivity.{the_type}
use Rattle.vfs_model.specs.declared.Case.{Case}
use Rattle.vfs_model.specs.Paths.{Name, Path, is_same_name, is_at_or_above, is_same_place, is_related, place}
use Rattle.vfs_model.specs.State.{is_same_sensitivity, is_for_inputs}
use Rattle.vfs_model.specs.Fingerprint.{Seen}
use Rattle.fingerprint_norms.specs.Meaning.{input_of, seen_of, sensitivity_of}
use Rattle.fingerprint_norms.specs.declared.input.Input.{Input as InputValue}
use Rattle.fingerprint_norms.specs.declared.input.Seen.{Seen as SeenValue}
use Rattle.fingerprint_norms.specs.declared.input.Sensitivity.{Sensitivity as SensitivityValue}
use Rattle.fingerprint_norms.specs.declared.input.Sensitivity.TheVariants as value

-- the two are one input
abbrev pub is_one : InputValue → InputValue → Bool
is_one i j = is_same_place i.root j.root && is_same_sensitivity (sensitivity_of i.sensitivity) (sensitivity_of j.sensitivity)

-- nothing holds beside what does not
and-false : (b : Bool) → (b && false) ≡ false
and-false true = refl
and-false false = refl

-- what holds in the same cases is equal
bool-same : (a b : Bool) → (a ≡ true → b ≡ true) → (b ≡ true → a ≡ true) → a ≡ b
bool-same true b f g = sym (f refl)
bool-same false true f g = g refl
bool-same false false f g = refl

-- two names are the same, whichever comes first
name-turned : (n m : Name) → is_same_name n m ≡ is_same_name m n
name-turned n m = bool-same (is_same_name n m) (is_same_name m n) (λ h. (bytes_decides m n).1 (sym ((bytes_decides n m).0 h))) (λ h. (bytes_decides n m).1 (sym ((bytes_decides m n).0 h)))

-- both of two pairs hold where each first and each second does
both-turned : (n x y : Bool) → (n && (x && y)) ≡ ((n && x) && (n && y))
both-turned true x y = refl
both-turned false x y = refl

-- paths that are spelled the same, name by name, are the same place as they stand
pub same-spelling : (a b : Path) → pointwise bytes_eq a b ≡ is_same_place a b
same-spelling [] [] = refl
same-spelling [] (m ∷ b) = refl
same-spelling (n ∷ a) [] = refl
same-spelling (n ∷ a) (m ∷ b) =
    ap (λ r. is_same_name n m && r) (same-spelling a b)
    ∙ both-turned (is_same_name n m) (is_at_or_above a b) (is_at_or_above b a)
    ∙ ap (λ t. (is_same_name n m && is_at_or_above a b) && (t && is_at_or_above b a)) (name-turned n m)

-- some root is related
pub touched-is : (case : Case) (e : Path) (vs : List SeenValue) → list_any (λ (v : SeenValue). is_related e (place case v.input.root)) vs ≡ list_any (λ (v : Seen). is_related e (place case v.input.root)) (map seen_of vs)
touched-is case e [] = refl
touched-is case e (v ∷ vs) = ap (λ r. is_related e (place case v.input.root) || r) (touched-is case e vs)

-- lists of one length are the same inputs where each is one with the one beside it
pub same-inputs : (is : List InputValue) (vs : List SeenValue) → length is ≡ length vs
    → list_all (λ (p : InputValue × SeenValue). is_one p.0 p.1.input) (zip is vs) ≡ is_for_inputs (map input_of is) (map seen_of vs)
same-inputs [] [] e = refl
same-inputs [] (v ∷ vs) e = absurd (omega (arith, e))
same-inputs (i ∷ is) [] e = absurd (omega (arith, e))
same-inputs (i ∷ is) (v ∷ vs) e = ap (λ r. is_one i v.input && r) (same-inputs is vs (omega (arith, e)))

-- lists of other lengths are other inputs
pub other-inputs : (is : List InputValue) (vs : List SeenValue) → (length is ≡ length vs → ⊥) → is_for_inputs (map input_of is) (map seen_of vs) ≡ false
other-inputs [] [] apart = absurd (apart refl)
other-inputs [] (v ∷ vs) apart = refl
other-inputs (i ∷ is) [] apart = refl
other-inputs (i ∷ is) (v ∷ vs) apart = ap (λ r. is_one i v.input && r) (other-inputs is vs (λ e. apart (ap suc e))) ∙ and-false (is_one i v.input)

-- a derived comparison of sensitivities is the definition's
pub same-sensitivity : (a b : SensitivityValue) → sameb the_type a b ≡ is_same_sensitivity (sensitivity_of a) (sensitivity_of b)
same-sensitivity value.Absolute value.Absolute = refl
same-sensitivity value.Absolute value.Relative = refl
same-sensitivity value.Absolute value.NameOnly = refl
same-sensitivity value.Absolute value.Ignored = refl
same-sensitivity value.Relative value.Absolute = refl
same-sensitivity value.Relative value.Relative = refl
same-sensitivity value.Relative value.NameOnly = refl
same-sensitivity value.Relative value.Ignored = refl
same-sensitivity value.NameOnly value.Absolute = refl
same-sensitivity value.NameOnly value.Relative = refl
same-sensitivity value.NameOnly value.NameOnly = refl
same-sensitivity value.NameOnly value.Ignored = refl
same-sensitivity value.Ignored value.Absolute = refl
same-sensitivity value.Ignored value.Relative = refl
same-sensitivity value.Ignored value.NameOnly = refl
same-sensitivity value.Ignored value.Ignored = refl
