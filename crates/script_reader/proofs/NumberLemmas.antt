-- Numbers are read as they are written.
use Rattle.std.proofs.Common.{◌≡◌, ℕ, ◌+◌, ◌-◌, ◌*◌, ◌^◌, ◌<◌, ◌≤◌, Bool, true, false, cond, eqb, ltb, leb, ◌&&◌, ◌||◌, List, [], ◌∷◌, length, get_or, Option, Some, None, refl, sym, ap, ◌∙◌, arith, inl, inr, ◌⊎◌}
use Rattle.std.specs.Fmt.{decimal}
use Rattle.std.specs.Str.{all_ascii_digits}
use Rattle.std.proofs.lemmas.Fmt.{decimal-digits_value, digits_decimal, digits_value-decimal, decimal_nonempty, first_decimal, decimal_digit}
use Rattle.std.proofs.lemmas.Bool.{cases_lt, leb-true, le-leb, ltb-false, eqb-false, ne_eqb}
use Rattle.script_reader.specs.Numbers.{digits_after, number_of, has_leading_zero}
use Rattle.script_text.proofs.Digits.{read_on, own, both}

record IsRead (n : ℕ) (cs : List ℕ) (m : ℕ) : Type 0 where
  digits : all_ascii_digits cs ≡ true
  value : read_on n cs ≡ m
  small : n ≤ 4294967295 → m ≤ 4294967295

-- one digit
step : (low high fits : Bool) (o : Option ℕ) (m : ℕ) → cond (low && high && fits) o None ≡ Some m → (low ≡ true) × (high ≡ true) × (fits ≡ true) × (o ≡ Some m)
step true true true o m e = (refl, refl, refl, e)
step true true false o m e = absurd cc
step true false fits o m e = absurd cc
step false high fits o m e = absurd cc

after_is : (n : ℕ) (cs : List ℕ) (m : ℕ) → digits_after n cs ≡ Some m → IsRead n cs m
after_is n [] m e = let same : n ≡ m = cc in record { digits = refl; value = same; small = λ h. omega arith }
after_is n (c ∷ cs) m e =
    let s = step (leb 48 c) (leb c 57) (leb (n * 10 + (c - 48)) 4294967295) (digits_after (n * 10 + (c - 48)) cs) m e in
    let r = after_is (n * 10 + (c - 48)) cs m s.3 in
    let swap : 10 * n + (c - 48) ≡ n * 10 + (c - 48) = omega arith in
    record { digits = rw (s.0, s.1) r.digits; value = rw swap r.value; small = λ h. r.small (leb-true _ _ s.2) }

not_below : (n : ℕ) (cs : List ℕ) → n ≤ read_on n cs
not_below n [] = omega arith
not_below n (c ∷ cs) = omega (arith, not_below (10 * n + (c - 48)) cs)

after_back : (n : ℕ) (cs : List ℕ) → all_ascii_digits cs ≡ true → read_on n cs ≤ 4294967295 → digits_after n cs ≡ Some (read_on n cs)
after_back n [] d le = refl
after_back n (c ∷ cs) d le =
    let b = both _ (all_ascii_digits cs) d in
    let r = both (leb 48 c) (leb c 57) b.0 in
    let swap : n * 10 + (c - 48) ≡ 10 * n + (c - 48) = omega arith in
    let fits : leb (10 * n + (c - 48)) 4294967295 ≡ true = le-leb _ _ (omega (arith, not_below (10 * n + (c - 48)) cs)) in
    rw (swap, r.0, r.1, fits) (after_back (10 * n + (c - 48)) cs b.1 le)

record HasDigits (word : List ℕ) (n : ℕ) : Type 0 where
  digits : all_ascii_digits word ≡ true
  some : 0 < length word
  plain : get_or word 0 0 ≡ 48 → length word ≡ 1
  value : read_on 0 word ≡ n
  small : n < 2 ^ 32

open_number : (empty lead : Bool) (o : Option ℕ) (n : ℕ) → cond (empty || lead) None o ≡ Some n → (empty ≡ false) × (lead ≡ false) × (o ≡ Some n)
open_number true lead o n e = absurd cc
open_number false true o n e = absurd cc
open_number false false o n e = (refl, refl, e)

lead_is : (zeros long : Bool) → (zeros && long) ≡ false → zeros ≡ true → long ≡ false
lead_is true long e h = e
lead_is false long e h = absurd cc

number_has : (word : List ℕ) (n : ℕ) → number_of word ≡ Some n → HasDigits word n
number_has word n e =
    let o = open_number (eqb (length word) 0) (has_leading_zero word) (digits_after 0 word) n e in
    let r = after_is 0 word n o.2 in
    record {
      digits = r.digits;
      some = let ne = eqb-false (length word) 0 o.0 in omega arith;
      plain = λ z. let long = lead_is (eqb (get_or word 0 0) 48) (ltb 1 (length word)) o.1 (rw z refl) in let le = ltb-false _ _ long in let ne = eqb-false (length word) 0 o.0 in omega arith;
      value = r.value;
      small = omega (arith, r.small (omega arith));
    }

pub decimal_of_number : (word : List ℕ) (n : ℕ) → number_of word ≡ Some n → (word ≡ decimal n) × (n < 2 ^ 32)
decimal_of_number word n e =
    let h = number_has word n e in
    let back : decimal (read_on 0 word) ≡ word = decimal-digits_value own word h.digits h.some h.plain (let v = h.value in let s = h.small in omega arith) in
    (sym back ∙ ap decimal h.value, h.small)

not_both : (a b : Bool) → (a ≡ false) ⊎ (b ≡ false) → (a && b) ≡ false
not_both true b (inl e) = absurd cc
not_both true b (inr e) = e
not_both false b h = refl

no_lead : (n : ℕ) → n < 2 ^ 32 → has_leading_zero (decimal n) ≡ false
no_lead n lt =
    elim (cases_lt n 10) [
      | inl one ↦ not_both (eqb (get_or (decimal n) 0 0) 48) (ltb 1 (length (decimal n))) (inr (rw (decimal_digit n one) refl))
      | inr more ↦ let first = first_decimal n (omega arith) (omega arith) in not_both (eqb (get_or (decimal n) 0 0) 48) (ltb 1 (length (decimal n))) (inl (ne_eqb (get_or (decimal n) 0 0) 48 (λ e. absurd (omega arith))))
    ]

pub number_of_decimal : (n : ℕ) → n < 2 ^ 32 → number_of (decimal n) ≡ Some n
number_of_decimal n lt =
    let digits = digits_decimal own n (omega arith) in
    let value : read_on 0 (decimal n) ≡ n = digits_value-decimal own n (omega arith) in
    let some = decimal_nonempty n (omega arith) in
    let not_empty : eqb (length (decimal n)) 0 ≡ false = ne_eqb (length (decimal n)) 0 (λ e. absurd (omega arith)) in
    let read : digits_after 0 (decimal n) ≡ Some (read_on 0 (decimal n)) = after_back 0 (decimal n) digits (omega arith) in
    rw (not_empty, no_lead n lt) (read ∙ ap (λ (m : ℕ). Some m) value)
