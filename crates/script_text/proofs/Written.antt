-- What is written for words is read as those words.
use Rattle.std.proofs.Common.{◌≡◌, ℕ, ◌+◌, ◌-◌, ◌*◌, ◌/◌, ◌%◌, ◌<◌, ◌≤◌, Bool, true, false, cond, not, eqb, ltb, leb, ◌&&◌, ◌||◌, List, [], ◌∷◌, ◌++◌, length, map, Some, Ok, refl, ap, ◌∙◌, arith, inl, inr, ◌⊎◌, lit<}
use Rattle.std.specs.List.{slice_split, list_any, All, AllByRecursion}
use Rattle.std.proofs.Math.Dec.{eqb-suc-zero}
use Rattle.std.proofs.lemmas.Bool.{ltb-true, ltb-false, ne_eqb, eqb-true, eqb-false, leb-true, leb-false, le-leb, lt-leb}
use Rattle.std.proofs.lemmas.List.{append-nil}
use Rattle.std.proofs.lemmas.List.Elements.{All-from_recursion}
use Rattle.std.proofs.lemmas.List.Splits.{slice_split_at, slice_split_none}
use Rattle.vfs_path.specs.Texts.{is_empty}
use Rattle.script_text.specs.Words.{hex_of, hex_pair, named_before, value_of, values_of, words_of}
use Rattle.script_text.specs.Spelling.{is_plain, hex_digit, spelled_byte, spelled}
use Rattle.script_text.specs.Writing.{tail_text}
use Rattle.script_text.proofs.PlainUnits.{plain_unit}
use Rattle.script_text.proofs.Digits.{both}

-- ---- digits

digit_by : (n : ℕ) (b : Bool) → n < 16 → ltb n 10 ≡ b → hex_of (cond b (n + 48) (n + 87)) ≡ Some n
digit_by n true lt e =
    let small = ltb-true n 10 e in
    let back : n + 48 - 48 ≡ n = omega arith in
    rw (le-leb 48 (n + 48) (omega arith), le-leb (n + 48) 57 (omega arith), back) refl
digit_by n false lt e =
    let big = ltb-false n 10 e in
    let back : n + 87 - 87 ≡ n = omega arith in
    let above : leb (n + 87) 57 ≡ false = lt-leb (n + 87) 57 (omega arith) in
    rw (le-leb 48 (n + 87) (omega arith), above, le-leb 97 (n + 87) (omega arith), le-leb (n + 87) 102 (omega arith), back) refl

digit_again : (n : ℕ) → n < 16 → hex_of (hex_digit n) ≡ Some n
digit_again n lt = digit_by n (ltb n 10) lt refl

pair_again : (b : ℕ) → b ≤ 255 → hex_pair (hex_of (hex_digit (b / 16))) (hex_of (hex_digit (b % 16))) ≡ Some b
pair_again b le =
    let high : b / 16 < 16 = omega arith in
    let low : b % 16 < 16 = omega arith in
    let whole : b / 16 * 16 + b % 16 ≡ b = omega arith in
    rw (digit_again (b / 16) high, digit_again (b % 16) low, whole) refl

-- ---- bytes

-- what a byte that stands for itself is not
record PlainIs (b : ℕ) : Type 0 where
  above : 32 < b
  no_percent : b ≡ 37 → ⊥

not_true : (b : Bool) → not b ≡ true → b ≡ false
not_true true e = absurd cc
not_true false e = refl

plain_is : (b : ℕ) → is_plain b ≡ true → PlainIs b
plain_is b e =
    let p = both (leb 33 b && (leb b 126 || ltb 255 b)) (not (eqb b 37)) e in
    let q = both (leb 33 b) (leb b 126 || ltb 255 b) p.0 in
    record { above = let low = leb-true 33 b q.0 in omega arith; no_percent = eqb-false b 37 (not_true (eqb b 37) p.1) }

odd_by : (low small big percent : Bool) → (low && (small || big) && not percent) ≡ false → (low ≡ false) ⊎ (big ≡ false) ⊎ (percent ≡ true)
odd_by false small big percent e = inl refl
odd_by true small false percent e = inr (inl refl)
odd_by true small true true e = inr (inr refl)
odd_by true true true false e = absurd cc
odd_by true false true false e = absurd cc

-- what has to be escaped is a byte
odd_is : (b : ℕ) → is_plain b ≡ false → b ≤ 255
odd_is b e =
    elim (odd_by (leb 33 b) (leb b 126) (ltb 255 b) (eqb b 37) e) [
      | inl low ↦ let lt = leb-false 33 b low in omega arith
      | inr (inl big) ↦ let le = ltb-false 255 b big in omega arith
      | inr (inr same) ↦ let is = eqb-true b 37 same in omega arith
    ]

escape_step : (h l : ℕ) (rest : List ℕ) → value_of (37 ∷ h ∷ l ∷ rest) ≡ named_before (hex_pair (hex_of h) (hex_of l)) (value_of rest)
unfolding value_of
escape_step h l rest = refl

byte_again : (b : ℕ) (v : Bool) (rest bs : List ℕ) → is_plain b ≡ v → value_of rest ≡ Ok bs → value_of (cond v (b ∷ []) (37 ∷ hex_digit (b / 16) ∷ hex_digit (b % 16) ∷ []) ++ rest) ≡ Ok (b ∷ bs)
byte_again b true rest bs e read = plain_unit (b ∷ rest) b rest refl (plain_is b e).no_percent ∙ rw read refl
byte_again b false rest bs e read = escape_step (hex_digit (b / 16)) (hex_digit (b % 16)) rest ∙ rw (pair_again b (odd_is b e), read) refl

value_again : (v : List ℕ) → value_of (spelled v) ≡ Ok v
unfolding value_of
value_again [] = refl
value_again (b ∷ bs) = byte_again b (is_plain b) (spelled bs) bs refl (value_again bs)

-- ---- what no written word holds

-- each number is above the low one
abbrev pub Above : ℕ → List ℕ → Type 0
Above low xs = AllByRecursion (λ x. low < x) xs

pub above_append : (low : ℕ) (xs ys : List ℕ) → Above low xs → Above low ys → Above low (xs ++ ys)
above_append low [] ys h k = k
above_append low (x ∷ xs) ys h k = (h.0, above_append low xs ys h.1 k)

digit_above : (n : ℕ) (b : Bool) → 32 < cond b (n + 48) (n + 87)
digit_above n true = omega arith
digit_above n false = omega arith

byte_above : (b : ℕ) (v : Bool) → is_plain b ≡ v → Above 32 (cond v (b ∷ []) (37 ∷ hex_digit (b / 16) ∷ hex_digit (b % 16) ∷ []))
byte_above b true e = ((plain_is b e).above, tt)
byte_above b false e = (lit< tt, (digit_above (b / 16) (ltb (b / 16) 10), (digit_above (b % 16) (ltb (b % 16) 10), tt)))

-- the bytes of a written word are above the space
pub spelled_above : (v : List ℕ) → Above 32 (spelled v)
spelled_above [] = tt
spelled_above (b ∷ bs) = above_append 32 (spelled_byte b) (spelled bs) (byte_above b (is_plain b) refl) (spelled_above bs)

apart_from : (sep low : ℕ) (xs : List ℕ) → sep ≤ low → Above low xs → AllByRecursion (λ x. eqb x sep ≡ false) xs
apart_from sep low [] le h = tt
apart_from sep low (x ∷ xs) le h = (let lt = h.0 in ne_eqb x sep (λ e. absurd (omega arith)), apart_from sep low xs le h.1)

pub none_in : (sep low : ℕ) (xs : List ℕ) → sep ≤ low → Above low xs → All (λ x. eqb x sep ≡ false) xs
none_in sep low xs le h = All-from_recursion (λ x. eqb x sep ≡ false) xs (apart_from sep low xs le h)

-- ---- the words of a line

parts_again : (first : List ℕ) (more : List (List ℕ)) → slice_split (λ b. eqb b 32) (spelled first ++ tail_text more) ≡ map spelled (first ∷ more)
parts_again first [] = rw append-nil (slice_split_none (λ b. eqb b 32) (spelled first) (none_in 32 32 (spelled first) (omega arith) (spelled_above first)))
parts_again first (w ∷ more) =
    slice_split_at (λ b. eqb b 32) (spelled first) 32 (spelled w ++ tail_text more) (none_in 32 32 (spelled first) (omega arith) (spelled_above first)) refl
    ∙ ap (λ (x : List (List ℕ)). spelled first ∷ x) (parts_again w more)

-- no word is empty
abbrev pub AllFull : List (List ℕ) → Type 0
AllFull words = AllByRecursion (λ w. is_empty w ≡ false) words

full_byte : (v : Bool) (b : ℕ) (xs ys rest : List ℕ) → is_empty (cond v (b ∷ xs) (37 ∷ ys) ++ rest) ≡ false
full_byte true b xs ys rest = eqb-suc-zero (length (xs ++ rest))
full_byte false b xs ys rest = eqb-suc-zero (length (ys ++ rest))

full_again : (w : List ℕ) → is_empty w ≡ false → is_empty (spelled w) ≡ false
full_again [] e = absurd cc
full_again (b ∷ bs) e = full_byte (is_plain b) b [] (hex_digit (b / 16) ∷ hex_digit (b % 16) ∷ []) (spelled bs)

no_empty : (words : List (List ℕ)) → AllFull words → list_any is_empty (map spelled words) ≡ false
no_empty [] h = refl
no_empty (w ∷ words) h = rw (full_again w h.0) (no_empty words h.1)

values_again : (words : List (List ℕ)) → values_of (map spelled words) ≡ Ok words
unfolding values_of
values_again [] = refl
values_again (w ∷ words) = rw (value_again w, values_again words) refl

pub words_again : (first : List ℕ) (more : List (List ℕ)) → AllFull (first ∷ more) → words_of (spelled first ++ tail_text more) ≡ Ok (first ∷ more)
unfolding words_of
words_again first more h = rw (parts_again first more, no_empty (first ∷ more) h) (values_again (first ∷ more))
