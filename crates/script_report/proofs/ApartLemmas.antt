-- Texts in which a byte does not stand: digits are 48 and up, so that no lower byte stands among them.
use Rattle.std.proofs.Common.{◌≡◌, ℕ, zero, suc, ◌+◌, ◌/◌, ◌%◌, ◌<◌, ◌≤◌, Bool, true, false, cond, not, eqb, ltb, List, [], ◌∷◌, ◌++◌, get_or, refl, arith, lit≤}
use Rattle.std.specs.List.{list_all, AllByRecursion as Each}
use Rattle.std.specs.Fmt.{decimal, digits, digits_onto, digit_glyph}
use Rattle.std.proofs.lemmas.Bool.{ne_eqb}
use Rattle.hex.specs.Hex.{encode_with, encode_lower, lower_digits}
use Rattle.script_text.proofs.Digits.{both}

-- the byte does not stand in the text
abbrev pub Apart : ℕ → List ℕ → Type 0
Apart sep text = Each (λ b. eqb b sep ≡ false) text

pub apart_append : (sep : ℕ) (xs ys : List ℕ) → Apart sep xs → Apart sep ys → Apart sep (xs ++ ys)
apart_append sep [] ys h k = k
apart_append sep (x ∷ xs) ys h k = (h.0, apart_append sep xs ys h.1 k)

not_true : (b : Bool) → not b ≡ true → b ≡ false
not_true true e = absurd cc
not_true false e = refl

-- a text that is tested byte by byte
pub tested : (sep : ℕ) (text : List ℕ) → list_all (λ b. not (eqb b sep)) text ≡ true → Apart sep text
tested sep [] e = tt
tested sep (b ∷ text) e =
    let both_hold = both (not (eqb b sep)) (list_all (λ c. not (eqb c sep)) text) e in
    (not_true (eqb b sep) both_hold.0, tested sep text both_hold.1)

-- ---- digits

high_apart : (sep b : ℕ) → sep < 48 → 48 ≤ b → eqb b sep ≡ false
high_apart sep b low high = ne_eqb b sep (λ e. absurd (omega arith))

glyph_high : (one : Bool) (d : ℕ) → 48 ≤ cond one (48 + d) (87 + d)
glyph_high true d = omega arith
glyph_high false d = omega arith

pick_apart : (sep : ℕ) (b : Bool) (xs ys : List ℕ) → Apart sep xs → Apart sep ys → Apart sep (cond b xs ys)
pick_apart sep true xs ys h k = h
pick_apart sep false xs ys h k = k

onto_apart : (sep k n : ℕ) (acc : List ℕ) → sep < 48 → Apart sep acc → Apart sep (digits_onto k 10 false n acc)
onto_apart sep zero n acc low h = h
onto_apart sep (suc k) n acc low h =
    let more : Apart sep (digit_glyph false (n % 10) ∷ acc) = (high_apart sep (digit_glyph false (n % 10)) low (glyph_high (ltb (n % 10) 10) (n % 10)), h) in
    pick_apart sep (eqb (n / 10) 0) (digit_glyph false (n % 10) ∷ acc) (digits_onto k 10 false (n / 10) (digit_glyph false (n % 10) ∷ acc)) more (onto_apart sep k (n / 10) (digit_glyph false (n % 10) ∷ acc) low more)

pub number_apart : (sep n : ℕ) → sep < 48 → Apart sep (decimal n)
unfolding digits
number_apart sep n low = onto_apart sep 64 n [] low tt

-- ---- hexadecimal digits

all_high : (sep : ℕ) (table : List ℕ) → sep < 48 → Each (λ b. 48 ≤ b) table → Apart sep table
all_high sep [] low h = tt
all_high sep (b ∷ table) low h = (high_apart sep b low h.0, all_high sep table low h.1)

table_high : Each (λ b. 48 ≤ b) lower_digits
table_high =
    (lit≤ tt, (lit≤ tt, (lit≤ tt, (lit≤ tt, (lit≤ tt, (lit≤ tt, (lit≤ tt, (lit≤ tt, (lit≤ tt, (lit≤ tt, (lit≤ tt, (lit≤ tt, (lit≤ tt, (lit≤ tt, (lit≤ tt, (lit≤ tt, tt))))))))))))))))

apart_at : (sep : ℕ) (text : List ℕ) (i : ℕ) → eqb 0 sep ≡ false → Apart sep text → eqb (get_or text i 0) sep ≡ false
apart_at sep [] i past h = past
apart_at sep (b ∷ text) zero past h = h.0
apart_at sep (b ∷ text) (suc i) past h = apart_at sep text i past h.1

pub hex_apart : (sep : ℕ) (bytes : List ℕ) → 0 < sep → sep < 48 → Apart sep (encode_lower bytes)
unfolding encode_with
hex_apart sep [] some low = tt
hex_apart sep (b ∷ bytes) some low =
    let past : eqb 0 sep ≡ false = ne_eqb 0 sep (λ e. absurd (omega arith)) in
    let table = all_high sep lower_digits low table_high in
    (apart_at sep lower_digits (b / 16) past table, (apart_at sep lower_digits (b % 16) past table, hex_apart sep bytes some low))
