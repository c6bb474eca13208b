-- How values are written as words, with no byte in them that is a space, a control character or past ASCII.
use Rattle.std.specs.Prelude.{ℕ, ◌+◌, ◌/◌, ◌%◌, List, [], ◌∷◌, Bool, not, nat_le, nat_lt, ◌==◌, ◌&&◌, ◌||◌, if◌then◌else◌}
use Rattle.std.specs.List.{flat_map}

-- the byte stands for itself: 0x21 to 0x7e other than `%` (and what is no byte, so that laws about lists of numbers need not say that these are bytes)
abbrev pub is_plain : ℕ → Bool
is_plain b = nat_le 33 b && (nat_le b 126 || nat_lt 255 b) && not (b == 37)

-- the digit of a number below 16, in lower case
abbrev pub hex_digit : ℕ → ℕ
hex_digit n = if nat_lt n 10 then n + 48 else n + 87

-- the byte itself, or `%` and its two digits
abbrev pub spelled_byte : ℕ → List ℕ
spelled_byte b = if is_plain b then b ∷ [] else 37 ∷ hex_digit (b / 16) ∷ hex_digit (b % 16) ∷ []

-- the bytes, one after the other
abbrev pub spelled : List ℕ → List ℕ
spelled bytes = flat_map spelled_byte bytes
