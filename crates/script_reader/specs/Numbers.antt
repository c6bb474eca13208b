-- Words as numbers.
use Rattle.std.specs.Prelude.{ℕ, ◌+◌, ◌-◌, ◌*◌, List, [], ◌∷◌, length, Option, Some, None, nat_lt, nat_le, ◌==◌, ◌&&◌, ◌||◌, slice_index, Bool, if◌then◌else◌}

-- the value of digits behind a front that is worth n; numbers of a script are below 2 ^ 32
abbrev pub digits_after : ℕ → List ℕ → Option ℕ
digits_after n [] = Some n
digits_after n (c ∷ cs) = if nat_le 48 c && nat_le c 57 && nat_le (n * 10 + (c - 48)) 4294967295 then digits_after (n * 10 + (c - 48)) cs else None

-- a zero that other bytes follow
abbrev pub has_leading_zero : List ℕ → Bool
has_leading_zero word = slice_index word 0 == 48 && nat_lt 1 (length word)

-- `0`, or a digit from 1 to 9 followed by digits
abbrev pub number_of : List ℕ → Option ℕ
number_of word = if length word == 0 || has_leading_zero word then None else digits_after 0 word
