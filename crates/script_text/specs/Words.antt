-- Lines and words: how a line is cut into words, and what each word stands for.
use Rattle.std.specs.Prelude.{ℕ, ◌+◌, ◌-◌, ◌*◌, List, [], ◌∷◌, Bool, true, Option, Some, None, Result, Ok, Err, nat_le, ◌==◌, ◌&&◌, if◌then◌else◌}
use Rattle.std.specs.List.{slice_split, list_any}
use Rattle.vfs_path.specs.Texts.{is_empty}
use Rattle.script_text.specs.declared.cause.Cause.{Cause}
use Rattle.script_text.specs.declared.cause.Cause.TheVariants as causes
use Rattle.script_text.specs.Steps.{◌>>=◌, all_from}

-- an empty line and a line that begins with `#` are notes
abbrev pub is_note : List ℕ → Bool
is_note [] = true
is_note (b ∷ bs) = b == 35

-- the value of a hexadecimal digit of either case
abbrev pub hex_of : ℕ → Option ℕ
hex_of b = if nat_le 48 b && nat_le b 57 then Some (b - 48) else if nat_le 97 b && nat_le b 102 then Some (b - 87) else if nat_le 65 b && nat_le b 70 then Some (b - 55) else None

-- the byte of two digits, where both are digits
abbrev pub hex_pair : Option ℕ → Option ℕ → Option ℕ
hex_pair None low = None
hex_pair (Some h) None = None
hex_pair (Some h) (Some l) = Some (h * 16 + l)

-- the byte that the two digits behind a `%` name, before the rest
abbrev pub named_before : Option ℕ → Result (List ℕ) Cause → Result (List ℕ) Cause
named_before None rest = Err causes.BadEscape
named_before (Some b) rest = rest >>= λ bs. Ok (b ∷ bs)

-- The value of a word: each byte stands for itself, but `%` and two digits for the byte that they name.
unfoldable pub value_of : List ℕ → Result (List ℕ) Cause
value_of [] = Ok []
value_of (b ∷ []) = if b == 37 then Err causes.BadEscape else Ok (b ∷ [])
value_of (b ∷ h ∷ []) = if b == 37 then Err causes.BadEscape else value_of (h ∷ []) >>= λ bs. Ok (b ∷ bs)
value_of (b ∷ h ∷ l ∷ rest) = if b == 37 then named_before (hex_pair (hex_of h) (hex_of l)) (value_of rest) else value_of (h ∷ l ∷ rest) >>= λ bs. Ok (b ∷ bs)

-- the values of words, from the first to the last
unfoldable pub values_of : List (List ℕ) → Result (List (List ℕ)) Cause
values_of words = all_from value_of words

-- the values of the words of a line, which are what stands between its spaces
unfoldable pub words_of : List ℕ → Result (List (List ℕ)) Cause
words_of line = let words = slice_split (λ b. b == 32) line in if list_any is_empty words then Err causes.EmptyWord else values_of words
