-- How much of a listing is left.
use Rattle.std.proofs.Common.{ℕ, ◌+◌, List, length, Option, Some, None}

-- how many bytes are left, and one more while any end of a name may follow
abbrev pub left_length : Option (List ℕ) → ℕ
left_length None = 0
left_length (Some left) = length left + 1
