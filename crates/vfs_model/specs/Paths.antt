-- Names, paths and their places.
use Rattle.std.specs.Prelude.{ℕ, ◌+◌, ◌≤◌, length, Bool, true, false, ◌&&◌, ◌||◌, List, [], ◌∷◌, map, nat_le, nat_eq, if◌then◌else◌}
use Rattle.std.specs.Cmp.Lexicographic.{pointwise, slice_cmp}
use Rattle.std.specs.Ordering.{nat_cmp}
use Rattle.std.specs.declared.cmp.Ordering.{Ordering}
pub use Rattle.vfs_model.specs.declared.Case.{Case}
pub use Rattle.vfs_model.specs.declared.Case.TheVariants.{Sensitive, Insensitive}

-- a name is its bytes
abbrev pub Name : Type 0
Name = List ℕ

-- a path is its names, from the root down; the root is the empty list. No more than 64 names are a premise where it counts, and no part of the type
abbrev pub Path : Type 0
Path = List Name

-- the path has at most 64 names
abbrev pub IsShort : Path → Type 0
IsShort p = length p ≤ 64

-- a capital letter of ASCII becomes small
abbrev pub lowered_byte : ℕ → ℕ
lowered_byte byte = if nat_le 65 byte && nat_le byte 90 then byte + 32 else byte

-- a byte as the case compares it
abbrev pub folded_byte : Case → ℕ → ℕ
folded_byte Sensitive byte = byte
folded_byte Insensitive byte = lowered_byte byte

-- the name as the case compares it
abbrev pub folded_name : Case → Name → Name
folded_name case name = map (folded_byte case) name

-- where a path leads, its names folded: two paths are the same location exactly where their places are equal
abbrev pub place : Case → Path → Path
place case path = map (folded_name case) path

-- the names are the same, byte for byte
abbrev pub is_same_name : Name → Name → Bool
is_same_name = pointwise nat_eq

-- the order of names under the case, by their folded bytes
abbrev pub name_order : Case → Name → Name → Ordering
name_order case a b = slice_cmp nat_cmp (folded_name case a) (folded_name case b)

-- the names of the first place are, one by one, the first names of the second: the two are equal, or the second lies below the first
abbrev pub is_at_or_above : Path → Path → Bool
is_at_or_above [] y = true
is_at_or_above (n ∷ x) [] = false
is_at_or_above (n ∷ x) (m ∷ y) = is_same_name n m && is_at_or_above x y

-- one of the places is at or above the other
abbrev pub is_related : Path → Path → Bool
is_related x y = is_at_or_above x y || is_at_or_above y x

-- the places are equal, name by name: each is at or above the other
abbrev pub is_same_place : Path → Path → Bool
is_same_place x y = is_at_or_above x y && is_at_or_above y x

-- the second place is a child of the first: it has one name more
abbrev pub is_child : Path → Path → Bool
is_child [] [] = false
is_child [] (n ∷ []) = true
is_child [] (n ∷ m ∷ y) = false
is_child (a ∷ x) [] = false
is_child (a ∷ x) (n ∷ y) = is_same_name a n && is_child x y

-- the last name; the root has the empty one
abbrev pub last_name : Path → Name
last_name [] = []
last_name (n ∷ []) = n
last_name (n ∷ m ∷ x) = last_name (m ∷ x)
