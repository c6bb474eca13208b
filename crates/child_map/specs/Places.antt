-- What a place says, in the words of keys and paths.
use Rattle.std.specs.Prelude.{◌≡◌, ℕ, ◌<◌, true, List, length, slice_get, Option, Some, None, IfSome, IsSomeAnd}
use Rattle.std.specs.List.{common_prefix_len}
use Rattle.vfs_model.specs.declared.Case.{Case}
use Rattle.vfs_model.specs.Paths.{Path, place, is_same_name}
use Rattle.vfs_model.specs.Edit.{is_strictly_below}
use Rattle.tree_model.specs.Standing.{IsGap}
use Rattle.child_map.specs.declared.place.Place.{Place}
use Rattle.child_map.specs.declared.place.Place.TheVariants.{Exact, Below, Above, Prefix, Apart}
use Rattle.child_map.specs.KeyNames.{first_name}
use Rattle.child_map.specs.Keys.{first_names}

-- there is a key i, and it is such
abbrev pub IsKey : List Path → ℕ → (Path → Type 0) → Type 0
IsKey keys i P = IsSomeAnd (slice_get keys i) P

-- how many names, from the first on, are the same in both
abbrev pub shared_names : Case → Path → Path → ℕ
shared_names case a b = common_prefix_len is_same_name (place case a) (place case b)

-- the two have the same first name
abbrev pub BeginAlike : Case → Path → Path → Type 0
BeginAlike case a b = 0 < shared_names case a b

-- the two share k names, at least one, and then part
pub record PartAfter (case : Case) (k : ℕ) (a b : Path) : Type 0 where
  pub alike : BeginAlike case a b
  pub shared : shared_names case a b ≡ k
  pub left : k < length a
  pub right : k < length b

-- the place is that of the path among the keys
abbrev pub IsPlaceOf : Case → List Path → Path → Place → Type 0
IsPlaceOf case keys path (Exact i) = IsKey keys i (λ key. place case key ≡ place case path)
IsPlaceOf case keys path (Below i k) = IsKey keys i (λ key. (is_strictly_below case path key ≡ true) × (length key ≡ k))
IsPlaceOf case keys path (Above i) = IsKey keys i (λ key. is_strictly_below case key path ≡ true)
IsPlaceOf case keys path (Prefix i k) = IsKey keys i (λ key. PartAfter case k key path)
IsPlaceOf case keys path (Apart i) = IsGap case (first_names keys) (first_name path) i

-- the index of the key that the place names
abbrev pub index_of : Place → Option ℕ
index_of (Exact i) = Some i
index_of (Below i k) = Some i
index_of (Above i) = Some i
index_of (Prefix i k) = Some i
index_of (Apart i) = None

-- the key that the place names, if it names one, begins like the path
abbrev pub IsAlikeAt : Case → List Path → Path → Place → Type 0
IsAlikeAt case keys path p = IfSome (index_of p) (λ i. IsKey keys i (λ key. BeginAlike case key path))

-- wherever the key is key i, the place is that of the path
abbrev pub IsPlaceAt : Case → ℕ → Path → Path → Place → Type 0
IsPlaceAt case i key path p = (keys : List Path) → slice_get keys i ≡ Some key → IsPlaceOf case keys path p
