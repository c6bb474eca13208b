-- What a snapshot says of what is below it, name by name.
use Rattle.std.proofs.Common.{◌≡◌, ◌∙◌, ℕ, ◌+◌, ◌<◌, [], ◌∷◌, ◌++◌, length, take, drop, get_or, Some, refl, ap, arith, add-one, drop-cons}
use Rattle.std.specs.List.{slice_get}
use Rattle.std.proofs.lemmas.List.{length-map, get_or-map, take_more}
use Rattle.std.proofs.lemmas.Option.{slice_get_within, get_or_from_slice_get}
use Rattle.vfs_model.specs.declared.Case.{Case}
use Rattle.vfs_model.specs.Paths.{Name, Path, place, folded_name}
use Rattle.vfs_model.specs.Snapshot.{Snapshot, child, children_of, sub}

-- the name at a place of the path is the one there, folded
pub place-at : (case : Case) (path : Path) (i : ℕ) (n : Name) → slice_get path i ≡ Some n → get_or (place case path) i [] ≡ folded_name case n
place-at case path i n at = get_or-map (folded_name case) path i n [] (slice_get_within path i n at) ∙ ap (folded_name case) (get_or_from_slice_get path i n n at)

-- it is within the path's names, folded or not
pub place-within : (case : Case) (path : Path) (i : ℕ) → i < length path → i < length (place case path)
place-within case path i h = omega (arith, length-map path (folded_name case))

-- the names from a place on are the one there and those behind it
pub place-drop : (case : Case) (path : Path) (i : ℕ) (n : Name) → slice_get path i ≡ Some n → drop i (place case path) ≡ folded_name case n ∷ drop (i + 1) (place case path)
place-drop case path i n at =
    let within : i < length (place case path) = place-within case path i (slice_get_within path i n at) in
    rw (add-one, drop-cons (place case path) i [], place-at case path i n at) refl

-- with the one there, the names before a place are those before the next
pub place-take : (case : Case) (path : Path) (i : ℕ) (n : Name) → slice_get path i ≡ Some n → take (i + 1) (place case path) ≡ take i (place case path) ++ folded_name case n ∷ []
place-take case path i n at =
    let within : i < length (place case path) = place-within case path i (slice_get_within path i n at) in
    rw (take_more (place case path) i [] within, place-at case path i n at) refl

-- the next name leads to the child of that name
pub sub-next : (case : Case) (s : Snapshot) (path : Path) (i : ℕ) (n : Name) → slice_get path i ≡ Some n
    → sub case s (drop i (place case path)) ≡ sub case (child case (children_of s) (folded_name case n)) (drop (i + 1) (place case path))
sub-next case s path i n at = ap (sub case s) (place-drop case path i n at)
