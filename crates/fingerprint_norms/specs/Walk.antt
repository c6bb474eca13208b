-- How the code goes over inputs and their snapshots.
use Rattle.std.specs.Prelude.{◌≡◌, ℕ, Bool, true, false, List, [], ◌∷◌, ◌++◌, length, map, drop}
use Rattle.vfs_model.specs.declared.Case.{Case}
use Rattle.vfs_model.specs.Paths.{Path, place, last_name}
use Rattle.vfs_model.specs.Snapshot.{Snapshot, Children}
use Rattle.vfs_model.specs.Fingerprint.{Seen, FpEntry, shown_path, dir_entry, missing_entry, entries_at, entries_in}
use Rattle.fingerprint_norms.specs.declared.input.Input.{Input as InputValue}
use Rattle.fingerprint_norms.specs.declared.input.Seen.{Seen as SeenValue}
use Rattle.fingerprint_norms.specs.declared.entry.FpEntry.{FpEntry as FpEntryValue}
use Rattle.fingerprint_norms.specs.Meaning.{sensitivity_of, seen_of, entry_of}

-- ---- names below a root

-- the path has the names of the root in front
abbrev pub IsBelow : Path → Path → Type 0
IsBelow root names = names ≡ root ++ drop (length root) names

-- the names below the root
abbrev pub below : Path → Path → Path
below root names = drop (length root) names

-- the text that shows the location with these names
abbrev pub shown_text : InputValue → Path → Bool → List ℕ
shown_text input names = shown_path (sensitivity_of input.sensitivity) input.root (below input.root names)

-- the text of a root by the names below it, of which there are none: its last name, unless it is a directory
abbrev pub root_text : Path → Bool → List ℕ
root_text root true = []
root_text root false = last_name root

-- ---- earlier inputs

-- the places of the roots, the last first, in front of others
abbrev pub places_onto : Case → List Seen → List Path → List Path
places_onto case [] earlier = earlier
places_onto case (v ∷ more) earlier = places_onto case more (place case v.input.root ∷ earlier)

-- the places of the roots, the last first
abbrev pub places_of : Case → List SeenValue → List Path
places_of case seen = places_onto case (map seen_of seen) []

-- ---- entries

-- the list has gained these entries at its end
abbrev pub Gains : List FpEntryValue → List FpEntryValue → List FpEntry → Type 0
Gains old new more = map entry_of new ≡ map entry_of old ++ more

-- the entries of one input, where so many places are taken
abbrev pub input_entries : Case → List Path → Seen → List FpEntry
input_entries case earlier v =
    missing_entry case earlier v.input.sensitivity v.input.root v.snapshot
    ++ entries_at case earlier v.input.sensitivity v.input.root [] v.snapshot

-- the entry of a root that is missing
abbrev pub root_entry : Case → List SeenValue → InputValue → Snapshot → List FpEntry
root_entry case earlier input s = missing_entry case (places_of case earlier) (sensitivity_of input.sensitivity) input.root s

-- the entry of the directory with these names
abbrev pub directory_entry : InputValue → Path → List FpEntry
directory_entry input names = dir_entry (sensitivity_of input.sensitivity) input.root (below input.root names)

-- the entries of the location with these names, and of all below it
abbrev pub location_entries : Case → List SeenValue → InputValue → Path → Snapshot → List FpEntry
location_entries case earlier input names s = entries_at case (places_of case earlier) (sensitivity_of input.sensitivity) input.root (below input.root names) s

-- the entries of the children of the directory with these names, and of all below them
abbrev pub children_entries : Case → List SeenValue → InputValue → Path → Children → List FpEntry
children_entries case earlier input names cs = entries_in case (places_of case earlier) (sensitivity_of input.sensitivity) input.root (below input.root names) cs
