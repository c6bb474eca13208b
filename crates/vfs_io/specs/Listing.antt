-- The names of a directory, out of the bytes of its listing.
use Rattle.std.specs.Prelude.{ℕ, Bool, true, false, ◌&&◌, ◌||◌, not, ◌==◌, List, [], ◌∷◌, ◌++◌, filter}
use Rattle.std.specs.declared.option.Option.{Option}
use Rattle.std.specs.declared.option.Option.TheVariants.{None, Some}
use Rattle.std.specs.List.{slice_split}
use Rattle.vfs_model.specs.declared.Kind.{Kind}
use Rattle.vfs_model.specs.declared.Kind.TheVariants.{Missing, File, Dir}
use Rattle.vfs_model.specs.Paths.{Name}
use Rattle.vfs_path.specs.Texts.{is_empty, is_dots}
use Rattle.vfs_io.specs.declared.seen.Stood.{Stood}
use Rattle.vfs_io.specs.Seen.{kind_told}

-- the byte ends a name in a listing
abbrev pub ends_name : ℕ → Bool
ends_name byte = byte == 0

-- the text of what has this name in the directory with that text
abbrev pub text_below : List ℕ → Name → List ℕ
text_below dir name = dir ++ 47 ∷ name

-- a file and a directory count
abbrev pub is_counted : Kind → Bool
is_counted Missing = false
is_counted File = true
is_counted Dir = true

-- the bytes between two ends are no name of an entry: none, `.` or `..`
abbrev pub is_no_entry : List ℕ → Bool
is_no_entry bytes = is_empty bytes || is_dots bytes

-- the bytes between two ends are the name of an entry that counts: a file or a directory stands there
abbrev pub is_name_told : (List ℕ → Option Stood) → List ℕ → List ℕ → Bool
is_name_told standing dir name = not (is_no_entry name) && is_counted (kind_told (standing (text_below dir name)))

-- the names in the listing, in the order in which it has them
abbrev pub names_told : (List ℕ → Option Stood) → List ℕ → List ℕ → List Name
names_told standing dir listing = filter (is_name_told standing dir) (slice_split ends_name listing)

-- the parts of what is left of a listing; there are none where nothing is
abbrev pub parts_left : Option (List ℕ) → List (List ℕ)
parts_left None = []
parts_left (Some listing) = slice_split ends_name listing
