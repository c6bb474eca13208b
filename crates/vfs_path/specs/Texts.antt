-- Which texts are names and paths, and the one text of each path.
use Rattle.std.specs.Prelude.{◌≡◌, ℕ, ◌+◌, ◌≤◌, Bool, true, false, ◌&&◌, ◌||◌, not, ◌==◌, List, [], ◌∷◌, ◌++◌, length, nat_le, nat_lt, Option, Some, None, Result, Ok, Err, if◌then◌else◌}
use Rattle.std.specs.List.{list_all, slice_split, AllByRecursion as Each}
use Rattle.std.specs.Str.{bytes_eq, is_utf8}
use Rattle.vfs_model.specs.Paths.{Name, Path}
use Rattle.vfs_path.specs.declared.error.PathError.{PathError}
use Rattle.vfs_path.specs.declared.error.PathError.TheVariants.{NotAbsolute, EmptyName, DotName, LongName, TooDeep, BadByte}

-- ---- names

-- the byte may stand in the text of a path: it is neither byte 0 nor LF
abbrev pub stands_in_path : ℕ → Bool
stands_in_path b = not (b == 0) && not (b == 10)

-- the bytes may all stand in the text of a path, and are UTF-8
abbrev pub has_path_bytes : List ℕ → Bool
has_path_bytes text = list_all stands_in_path text && is_utf8 text

-- the byte separates the names of a path
abbrev pub is_slash : ℕ → Bool
is_slash b = b == 47

-- the byte may stand in a name
abbrev pub stands_in_name : ℕ → Bool
stands_in_name b = stands_in_path b && not (is_slash b)

-- there is no byte
abbrev pub is_empty : List ℕ → Bool
is_empty bytes = length bytes == 0

-- `.` or `..`
abbrev pub is_dots : List ℕ → Bool
is_dots bytes = bytes_eq bytes (46 ∷ []) || bytes_eq bytes (46 ∷ 46 ∷ [])

-- 1 to 255 bytes of UTF-8 without byte 0, LF and `/`, other than `.` and `..`
pub record IsName (text : List ℕ) : Type 0 where
  pub some : is_empty text ≡ false
  pub short : length text ≤ 255
  pub bytes : list_all stands_in_name text ≡ true
  pub utf8 : is_utf8 text ≡ true
  pub other : is_dots text ≡ false

-- at most 64 names
pub record IsPath (path : Path) : Type 0 where
  pub short : length path ≤ 64
  pub names : Each IsName path

-- ---- the text of a path

-- a slash and a name, for each name
abbrev pub slashed : Path → List ℕ
slashed [] = []
slashed (n ∷ path) = 47 ∷ (n ++ slashed path)

-- the text of the root is a slash alone
abbrev pub path_text : Path → List ℕ
path_text [] = 47 ∷ []
path_text (n ∷ path) = slashed (n ∷ path)

-- ---- refusals, each with its test, in the order in which they are answered

-- the first refusal whose test holds
abbrev pub first_refusal : List (Bool × PathError) → Option PathError
first_refusal [] = None
first_refusal (r ∷ more) = if r.0 then Some r.1 else first_refusal more

-- the one refusal, or else the other
abbrev pub or_refusal : Option PathError → Option PathError → Option PathError
or_refusal None other = other
or_refusal (Some e) other = Some e

-- what a length or a spelling says against a name
abbrev pub spelling_refusals : List ℕ → List (Bool × PathError)
spelling_refusals text = (is_empty text, EmptyName) ∷ (is_dots text, DotName) ∷ (nat_lt 255 (length text), LongName) ∷ []

-- what is said against a name
abbrev pub name_refusal : List ℕ → Option PathError
name_refusal text = first_refusal ((not (list_all stands_in_name text && is_utf8 text), BadByte) ∷ spelling_refusals text)

-- the text begins with a slash
abbrev pub is_absolute : List ℕ → Bool
is_absolute [] = false
is_absolute (b ∷ text) = is_slash b

-- what stands between the slashes of what follows the first one; nothing stands there in the text of the root
abbrev pub segments : List ℕ → List (List ℕ)
segments [] = []
segments (b ∷ []) = []
segments (b ∷ c ∷ text) = slice_split is_slash (c ∷ text)

-- the parts of what follows a slash, where there is one
abbrev pub parts_after : Option (List ℕ) → List (List ℕ)
parts_after None = []
parts_after (Some rest) = slice_split is_slash rest

-- what is said against the segment that so many precede
abbrev pub segment_refusal : ℕ → List ℕ → Option PathError
segment_refusal before segment = first_refusal ((nat_le 64 before, TooDeep) ∷ spelling_refusals segment)

-- what is said against the first of the segments that is at fault, where so many precede them
abbrev pub segments_refusal : ℕ → List (List ℕ) → Option PathError
segments_refusal before [] = None
segments_refusal before (segment ∷ more) = or_refusal (segment_refusal before segment) (segments_refusal (before + 1) more)

-- what is said against the text of a path: against the whole of it, and else against its first segment at fault
abbrev pub path_refusal : List ℕ → Option PathError
path_refusal text =
    or_refusal
    (first_refusal ((not (is_absolute text), NotAbsolute) ∷ (not (has_path_bytes text), BadByte) ∷ []))
    (segments_refusal 0 (segments text))

-- a value, unless something is said against it
abbrev pub unless : {A : Type 0} → Option PathError → A → Result A PathError
unless None a = Ok a
unless (Some e) a = Err e

-- the name with this text
abbrev pub name_of : List ℕ → Result Name PathError
name_of text = unless (name_refusal text) text

-- the path with this text
abbrev pub path_of : List ℕ → Result Path PathError
path_of text = unless (path_refusal text) (segments text)
