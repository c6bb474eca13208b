-- The world: what is at each place.
use Rattle.std.specs.Prelude.{false, ◌≡◌, ◌≢◌, ℕ, List, [], ◌∷◌, ◌++◌, length, ◌≤◌, if◌then◌else◌, Option, Some, None, find}
use Rattle.std.specs.declared.cmp.Ordering.{Ordering}
use Rattle.std.specs.declared.cmp.Ordering.TheVariants.{Less, Equal, Greater}
use Rattle.vfs_model.specs.Paths.{Name, Path, Case, folded_name, place, is_same_name, name_order, is_same_place, is_child, last_name}
use Rattle.std.specs.List.{AllByRecursion as Each}
pub use Rattle.vfs_model.specs.declared.Kind.{Kind}
pub use Rattle.vfs_model.specs.declared.Kind.TheVariants.{Missing as MissingKind, File as FileKind, Dir as DirKind}
use Rattle.md5.specs.Md5.{md5}

-- what stands at a location: a directory, or a file with its bytes
pub data Node : Type 0 where
  Directory : Node
  Regular : (bytes : List ℕ) → Node

-- a path and what stands there
pub record Entry : Type 0 where
  pub path : Path
  pub node : Node

-- a world is a list of entries, in any order; IsWorld tells which lists are one
abbrev pub World : Type 0
World = List Entry

-- the entry at the place, its path in its own spelling; None where nothing is there
abbrev pub at : Case → World → Path → Option Entry
at case world x = find (λ (e : Entry). is_same_place (place case e.path) x) world

-- the MD5 of the bytes, as RFC 1321 has it
unfoldable pub digest_of_bytes : List ℕ → List ℕ
digest_of_bytes bytes = md5 bytes

-- the kind of a location, and a file's digest
pub data Status : Type 0 where
  IsMissing : Status
  IsFile : (digest : List ℕ) → Status
  IsDir : Status

-- the status of what stands there
abbrev pub status_of_node : Node → Status
status_of_node Directory = IsDir
status_of_node (Regular bytes) = IsFile (digest_of_bytes bytes)

-- the status of an entry, or that there is none
abbrev pub status_of : Option Entry → Status
status_of None = IsMissing
status_of (Some e) = status_of_node e.node

-- the kind alone
abbrev pub kind_of_status : Status → Kind
kind_of_status IsMissing = MissingKind
kind_of_status (IsFile digest) = FileKind
kind_of_status IsDir = DirKind

-- what stands there, without the spelling
abbrev pub node_of : Option Entry → Option Node
node_of None = None
node_of (Some e) = Some e.node

-- how the last name is spelled
abbrev pub spelling_of : Option Entry → Option Name
spelling_of None = None
spelling_of (Some e) = Some (last_name e.path)

-- at p and below it in the one world stands what stands at q and below it in the other, and the names below are spelled the same; how p and q are spelled is no part of it
pub record IsSameBelow (case : Case) (v : World) (p : Path) (w : World) (q : Path) : Type 0 where
  pub nodes : (x : Path) → node_of (at case v (p ++ x)) ≡ node_of (at case w (q ++ x))
  pub names : (x : Path) (n : Name) → spelling_of (at case v (p ++ (x ++ n ∷ []))) ≡ spelling_of (at case w (q ++ (x ++ n ∷ [])))

-- n comes into the list of m and the rest: before m, in the place of m where they are the same, or into the rest
abbrev pub insert_by : Ordering → Name → Name → List Name → List Name → List Name
insert_by Less n m rest rest_with_n = n ∷ m ∷ rest
insert_by Equal n m rest rest_with_n = n ∷ rest
insert_by Greater n m rest rest_with_n = m ∷ rest_with_n

-- the name goes to its place in the order, instead of one that is the same
abbrev pub insert_name : Case → Name → List Name → List Name
insert_name case n [] = n ∷ []
insert_name case n (m ∷ rest) = insert_by (name_order case n m) n m rest (insert_name case n rest)

-- the last names of the children of the place, in name order
abbrev pub names : Case → World → Path → List Name
names case [] x = []
names case (e ∷ world) x =
    if is_child x (place case e.path) then insert_name case (last_name e.path) (names case world x) else names case world x

-- each name stands before all that follow, and so no two are the same
abbrev pub AreInOrder : Case → List Name → Type 0
AreInOrder case [] = Unit {0}
AreInOrder case (n ∷ more) = Each (λ m. name_order case n m ≡ Less) more × AreInOrder case more

-- the spelling in the list of the name that is n where it is folded
abbrev pub listed_in : Case → List Name → Name → Option Name
listed_in case ns n = find (λ m. is_same_name (folded_name case m) n) ns

-- no path has more than 64 names
abbrev pub AreShort : World → Type 0
AreShort world = Each (λ (e : Entry). length e.path ≤ 64) world

-- what is not a directory has nothing in it
abbrev pub IsClosed : Case → World → Type 0
IsClosed case world = (x : Path) (n : Name) → status_of (at case world x) ≢ IsDir → at case world (x ++ n ∷ []) ≡ None

-- no two entries have one place
abbrev pub AreDistinct : Case → World → Type 0
AreDistinct case [] = Unit {0}
AreDistinct case (e ∷ world) = Each (λ (f : Entry). is_same_place (place case e.path) (place case f.path) ≡ false) world × AreDistinct case world

-- no directory has more than 4,096 names
abbrev pub AreFew : Case → World → Type 0
AreFew case world = (x : Path) → length (names case world x) ≤ 4096

-- the root is a directory, each place stands once, only directories have children, no path has more than 64 names and no directory more than 4,096
pub record IsWorld (case : Case) (world : World) : Type 0 where
  pub root : status_of (at case world []) ≡ IsDir
  pub distinct : AreDistinct case world
  pub closed : IsClosed case world
  pub short : AreShort world
  pub few : AreFew case world
