-- What is retained: snapshots of places, and places known to be directories.
use Rattle.std.specs.Prelude.{◌≡◌, Bool, true, false, ◌&&◌, not, List, [], ◌∷◌, ◌++◌, map, length, drop, if◌then◌else◌, Option, Some, None, filter}
use Rattle.std.specs.List.{list_any, AllByRecursion as Each}
use Rattle.std.specs.Cmp.Lexicographic.{slice_cmp}
use Rattle.std.specs.Ordering.{nat_cmp}
use Rattle.std.specs.declared.cmp.Ordering.{Ordering}
use Rattle.std.specs.declared.cmp.Ordering.TheVariants.{Less, Equal, Greater}
use Rattle.vfs_model.specs.Paths.{Name, Path, Case, folded_name, is_same_name, is_at_or_above, is_same_place}
use Rattle.vfs_model.specs.Snapshot.{Snapshot, Missing, File, Dir, Children, Nothing, Child, child, children_of, sub, status, IsTree}
use Rattle.vfs_model.specs.World.{Kind, DirKind, kind_of_status}

-- a place and the snapshot that is retained of it
pub record Pair : Type 0 where
  pub path : Path
  pub snapshot : Snapshot

-- what is retained: pairs, and places known to be directories
pub record Retained : Type 0 where
  pub pairs : List Pair
  pub dirs : List Path

-- the part at the place x of the pair at or above it
abbrev pub part_of : Case → List Pair → Path → Option Snapshot
part_of case [] x = None
part_of case (r ∷ pairs) x =
    if is_at_or_above r.path x then Some (sub case r.snapshot (drop (length r.path) x)) else part_of case pairs x

-- the place is among those that are known to be directories
abbrev pub is_known : List Path → Path → Bool
is_known dirs x = list_any (λ d. is_same_place d x) dirs

-- the kind of the location, where it is known
abbrev pub kind_or : Option Snapshot → Bool → Option Kind
kind_or (Some s) known = Some (kind_of_status (status s))
kind_or None known = if known then Some DirKind else None

-- the kind by the part that is found, else a directory where one is known
abbrev pub kind_of : Case → Retained → Path → Option Kind
kind_of case retained x = kind_or (part_of case retained.pairs x) (is_known retained.dirs x)

-- ---- the lists in order

-- the order of places: name by name, and a place comes before all below it
abbrev pub place_order : Path → Path → Ordering
place_order = slice_cmp (slice_cmp nat_cmp)

-- by how the first names compare, and where they are the same, by the rest
abbrev pub precedes_by : Ordering → Bool → Bool
precedes_by Less rest = true
precedes_by Equal rest = rest
precedes_by Greater rest = false

-- the first place comes before the second, and neither is at or above the other
abbrev pub precedes : Path → Path → Bool
precedes [] b = false
precedes (n ∷ a) [] = false
precedes (n ∷ a) (m ∷ b) = precedes_by (slice_cmp nat_cmp n m) (precedes a b)

-- the pair goes before the first that it precedes
abbrev pub insert_pair : Pair → List Pair → List Pair
insert_pair r [] = r ∷ []
insert_pair r (q ∷ rest) = if precedes r.path q.path then r ∷ q ∷ rest else q ∷ insert_pair r rest

-- d comes into the list of q and the rest: before q, in the place of q where they are the same, or into the rest
abbrev pub insert_dir_by : Ordering → Path → Path → List Path → List Path → List Path
insert_dir_by Less d q rest rest_with_d = d ∷ q ∷ rest
insert_dir_by Equal d q rest rest_with_d = d ∷ rest
insert_dir_by Greater d q rest rest_with_d = q ∷ rest_with_d

-- the place goes to its place in the order, once
abbrev pub insert_dir : Path → List Path → List Path
insert_dir d [] = d ∷ []
insert_dir d (q ∷ rest) = insert_dir_by (place_order d q) d q rest (insert_dir d rest)

-- each of the places goes to its place in the order
abbrev pub insert_dirs : List Path → List Path → List Path
insert_dirs [] dirs = dirs
insert_dirs (d ∷ more) dirs = insert_dir d (insert_dirs more dirs)

-- ---- an invalidation

-- the children of the place p as pairs, with the inner pairs in the place of the child n
abbrev pub pieces_beside : Case → Path → Children → Name → List Pair → List Pair
pieces_beside case p Nothing n inner = []
pieces_beside case p (Child name s more) n inner =
    if is_same_name (folded_name case name) n
    then inner ++ pieces_beside case p more n inner
    else record { path = p ++ folded_name case name ∷ []; snapshot = s } ∷ pieces_beside case p more n inner

-- what is left of the snapshot of p as pairs, where the place that the names x lead to from p is invalidated: from p down, the children beside the way to it
abbrev pub pieces : Case → Path → Snapshot → Path → List Pair
pieces case p s [] = []
pieces case p s (n ∷ x) = pieces_beside case p (children_of s) n (pieces case (p ++ n ∷ []) (child case (children_of s) n) x)

-- the places from p on, strictly above the one that the names x lead to, that the snapshot of p calls directories
abbrev pub dirs_from : Case → Path → Snapshot → Path → List Path
dirs_from case p s [] = []
dirs_from case p Missing (n ∷ x) = []
dirs_from case p (File digest) (n ∷ x) = []
dirs_from case p (Dir children) (n ∷ x) = p ∷ dirs_from case (p ++ n ∷ []) (child case children n) x

-- what an invalidation of the place e leaves of a pair: nothing at or below e, pieces of one strictly above it, and else the pair
abbrev pub pairs_left : Case → Path → Pair → List Pair
pairs_left case e r =
    if is_at_or_above e r.path then []
    else if is_at_or_above r.path e then pieces case r.path r.snapshot (drop (length r.path) e)
    else r ∷ []

-- the directories that become known when a pair strictly above the place e goes
abbrev pub dirs_left : Case → Path → Pair → List Path
dirs_left case e r = if is_at_or_above r.path e then dirs_from case r.path r.snapshot (drop (length r.path) e) else []

-- what it leaves of all pairs
abbrev pub all_pairs_left : Case → Path → List Pair → List Pair
all_pairs_left case e [] = []
all_pairs_left case e (r ∷ pairs) = pairs_left case e r ++ all_pairs_left case e pairs

-- the known directories that are not at or below e, with those that the pairs strictly above e leave
abbrev pub all_dirs_left : Case → Path → List Pair → List Path → List Path
all_dirs_left case e [] dirs = filter (λ d. not (is_at_or_above e d)) dirs
all_dirs_left case e (r ∷ pairs) dirs = insert_dirs (dirs_left case e r) (all_dirs_left case e pairs dirs)

-- what is retained after an invalidation of the place e
abbrev pub after_invalidation : Case → Path → Retained → Retained
after_invalidation case e retained = record {
  pairs = all_pairs_left case e retained.pairs;
  dirs = all_dirs_left case e retained.pairs retained.dirs;
}

-- ---- a store

-- a pair stands strictly above the place
abbrev pub is_covered : List Pair → Path → Bool
is_covered pairs p = list_any (λ (r : Pair). is_at_or_above r.path p && not (is_at_or_above p r.path)) pairs

-- the places strictly above the place, from the root down
abbrev pub ancestors : Path → List Path
ancestors [] = []
ancestors (n ∷ x) = [] ∷ map (λ d. n ∷ d) (ancestors x)

-- the directories that a snapshot of p makes known: the places strictly above p, where it is not missing
abbrev pub known_above : Path → Snapshot → List Path
known_above p Missing = []
known_above p (File digest) = ancestors p
known_above p (Dir children) = ancestors p

-- what is retained after a store of the snapshot at p: nothing changes where a pair stands strictly above; else what is at or below p goes, and the pair and the directories above it come
abbrev pub after_store : Path → Snapshot → Retained → Retained
after_store p s retained =
    if is_covered retained.pairs p then retained
    else record {
      pairs = insert_pair (record { path = p; snapshot = s }) (filter (λ (r : Pair). not (is_at_or_above p r.path)) retained.pairs);
      dirs = insert_dirs (known_above p s) (filter (λ d. not (is_at_or_above p d)) retained.dirs);
    }

-- each pair comes before all that follow, and none is at or above another
abbrev pub AreInLine : List Pair → Type 0
AreInLine [] = Unit {0}
AreInLine (r ∷ pairs) = Each (λ (q : Pair). precedes r.path q.path ≡ true) pairs × AreInLine pairs

-- each place comes before all that follow
abbrev pub ArePlacesInOrder : List Path → Type 0
ArePlacesInOrder [] = Unit {0}
ArePlacesInOrder (d ∷ dirs) = Each (λ q. place_order d q ≡ Less) dirs × ArePlacesInOrder dirs

-- no pair stands at or above the place
abbrev pub IsUncovered : List Pair → Path → Type 0
IsUncovered pairs d = Each (λ (r : Pair). is_at_or_above r.path d ≡ false) pairs

-- the pairs are in line, their snapshots are trees, and the known directories are in order, none of them at or below a pair
pub record IsInShape (case : Case) (retained : Retained) : Type 0 where
  pub pairs : AreInLine retained.pairs
  pub trees : Each (λ (r : Pair). IsTree case r.snapshot) retained.pairs
  pub dirs : ArePlacesInOrder retained.dirs
  pub uncovered : Each (IsUncovered retained.pairs) retained.dirs
