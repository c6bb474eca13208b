-- The snapshots of what was read, made from the last look to the first.
use Rattle.std.specs.Prelude.{ℕ, ◌≤◌, List, [], ◌∷◌, ◌++◌, length, drop, map, reverse}
use Rattle.vfs_model.specs.Paths.{Name}
use Rattle.vfs_model.specs.World.{digest_of_bytes}
use Rattle.vfs_model.specs.Snapshot.{Snapshot, Missing, File, Dir, Children, Nothing, Child}
use Rattle.vfs_model.specs.Scanning.{Look, SeesNothing, SeesFile, SeesDir, names_seen}
use Rattle.snapshot_tree.specs.declared.snapshot.Snapshot.{Snapshot as SnapshotValue}
use Rattle.snapshot_tree.specs.Meaning.{meaning_of}
use Rattle.snapshot_tree.specs.Listing.{followed_by}
use Rattle.scan_walk.specs.Walking.{bytes_seen}

-- the bytes of the files that were seen, in order
abbrev pub bytes_of : List Look → List (List ℕ)
bytes_of [] = []
bytes_of (l ∷ looks) = bytes_seen l ++ bytes_of looks

-- the children with one more in front of them, unless it is missing
abbrev pub with_present : Name → Snapshot → Children → Children
with_present n Missing more = more
with_present n (File digest) more = Child n (File digest) more
with_present n (Dir children) more = Child n (Dir children) more

-- the names, each with its snapshot of the list; those that are missing are left out
abbrev pub children_with : List Name → List Snapshot → Children
children_with [] made = Nothing
children_with (n ∷ ns) [] = Nothing
children_with (n ∷ ns) (s ∷ made) = with_present n s (children_with ns made)

-- the children with one more behind them, unless it is missing
abbrev pub followed_by_present : Children → Name → Snapshot → Children
followed_by_present children n Missing = children
followed_by_present children n (File digest) = followed_by children n (File digest)
followed_by_present children n (Dir below) = followed_by children n (Dir below)

-- the snapshot of what the look saw comes in front; that of a directory takes the first of the others as its children
abbrev pub made_by : Look → List Snapshot → List Snapshot
made_by SeesNothing made = Missing ∷ made
made_by (SeesFile bytes) made = File (digest_of_bytes bytes) ∷ made
made_by (SeesDir names) made = Dir (children_with names made) ∷ drop (length names) made

-- the snapshots of what was seen, none of them below another
abbrev pub made_of : List Look → List Snapshot
made_of [] = []
made_of (l ∷ looks) = made_by l (made_of looks)

-- the locations that a directory lists were read after it
abbrev pub AreWhole : List Look → Type 0
AreWhole [] = Unit {0}
AreWhole (l ∷ looks) = (length (names_seen l) ≤ length (made_of looks)) × AreWhole looks

-- what the snapshots on a stack stand for, the last one first
abbrev pub stacked : List SnapshotValue → List Snapshot
stacked made = reverse (map meaning_of made)
