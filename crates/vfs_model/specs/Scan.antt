-- What a scan of a world at rest gives, and when a snapshot agrees with a world.
use Rattle.std.specs.Prelude.{◌≡◌, ℕ, zero, suc, List, [], ◌∷◌, ◌++◌, Option, Some, None}
use Rattle.vfs_model.specs.Paths.{Name, Path, Case, folded_name}
use Rattle.vfs_model.specs.World.{World, Node, Directory, Regular, Entry, at, names, digest_of_bytes, status_of, spelling_of}
use Rattle.vfs_model.specs.Snapshot.{Snapshot, Missing, File, Dir, Children, Nothing, Child, sub, told_name, status}

-- each name with the snapshot that the function gives it
abbrev pub listing : (Name → Snapshot) → List Name → Children
listing give [] = Nothing
listing give (n ∷ ns) = Child n (give n) (listing give ns)

-- the snapshot of what stands there; below is what a directory has in it
abbrev pub snapshot_of_node : Node → Children → Snapshot
snapshot_of_node Directory below = Dir below
snapshot_of_node (Regular bytes) below = File (digest_of_bytes bytes)

-- the snapshot of an entry, or of nothing
abbrev pub snapshot_of : Option Entry → Children → Snapshot
snapshot_of None below = Missing
snapshot_of (Some e) below = snapshot_of_node e.node below

-- the snapshot of the place, with all that is at most so many levels below it
unfoldable pub scan_down : Case → World → ℕ → Path → Snapshot
scan_down case world zero p = snapshot_of (at case world p) Nothing
scan_down case world (suc levels) p =
    snapshot_of (at case world p) (listing (λ n. scan_down case world levels (p ++ folded_name case n ∷ [])) (names case world p))

-- the snapshot of the place in the world, with all below it: no path of a world has more than 64 names
unfoldable pub scan : Case → World → Path → Snapshot
scan case world p = scan_down case world 64 p

-- what the snapshot s of p says of the names x below p is so in the world: the kind, a file's digest, and how a listed name is spelled. Where it agrees at every x, it lists nothing below 64 names, since no world has anything there
pub record Agrees (case : Case) (world : World) (p : Path) (s : Snapshot) (x : Path) : Type 0 where
  pub same_kind : status (sub case s x) ≡ status_of (at case world (p ++ x))
  pub same_spelling : (n : Name) → told_name case s x ≡ Some n → spelling_of (at case world (p ++ x)) ≡ Some n
