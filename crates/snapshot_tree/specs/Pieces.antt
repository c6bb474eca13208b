-- Paths and pairs by their places.
use Rattle.std.specs.Prelude.{ℕ, ◌+◌, List, [], map, take, drop, slice_index_or}
use Rattle.vfs_model.specs.declared.Case.{Case}
use Rattle.vfs_model.specs.Paths.{Path, place}
use Rattle.vfs_model.specs.Snapshot.{Children, child}
use Rattle.vfs_model.specs.Retained.{Pair, pieces}
use Rattle.snapshot_tree.specs.declared.pieces.Pair.{Pair as PairValue}
use Rattle.snapshot_tree.specs.Meaning.{meaning_of}

-- the place of the path, and the snapshot
abbrev pub pair_of : Case → PairValue → Pair
pair_of case pair = record { path = place case pair.path; snapshot = meaning_of pair.snapshot }

-- each pair with its place
abbrev pub pairs_of : Case → List PairValue → List Pair
pairs_of case pairs = map (pair_of case) pairs

-- the place of each path
abbrev pub places_of : Case → List Path → List Path
places_of case paths = map (place case) paths

-- what is left of the child on the way to the place x, where so many names lead to its directory
abbrev pub inner_pieces : Case → Children → Path → ℕ → List Pair
inner_pieces case children x depth = pieces case (take (depth + 1) x) (child case children (slice_index_or x depth [])) (drop (depth + 1) x)
