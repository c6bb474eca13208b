-- What the two lists of the flat form stand for.
use Rattle.std.specs.Prelude.{List, [], ◌∷◌, ◌++◌, Option, None}
use Rattle.std.specs.List.{find}
use Rattle.vfs_model.specs.declared.Case.{Case}
use Rattle.vfs_model.specs.Paths.{Path, place, is_at_or_above}
use Rattle.vfs_model.specs.Retained.{Pair, Retained, dirs_left, insert_pair, insert_dirs, known_above}
use Rattle.vfs_model.specs.Snapshot.{Snapshot}
use Rattle.snapshot_tree.specs.declared.pieces.Pair.{Pair as PairValue}
use Rattle.snapshot_tree.specs.Pieces.{pairs_of, places_of}
use Rattle.snapshot_hierarchy.specs.Held.{Held}

-- the lists, by the places of their paths
abbrev pub lists_of : Case → List PairValue → List Path → Retained
lists_of case pairs dirs = record { pairs = pairs_of case pairs; dirs = places_of case dirs }

-- what is retained under the case, by a holder that tells no changes
abbrev pub holding : Case → Retained → Held
holding case retained = record { case = case; retained = retained; log = None }

-- the first pair at or above the path
abbrev pub first_over : Case → Path → List PairValue → Option PairValue
first_over case path pairs = find (λ (q : PairValue). is_at_or_above (place case q.path) (place case path)) pairs

-- one pair more, with the directories that it makes known
abbrev pub with_pair : Path → Snapshot → Retained → Retained
with_pair p s retained = record {
  pairs = insert_pair (record { path = p; snapshot = s }) retained.pairs;
  dirs = insert_dirs (known_above p s) retained.dirs;
}

-- the directories that the pairs strictly above the place leave, one pair after another
abbrev pub opened_dirs : Case → Path → List Pair → List Path
opened_dirs case e [] = []
opened_dirs case e (r ∷ pairs) = dirs_left case e r ++ opened_dirs case e pairs
