use Rattle.std.proofs.Common.{◌≡◌, ◌+◌, ◌-◌, ◌*◌, ◌++◌, [], length, take, slice_index_or}
use Rattle.vfs_model.specs.Paths.{place}
use Rattle.vfs_model.specs.Retained.{pieces_beside}
use Rattle.snapshot_tree.specs.Meaning.{children_in}
use Rattle.snapshot_tree.specs.Pieces.{pairs_of, inner_pieces}
use Rattle.snapshot_tree.proofs.+pieces.Given as goal

-- how many names are left, and a half for the directory
abbrev pub decreases-directory::DirRef::add_piece : goal.decreases-directory::DirRef::add_piece
decreases-directory::DirRef::add_piece l = 2 * (length l.e.now - length l.here.now)

abbrev pub decreases-snapshot::Snapshot::add_pieces : goal.decreases-snapshot::Snapshot::add_pieces
decreases-snapshot::Snapshot::add_pieces l = 2 * (length l.e.now - l.depth) + 1

-- what is left of the children so far was appended
abbrev pub invariant-snapshot::Snapshot::add_pieces-loop-child : goal.invariant-snapshot::Snapshot::add_pieces-loop-child
invariant-snapshot::Snapshot::add_pieces-loop-child l =
    pairs_of l.case l.pairs.items
    ≡ pairs_of l.case l.fn.pairs.items
    ++ pieces_beside l.case (take l.depth (place l.case l.e)) (children_in (take l.child-index l.child-items)) (slice_index_or (place l.case l.e) l.depth []) (inner_pieces l.case l.directory (place l.case l.e) l.depth)
