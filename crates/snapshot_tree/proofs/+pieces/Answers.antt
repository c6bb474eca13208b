use Rattle.std.proofs.Common.{◌≡◌, ◌∙◌, ◌++◌, true, false, length, Some, refl, sym, ap, arith}
use Rattle.std.specs.List.{slice_get}
use Rattle.vfs_model.specs.Paths.{folded_name, is_same_name}
use Rattle.vfs_model.specs.Snapshot.{Missing, children_of}
use Rattle.snapshot_tree.specs.declared.snapshot.Snapshot.{Snapshot as SnapshotValue}
use Rattle.snapshot_tree.specs.Meaning.{meaning_of}
use Rattle.snapshot_tree.specs.Pieces.{pairs_of}
use Rattle.snapshot_tree.proofs.SubLemmas.{place-at}
use Rattle.snapshot_tree.proofs.PiecesLemmas.{none_left, pieces-step, beside, on_the_way, inner-is}
use Rattle.snapshot_tree.proofs.+pieces.Goals as goal

pub directory::DirRef::add_piece-returns-then-not-same : goal.directory::DirRef::add_piece-returns-then-not-same
directory::DirRef::add_piece-returns-then-not-same t c =
    let at : slice_get c.args.e.now (length c.args.here.now) ≡ Some c.name-name.result.now = rw c.len-depth.ensures.names at c.name-name.ensures in
    let apart : is_same_name (folded_name c.args.case c.args.child.now.name) (folded_name c.args.case c.name-name.result.now) ≡ false = rw (c.as_bytes.ensures.bytes, c.as_bytes-2.ensures.bytes) at (sym c.if-not-same.ensures.value) in
    beside c.args.case c.args.here.now c.name-name.result.now _ c.args.child.now c.in_ok-pair.pair c.args.pairs.now.items c.push.new.self.items _
    apart (place-at c.args.case c.args.e.now (length c.args.here.now) c.name-name.result.now at) c.in_ok-pair.ensures.0 c.in_ok-pair.ensures.1 c.in_ok-push.ensures.items

pub directory::DirRef::add_piece-returns-in_ok-add_pieces-in-Some : goal.directory::DirRef::add_piece-returns-in_ok-add_pieces-in-Some
directory::DirRef::add_piece-returns-in_ok-add_pieces-in-Some t c =
    let at : slice_get c.args.e.now (length c.args.here.now) ≡ Some c.name-name.result.now = rw c.len-depth.ensures.names at c.name-name.ensures in
    let same : is_same_name (folded_name c.args.case c.args.child.now.name) (folded_name c.args.case c.name-name.result.now) ≡ true = rw (c.as_bytes.ensures.bytes, c.as_bytes-2.ensures.bytes) at (sym c.if-not-same.ensures.value) in
    on_the_way c.args.case c.args.here.now c.name-name.result.now _ c.args.child.now (pairs_of c.args.case c.args.pairs.now.items) _ _
    same (place-at c.args.case c.args.e.now (length c.args.here.now) c.name-name.result.now at)
    (c.in_ok-add_pieces-in-Some.ensures
    ∙ ap (λ l. pairs_of c.args.case c.args.pairs.now.items ++ l) (inner-is c.args.case c.args.self.now c.args.e.now (length c.args.here.now) c.len-depth.result c.name-name.result.now (meaning_of c.in-Some.next.now) c.len-depth.ensures.names at c.in-Some.ensures))

pub directory::DirRef::add_piece-returns-in-None : goal.directory::DirRef::add_piece-returns-in-None
directory::DirRef::add_piece-returns-in-None t c =
    let at : slice_get c.args.e.now (length c.args.here.now) ≡ Some c.name-name.result.now = rw c.len-depth.ensures.names at c.name-name.ensures in
    let same : is_same_name (folded_name c.args.case c.args.child.now.name) (folded_name c.args.case c.name-name.result.now) ≡ true = rw (c.as_bytes.ensures.bytes, c.as_bytes-2.ensures.bytes) at (sym c.if-not-same.ensures.value) in
    on_the_way c.args.case c.args.here.now c.name-name.result.now _ c.args.child.now (pairs_of c.args.case c.args.pairs.now.items) _ _
    same (place-at c.args.case c.args.e.now (length c.args.here.now) c.name-name.result.now at)
    (none_left c.args.case (pairs_of c.args.case c.args.pairs.now.items) _ Missing _ refl
    ∙ ap (λ l. pairs_of c.args.case c.args.pairs.now.items ++ l) (inner-is c.args.case c.args.self.now c.args.e.now (length c.args.here.now) (length c.args.here.now) c.name-name.result.now Missing refl at c.in-None.ensures))

pub snapshot::Snapshot::add_pieces-returns-in-Missing : goal.snapshot::Snapshot::add_pieces-returns-in-Missing
snapshot::Snapshot::add_pieces-returns-in-Missing t c = none_left c.args.case _ _ (meaning_of c.args.self.now) _ (ap (λ (s : SnapshotValue). children_of (meaning_of s)) c.in-Missing.is)

pub snapshot::Snapshot::add_pieces-returns-in-File : goal.snapshot::Snapshot::add_pieces-returns-in-File
snapshot::Snapshot::add_pieces-returns-in-File t c = none_left c.args.case _ _ (meaning_of c.args.self.now) _ (ap (λ (s : SnapshotValue). children_of (meaning_of s)) c.in-File.is)

pub snapshot::Snapshot::add_pieces-loop-child-preserved : goal.snapshot::Snapshot::add_pieces-loop-child-preserved
snapshot::Snapshot::add_pieces-loop-child-preserved t c =
    pieces-step c.args.case c.args.e.now c.in_ok-here.here c.args.depth c.in-Dir.directory c.children-child-items.result.now c.loop-child.child-index c.child-item.result _ _ _
    (omega (arith, c.if-depth-len.false, c.len.ensures.names)) c.in_ok-here.ensures c.loop-child-test.true c.child-item.is c.loop-child.invariant c.in_ok-add_piece.ensures
