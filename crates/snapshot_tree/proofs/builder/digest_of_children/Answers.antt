use Rattle.std.proofs.Common.{append_assoc}
use Rattle.std.proofs.lemmas.List.{take_more}
use Rattle.snapshot_tree.proofs.ListingLemmas.{present-at, children_in-push}
use Rattle.snapshot_tree.proofs.BuilderLemmas.{digest_bytes-followed_by}
use Rattle.snapshot_tree.proofs.builder.digest_of_children.Goals as goal

pub take_child-requires : goal.take_child-requires
take_child-requires c = present-at c.args.children.now c.loop-child.child-index c.child-item.result c.requires c.loop-child-test.true c.child-item.is

pub loop-child-preserved : goal.loop-child-preserved
loop-child-preserved c =
    rw (take_more c.args.children.now c.loop-child.child-index c.child-item.result c.loop-child-test.true, ← c.child-item.is, children_in-push, digest_bytes-followed_by)
    (simp append_assoc at (c.take_child.ensures _ c.loop-child.invariant))
