use Rattle.std.proofs.Common.{◌∙◌, length, sym, ap}
use Rattle.vfs_model.specs.Snapshot.{Children}
use Rattle.snapshot_tree.specs.Listing.{entries_of}
use Rattle.snapshot_tree.proofs.ListingLemmas.{length-entries}
use Rattle.snapshot_tree.proofs.directory.DirRef.len.Goals as goal

pub returns : goal.returns
returns c = sym (length-entries c.children.result.now) ∙ ap (λ (cs : Children). length (entries_of cs)) c.children.ensures
