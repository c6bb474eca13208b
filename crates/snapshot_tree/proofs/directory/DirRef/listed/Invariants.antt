use Rattle.std.proofs.Common.{◌≡◌, drop}
use Rattle.vfs_model.specs.Paths.{folded_name}
use Rattle.vfs_model.specs.Snapshot.{child}
use Rattle.snapshot_tree.specs.Meaning.{children_in}
use Rattle.snapshot_tree.proofs.directory.DirRef.listed.Given as goal

-- none of the children so far has the name
abbrev pub invariant-loop-child : goal.invariant-loop-child
invariant-loop-child l = child l.case (children_in l.child-items) (folded_name l.case l.name) ≡ child l.case (children_in (drop l.child-index l.child-items)) (folded_name l.case l.name)
