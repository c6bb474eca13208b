-- What the types of the code stand for.
use Rattle.std.specs.Prelude.{List, [], ◌∷◌}
use Rattle.vfs_model.specs.Snapshot.{Snapshot, Missing, File, Dir, Children, Nothing, Child}
use Rattle.vfs_model.specs.State.{Glance}
use Rattle.snapshot_tree.specs.declared.snapshot.Snapshot.{Snapshot as SnapshotValue}
use Rattle.snapshot_tree.specs.declared.snapshot.Snapshot.TheVariants as value
use Rattle.snapshot_tree.specs.declared.directory.Child.{Child as ChildValue}
use Rattle.snapshot_tree.specs.declared.snapshot.Glance.{Glance as GlanceValue}

-- the snapshot
abbrev pub meaning_of : SnapshotValue → Snapshot
meaning_of value.Missing = Missing
meaning_of (value.File digest) = File digest
meaning_of (value.Dir d) = Dir d

-- the children in the list
abbrev pub children_in : List ChildValue → Children
children_in [] = Nothing
children_in (c ∷ more) = Child c.name (meaning_of c.snapshot) (children_in more)

-- the kind and the digest
abbrev pub glance_of : GlanceValue → Glance
glance_of g = record { kind = g.kind; digest = g.digest }
