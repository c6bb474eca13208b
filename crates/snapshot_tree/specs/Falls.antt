-- Each child is less high than its directory.
use Rattle.std.specs.Prelude.{◌≤◌, List, [], ◌∷◌}
use Rattle.std.proofs.Common.{arith}
use denote.Param.Weighed.{most}
use Rattle.snapshot_tree.specs.declared.snapshot.Snapshot.{Snapshot}
use Rattle.snapshot_tree.specs.declared.snapshot.Snapshot.TheVariants as value
use Rattle.snapshot_tree.specs.declared.directory.Child.{Child}
use Rattle.snapshot_tree.specs.declared.directory.DirRef.TheDeep.{deep-Child, deep-Snapshot}
use Rattle.snapshot_tree.specs.Meaning.{meaning_of, children_in}
use Rattle.snapshot_tree.specs.Height.{height, height_of}

snapshot_falls : (s : Snapshot) → deep-Snapshot s ≤ height (meaning_of s)
snapshot_falls value.Missing = omega arith
snapshot_falls (value.File digest) = omega arith
snapshot_falls (value.Dir d) = omega arith

pub children_fall : (cs : List Child) → most deep-Child cs ≤ height_of (children_in cs)
children_fall [] = omega arith
children_fall (c ∷ cs) = omega (arith, snapshot_falls c.snapshot, children_fall cs)
