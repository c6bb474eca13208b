use Rattle.std.proofs.Common.{◌≡◌, ◌+◌, ◌*◌, ◌++◌, map, take}
use Rattle.std.specs.List.{flat_map}
use Rattle.snapshot_tree.specs.Meaning.{meaning_of}
use Rattle.snapshot_tree.specs.Listing.{entries_of}
use Rattle.snapshot_tree.specs.Height.{height, height_of}
use Rattle.fingerprint_norms.specs.Meaning.{sensitivity_of, entry_of}
use Rattle.fingerprint_norms.specs.Walk.{below, places_of}
use Rattle.fingerprint_norms.proofs.WalkLemmas.{child_entries}
use Rattle.fingerprint_norms.proofs.walk.+walk.Given as goal

-- how high what is left stands, and a half for a directory
abbrev pub decreases-add_children : goal.decreases-add_children
decreases-add_children l = 2 * height_of l.directory.now + 1

abbrev pub decreases-add_location : goal.decreases-add_location
decreases-add_location l = 2 * height (meaning_of l.snapshot.now)

-- the names are as before, and the entries of the children so far were appended
abbrev pub invariant-add_children-loop-i : goal.invariant-add_children-loop-i
invariant-add_children-loop-i l =
    (l.names.items ≡ l.fn.names.items)
    × (map entry_of l.entries.items
    ≡ map entry_of l.fn.entries.items
    ++ flat_map (child_entries l.case (places_of l.case l.earlier) (sensitivity_of l.input.sensitivity) l.input.root (below l.input.root l.fn.names.items)) (take l.i (entries_of l.directory)))
