-- The numbers below a place are lower than those of the place.
use Rattle.std.specs.Prelude.{ℕ, ◌≤◌, max, List, [], ◌∷◌, Option, Some, None}
use Rattle.std.proofs.Common.{arith}
use denote.Param.Weighed.{most}
use Rattle.std.specs.declared.sync.Arc.{Arc}
use Rattle.std.specs.declared.vec.Vec.{Vec}
use Rattle.std.specs.declared.alloc.Global.{Global}
use Rattle.child_map.specs.declared.list.Entry.{Entry}
use Rattle.child_map.specs.declared.list.ChildList.{ChildList}
use Rattle.child_map.specs.Keys.{entries_of, held_by}
use Rattle.version_hierarchy.specs.declared.numbers.Numbers.{Numbers as NumbersOfCode}
use Rattle.version_hierarchy.specs.declared.numbers.Places.TheDeep.{deep-Places, deep-Numbers}
use Rattle.version_hierarchy.specs.declared.numbers.Places.TheInside.{Inside}
use Rattle.version_hierarchy.specs.Numbers.{numbers_of, places_in, height, height_of}

deep-height : (node : NumbersOfCode) → deep-Numbers node ≤ height (numbers_of node)
deep-height node = omega arith

most-height : (f : Entry NumbersOfCode → ℕ) → ((e : Entry NumbersOfCode) → f e ≤ deep-Numbers e.value) → (es : List (Entry NumbersOfCode)) → most f es ≤ height_of (places_in es)
most-height f h [] = omega arith
most-height f h (e ∷ es) = let v = h e in let d = deep-height e.value in let k = most-height f h es in omega arith

entries-height : (f : Entry NumbersOfCode → ℕ) (es : List (Entry NumbersOfCode)) → ((e : Entry NumbersOfCode) → f e ≤ deep-Numbers e.value) → max (max 0 (max (max (most f es) 0) 0)) 0 ≤ height_of (places_in es)
entries-height f es h = let m = most-height f h es in omega arith

owner-falls : (o : Option (Arc (Vec (Entry NumbersOfCode) Global) Global)) (list : ChildList NumbersOfCode) → deep-Places (record { list = record list { entries = o } }) ≤ height_of (places_in (held_by o))
owner-falls None list = omega arith
owner-falls (Some owner) list = entries-height _ owner.value.items (λ e. omega arith)

pub places-fall : (a : Inside) → deep-Places a ≤ height_of (places_in (entries_of a.list))
places-fall a = owner-falls a.list.entries a.list
