-- Each child is lower than its directory.
use Rattle.std.specs.Prelude.{◌≤◌, max, List, [], ◌∷◌, Option, Some, None}
use Rattle.std.proofs.Common.{arith}
use denote.Param.Weighed.{most}
use Rattle.std.specs.declared.sync.Arc.{Arc}
use Rattle.std.specs.declared.vec.Vec.{Vec}
use Rattle.std.specs.declared.alloc.Global.{Global}
use Rattle.mem_tree.specs.declared.node.Node.{Node}
use Rattle.mem_tree.specs.declared.node.Node.TheVariants.{File, Dir}
use Rattle.mem_tree.specs.declared.node.Child.{Child}
use Rattle.mem_tree.specs.declared.node.Listing.TheDeep.{deep-Child, deep-Node, deep-Listing}
use Rattle.mem_tree.specs.declared.node.Listing.TheInside.{Inside}
use Rattle.mem_tree.specs.FileTree.{height, height_of}
use Rattle.mem_tree.specs.Nodes.{tree_of_node, children_of, listed}

deep-height : (node : Node) → deep-Node node ≤ height (tree_of_node node)
deep-height (File bytes) = omega arith
deep-height (Dir listing) = omega arith

most-height : (cs : List Child) → max (most deep-Child cs) 0 ≤ height_of (children_of cs)
most-height [] = omega arith
most-height (c ∷ cs) = let h = deep-height c.node in let k = most-height cs in omega arith

listing-falls : (cs : Option (Arc (Vec Child Global) Global)) → deep-Listing (record { children = cs }) ≤ height_of (children_of (listed cs))
listing-falls None = omega arith
listing-falls (Some owner) = let h = most-height owner.value.items in omega arith

pub listing-lower : (a : Inside) → deep-Listing a ≤ height_of (children_of (listed a.children))
listing-lower a = listing-falls a.children
