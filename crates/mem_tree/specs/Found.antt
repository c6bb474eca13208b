-- What a search finds, and what a change leaves.
use Rattle.std.specs.Prelude.{Option, Some, None}
use Rattle.vfs_model.specs.declared.Case.{Case}
use Rattle.vfs_model.specs.Paths.{folded_name}
use Rattle.mem_tree.specs.FileTree.{FileTree, Leaf, Branch, Children, put, without, IsOrdered}
use Rattle.mem_tree.specs.Nodes.{tree_of_node}
use Rattle.mem_tree.specs.declared.node.Found.{Found}
use Rattle.mem_tree.specs.declared.node.Found.TheVariants.{Missing, File, Dir}
use Rattle.mem_tree.specs.declared.node.Change.{Change}
use Rattle.mem_tree.specs.declared.node.Change.TheVariants.{Put, Take}

-- what was found as a tree
abbrev pub tree_found : Found → Option FileTree
tree_found Missing = None
tree_found (File bytes) = Some (Leaf bytes.now)
tree_found (Dir listing) = Some (Branch listing.now)

-- in what was found the names are in order
abbrev pub AreOrderedAt : Case → Found → Type 0
AreOrderedAt case Missing = Unit {0}
AreOrderedAt case (File bytes) = Unit {0}
AreOrderedAt case (Dir listing) = IsOrdered case (Branch listing.now)

-- the children after the change
abbrev pub after_change : Case → Change → Children → Children
after_change case (Put c) = put case c.name (tree_of_node c.node)
after_change case (Take name) = without case (folded_name case name)
