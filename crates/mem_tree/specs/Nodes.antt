-- What the nodes of the code stand for.
use Rattle.std.specs.Prelude.{◌≡◌, ℕ, ◌<◌, ◌≤◌, List, [], ◌∷◌, Option, Some, None, length, take, drop, slice_index_or}
use Rattle.std.specs.List.{AllByRecursion as Each}
use Rattle.std.specs.declared.cmp.Ordering.TheVariants.{Less, Equal, Greater}
use Rattle.std.specs.declared.sync.Arc.{Arc}
use Rattle.std.specs.declared.vec.Vec.{Vec}
use Rattle.std.specs.declared.alloc.Global.{Global}
use Rattle.vfs_model.specs.declared.Case.{Case}
use Rattle.vfs_model.specs.Paths.{Name, name_order}
use Rattle.mem_tree.specs.FileTree.{FileTree, Leaf, Branch, Children, NoChildren, WithChild, Named}
use Rattle.mem_tree.specs.declared.node.Node.{Node}
use Rattle.mem_tree.specs.declared.node.Node.TheVariants.{File, Dir}
use Rattle.mem_tree.specs.declared.node.Child.{Child}

-- a node as a tree
abbrev pub tree_of_node : Node → FileTree
tree_of_node (File bytes) = Leaf bytes
tree_of_node (Dir listing) = Branch listing

-- a child with its name
abbrev pub named_of : Child → Named
named_of c = record { name = c.name; tree = tree_of_node c.node }

-- the children in the list
abbrev pub children_of : List Child → Children
children_of [] = NoChildren
children_of (c ∷ more) = WithChild c.name (tree_of_node c.node) (children_of more)

-- the children that an owner has, or none
abbrev pub listed : Option (Arc (Vec Child Global) Global) → List Child
listed None = []
listed (Some owner) = owner.value.items

-- the child at the index has the name, and the children before it come before the name
pub record IsHere (case : Case) (cs : List Child) (n : Name) (i : ℕ) : Type 0 where
  pub within : i < length cs
  pub before : Each (λ (c : Child). name_order case c.name n ≡ Less) (take i cs)
  pub same : (d : Child) → name_order case (slice_index_or cs i d).name n ≡ Equal

-- the children before the index come before the name, and those from it on come after it
pub record IsGap (case : Case) (cs : List Child) (n : Name) (i : ℕ) : Type 0 where
  pub within : i ≤ length cs
  pub before : Each (λ (c : Child). name_order case c.name n ≡ Less) (take i cs)
  pub after : Each (λ (c : Child). name_order case c.name n ≡ Greater) (drop i cs)
