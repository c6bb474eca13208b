-- A tree of files as a value: what is at a place, how one directory changes, and the world that the tree is.
use Rattle.std.specs.Prelude.{ℕ, zero, suc, Bool, true, false, ◌&&◌, List, [], ◌∷◌, ◌++◌, max, Option, Some, None, option_map, unwrap_or, if◌then◌else◌}
use Rattle.std.specs.declared.cmp.Ordering.{Ordering}
use Rattle.std.specs.declared.cmp.Ordering.TheVariants.{Less, Equal, Greater}
use Rattle.vfs_model.specs.declared.Case.{Case}
use Rattle.vfs_model.specs.Paths.{Name, Path, folded_name, place, is_same_name, name_order, last_name}
use Rattle.vfs_model.specs.World.{World, Directory, Regular, AreInOrder, IsWorld, Status, IsMissing, status_of_node, Node}
use Rattle.vfs_model.specs.Edit.{Edit, Write, Mkdir, Remove, Move, parent}

mutual
  -- a file with its bytes, or a directory with its children
  pub data FileTree : Type 0 where
    Leaf : (bytes : List ℕ) → FileTree
    Branch : Children → FileTree

  -- no children, or a child with its name before others
  pub data Children : Type 0 where
    NoChildren : Children
    WithChild : (name : Name) → FileTree → Children → Children

-- a child of a directory
pub record Named : Type 0 where
  pub name : Name
  pub tree : FileTree

-- the children's names
abbrev pub names_of : Children → List Name
names_of NoChildren = []
names_of (WithChild n tree more) = n ∷ names_of more

-- ---- what is at a place

-- the child that is n where its name is folded
abbrev pub child : Case → Children → Name → Option Named
child case NoChildren n = None
child case (WithChild m tree more) n = if is_same_name (folded_name case m) n then Some (record { name = m; tree = tree }) else child case more n

-- the same of what may be a directory
abbrev pub child_of : Case → Option FileTree → Name → Option Named
child_of case None n = None
child_of case (Some (Leaf bytes)) n = None
child_of case (Some (Branch children)) n = child case children n

-- a child without its name
abbrev pub tree_of : Option Named → Option FileTree
tree_of None = None
tree_of (Some c) = Some c.tree

-- what is at the place below
abbrev pub tree_at : Case → Option FileTree → Path → Option FileTree
tree_at case tree [] = tree
tree_at case tree (n ∷ x) = tree_at case (tree_of (child_of case tree n)) x

-- what is at the place in the tree with this root
abbrev pub at_root : Case → Children → Path → Option FileTree
at_root case root x = tree_at case (Some (Branch root)) x

-- ---- the changes of one directory

-- the new child comes before the old one, in its place where the names are the same, or into the rest
abbrev pub put_by : Ordering → Name → FileTree → Name → FileTree → Children → Children → Children
put_by Less n new m old more more_with_new = WithChild n new (WithChild m old more)
put_by Equal n new m old more more_with_new = WithChild n new more
put_by Greater n new m old more more_with_new = WithChild m old more_with_new

-- the child goes to its place in the order, instead of one whose name is the same
abbrev pub put : Case → Name → FileTree → Children → Children
put case n new NoChildren = WithChild n new NoChildren
put case n new (WithChild m old more) = put_by (name_order case n m) n new m old more (put case n new more)

-- no child is n where its name is folded; the others stay
abbrev pub without : Case → Name → Children → Children
without case n NoChildren = NoChildren
without case n (WithChild m tree more) = if is_same_name (folded_name case m) n then without case n more else WithChild m tree (without case n more)

-- what is below a directory changes; a file stays
abbrev pub put_changed : Case → Children → Name → FileTree → (Children → Children) → Children
put_changed case children n (Leaf bytes) change = children
put_changed case children n (Branch below) change = put case n (Branch (change below)) children

-- the child changes and keeps its name
abbrev pub with_changed : Case → Children → Option Named → (Children → Children) → Children
with_changed case children None change = children
with_changed case children (Some c) change = put_changed case children c.name c.tree change

-- the tree after a change of the directory at the place
abbrev pub changed : Case → (Children → Children) → Path → Children → Children
changed case change [] children = change children
changed case change (n ∷ x) children = with_changed case children (child case children n) (changed case change x)

-- ---- edits

-- the tree with something at the path, under this name
abbrev pub placed : Case → Children → Path → Name → FileTree → Children
placed case root p n tree = changed case (put case n tree) (place case (parent p)) root

-- the tree with nothing at the path
abbrev pub cleared : Case → Children → Path → Children
cleared case root p = changed case (without case (folded_name case (last_name p))) (place case (parent p)) root

-- how the last name of what is at the path is spelled, or how the path spells it where nothing is there
abbrev pub spelled : Case → Children → Path → Name
spelled case root p = unwrap_or (option_map (λ (c : Named). c.name) (child_of case (at_root case root (place case (parent p))) (folded_name case (last_name p)))) (last_name p)

-- the tree with what was taken at the path
abbrev pub placed_if : Case → Children → Path → Option FileTree → Children
placed_if case root q None = root
placed_if case root q (Some tree) = placed case root q (last_name q) tree

-- the tree after an edit that is not refused
abbrev pub edited : Case → Children → Edit → Children
edited case root (Write p bytes) = placed case root p (spelled case root p) (Leaf bytes)
edited case root (Mkdir p) = placed case root p (last_name p) (Branch NoChildren)
edited case root (Remove p) = cleared case root p
edited case root (Move p q) = placed_if case (cleared case root p) q (at_root case root (place case p))

-- ---- the world

abbrev mutual
  -- what is at the path, and then what is below
  pub entries : Path → FileTree → World
  entries path (Leaf bytes) = record { path = path; node = Regular bytes } ∷ []
  entries path (Branch children) = record { path = path; node = Directory } ∷ entries_below path children

  -- what is below the path
  pub entries_below : Path → Children → World
  entries_below path NoChildren = []
  entries_below path (WithChild n tree more) = entries (path ++ n ∷ []) tree ++ entries_below path more

-- the world that the tree with this root is
abbrev pub world_of : Children → World
world_of root = entries [] (Branch root)

-- what stands there, without what is below
abbrev pub node_of_tree : FileTree → Node
node_of_tree (Leaf bytes) = Regular bytes
node_of_tree (Branch below) = Directory

-- the status of what is at a place
abbrev pub status_of_tree : Option FileTree → Status
status_of_tree None = IsMissing
status_of_tree (Some tree) = status_of_node (node_of_tree tree)

-- the names in it
abbrev pub names_in : Option FileTree → List Name
names_in None = []
names_in (Some (Leaf bytes)) = []
names_in (Some (Branch children)) = names_of children

abbrev mutual
  -- in each directory each name stands before all that follow
  pub IsOrdered : Case → FileTree → Type 0
  IsOrdered case (Leaf bytes) = Unit {0}
  IsOrdered case (Branch children) = AreInOrder case (names_of children) × AreOrdered case children

  -- the same of what is below
  pub AreOrdered : Case → Children → Type 0
  AreOrdered case NoChildren = Unit {0}
  AreOrdered case (WithChild n tree more) = IsOrdered case tree × AreOrdered case more

-- the names of each directory are in order, and the tree is a world
pub record IsTree (case : Case) (root : Children) : Type 0 where
  pub ordered : IsOrdered case (Branch root)
  pub world : IsWorld case (world_of root)

abbrev mutual
  -- no path below has more names than this
  pub fits : ℕ → FileTree → Bool
  fits levels (Leaf bytes) = true
  fits levels (Branch children) = children_fit levels children

  -- the same of what is in a directory
  pub children_fit : ℕ → Children → Bool
  children_fit levels NoChildren = true
  children_fit zero (WithChild n tree more) = false
  children_fit (suc levels) (WithChild n tree more) = fits levels tree && children_fit (suc levels) more

-- the same of what may be there
abbrev pub found_fits : ℕ → Option FileTree → Bool
found_fits levels None = true
found_fits levels (Some tree) = fits levels tree

abbrev mutual
  -- how many directories stand in one another
  pub height : FileTree → ℕ
  height (Leaf bytes) = 0
  height (Branch children) = suc (height_of children)

  -- the same of the highest child
  pub height_of : Children → ℕ
  height_of NoChildren = 0
  height_of (WithChild n tree more) = max (height tree) (height_of more)
