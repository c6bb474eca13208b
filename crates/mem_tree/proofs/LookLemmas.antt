-- What a look at a tree sees.
use Rattle.std.proofs.Common.{◌≡◌, List, [], length, Option, Some, None, refl, sym, ◌∙◌, subst}
use Rattle.vfs_model.specs.declared.Case.{Case}
use Rattle.vfs_model.specs.Paths.{Name, Path, place}
use Rattle.vfs_model.specs.World.{World, Entry, Node, at, names, IsWorld}
use Rattle.vfs_model.specs.Scanning.{Look, SeesNothing, SeesFile, SeesDir, look, look_of, look_of_node}
use Rattle.vfs_model.specs.Sound.{IsLook}
use Rattle.vfs_laws.proofs.DueLemmas.{look-look}
use Rattle.vfs_laws.proofs.WorldLemmas.{length-place}
use Rattle.mem_tree.specs.FileTree.{FileTree, Leaf, Branch, Children, Named, tree_of, at_root, world_of, names_in, IsTree}
use Rattle.mem_tree.proofs.TreeLemmas.{found, seen, root_of, found-tree}
use Rattle.mem_tree.proofs.EntriesLemmas.{seen_entry, at-world_of, names-world_of}

-- what is seen of an entry
abbrev look_seen_at : Option (Name × Node) → List Name → Look
look_seen_at None ns = SeesNothing
look_seen_at (Some s) ns = look_of_node s.1 ns

-- a look at an entry shows what is seen of it
entry-look : (e : Option Entry) (ns : List Name) → look_of e ns ≡ look_seen_at (seen_entry e) ns
entry-look None ns = refl
entry-look (Some e) ns = refl

-- what is seen of a tree
abbrev tree_look : Option FileTree → List Name → Look
tree_look None ns = SeesNothing
tree_look (Some (Leaf bytes)) ns = SeesFile bytes
tree_look (Some (Branch below)) ns = SeesDir ns

-- a look at what is found shows the tree
named-look : (o : Option Named) (ns : List Name) → look_seen_at (seen o) ns ≡ tree_look (tree_of o) ns
named-look None ns = refl
named-look (Some c) ns = by c.tree
  where
    by : (t : FileTree) → look_seen_at (seen (Some (record { name = c.name; tree = t }))) ns ≡ tree_look (Some t) ns
    by (Leaf bytes) = refl
    by (Branch ds) = refl

-- a look at the world of a tree sees what is in the tree
pub look-tree : (case : Case) (root : Children) (x : Path) (o : Option FileTree) → IsTree case root → o ≡ at_root case root x → tree_look o (names_in o) ≡ look case (world_of root) x
look-tree case root x o tree is =
    sym (entry-look (at case (world_of root) x) (names case (world_of root) x)
    ∙ (λ i. look_seen_at (at-world_of case root x tree.ordered i) (names-world_of case root x tree.ordered i))
    ∙ named-look (found case (root_of [] root) x) (names_in (at_root case root x))
    ∙ (λ i. tree_look ((found-tree case (root_of [] root) x ∙ sym is) i) (names_in (sym is i))))

-- a look at a world lists names as a look does
pub look-shape : (case : Case) (world : World) (path : Path) (l : Look) → IsWorld case world → l ≡ look case world (place case path) → IsLook case (length path) l
look-shape case world path l w is = subst (IsLook case (length path)) (sym is) (look-look case world (place case path) (length path) (length-place case path) w)
