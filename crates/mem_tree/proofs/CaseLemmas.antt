-- Which trees have their root alone, and that no test of a world makes an edit refused as by a read-only tree.
use Rattle.std.proofs.Common.{◌≡◌, Bool, true, false, List, [], ◌∷◌, length, ◌==◌, true≢false, Option, Some, None, if◌then◌else◌, refl, ◌∙◌, subst, sym, arith}
use Rattle.std.specs.List.{AllByRecursion as Each}
use Rattle.vfs_model.specs.declared.Case.{Case}
use Rattle.vfs_model.specs.Paths.{Name}
use Rattle.vfs_model.specs.World.{World}
use Rattle.vfs_model.specs.Edit.{Edit, Write, Mkdir, Remove, Move, Refusal, ReadOnly, first_refusal, refusals, refusal}
use Rattle.vfs_laws.proofs.HistoryLemmas.{empty-is_world}
use Rattle.mem_tree.specs.FileTree.{FileTree, Leaf, Branch, Children, NoChildren, WithChild, world_of, IsTree}
use Rattle.mem_tree.specs.Nodes.{tree_of_node, children_of}
use Rattle.world_model.specs.Told.{is_root_alone}
use Rattle.mem_tree.specs.declared.node.Child.{Child}

-- a tree with a child has more than its root
not-alone : (n : Name) (tree : FileTree) (more : Children) → false ≡ is_root_alone (world_of (WithChild n tree more))
not-alone n (Leaf bytes) more = refl
not-alone n (Branch below) more = refl

-- a tree has its root alone where the root has no child
pub empty-alone : (cs : List Child) → (length cs == 0) ≡ is_root_alone (world_of (children_of cs))
empty-alone [] = refl
empty-alone (c ∷ more) =
    let some : (length (c ∷ more) == 0) ≡ false = grind arith in
    some ∙ not-alone c.name (tree_of_node c.node) (children_of more)

-- a tree that has its root alone is one under every case
pub alone-tree : (case : Case) (root : Children) → is_root_alone (world_of root) ≡ true → IsTree case root
alone-tree case NoChildren e = record { ordered = (tt, tt); world = empty-is_world case }
alone-tree case (WithChild n tree more) e = absurd (true≢false (sym e ∙ sym (not-alone n tree more)))

-- it is the refusal of a read-only tree
abbrev is_read_only : Refusal → Bool
is_read_only ReadOnly = true
is_read_only _ = false

abbrev is_some_read_only : Option Refusal → Bool
is_some_read_only None = false
is_some_read_only (Some r) = is_read_only r

other-or : (holds : Bool) (r : Refusal) (rest : Option Refusal) → is_read_only r ≡ false → is_some_read_only rest ≡ false → is_some_read_only (if holds then Some r else rest) ≡ false
other-or true r rest h k = h
other-or false r rest h k = k

other-first : (rs : List (Bool × Refusal)) → Each (λ (r : Bool × Refusal). is_read_only r.1 ≡ false) rs → is_some_read_only (first_refusal rs) ≡ false
other-first [] h = refl
other-first (r ∷ rs) h = other-or r.0 r.1 (first_refusal rs) h.0 (other-first rs h.1)

-- no test of a world makes an edit refused as by a read-only tree
other-refusal : (case : Case) (world : World) (edit : Edit) → is_some_read_only (refusal case world edit) ≡ false
other-refusal case world (Write p bytes) = other-first (refusals case world (Write p bytes)) (refl, (refl, (refl, (refl, (refl, tt)))))
other-refusal case world (Mkdir p) = other-first (refusals case world (Mkdir p)) (refl, (refl, (refl, (refl, (refl, tt)))))
other-refusal case world (Remove p) = other-first (refusals case world (Remove p)) (refl, (refl, tt))
other-refusal case world (Move p q) = other-first (refusals case world (Move p q)) (refl, (refl, (refl, (refl, (refl, (refl, (refl, (refl, tt))))))))

pub never-read_only : (case : Case) (world : World) (edit : Edit) → refusal case world edit ≡ Some ReadOnly → true ≡ false
never-read_only case world edit e = subst (λ (r : Option Refusal). is_some_read_only r ≡ false) e (other-refusal case world edit)
