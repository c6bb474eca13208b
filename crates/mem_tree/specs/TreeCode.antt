-- A code of trees of files: proofs tell values apart by their codes, and so a struct may have them as its value.
use Rattle.std.specs.Prelude.{◌≡◌}
use Rattle.std.proofs.Common.{refl, sym, ap}
use Rattle.std.specs.Coded.{Coded}
use base.Stored.{Gv, gnil, gnum, gcons}
use Rattle.vfs_model.specs.Code.{bytes_code, heads, tails, zero≢one}
use Rattle.mem_tree.specs.FileTree.{FileTree, Leaf, Branch, Children, NoChildren, WithChild}

abbrev mutual
  pub tree_gv : FileTree → Gv
  tree_gv (Leaf bytes) = gcons (gnum 0) (bytes_code.code bytes)
  tree_gv (Branch children) = gcons (gnum 1) (children_gv children)

  pub children_gv : Children → Gv
  children_gv NoChildren = gnil
  children_gv (WithChild name tree more) = gcons (bytes_code.code name) (gcons (tree_gv tree) (children_gv more))

mutual
  pub tree_inj : (s t : FileTree) → tree_gv s ≡ tree_gv t → s ≡ t
  tree_inj (Leaf a) (Leaf b) e = ap Leaf (bytes_code.inj a b (tails e))
  tree_inj (Leaf a) (Branch ds) e = absurd (zero≢one (heads e))
  tree_inj (Branch cs) (Leaf b) e = absurd (zero≢one (sym (heads e)))
  tree_inj (Branch cs) (Branch ds) e = ap Branch (children_inj cs ds (tails e))

  pub children_inj : (cs ds : Children) → children_gv cs ≡ children_gv ds → cs ≡ ds
  children_inj NoChildren NoChildren e = refl
  children_inj NoChildren (WithChild n t ds) e = cc
  children_inj (WithChild n s cs) NoChildren e = cc
  children_inj (WithChild n s cs) (WithChild m t ds) e = λ i. WithChild (bytes_code.inj n m (heads e) i) (tree_inj s t (heads (tails e)) i) (children_inj cs ds (tails (tails e)) i)

abbrev pub children_code : Coded Children
children_code = record { code = children_gv; inj = children_inj }
