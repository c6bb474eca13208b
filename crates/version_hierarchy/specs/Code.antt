-- A code of numbers, by which proofs tell them apart: a struct may have them as its value.
use Rattle.std.specs.Prelude.{◌≡◌, ℕ}
use Rattle.std.proofs.Common.{refl}
use Rattle.std.specs.Coded.{Coded}
use base.Stored.{Gv, gnil, gnum, gcons}
use Rattle.vfs_model.specs.Code.{bytes_code, heads, tails}
use Rattle.tree_model.specs.Numbers.{Numbers, At, Places, NoMore, Next}

abbrev mutual
  pub numbers_gv : Numbers → Gv
  numbers_gv (At own below places) = gcons (gnum own) (gcons (gnum below) (places_gv places))

  pub places_gv : Places → Gv
  places_gv NoMore = gnil
  places_gv (Next n node more) = gcons (bytes_code.code n) (gcons (numbers_gv node) (places_gv more))

num-inj : (a b : ℕ) → gnum a ≡ gnum b → a ≡ b
num-inj a b e = cc

mutual
  pub numbers_inj : (a b : Numbers) → numbers_gv a ≡ numbers_gv b → a ≡ b
  numbers_inj (At o b ps) (At q c qs) e = λ i. At (num-inj o q (heads e) i) (num-inj b c (heads (tails e)) i) (places_inj ps qs (tails (tails e)) i)

  pub places_inj : (a b : Places) → places_gv a ≡ places_gv b → a ≡ b
  places_inj NoMore NoMore e = refl
  places_inj NoMore (Next m b rest) e = cc
  places_inj (Next n a more) NoMore e = cc
  places_inj (Next n a more) (Next m b rest) e = λ i. Next (bytes_code.inj n m (heads e) i) (numbers_inj a b (heads (tails e)) i) (places_inj more rest (tails (tails e)) i)

abbrev pub numbers_code : Coded Numbers
numbers_code = record { code = numbers_gv; inj = numbers_inj }

abbrev pub places_code : Coded Places
places_code = record { code = places_gv; inj = places_inj }
