-- How many directories stand above one another in a snapshot: the measure of what goes down it.
use Rattle.std.specs.Prelude.{ℕ, suc, max}
use Rattle.vfs_model.specs.Snapshot.{Snapshot, Missing, File, Dir, Children, Nothing, Child}

abbrev mutual
  pub height : Snapshot → ℕ
  height Missing = 0
  height (File digest) = 0
  height (Dir children) = suc (height_of children)

  pub height_of : Children → ℕ
  height_of Nothing = 0
  height_of (Child name s more) = max (height s) (height_of more)
