-- What a tree in memory holds.
use Rattle.vfs_model.specs.declared.Case.{Case}
use Rattle.vfs_model.specs.World.{World}

-- its case, and what is at each place
pub record Held : Type 0 where
  pub case : Case
  pub world : World
