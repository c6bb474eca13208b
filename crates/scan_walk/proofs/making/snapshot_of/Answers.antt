use Rattle.std.proofs.Common.{ap}
use Rattle.world_model.specs.Meaning.{look_seen}
use Rattle.scan_walk.proofs.making.snapshot_of.Goals as goal

pub unreachable-requires : goal.unreachable-requires
unreachable-requires c = let last = c.requires.digest _ (ap look_seen c.in-File.is) in cc (c.in-None.ensures.value)
