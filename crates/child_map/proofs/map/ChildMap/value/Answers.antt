use Rattle.child_map.specs.Keys.{entries_of}
use Rattle.child_map.proofs.MapLemmas.{value-seen}
use Rattle.child_map.proofs.map.ChildMap.value.Goals as goal

pub returns : goal.returns
returns g c = value-seen c.self.inside.case (entries_of c.self.inside.list) c.entries.result.now c.args.self.now c.args.i c.index-entries-i.result c.self.view_is c.entries.ensures c.requires
