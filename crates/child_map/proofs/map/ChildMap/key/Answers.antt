use Rattle.child_map.specs.Keys.{entries_of}
use Rattle.child_map.proofs.MapLemmas.{key-seen}
use Rattle.child_map.proofs.map.ChildMap.key.Goals as goal

pub returns-clause-key : goal.returns-clause-key
returns-clause-key g c = key-seen c.self.inside.case (entries_of c.self.inside.list) c.entries.result.now c.args.self.now c.args.i c.index-entries-i.result c.as_slice.result.now c.self.view_is c.entries.ensures c.requires c.as_slice.ensures.names
