use Rattle.child_map.specs.Keys.{entries_of}
use Rattle.child_map.proofs.EntryLemmas.{replaced-is}
use Rattle.child_map.proofs.list.ChildList.replaced.Goals as goal

pub returns : goal.returns
returns g c = replaced-is c.changed.result (entries_of c.args.self.now) c.args.i c.args.child c.requires c.changed.ensures
