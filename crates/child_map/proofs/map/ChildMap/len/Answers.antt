use Rattle.vfs_model.specs.World.{AreInOrder}
use Rattle.child_map.specs.Keys.{entries_of, first_names}
use Rattle.child_map.proofs.MapLemmas.{to_seen}
use Rattle.child_map.proofs.map.ChildMap.len.Goals as goal

pub returns-clause-order : goal.returns-clause-order
returns-clause-order g c = to_seen (λ case keys. AreInOrder case (first_names keys)) c.self.inside.case (entries_of c.self.inside.list) c.args.self.now c.self.view_is c.self.invariant
