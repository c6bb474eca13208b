use Rattle.child_map.specs.Keys.{entries_of}
use Rattle.child_map.specs.Places.{IsPlaceOf, IsAlikeAt}
use Rattle.child_map.proofs.MapLemmas.{to_seen}
use Rattle.child_map.proofs.map.ChildMap.get.Goals as goal

pub returns-clause-place : goal.returns-clause-place
returns-clause-place g c = to_seen (λ case keys. IsPlaceOf case keys c.args.path.now c.get.result) c.self.inside.case (entries_of c.self.inside.list) c.args.self.now c.self.view_is c.get.ensures.place

pub returns-clause-alike : goal.returns-clause-alike
returns-clause-alike g c = to_seen (λ case keys. IsAlikeAt case keys c.args.path.now c.get.result) c.self.inside.case (entries_of c.self.inside.list) c.args.self.now c.self.view_is c.get.ensures.alike
