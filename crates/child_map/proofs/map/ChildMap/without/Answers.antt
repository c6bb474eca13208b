use Rattle.std.proofs.Common.{ap, ◌∙◌}
use Rattle.child_map.specs.Keys.{entries_of}
use Rattle.child_map.proofs.MapLemmas.{without-order, without-seen}
use Rattle.child_map.proofs.map.ChildMap.without.Goals as goal

pub with_list-requires : goal.with_list-requires
with_list-requires g c = without-order c.self.inside.case (entries_of c.self.inside.list) (entries_of c.in_ok-list.list) c.args.self.now c.args.i c.self.view_is c.self.invariant c.in_ok-list.ensures

pub returns-clause-children : goal.returns-clause-children
returns-clause-children g c = ap (λ kids. kids.children) c.with_list.ensures ∙ without-seen c.self.inside.case (entries_of c.self.inside.list) (entries_of c.in_ok-list.list) c.args.self.now c.args.i c.self.view_is c.in_ok-list.ensures
