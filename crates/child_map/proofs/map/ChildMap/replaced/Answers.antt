use Rattle.std.proofs.Common.{ap, ◌∙◌}
use Rattle.child_map.specs.Keys.{entries_of}
use Rattle.child_map.specs.Children.{keys_of}
use Rattle.child_map.proofs.MapLemmas.{replaced-some, replaced-within, replaced-order, replaced-seen}
use Rattle.child_map.proofs.map.ChildMap.replaced.Goals as goal

pub from_vec-requires : goal.from_vec-requires
from_vec-requires g c = replaced-some c.args.self.now.case (keys_of c.args.self.now) c.args.i c.args.key.items c.requires

pub replaced-requires : goal.replaced-requires
replaced-requires g c = replaced-within c.self.inside.case (entries_of c.self.inside.list) c.args.self.now c.args.i _ c.self.view_is c.requires

pub with_list-requires : goal.with_list-requires
with_list-requires g c = replaced-order c.self.inside.case (entries_of c.self.inside.list) (entries_of c.in_ok-list.list) c.args.self.now c.in_ok-key.key c.args.key.items c.args.value c.args.i c.self.view_is c.in_ok-key.ensures c.self.invariant c.requires c.in_ok-list.ensures

pub returns-clause-children : goal.returns-clause-children
returns-clause-children g c = ap (λ kids. kids.children) c.with_list.ensures ∙ replaced-seen c.self.inside.case (entries_of c.self.inside.list) (entries_of c.in_ok-list.list) c.args.self.now c.in_ok-key.key c.args.key.items c.args.value c.args.i c.self.view_is c.in_ok-key.ensures c.in_ok-list.ensures
