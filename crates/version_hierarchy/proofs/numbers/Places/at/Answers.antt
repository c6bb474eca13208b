use Rattle.child_map.specs.Keys.{entries_of}
use Rattle.version_hierarchy.proofs.NumbersLemmas.{order-of, at-value, at-nothing, value-sorted}
use Rattle.version_hierarchy.proofs.numbers.Places.at.Goals as goal

pub seek-requires : goal.seek-requires
seek-requires c = order-of c.args.case (entries_of c.self.inside.list) c.args.self.now c.self.view_is c.requires.order

pub returns-in-Ok-clause-value : goal.returns-in-Ok-clause-value
returns-in-Ok-clause-value c = at-value c.args.case (entries_of c.self.inside.list) c.entries.result.now c.args.self.now c.args.name.now c.in-Ok.i c.index-entries-i.result c.self.view_is c.entries.ensures c.in-Ok.ensures

pub returns-in-Ok-clause-sorted : goal.returns-in-Ok-clause-sorted
returns-in-Ok-clause-sorted c = value-sorted c.args.case c.args.self.now c.args.name.now _ (at-value c.args.case (entries_of c.self.inside.list) c.entries.result.now c.args.self.now c.args.name.now c.in-Ok.i c.index-entries-i.result c.self.view_is c.entries.ensures c.in-Ok.ensures) c.requires.sorted

pub returns-in-Err-clause-value : goal.returns-in-Err-clause-value
returns-in-Err-clause-value c = at-nothing c.args.case (entries_of c.self.inside.list) c.args.self.now c.args.name.now c.in-Err.field-0 c.self.view_is c.in-Err.ensures
