use Rattle.child_map.specs.Keys.{entries_of}
use Rattle.version_hierarchy.proofs.NumbersLemmas.{order-of, with-here, with-gap}
use Rattle.version_hierarchy.proofs.numbers.Places.with.Goals as goal

pub seek-requires : goal.seek-requires
seek-requires c = order-of c.args.case (entries_of c.self.inside.list) c.args.self.now c.self.view_is c.requires

pub returns-in_ok-list-in-Ok : goal.returns-in_ok-list-in-Ok
returns-in_ok-list-in-Ok c = with-here c.args.case (entries_of c.self.inside.list) (entries_of c.in_ok-list-in-Ok.list) c.args.self.now (record { key = c.one.result; value = c.args.numbers }) c.in_ok-share.field-0 c.args.name.now c.in-Ok.i c.self.view_is c.one.ensures c.in_ok-share.ensures c.in-Ok.ensures c.in_ok-list-in-Ok.ensures

pub returns-in_ok-list-in-Err : goal.returns-in_ok-list-in-Err
returns-in_ok-list-in-Err c = with-gap c.args.case (entries_of c.self.inside.list) (entries_of c.in_ok-list-in-Err.list) c.args.self.now (record { key = c.one.result; value = c.args.numbers }) c.in_ok-share.field-0 c.args.name.now c.in-Err.i c.self.view_is c.one.ensures c.in_ok-share.ensures c.in-Err.ensures c.in_ok-list-in-Err.ensures
