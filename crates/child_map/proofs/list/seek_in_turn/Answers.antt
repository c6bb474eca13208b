use Rattle.std.proofs.Common.{sym, ◌∙◌, arith}
use Rattle.child_map.proofs.EntryLemmas.{turn-here, turn-gap, turn-on, turn-end}
use Rattle.child_map.proofs.list.seek_in_turn.Goals as goal

pub loop-i-init : goal.loop-i-init
loop-i-init g c = tt

pub returns-in-Equal : goal.returns-in-Equal
returns-in-Equal g c = turn-here c.args.case c.args.entries.now c.args.name.now c.loop-i.i c.index-entries-i.result c.requires (omega arith) c.index-entries-i.is (sym c.first_order.ensures ∙ c.in-Equal.is)

pub returns-in-Greater : goal.returns-in-Greater
returns-in-Greater g c = turn-gap c.args.case c.args.entries.now c.args.name.now c.loop-i.i c.index-entries-i.result c.requires (omega arith) c.loop-i.invariant c.index-entries-i.is (sym c.first_order.ensures ∙ c.in-Greater.is)

pub loop-i-preserved : goal.loop-i-preserved
loop-i-preserved g c = turn-on c.args.case c.args.entries.now c.args.name.now c.loop-i.i c.index-entries-i.result (omega arith) c.loop-i.invariant c.index-entries-i.is (sym c.first_order.ensures ∙ c.in-Less.is)

pub returns : goal.returns
returns g c = turn-end c.args.case c.args.entries.now c.args.name.now c.loop-i.i (omega arith) c.loop-i.invariant
