use Rattle.std.proofs.lemmas.Result.{err_from_is_err_and}
use Rattle.vfs_tool.proofs.TakeLemmas.{stops_on, more_asked}
use Rattle.vfs_tool.proofs.input.take_all.Goals as goal

pub returns-in_err-count-clause-err : goal.returns-in_err-count-clause-err
returns-in_err-count-clause-err g c =
    let p = err_from_is_err_and c.from_residual.result c.from_residual.ensures.1 in
    let inv = c.takes.invariant in
    rw (p.1, p.2)
    (stops_on c.in_err-count.field-0.0 (g.S.Source.told c.args.source.now) (g.S.Source.told c.takes.source) (g.S.Source.told c.take_more.new.source) c.takes.text.items inv.took inv.within inv.later c.in_err-count.ensures.err)

pub returns-in_err-count-clause-asked : goal.returns-in_err-count-clause-asked
returns-in_err-count-clause-asked g c = more_asked (g.S.Source.told c.args.source.now) (g.S.Source.told c.takes.source) (g.S.Source.told c.take_more.new.source) 65536 c.takes.invariant.asked c.take_more.ensures.asked

pub returns-then-count-eq0-clause-asked : goal.returns-then-count-eq0-clause-asked
returns-then-count-eq0-clause-asked g c = more_asked (g.S.Source.told c.args.source.now) (g.S.Source.told c.takes.source) (g.S.Source.told c.take_more.new.source) 65536 c.takes.invariant.asked c.take_more.ensures.asked
