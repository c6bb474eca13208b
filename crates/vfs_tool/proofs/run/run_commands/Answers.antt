use Rattle.std.proofs.Common.{length, sym, subst, ap, inl, inr, refl}
use Rattle.std.proofs.lemmas.Result.{on_ok_weaker, IfErr-weaker}
use Rattle.world_model.specs.Told.{TreeTold}
use Rattle.vfs_machine.specs.Whole.{told_of}
use Rattle.vfs_tool.specs.Scripts.{RunsCommands, BreaksCommands}
use Rattle.vfs_tool.proofs.MachineLemmas.{at_tree, count_tree, made-first, first-room, lines-run, lines-broke}
use Rattle.vfs_tool.proofs.run.run_commands.Goals as goal

-- memory was wanting for the machine
pub returns-in-Err-clause-err : goal.returns-in-Err-clause-err
returns-in-Err-clause-err g c = inl (record { wanting = refl; tree = ap g.T.Tree.told c.in-Err.ensures.tree; unput = refl })

pub run_lines-ended-requires-clause-room : goal.run_lines-ended-requires-clause-room
run_lines-ended-requires-clause-room g c κs within =
    let first = made-first (g.T.Tree.told c.args.tree) c.args.settings.queue c.in-Ok.machine c.new.result c.new-2.result c.case-case.result c.in-Ok.ensures.made c.case-case.ensures.case c.new.ensures c.new-2.ensures.case c.new-2.ensures.stands in
    first-room at_tree count_tree (g.T.Tree.told c.args.tree) c.args.settings.queue c.in-Ok.machine (length c.args.lines.now) first c.requires.few

pub returns-clause-ok : goal.returns-clause-ok
returns-clause-ok g c =
    let told = g.T.Tree.told c.args.tree in
    let queue = c.args.settings.queue in
    let first = made-first told queue c.in-Ok.machine c.new.result c.new-2.result c.case-case.result c.in-Ok.ensures.made c.case-case.ensures.case c.new.ensures c.new-2.ensures.case c.new-2.ensures.stands in
    on_ok_weaker c.run_lines-ended.result
    (λ run. subst (λ (t : TreeTold). RunsCommands queue told t c.args.lines.now (g.K.Sink.told c.args.sink.now) (g.K.Sink.told c.run_lines-ended.new.sink)) (sym c.into_tree.ensures)
    (lines-run at_tree count_tree told queue c.in-Ok.machine c.run_lines-ended.new.machine c.args.lines.now _ _ first run))
    c.run_lines-ended.ensures.ok

pub returns-clause-err : goal.returns-clause-err
returns-clause-err g c =
    let told = g.T.Tree.told c.args.tree in
    let queue = c.args.settings.queue in
    let first = made-first told queue c.in-Ok.machine c.new.result c.new-2.result c.case-case.result c.in-Ok.ensures.made c.case-case.ensures.case c.new.ensures c.new-2.ensures.case c.new-2.ensures.stands in
    IfErr-weaker c.run_lines-ended.result _ _
    (λ e broke. subst (λ (t : TreeTold). BreaksCommands queue told t c.args.lines.now (g.K.Sink.told c.args.sink.now) (g.K.Sink.told c.run_lines-ended.new.sink) e) (sym c.into_tree.ensures)
    (inr (lines-broke at_tree count_tree told queue c.in-Ok.machine c.run_lines-ended.new.machine c.args.lines.now _ _ e first broke)))
    c.run_lines-ended.ensures.err
