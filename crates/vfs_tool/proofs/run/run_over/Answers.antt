use Rattle.std.proofs.Common.{List, subst}
use Rattle.std.proofs.lemmas.Result.{on_ok_weaker, IfErr-weaker}
use Rattle.script_text.specs.declared.script.Line.{Line}
use Rattle.script_text.specs.declared.script.Opening.{Opening}
use Rattle.script_runs.specs.Opening.{OpensLines, BreaksOpening}
use Rattle.vfs_tool.specs.Scripts.{RunsCommands, BreaksCommands}
use Rattle.vfs_tool.proofs.FolderLemmas.{answers-case, runs-over, breaks-early, breaks-late}
use Rattle.vfs_tool.proofs.run.run_over.Goals as goal

pub returns-in-Err-clause-err : goal.returns-in-Err-clause-err
returns-in-Err-clause-err g c =
    let settings = c.args.script.now.settings in
    let set = g.T.Tree.told c.set_case-takes_case.new.self in
    let took = c.set_case-takes_case.result in
    let asked = c.set_case-takes_case.ensures in
    let e = c.in-Err.stopped in
    breaks-early g.T.Tree.takes_no_edits c.args.script.now (g.T.Tree.told c.args.tree) set (g.T.Tree.told c.put_openings-opened.new.tree) took _ _ e
    (answers-case g.T.Tree.takes_no_edits (g.T.Tree.told c.args.tree) set settings.case took asked.set asked.seen asked.read_only) asked.set
    (subst (λ (os : List Opening). BreaksOpening set (g.T.Tree.told c.put_openings-opened.new.tree) took os (g.K.Sink.told c.args.sink.now) (g.K.Sink.told c.put_openings-opened.new.sink) e) c.as_slice.ensures c.in-Err.ensures.err)

pub returns-clause-ok : goal.returns-clause-ok
returns-clause-ok g c =
    let settings = c.args.script.now.settings in
    let set = g.T.Tree.told c.set_case-takes_case.new.self in
    let opened = g.T.Tree.told c.put_openings-opened.new.tree in
    let took = c.set_case-takes_case.result in
    let asked = c.set_case-takes_case.ensures in
    let case = answers-case g.T.Tree.takes_no_edits (g.T.Tree.told c.args.tree) set settings.case took asked.set asked.seen asked.read_only in
    let openings = subst (λ (os : List Opening). OpensLines set opened took os (g.K.Sink.told c.args.sink.now) (g.K.Sink.told c.put_openings-opened.new.sink)) c.as_slice.ensures c.in_default.ensures.ok in
    on_ok_weaker c.run_commands.result.0
    (λ run. runs-over g.T.Tree.takes_no_edits c.args.script.now (g.T.Tree.told c.args.tree) set opened (g.T.Tree.told c.run_commands.result.1) took _ _ _ case asked.set openings
    (subst (λ (ls : List Line). RunsCommands settings.queue opened (g.T.Tree.told c.run_commands.result.1) ls (g.K.Sink.told c.put_openings-opened.new.sink) (g.K.Sink.told c.run_commands.new.sink)) c.as_slice-2.ensures run))
    c.run_commands.ensures.ok

pub returns-clause-err : goal.returns-clause-err
returns-clause-err g c =
    let settings = c.args.script.now.settings in
    let set = g.T.Tree.told c.set_case-takes_case.new.self in
    let opened = g.T.Tree.told c.put_openings-opened.new.tree in
    let took = c.set_case-takes_case.result in
    let asked = c.set_case-takes_case.ensures in
    let case = answers-case g.T.Tree.takes_no_edits (g.T.Tree.told c.args.tree) set settings.case took asked.set asked.seen asked.read_only in
    let openings = subst (λ (os : List Opening). OpensLines set opened took os (g.K.Sink.told c.args.sink.now) (g.K.Sink.told c.put_openings-opened.new.sink)) c.as_slice.ensures c.in_default.ensures.ok in
    IfErr-weaker c.run_commands.result.0 _ _
    (λ e broke. breaks-late g.T.Tree.takes_no_edits c.args.script.now (g.T.Tree.told c.args.tree) set opened (g.T.Tree.told c.run_commands.result.1) took _ _ _ e c.put_openings-opened.ensures.later case asked.set openings
    (subst (λ (ls : List Line). BreaksCommands settings.queue opened (g.T.Tree.told c.run_commands.result.1) ls (g.K.Sink.told c.put_openings-opened.new.sink) (g.K.Sink.told c.run_commands.new.sink) e) c.as_slice-2.ensures broke))
    c.run_commands.ensures.err
