use Rattle.std.proofs.Common.{arith, rules, inr}
use Rattle.script_runs.specs.declared.output.Break.TheVariants.{Fault}
use Rattle.script_runs.proofs.LineLemmas.{text-runs, text-few, text-queue, text-workers}
use Rattle.vfs_tool.specs.Folder.{BreaksOver}
use Rattle.vfs_tool.proofs.FolderLemmas.{fault-rose}
use Rattle.vfs_tool.proofs.run.run_text.Goals as goal

pub run_over-ended-requires-clause-queue : goal.run_over-ended-requires-clause-queue
run_over-ended-requires-clause-queue g c _ _ = text-queue c.args.text.now c.in-Ok.script c.in-Ok.ensures.found

pub run_over-ended-requires-clause-workers : goal.run_over-ended-requires-clause-workers
run_over-ended-requires-clause-workers g c _ _ = text-workers c.args.text.now c.in-Ok.script c.in-Ok.ensures.found

pub run_over-ended-requires-clause-lines : goal.run_over-ended-requires-clause-lines
run_over-ended-requires-clause-lines g c _ _ = text-runs c.args.text.now c.in-Ok.script c.in-Ok.ensures.found

pub run_over-ended-requires-clause-few : goal.run_over-ended-requires-clause-few
run_over-ended-requires-clause-few g c = let few = text-few c.args.text.now c.in-Ok.script c.in-Ok.ensures.found in let fits = c.requires in omega (arith, few, fits)

pub returns-in-Err-Fault-clause-faulted : goal.returns-in-Err-Fault-clause-faulted
returns-in-Err-Fault-clause-faulted g c = λ e.
    let a = g.K.Sink.told c.args.sink.now in
    let b = g.K.Sink.told c.run_over-ended.new.sink in
    let old = g.T.Tree.told c.args.tree in
    let new = g.T.Tree.told c.run_over-ended.result.1 in
    let broke : BreaksOver g.T.Tree.takes_no_edits old new c.in-Ok.script a b Fault = search rules in
    fault-rose g.T.Tree.takes_no_edits c.in-Ok.script old new a b broke
