use Rattle.std.proofs.Common.{◌≡◌, ℕ, false, List, [], ◌++◌, Some, None, Result, OnOk, refl, ap, subst, ◌∙◌}
use Rattle.std.specs.List.{concat}
use Rattle.vfs_model.specs.History.{empty_world}
use Rattle.world_model.specs.Told.{TreeTold}
use Rattle.mem_tree.specs.Held.{Held}
use Rattle.vfs_io.specs.Told.{SinkTold}
use Rattle.vfs_io.specs.Streams.{MemoryStream}
use Rattle.script_report.specs.Openings.{opening_texts}
use Rattle.script_report.specs.Runs.{texts_of}
use Rattle.vfs_tool.specs.Folder.{PutsOver}
use Rattle.vfs_tool.proofs.ToldLemmas.{empty-took, put-replay}
use Rattle.vfs_tool.proofs.generate.replayed.Goals as goal

abbrev told_by : Held → TreeTold
told_by tree = record { case = tree.case; content = Some tree.world; faults = 0; answers = None }

abbrev told_sink : MemoryStream → SinkTold
told_sink sink = record { written = Some sink.bytes; puts = None; faults = sink.faults }

pub returns-in-Ok-default : goal.returns-in-Ok-default
returns-in-Ok-default g c =
    let script = c.args.script.now in
    let old = told_by c.new-empty.result in
    let new = told_by c.run_over.result.1 in
    let a = told_sink c.new-sink.result in
    let b = told_sink c.run_over.new.sink in
    let put : PutsOver false old new script a b = subst (λ r. OnOk r (PutsOver false old new script a b)) c.in-Ok-default.is-0 c.run_over.ensures.ok in
    let content = ap (λ (t : Held). Some t.world) c.new-empty.ensures in
    let replay = put-replay false old new script empty_world a b content refl put (empty-took false old new script a b content put) in
    let texts : List (List ℕ) = opening_texts replay.0 ++ texts_of replay.1 in
    (texts, (replay.0, replay.1, replay.2, refl), replay.3.bytes ∙ ap (λ (s : MemoryStream). s.bytes ++ concat texts) c.new-sink.ensures)
