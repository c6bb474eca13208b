use Rattle.script_summary.proofs.GeneratedLemmas.{file-more}
use Rattle.script_summary.proofs.generate.push_files.Goals as goal

pub loop-file-preserved : goal.loop-file-preserved
loop-file-preserved c = file-more c.args.lines.now c.loop-file.lines c.push.new.self c.in_ok-file_line.field-0 c.args.directory c.loop-file.file c.loop-file.invariant c.in_ok-push.ensures.ok c.in_ok-file_line.ensures
