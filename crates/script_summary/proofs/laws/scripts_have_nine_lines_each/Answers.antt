use Rattle.script_summary.proofs.GeneratedLemmas.{length-generated}
use Rattle.script_summary.proofs.laws.scripts_have_nine_lines_each.Goals as goal

pub returns : goal.returns
returns c = length-generated
