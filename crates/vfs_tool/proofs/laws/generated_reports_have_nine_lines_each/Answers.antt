use Rattle.vfs_tool.proofs.GenLemmas.{report-lines}
use Rattle.vfs_tool.proofs.laws.generated_reports_have_nine_lines_each.Goals as goal

pub returns : goal.returns
returns c = report-lines
