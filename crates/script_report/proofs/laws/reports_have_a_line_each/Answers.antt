use Rattle.script_report.proofs.PrintedLemmas.{report-printed}
use Rattle.script_report.proofs.laws.reports_have_a_line_each.Goals as goal

pub returns : goal.returns
returns c = report-printed
