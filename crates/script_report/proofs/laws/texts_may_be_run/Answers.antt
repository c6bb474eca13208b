use Rattle.script_report.proofs.TextLemmas.{text-runnable}
use Rattle.script_report.proofs.laws.texts_may_be_run.Goals as goal

pub returns : goal.returns
returns c = text-runnable
