use Rattle.script_report.proofs.ReportLemmas.{replay-sound}
use Rattle.script_report.proofs.laws.replays_are_sound.Goals as goal

pub returns : goal.returns
returns c = replay-sound
