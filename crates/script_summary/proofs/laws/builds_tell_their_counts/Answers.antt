use Rattle.script_summary.proofs.CountLemmas.{builds_tell}
use Rattle.script_summary.proofs.laws.builds_tell_their_counts.Goals as goal

pub returns : goal.returns
returns c = builds_tell
