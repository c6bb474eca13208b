use Rattle.script_reader.proofs.Prefixes.{prefix_is}
use Rattle.script_reader.proofs.laws.prefixes_are_judged.Goals as goal

pub returns : goal.returns
returns c = prefix_is
