use Rattle.script_reader.proofs.TrueCauses.{cause_holds}
use Rattle.script_reader.proofs.laws.causes_hold.Goals as goal

pub returns : goal.returns
returns c = cause_holds
