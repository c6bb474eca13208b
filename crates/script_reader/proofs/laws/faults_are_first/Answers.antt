use Rattle.script_reader.proofs.TextLaws.{fault_is, fault_again}
use Rattle.script_reader.proofs.laws.faults_are_first.Goals as goal

pub returns : goal.returns
returns c = λ kind text bad. (fault_is kind text bad, fault_again kind text bad)
