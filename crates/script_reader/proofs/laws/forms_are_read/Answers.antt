use Rattle.script_reader.proofs.Tables.{opening_is, opening_again, command_is, command_again}
use Rattle.script_reader.proofs.laws.forms_are_read.Goals as goal

pub returns : goal.returns
returns c = record {
  openings = λ word args o. (opening_is word args o, opening_again o word args);
  commands = λ word args command. (command_is word args command, command_again command word args);
}
