use Rattle.script_reader.proofs.TextLaws.{one_script, one_fault}
use Rattle.script_reader.proofs.laws.texts_are_unambiguous.Goals as goal

pub returns : goal.returns
returns c = λ kind text. (one_script kind text, one_fault kind text)
