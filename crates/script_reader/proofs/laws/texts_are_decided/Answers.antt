use Rattle.script_reader.proofs.TextLaws.{decided, not_both_of}
use Rattle.script_reader.proofs.laws.texts_are_decided.Goals as goal

pub returns : goal.returns
returns c = λ kind text. (decided kind text, not_both_of kind text)
