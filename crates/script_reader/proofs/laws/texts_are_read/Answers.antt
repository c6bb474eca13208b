use Rattle.script_reader.proofs.TextLaws.{text_is, text_again}
use Rattle.script_reader.proofs.laws.texts_are_read.Goals as goal

pub returns : goal.returns
returns c = λ kind text s. (text_is kind text s, text_again kind text s)
