use Rattle.script_text.proofs.WrittenLines.{text_is_written}
use Rattle.script_text.proofs.laws.written_texts_are_texts.Goals as goal

pub returns : goal.returns
returns c = text_is_written
