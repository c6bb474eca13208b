use Rattle.std.proofs.Common.{◌≡◌, ◌++◌, map, take}
use Rattle.script_text.specs.Grammar.{input_word}
use Rattle.script_text.specs.Writing.{tail_text}
use Rattle.script_text.proofs.writer.put_input_words.Given as goal

abbrev pub invariant-loop-input : goal.invariant-loop-input
invariant-loop-input l = l.out.items ≡ l.initial.out.items ++ tail_text (map input_word (take l.input-index l.inputs))
