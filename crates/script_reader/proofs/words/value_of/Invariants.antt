use Rattle.std.proofs.Common.{◌≡◌, length}
use Rattle.script_text.specs.Words.{value_of}
use Rattle.script_reader.proofs.Loops.{with_front}
use Rattle.script_reader.proofs.words.value_of.Given as goal

abbrev pub invariant-loop-value : goal.invariant-loop-value
invariant-loop-value l = with_front l.value.items (value_of l.rest) ≡ value_of l.word

abbrev pub decreases-loop-value : goal.decreases-loop-value
decreases-loop-value l = length l.rest
