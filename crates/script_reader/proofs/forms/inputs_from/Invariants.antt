use Rattle.std.proofs.Common.{◌≡◌, drop}
use Rattle.script_text.specs.Steps.{all_from}
use Rattle.script_reader.specs.Forms.{input_from}
use Rattle.script_reader.proofs.Loops.{with_front}
use Rattle.script_reader.proofs.forms.inputs_from.Given as goal

abbrev pub invariant-loop-word : goal.invariant-loop-word
invariant-loop-word l = with_front l.inputs.items (all_from input_from (drop l.word-index l.args)) ≡ all_from input_from l.args
