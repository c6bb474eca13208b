use Rattle.std.proofs.Common.{◌≡◌, eqb}
use Rattle.std.specs.List.{slice_split}
use Rattle.std.specs.Option.{option_copied}
use Rattle.script_text.specs.Words.{values_of}
use Rattle.script_reader.specs.Pieces.{parts_after}
use Rattle.script_reader.proofs.Loops.{left_len, with_front}
use Rattle.script_reader.proofs.words.values_of.Given as goal

abbrev pub invariant-loop-left : goal.invariant-loop-left
invariant-loop-left l = with_front l.words.items (values_of (parts_after 32 (option_copied l.left))) ≡ values_of (slice_split (λ b. eqb b 32) l.line)

abbrev pub decreases-loop-left : goal.decreases-loop-left
decreases-loop-left l = left_len (option_copied l.left)
