use Rattle.std.proofs.Common.{◌≡◌, eqb}
use Rattle.std.specs.List.{list_any, slice_split}
use Rattle.std.specs.Option.{option_copied}
use Rattle.vfs_path.specs.Texts.{is_empty}
use Rattle.script_reader.specs.Pieces.{parts_after}
use Rattle.script_reader.proofs.Loops.{left_len}
use Rattle.script_reader.proofs.words.has_empty_word.Given as goal

abbrev pub invariant-loop-left : goal.invariant-loop-left
invariant-loop-left l = list_any is_empty (parts_after 32 (option_copied l.left)) ≡ list_any is_empty (slice_split (λ b. eqb b 32) l.line)

abbrev pub decreases-loop-left : goal.decreases-loop-left
decreases-loop-left l = left_len (option_copied l.left)
