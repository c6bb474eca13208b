use Rattle.std.proofs.Common.{◌≡◌, ◌+◌, ◌≤◌, length}
use Rattle.std.specs.List.{slice_split}
use Rattle.script_reader.specs.Reading.{after_parts, script_of}
use Rattle.script_text.specs.Grammar.{is_line_end}
use Rattle.script_reader.proofs.reader.read_lines.Given as goal

abbrev pub invariant-loop-after : goal.invariant-loop-after
invariant-loop-after l = (after_parts l.kind l.number l.script (slice_split is_line_end l.rest) ≡ script_of l.kind l.text) × (l.number + length l.rest ≤ length l.text + 1)

abbrev pub decreases-loop-after : goal.decreases-loop-after
decreases-loop-after l = length l.rest
