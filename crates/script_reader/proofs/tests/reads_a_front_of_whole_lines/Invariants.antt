use Rattle.std.proofs.Common.{◌≤◌}
use Rattle.script_reader.proofs.tests.reads_a_front_of_whole_lines.Given as goal

abbrev pub invariant-loop-len : goal.invariant-loop-len
invariant-loop-len g l = l.ends ≤ l.len-counter
