use Rattle.std.proofs.Common.{◌≡◌}
use Rattle.std.specs.List.{flat_map, range_with_len}
use Rattle.script_summary.specs.Generated.{directory_lines}
use Rattle.script_summary.proofs.generate.generated_script.Given as goal

abbrev pub invariant-loop-directory : goal.invariant-loop-directory
invariant-loop-directory l = l.lines ≡ flat_map directory_lines (range_with_len 0 l.directory)
