use Rattle.std.proofs.Common.{◌≡◌, ◌++◌, map}
use Rattle.std.specs.List.{range_with_len}
use Rattle.script_summary.specs.Generated.{file_line}
use Rattle.script_summary.proofs.generate.push_files.Given as goal

abbrev pub invariant-loop-file : goal.invariant-loop-file
invariant-loop-file l = l.lines ≡ l.initial.lines ++ map (file_line l.directory) (range_with_len 0 l.file)
