use Rattle.std.proofs.Common.{◌≡◌, ◌++◌, take}
use Rattle.script_text.specs.Writing.{openings_text}
use Rattle.script_text.proofs.writer.put_openings.Given as goal

abbrev pub invariant-loop-opening : goal.invariant-loop-opening
invariant-loop-opening l = l.out.items ≡ l.initial.out.items ++ openings_text (take l.opening-index l.openings)
