use Rattle.std.proofs.Common.{◌≡◌, take}
use Rattle.script_summary.specs.Summary.{number_in}
use Rattle.script_summary.proofs.summary.number_in.Given as goal

abbrev pub invariant-loop-digit : goal.invariant-loop-digit
invariant-loop-digit l = l.number ≡ number_in (take l.digit-index l.digits)
