use Rattle.std.proofs.Common.{◌≡◌, ◌≤◌, drop}
use Rattle.script_reader.specs.Numbers.{digits_after}
use Rattle.script_reader.proofs.numbers.digits_of.Given as goal

abbrev pub invariant-loop-digit : goal.invariant-loop-digit
invariant-loop-digit l = (digits_after l.number (drop l.digit-index l.word) ≡ digits_after 0 l.word) × (l.number ≤ 4294967295)
