-- The numbers of causes.
use Rattle.std.specs.Prelude.{ℕ}
use Rattle.script_text.specs.declared.cause.Cause.{Cause}
use Rattle.script_text.specs.declared.cause.Cause.TheVariants.{NoLineEnd, BadEscape, EmptyWord, UnknownWord, BadCaller, BadNumber, Repeated, LateSetting, WrongCount, BadPath, TooLarge, BadInput}

-- the number that is printed for a cause
abbrev pub number_of_cause : Cause → ℕ
number_of_cause NoLineEnd = 1
number_of_cause BadEscape = 2
number_of_cause EmptyWord = 3
number_of_cause UnknownWord = 4
number_of_cause BadCaller = 5
number_of_cause BadNumber = 6
number_of_cause Repeated = 7
number_of_cause LateSetting = 8
number_of_cause WrongCount = 9
number_of_cause (BadPath refusal) = 10
number_of_cause TooLarge = 11
number_of_cause BadInput = 12
