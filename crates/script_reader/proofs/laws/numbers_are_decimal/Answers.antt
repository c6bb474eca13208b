use Rattle.std.proofs.Common.{ap, ◌∙◌}
use Rattle.script_reader.specs.Numbers.{number_of}
use Rattle.script_reader.proofs.NumberLemmas.{decimal_of_number, number_of_decimal}
use Rattle.script_reader.proofs.laws.numbers_are_decimal.Goals as goal

pub returns : goal.returns
returns c = λ word n lt. (λ e. (decimal_of_number word n e).0, λ e. ap number_of e ∙ number_of_decimal n lt)
