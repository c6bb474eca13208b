use Rattle.std.proofs.Common.{arith}
use Rattle.version_hierarchy.proofs.NumbersLemmas.{none-at}
use Rattle.version_hierarchy.proofs.numbers.Numbers.+at.Goals as goal

pub returns-in-None : goal.returns-in-None
returns-in-None t c = none-at c.args.case c.args.self.now.own c.args.self.now.below c.args.self.now.places c.args.path.now c.name-item.result (omega arith) c.name-item.is c.in-None.ensures.value
