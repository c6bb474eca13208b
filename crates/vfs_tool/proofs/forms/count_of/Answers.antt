use Rattle.std.proofs.Common.{refl, arith}
use Rattle.vfs_tool.proofs.CountLemmas.{begins_otherwise, read_is, digits_read, same_number}
use Rattle.vfs_tool.proofs.forms.count_of.Goals as goal
use Rattle.vfs_tool.proofs.forms.count_of.Goals.{else-count-ge1-via-then-count-ge1+else-count-le1000, else-count-ge1-via-else-count-ge1}

pub returns-then-not-begins_with_digit-clause-missed : goal.returns-then-not-begins_with_digit-clause-missed
returns-then-not-begins_with_digit-clause-missed c = λ e n is. begins_otherwise c.args.word.now n (λ r. let begins = c.if-not-begins_with_digit.ensures.1 r in absurd cc) is

pub returns-in_default-clause-missed : goal.returns-in_default-clause-missed
returns-in_default-clause-missed c = λ e n is.
    let read = digits_read c.args.word.now n c.parse.result is c.parse.ensures.value.0 in
    let other = c.in_default.is in
    cc

pub returns-then-count-le1000-clause-found : goal.returns-then-count-le1000-clause-found
returns-then-count-le1000-clause-found c =
    read_is c.args.word.now c.in-Ok.count c.parse.result (c.if-not-begins_with_digit.ensures.0 refl) c.parse.ensures.value.0 c.in-Ok.is c.if-count-ge1.true c.if-count-le1000.true

pub returns-else-count-ge1-clause-missed : goal.returns-else-count-ge1-clause-missed
returns-else-count-ge1-clause-missed c = λ e n is.
    let read = digits_read c.args.word.now n c.parse.result is c.parse.ensures.value.0 in
    let same = same_number c.parse.result n c.in-Ok.count read c.in-Ok.is in
    let low = is.0 in
    let high = is.1 in
    elim c.else-count-ge1.branch [
      | else-count-ge1-via-then-count-ge1+else-count-le1000 w ↦ absurd (omega arith)
      | else-count-ge1-via-else-count-ge1 w ↦ absurd (omega arith)
    ]
