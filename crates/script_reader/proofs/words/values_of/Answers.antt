use Rattle.std.proofs.lemmas.Result.{err_from_is_err_and}
use Rattle.script_reader.proofs.Loops.{word_read, word_fails, words_done}
use Rattle.script_reader.proofs.words.values_of.Goals as goal

pub returns-in_err-value_of : goal.returns-in_err-value_of
returns-in_err-value_of c =
    let p = err_from_is_err_and c.from_residual.result c.from_residual.ensures.1 in
    let so_far = rw c.in-Some.is at c.loop-left.invariant in
    rw (p.1, p.2) (word_fails c.in_err-value_of.field-0.0 c.loop-left.words.items _ _ _ _ c.cut.ensures.parts c.in_err-value_of.ensures so_far)

pub loop-left-preserved : goal.loop-left-preserved
loop-left-preserved c =
    let so_far = rw c.in-Some.is at c.loop-left.invariant in
    rw c.in_ok-push.ensures.items (word_read c.loop-left.words.items _ c.in_ok-value_of.field-0 _ _ _ c.cut.ensures.parts c.in_ok-value_of.ensures so_far)

pub returns : goal.returns
returns c = let so_far = rw c.in_default.is at c.loop-left.invariant in words_done c.loop-left.words.items _ so_far
