use Rattle.std.proofs.Common.{sym, refl, ◌∙◌, arith}
use Rattle.script_reader.specs.Reading.{script_of}
use Rattle.script_reader.proofs.Walk.{line_good, line_bad, last_good, last_bad}
use Rattle.script_reader.proofs.reader.read_lines.Goals as goal

pub loop-after-init : goal.loop-after-init
unfolding script_of
loop-after-init c = (rw (c.default.ensures, c.from_vec.ensures, c.new.ensures.items, c.from_vec-2.ensures, c.new-2.ensures.items) refl, omega arith)

pub returns-then-is_empty : goal.returns-then-is_empty
returns-then-is_empty c =
    let parts = rw c.in_default.is at c.cut.ensures.parts in
    last_good c.args.kind c.loop-after.number c.loop-after.script _ _ _ parts (sym c.is_empty.ensures ∙ c.if-is_empty.true) c.loop-after.invariant.0

pub returns-in_default : goal.returns-in_default
returns-in_default c =
    let parts = rw c.in_default.is at c.cut.ensures.parts in
    last_bad c.args.kind c.loop-after.number c.loop-after.script _ _ _ parts (sym c.is_empty.ensures ∙ c.if-is_empty.false) c.loop-after.invariant.0

pub returns-in-Err-Bad : goal.returns-in-Err-Bad
returns-in-Err-Bad c =
    let parts = rw c.in-Some.is at c.cut.ensures.parts in
    let bad = rw c.in-Err-Bad.field-0-is at c.in-Err-Bad.ensures in
    rw c.in-Err-Bad.field-0-is (line_bad c.args.kind c.loop-after.number c.loop-after.script c.in-Err-Bad.cause _ c.cut.result.0.now c.in-Some.after.now _ parts bad c.loop-after.invariant.0)

pub loop-after-preserved : goal.loop-after-preserved
loop-after-preserved c =
    let parts = rw c.in-Some.is at c.cut.ensures.parts in
    let shorter = rw c.in-Some.is at c.cut.ensures.shorter in
    (line_good c.args.kind c.loop-after.number c.loop-after.script _ _ c.cut.result.0.now c.in-Some.after.now _ parts c.in-Ok.ensures c.loop-after.invariant.0, omega (arith, c.loop-after.invariant.1, shorter))
