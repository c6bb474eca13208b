use Rattle.std.proofs.Common.{◌≡◌, true, false, not, ap}
use Rattle.std.specs.Ordering.{is_lt}
use Rattle.vfs_model.specs.Paths.{place}
use Rattle.vfs_model.specs.Retained.{place_order}
use Rattle.snapshot_hierarchy.proofs.InsertLemmas.{precedes-is}
use Rattle.snapshot_hierarchy.proofs.flat.precedes.Goals as goal

pub returns-then-is_lt : goal.returns-then-is_lt
returns-then-is_lt c =
    let first : is_lt (place_order (place c.args.case c.args.a.now) (place c.args.case c.args.b.now)) ≡ true = cc in
    rw (precedes-is (place c.args.case c.args.a.now) (place c.args.case c.args.b.now), first) (ap not c.is_at_or_above.ensures)

pub returns-else-is_lt : goal.returns-else-is_lt
returns-else-is_lt c =
    let later : is_lt (place_order (place c.args.case c.args.a.now) (place c.args.case c.args.b.now)) ≡ false = cc in
    rw (precedes-is (place c.args.case c.args.a.now) (place c.args.case c.args.b.now), later) c.if-is_lt.false
