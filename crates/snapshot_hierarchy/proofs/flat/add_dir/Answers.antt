use Rattle.std.proofs.Common.{◌≡◌, ◌<◌, ◌∙◌, length, get_or, sym, arith}
use Rattle.std.proofs.lemmas.List.{get_or_read}
use Rattle.vfs_model.specs.Paths.{place}
use Rattle.snapshot_hierarchy.proofs.InsertLemmas.{insert_dir-same}
use Rattle.snapshot_hierarchy.proofs.flat.add_dir.Goals as goal

pub returns-in-Equal : goal.returns-in-Equal
returns-in-Equal c =
    let within : c.loop-i.i < length c.loop-i.dirs.items = omega arith in
    let here : c.index.result.now ≡ get_or c.loop-i.dirs.items c.loop-i.i c.index.result.now = get_or_read c.loop-i.dirs.items _ _ within c.index.ensures c.index.result.now in
    insert_dir-same c.args.case (place c.args.case c.args.dir.now) c.loop-i.dirs.items c.loop-i.i c.index.result.now within here (sym c.order.ensures ∙ c.in-Equal.is)
    ∙ sym c.loop-i.invariant
