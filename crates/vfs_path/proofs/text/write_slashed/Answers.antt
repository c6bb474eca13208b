use Rattle.vfs_path.proofs.Written.{slashed_more, joined}
use Rattle.vfs_path.proofs.text.write_slashed.Goals as goal

pub loop-name-preserved : goal.loop-name-preserved
loop-name-preserved c =
    let more = slashed_more c.args.names.now c.loop-name.name-index c.name-item.result c.loop-name-test.true in
    rw (more, ← c.name-item.is, c.in_ok-extend_from_slice.ensures.items, c.in_ok-push.ensures.items, c.as_bytes.ensures.bytes, c.loop-name.invariant)
    (joined c.args.out.now.items _ c.name-item.result)
