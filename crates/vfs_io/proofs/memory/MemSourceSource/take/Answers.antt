use Rattle.vfs_io.proofs.Prefixes.{prefix_taken}
use Rattle.vfs_io.proofs.memory.MemSourceSource.take.Goals as goal

pub returns-clause-bytes : goal.returns-clause-bytes
returns-clause-bytes c =
    let inside = c.self.inside in
    rw (← c.self.view_is, ← c.deref.ensures.value) (prefix_taken c.deref.result.now c.args.buf.now c.copy_from_slice.new.self inside.taken c.min-count.result c.copy_from_slice.ensures.after c.min-count.ensures)
