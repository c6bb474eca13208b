use Rattle.std.proofs.Common.{arith}
use Rattle.vfs_io.proofs.WholeLemmas.{limited-read}
use Rattle.vfs_io.proofs.look.read_whole.Goals as goal

pub returns-in-Ok-clause-whole : goal.returns-in-Ok-clause-whole
returns-in-Ok-clause-whole g c =
    let count = c.len.ensures in
    let few = c.if-len-le-MAX_BYTES.true in
    record {
      all = limited-read g.F.Read.remaining c.take.result c.args.file 67108865 c.in_ok-bytes.bytes.items c.read_to_end.new.buf.items c.take.ensures.limit c.take.ensures.inner c.in_ok-bytes.ensures c.in-Ok.ensures.bytes (omega (arith, count, few));
      few = omega (arith, count, few);
    }
