use Rattle.std.specs.Io.KnownBytes.{Consumes}
use Rattle.vfs_io.proofs.listing.listing_of.Given as goal

abbrev pub invariant-loop : goal.invariant-loop
invariant-loop g l = Consumes (g.D.Read.remaining l.fn.dir) (g.D.Read.remaining l.dir) l.listing.items
