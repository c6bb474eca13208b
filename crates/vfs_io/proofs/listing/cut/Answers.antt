use Rattle.std.proofs.Common.{sym}
use Rattle.vfs_path.proofs.Cuts.{cut_none, cut_some, after_place}
use Rattle.vfs_io.specs.Listing.{ends_name}
use Rattle.vfs_io.proofs.listing.cut.Goals as goal

pub returns-in-None-clause-parts : goal.returns-in-None-clause-parts
returns-in-None-clause-parts c = cut_none ends_name c.args.listing.now (sym c.in-None.ensures)

pub returns-in-Some-clause-parts : goal.returns-in-Some-clause-parts
returns-in-Some-clause-parts c =
    rw (after_place c.in-Some.i c.args.listing.now c.split_at.result.1.now c.split_at.ensures.back, c.split_at.ensures.front)
    (cut_some ends_name c.args.listing.now c.in-Some.i 0 (sym c.in-Some.ensures))
