use Rattle.std.proofs.Common.{refl, arith}
use Rattle.snapshot_tree.proofs.PiecesLemmas.{path-short, path-front}
use Rattle.snapshot_tree.proofs.snapshot.Snapshot.pieces.Goals as goal

pub dirs_above-requires : goal.dirs_above-requires
dirs_above-requires c = omega (arith, c.len.ensures.names, path-short c.args.case c.args.at.now c.args.e.now c.requires)

pub add_pieces-requires : goal.add_pieces-requires
add_pieces-requires c = omega (arith, c.len-2.ensures.names, path-short c.args.case c.args.at.now c.args.e.now c.requires)

pub returns-clause-pairs : goal.returns-clause-pairs
returns-clause-pairs c = rw (c.from_vec.ensures, c.in_ok-add_pieces.ensures, c.new-pairs.ensures.items, c.len-2.ensures.names, path-front c.args.case c.args.at.now c.args.e.now c.requires) refl

pub returns-clause-dirs : goal.returns-clause-dirs
returns-clause-dirs c = rw (c.from_vec-2.ensures, c.in_ok-dirs.ensures, c.len.ensures.names, path-front c.args.case c.args.at.now c.args.e.now c.requires) refl
