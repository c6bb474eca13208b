use Rattle.std.proofs.Common.{arith}
use Rattle.child_map.specs.Keys.{entries_of, keys_in}
use Rattle.child_map.proofs.EntryLemmas.{key-at, alike-here, alike-at, length-entry_names}
use Rattle.child_map.proofs.list.ChildList.get.Goals as goal

pub place_at-requires : goal.place_at-requires
place_at-requires g c = alike-here c.args.case (entries_of c.args.self.now) c.entries.result.now c.args.path.now c.as_slice.result.now c.index-path-0.result c.in-Ok.i c.index-entries-i.result c.entries.ensures c.requires.some c.index-path-0.is c.in-Ok.ensures c.as_slice.ensures.names c.as_slice.ensures.some

pub returns-in-Ok-clause-place : goal.returns-in-Ok-clause-place
returns-in-Ok-clause-place g c = c.place_at.ensures.place (keys_in (entries_of c.args.self.now)) (key-at (entries_of c.args.self.now) c.entries.result.now c.in-Ok.i c.index-entries-i.result c.as_slice.result.now c.entries.ensures (omega (arith, c.in-Ok.ensures, length-entry_names (entries_of c.args.self.now))) c.as_slice.ensures.names)

pub returns-in-Ok-clause-alike : goal.returns-in-Ok-clause-alike
returns-in-Ok-clause-alike g c = alike-at c.args.case (entries_of c.args.self.now) c.args.path.now c.as_slice.result.now c.in-Ok.i c.place_at.result c.place_at.ensures.index
    (key-at (entries_of c.args.self.now) c.entries.result.now c.in-Ok.i c.index-entries-i.result c.as_slice.result.now c.entries.ensures (omega (arith, c.in-Ok.ensures, length-entry_names (entries_of c.args.self.now))) c.as_slice.ensures.names)
    (alike-here c.args.case (entries_of c.args.self.now) c.entries.result.now c.args.path.now c.as_slice.result.now c.index-path-0.result c.in-Ok.i c.index-entries-i.result c.entries.ensures c.requires.some c.index-path-0.is c.in-Ok.ensures c.as_slice.ensures.names c.as_slice.ensures.some)
