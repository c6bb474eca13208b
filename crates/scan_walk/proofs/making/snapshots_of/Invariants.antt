use Rattle.std.proofs.Common.{◌≡◌, ◌-◌, length, map, take, drop}
use Rattle.world_model.specs.Meaning.{look_seen}
use Rattle.scan_walk.specs.Making.{bytes_of, made_of, stacked}
use Rattle.scan_walk.proofs.making.snapshots_of.Given as goal

-- the snapshots of the entries from the end on, and how many files are before them
abbrev pub invariant-loop-i : goal.invariant-loop-i
invariant-loop-i l = record {
  made : stacked l.made.items ≡ made_of (drop (length l.seen - l.i) (map look_seen l.seen));
  files : l.files ≡ length (bytes_of (take (length l.seen - l.i) (map look_seen l.seen)));
}
