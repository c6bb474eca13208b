use Rattle.std.proofs.Common.{◌≡◌, ◌+◌, ◌-◌, ◌≤◌, length}
use Rattle.std.specs.Io.KnownBytes.{Consumes}
use Rattle.vfs_tool.specs.Input.{AsksAtMost, limit}
use Rattle.vfs_tool.proofs.input.take_all.Given as goal

abbrev pub invariant-takes : goal.invariant-takes
invariant-takes g l = record {
  took : Consumes (g.S.Source.told l.initial.source).left (g.S.Source.told l.source).left l.text.items;
  asked : AsksAtMost (g.S.Source.told l.initial.source) (g.S.Source.told l.source) 65536;
  within : length l.text.items ≤ limit;
  room : length l.buf ≡ 65536;
  later : (g.S.Source.told l.initial.source).faults ≤ (g.S.Source.told l.source).faults;
}

abbrev pub decreases-takes : goal.decreases-takes
decreases-takes g l = limit + 1 - length l.text.items
