use Rattle.std.proofs.Common.{◌≡◌, drop, take}
use Rattle.scan_walk.specs.Making.{children_with, stacked}
use Rattle.scan_walk.proofs.making.directory_of.Given as goal

-- the children so far, and the snapshots of the others
abbrev pub invariant-loop-name : goal.invariant-loop-name
invariant-loop-name l = record {
  case : l.builder.case ≡ l.fn.case;
  children : l.builder.children ≡ children_with (take l.name-index l.names) (stacked l.fn.made.items);
  rest : stacked l.made.items ≡ drop l.name-index (stacked l.fn.made.items);
}
