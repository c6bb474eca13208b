use Rattle.std.proofs.Common.{◌≡◌, map}
use Rattle.std.specs.List.{sum_by}
use Rattle.script_summary.specs.Summary.{hits_in, misses_in, reads_in}
use Rattle.script_summary.proofs.summary.over_lines.Given as goal

abbrev pub invariant-loop-line : goal.invariant-loop-line
invariant-loop-line l = record {
  hits : l.sums.hits ≡ sum_by hits_in (map (λ line. line.now) l.yielded);
  misses : l.sums.misses ≡ sum_by misses_in (map (λ line. line.now) l.yielded);
  reads : l.sums.reads ≡ sum_by reads_in (map (λ line. line.now) l.yielded);
}
