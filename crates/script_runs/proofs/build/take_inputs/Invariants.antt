use Rattle.std.proofs.Common.{◌≡◌, ◌≤◌, ◌+◌, List, map, drop}
use Rattle.vfs_model.specs.Fingerprint.{Input}
use Rattle.fingerprint_norms.specs.Meaning.{input_of}
use Rattle.script_report.specs.Lines.{no_counts, taking}
use Rattle.vfs_machine.specs.Called.{spent}
use Rattle.script_runs.specs.Making.{Leads}
use Rattle.script_runs.specs.Taking.{counts_of}
use Rattle.script_runs.proofs.build.take_inputs.Given as goal

abbrev pub invariant-loop-input : goal.invariant-loop-input
invariant-loop-input g l = record {
  done : (all : List Input) → Leads g.V.Versions.version g.V.Versions.count l.initial.machine l.machine l.caller (taking l.caller all (map input_of l.inputs) no_counts) (taking l.caller all (map input_of (drop l.input-index l.inputs)) (counts_of l.counts));
  counted : l.counts.hits + l.counts.misses ≡ l.input-index;
  room : spent g.V.Versions.count l.machine ≤ spent g.V.Versions.count l.initial.machine;
}
