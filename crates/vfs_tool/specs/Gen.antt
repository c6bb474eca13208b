-- What `gen N` puts, and how it ends.
use Rattle.std.specs.Prelude.{◌≡◌, ℕ, List, [], ◌∷◌}
use Rattle.std.specs.List.{concat}
use Rattle.vfs_model.specs.Faults.{Rose}
use Rattle.vfs_io.specs.Told.{SinkTold}
use Rattle.script_report.specs.Reports.{IsReport}
use Rattle.script_runs.specs.Output.{PutsEach, PutsFront, PutsNothing}
use Rattle.script_summary.specs.Generated.{generated}
use Rattle.script_summary.specs.Summary.{summary_of}
use Rattle.vfs_tool.specs.declared.status.Status.{Status}
use Rattle.vfs_tool.specs.declared.status.Status.TheVariants.{Done, BadScript, Usage, ReadFault, WriteFault, NoMemory, TooLong}

-- the line sums up the report on the script of N directories
abbrev pub IsSummary : ℕ → List ℕ → Type 0
IsSummary n line = (texts : List (List ℕ)) × IsReport (generated n) texts × (line ≡ summary_of (concat texts))

-- how `gen N` ends: the line was put, by one call; or the sink failed, and a prefix of the line was put; or memory was wanting, and nothing was put
abbrev pub GenEnds : ℕ → SinkTold → SinkTold → Status → Type 0
GenEnds n old new Done = (line : List ℕ) × IsSummary n line × PutsEach old new (line ∷ [])
GenEnds n old new WriteFault = Rose old.faults new.faults × ((line : List ℕ) × IsSummary n line × PutsFront old new [] line)
GenEnds n old new NoMemory = PutsNothing old new
GenEnds n old new (BadScript bad) = ⊥
GenEnds n old new Usage = ⊥
GenEnds n old new ReadFault = ⊥
GenEnds n old new TooLong = ⊥
