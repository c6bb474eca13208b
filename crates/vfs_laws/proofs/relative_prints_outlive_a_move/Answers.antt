use Rattle.vfs_laws.proofs.PrintLemmas.{entry_after_move-print}
use Rattle.vfs_laws.proofs.relative_prints_outlive_a_move.Goals as goal

pub returns : goal.returns
returns c = entry_after_move-print
