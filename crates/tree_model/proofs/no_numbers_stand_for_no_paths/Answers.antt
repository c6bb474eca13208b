use Rattle.tree_model.proofs.NumbersLemmas.{stands-unnumbered}
use Rattle.tree_model.proofs.no_numbers_stand_for_no_paths.Goals as goal

pub returns : goal.returns
returns c = stands-unnumbered
