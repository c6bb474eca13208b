use Rattle.tree_model.proofs.NumbersLemmas.{stands-raised}
use Rattle.tree_model.proofs.raised_numbers_stand_for_one_path_more.Goals as goal

pub returns : goal.returns
returns c = stands-raised
