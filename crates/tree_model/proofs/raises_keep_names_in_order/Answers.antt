use Rattle.tree_model.proofs.NumbersLemmas.{raise-sorted}
use Rattle.tree_model.proofs.raises_keep_names_in_order.Goals as goal

pub returns : goal.returns
returns c = raise-sorted
