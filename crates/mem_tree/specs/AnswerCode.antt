-- A code of answers of a tree: proofs tell values apart by their codes.
use Rattle.std.specs.Prelude.{List}
use Rattle.std.specs.Coded.{Coded, coded_list}
use Rattle.vfs_model.specs.State.{TreeAnswer}
use Rattle.vfs_model.specs.Code.{tree_answer_code}

abbrev pub tree_answers_code : Coded (List TreeAnswer)
tree_answers_code = coded_list tree_answer_code
