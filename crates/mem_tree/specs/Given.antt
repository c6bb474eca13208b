-- What one call adds to the answers of a tree.
use Rattle.std.specs.Prelude.{List}
use Rattle.vfs_model.specs.State.{TreeAnswer}
use Rattle.world_model.specs.Meaning.{look_answers, edit_answers_of}
use Rattle.mem_tree.specs.declared.trail.Given.{Given}
use Rattle.mem_tree.specs.declared.trail.Given.TheVariants.{Look, Edit}

-- the answer to a look or to an edit; want of memory is none
abbrev pub answers_in : Given → List TreeAnswer
answers_in (Look result) = look_answers result.now
answers_in (Edit result) = edit_answers_of result.now
