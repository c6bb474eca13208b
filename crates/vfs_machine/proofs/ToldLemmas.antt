-- What is told, where nothing is added to it.
use Rattle.std.proofs.Common.{◌≡◌, [], is_some, Option, Some, None, List, option_map, refl, sym, ap, append-nil}
use Rattle.vfs_model.specs.State.{TreeAnswer, Answers, Does}
use Rattle.world_model.specs.Told.{TreeTold, with_answers}

-- the answers are as before
pub none-asked : (all : Option (List TreeAnswer)) → all ≡ option_map (with_answers []) all
none-asked None = refl
none-asked (Some all) = ap Some (sym (append-nil all))

-- whether the content is told is as before, where all that the tree tells is
pub tells-as-before : (old new : TreeTold) → new ≡ old → is_some new.content ≡ is_some old.content
tells-as-before old new e = ap (λ (t : TreeTold). is_some t.content) e

-- nothing was asked of the tree
abbrev pub not_asked : Answers
not_asked = record { edit = Does []; look = None }
