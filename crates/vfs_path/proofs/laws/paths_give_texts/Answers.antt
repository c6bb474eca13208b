use Rattle.vfs_path.proofs.TextLaws.{path_of-path_text}
use Rattle.vfs_path.proofs.laws.paths_give_texts.Goals as goal

pub returns : goal.returns
returns c = path_of-path_text
