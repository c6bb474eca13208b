use Rattle.vfs_path.proofs.TextLaws.{path_text-from_text}
use Rattle.vfs_path.proofs.laws.texts_give_paths.Goals as goal

pub returns : goal.returns
returns c = path_text-from_text
