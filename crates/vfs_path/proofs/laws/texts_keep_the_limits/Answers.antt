use Rattle.vfs_path.proofs.TextLaws.{IsPath-from_text}
use Rattle.vfs_path.proofs.laws.texts_keep_the_limits.Goals as goal

pub returns : goal.returns
returns c = IsPath-from_text
