use Rattle.vfs_tool.proofs.GenLemmas.{same-summary}
use Rattle.vfs_tool.proofs.laws.summaries_are_one.Goals as goal

pub returns : goal.returns
returns c = same-summary
