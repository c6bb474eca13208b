use Rattle.vfs_tool.proofs.ToldLemmas.{put-replay}
use Rattle.vfs_tool.proofs.laws.told_trees_have_their_content_reported.Goals as goal

pub returns : goal.returns
returns c = put-replay
