use Rattle.std.proofs.Common.{length}
use Rattle.vfs_path.proofs.text.+segments_refusal.Given as goal

abbrev pub decreases-segments_refusal : goal.decreases-segments_refusal
decreases-segments_refusal l = length l.text.now
