use Rattle.std.proofs.Common.{length, ◌+◌, ◌*◌}
use Rattle.version_hierarchy.proofs.numbers.+raised.Given as goal

abbrev pub decreases-Numbers::raised : goal.decreases-Numbers::raised
decreases-Numbers::raised l = 2 * length l.path.now

abbrev pub decreases-Places::raised_at : goal.decreases-Places::raised_at
decreases-Places::raised_at l = 2 * length l.more.now + 1
