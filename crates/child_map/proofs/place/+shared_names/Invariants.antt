use Rattle.std.proofs.Common.{length}
use Rattle.child_map.proofs.place.+shared_names.Given as goal

abbrev pub decreases-shared_names : goal.decreases-shared_names
decreases-shared_names l = length l.a.now
