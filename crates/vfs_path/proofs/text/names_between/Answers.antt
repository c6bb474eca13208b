use Rattle.std.proofs.Common.{refl}
use Rattle.vfs_path.proofs.text.names_between.Goals as goal

pub loop-left-init : goal.loop-left-init
loop-left-init c = rw c.new-names.ensures.items (record { both = refl; each = c.requires.names })
