use Rattle.vfs_laws.proofs.KeepLemmas.{step-keeps}
use Rattle.vfs_laws.proofs.machines_stay_sound.Goals as goal

pub returns : goal.returns
returns _ c = step-keeps
