use Rattle.vfs_laws.proofs.TruthLemmas.{truth-told, states-sound}
use Rattle.vfs_laws.proofs.sound_machines_know_the_truth.Goals as goal

pub returns : goal.returns
returns _ c = record { truth = truth-told; states = states-sound }
