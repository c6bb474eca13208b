-- What threads that hash were started for.
use Rattle.std.specs.Prelude.{ℕ, List, map}
use Rattle.std.specs.List.{flat_map}
use Rattle.std.specs.declared.thread.PromisedHandle.{PromisedHandle}
use Rattle.vfs_model.specs.World.{digest_of_bytes}
use Rattle.hash_workers.specs.declared.ahead.DigestsOf.{DigestsOf}

-- the digests that are promised, of the batches one behind the other
abbrev pub promised : {T : Type 0} → List (PromisedHandle T DigestsOf) → List (List ℕ)
promised threads = flat_map (λ thread. map digest_of_bytes thread.promise.0.value.items) threads
