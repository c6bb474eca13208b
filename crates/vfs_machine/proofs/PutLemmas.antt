-- How much is pending after events are queued.
use Rattle.std.proofs.Common.{◌≡◌, ◌+◌, ◌≤◌, Bool, true, false, [], ◌∷◌, ◌++◌, length-append, refl, arith, if◌then◌else◌}
use Rattle.vfs_model.specs.Paths.{Path}
use Rattle.vfs_model.specs.Pending.{Pending, has_room, put, deliveries_due}

put-by : (e : Path) (p : Pending) (mark room : Bool) → p.mark ≡ mark
    → deliveries_due (if room then record { events = p.events ++ e ∷ []; capacity = p.capacity; mark = p.mark } else record { events = []; capacity = p.capacity; mark = true }) ≤ deliveries_due p + 1
put-by e p mark false is = omega arith
put-by e p mark true is = omega (arith, length-append p.events (e ∷ []))

-- one event more is at most one delivery more
pub due-put : (e : Path) (p : Pending) → deliveries_due (put e p) ≤ deliveries_due p + 1
due-put e p = put-by e p p.mark (has_room p) refl
