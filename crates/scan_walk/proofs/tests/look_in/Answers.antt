use Rattle.std.proofs.Common.{◌<◌, length, Option, Some, None, refl, arith, rules}
use Rattle.vfs_model.specs.declared.Case.{Case}
use Rattle.vfs_model.specs.Paths.{Path}
use Rattle.vfs_model.specs.Scanning.{Look, IsListed, names_seen}
use Rattle.world_model.specs.Meaning.{look_seen}
use Rattle.scan_walk.specs.declared.slots.Next.TheVariants as to
use Rattle.scan_walk.specs.Cased.{CasedScan, running_of, cased_at}
use Rattle.scan_walk.specs.Scans.{IsNext, IsLookOfOpen}
use Rattle.scan_walk.proofs.LocationLemmas.{location-look}
use Rattle.scan_walk.proofs.tests.look_in.Goals as goal

-- a look at the next location, which has fewer than 64 names
look-there : (o : Option CasedScan) (p : Path) (l : Look) → IsNext (running_of o) (to.Location p) → ((case : Case) → IsListed case (names_seen l)) → length p < 64 → IsLookOfOpen o l
look-there None p l next listed room = tt
look-there (Some s) p l next listed room = location-look s.case (Some s) p l refl next (record { listed = listed s.case; shallow = λ deep. absurd (omega (arith, deep, room)) })

pub see_in-requires-clause-look : goal.see_in-requires-clause-look
see_in-requires-clause-look g c =
    let next : IsNext (running_of (cased_at c.args.scans.now.items 1)) (to.Location c.in-Location.location) = rw (c.deref.ensures.value, c.in-Location.is) at c.in_ok-location.ensures.next in
    let few : c.len.result < 64 = search rules in
    let room : length c.in-Location.location < 64 = rw (← c.len.ensures.names) few in
    look-there (cased_at c.args.scans.now.items 1) c.in-Location.location (look_seen c.in_ok-entry.entry) next c.in_ok-entry.ensures room
