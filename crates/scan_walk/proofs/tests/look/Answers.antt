use Rattle.std.proofs.Common.{◌≡◌, true, arith, rules}
use Rattle.scan_walk.proofs.tests.look.Goals as goal

pub see-requires-clause-look : goal.see-requires-clause-look
see-requires-clause-look g c y next =
    let room : c.has_room.result ≡ true = search rules in
    record { listed = c.in_ok-entry.ensures c.args.walk.now.case; shallow = λ deep. absurd (omega (arith, deep, c.has_room.ensures.room room y next)) }
