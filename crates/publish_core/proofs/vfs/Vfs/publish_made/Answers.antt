use Rattle.std.proofs.Common.{sym}
use Rattle.publish_core.proofs.SinceLemmas.{since-stale, since-fresh}
use Rattle.publish_core.proofs.vfs.Vfs.publish_made.Goals as goal

pub returns-in-Some-Stale-clause-since : goal.returns-in-Some-Stale-clause-since
returns-in-Some-Stale-clause-since g c =
    let grown = rw c.in-Some-Stale.field-0-is at c.in-Some-Stale.ensures in
    λ past since s e. sym (since-stale _ _ c.args.ticket.now.seen past since _ s e grown.1)

pub returns-in-Some-Covered-clause-since : goal.returns-in-Some-Covered-clause-since
returns-in-Some-Covered-clause-since g c =
    let fresh = rw c.in-Some-Covered.field-0-is at c.in-Some-Covered.ensures in
    λ past since s e. sym (since-fresh _ _ c.args.ticket.now.seen past since _ s e fresh.0)

pub returns-in-Err-clause-since : goal.returns-in-Err-clause-since
returns-in-Err-clause-since g c = λ past since s e. sym (since-fresh _ _ c.args.ticket.now.seen past since _ s e c.in-None.ensures.0)

pub returns-in-Ok-Kept-clause-since : goal.returns-in-Ok-Kept-clause-since
returns-in-Ok-Kept-clause-since g c = λ past since s e. sym (since-fresh _ _ c.args.ticket.now.seen past since _ s e c.in-None.ensures.0)

pub returns-in-Ok-Covered-clause-since : goal.returns-in-Ok-Covered-clause-since
returns-in-Ok-Covered-clause-since g c = λ past since s e. sym (since-fresh _ _ c.args.ticket.now.seen past since _ s e c.in-None.ensures.0)

pub returns-clause-since : goal.returns-clause-since
returns-clause-since g c = λ past since s e. sym (since-fresh _ _ c.args.ticket.now.seen past since _ s e c.in-None.ensures.0)
