use Rattle.std.proofs.Common.{◌∙◌, sym, subst, Option}
use Rattle.scan_walk.specs.Cased.{CasedScan, running_of}
use Rattle.scan_walk.specs.Scans.{IsNext, HasNext}
use Rattle.scan_walk.specs.declared.slots.Next.TheVariants as to
use Rattle.scan_walk.proofs.CasedLemmas.{cased-read}
use Rattle.scan_walk.proofs.slots.next_of.Goals as goal

pub returns-in-None-clause-next : goal.returns-in-None-clause-next
returns-in-None-clause-next c =
    let read = cased-read c.args.scans.now c.args.scan c.index-scans-scan.result c.requires c.index-scans-scan.is in
    subst (λ (o : Option CasedScan). IsNext (running_of o) to.Closed) (sym (read ∙ c.in-None.is)) tt

pub returns-in-None-next-clause-next : goal.returns-in-None-next-clause-next
returns-in-None-next-clause-next c =
    let read = cased-read c.args.scans.now c.args.scan c.index-scans-scan.result c.requires c.index-scans-scan.is in
    subst (λ (o : Option CasedScan). IsNext (running_of o) to.Done) (sym (read ∙ c.in-Some.is)) (sym c.in-None-next.ensures)

pub returns-in-Ok-clause-next : goal.returns-in-Ok-clause-next
returns-in-Ok-clause-next c =
    let read = cased-read c.args.scans.now c.args.scan c.index-scans-scan.result c.requires c.index-scans-scan.is in
    rw c.in-Ok.ensures (subst (λ (o : Option CasedScan). IsNext (running_of o) (to.Location c.in-Some-next.path.now)) (sym (read ∙ c.in-Some.is)) (sym c.in-Some-next.ensures))

pub returns-in-Err-clause-left : goal.returns-in-Err-clause-left
returns-in-Err-clause-left c =
    let read = cased-read c.args.scans.now c.args.scan c.index-scans-scan.result c.requires c.index-scans-scan.is in
    subst (λ (o : Option CasedScan). HasNext (running_of o)) (sym (read ∙ c.in-Some.is)) (c.in-Some-next.path.now, sym c.in-Some-next.ensures)
