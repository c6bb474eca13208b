use Rattle.std.proofs.Common.{◌≡◌, ◌∙◌, sym, ap, true, false, Some, is_some, slice_set}
use Rattle.vfs_model.specs.Paths.{place}
use Rattle.vfs_model.specs.Scanning.{Unread}
use Rattle.scan_walk.specs.Cased.{CasedScan, scans_in, cased_at}
use Rattle.scan_walk.proofs.CasedLemmas.{set-in, open-alone}
use Rattle.vfs_machine.proofs.SlotLemmas.{begin-open, begin-with, begin-wanting}
use Rattle.vfs_machine.proofs.engine.Engine.begin.Goals as goal

pub returns-then-is_open-clause-step : goal.returns-then-is_open-clause-step
returns-then-is_open-clause-step g c =
    let xs = c.self.inside.scans.items in
    let found : is_some (cased_at xs c.args.scan) ≡ true = ap (λ ys. is_some (cased_at ys c.args.scan)) (sym c.deref.ensures.value) ∙ sym c.is_open.ensures ∙ c.if-is_open.true in
    rw (← c.self.view_is) (λ a s st. begin-open g.V.Versions.version g.V.Versions.count _ s c.args.scan c.args.path.now (open-alone xs c.args.scan true found) st)

pub returns-in-Ok-clause-step : goal.returns-in-Ok-clause-step
returns-in-Ok-clause-step g c =
    let xs = c.self.inside.scans.items in
    let empty : is_some (cased_at xs c.args.scan) ≡ false = ap (λ ys. is_some (cased_at ys c.args.scan)) (sym c.deref.ensures.value) ∙ sym c.is_open.ensures ∙ c.if-is_open.false in
    let fresh : c.in-Ok.begun.scan ≡ record { path = c.args.path.now; seen = g.V.Versions.version c.self.inside.vfs.versions (place c.self.inside.vfs.case c.args.path.now); partial = Unread } = ap (λ (s : CasedScan). s.scan) c.in-Ok.ensures in
    let set : scans_in c.set_scan.new.scans.items ≡ slice_set (scans_in xs) c.args.scan (Some c.in-Ok.begun.scan) = ap scans_in c.set_scan.ensures.scans ∙ set-in xs c.args.scan (Some c.in-Ok.begun) in
    rw (set, ← c.self.view_is) (λ a s st. begin-with g.V.Versions.version g.V.Versions.count _ s c.args.scan c.args.path.now c.in-Ok.begun.scan c.ticket.result.now.seen fresh c.ticket.ensures.seen (open-alone xs c.args.scan false empty) st)

pub returns-in-Err-clause-last : goal.returns-in-Err-clause-last
returns-in-Err-clause-last g c =
    let xs = c.self.inside.scans.items in
    let empty : is_some (cased_at xs c.args.scan) ≡ false = ap (λ ys. is_some (cased_at ys c.args.scan)) (sym c.deref.ensures.value) ∙ sym c.is_open.ensures ∙ c.if-is_open.false in
    rw (← c.self.view_is) (λ a s st none. begin-wanting g.V.Versions.version g.V.Versions.count _ s c.args.scan c.args.path.now (open-alone xs c.args.scan false empty) st)
