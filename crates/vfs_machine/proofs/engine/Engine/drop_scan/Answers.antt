use Rattle.std.proofs.Common.{◌≡◌, ◌∙◌, sym, ap, true, false, None, is_some, slice_set}
use Rattle.scan_walk.specs.Cased.{scans_in, cased_at}
use Rattle.scan_walk.proofs.CasedLemmas.{set-in, open-alone}
use Rattle.vfs_machine.proofs.SlotLemmas.{drop-closed, drop-open}
use Rattle.vfs_machine.proofs.engine.Engine.drop_scan.Goals as goal

pub returns-then-not-is_open-clause-step : goal.returns-then-not-is_open-clause-step
returns-then-not-is_open-clause-step g c =
    let xs = c.self.inside.scans.items in
    let empty : is_some (cased_at xs c.args.scan) ≡ false = ap (λ ys. is_some (cased_at ys c.args.scan)) (sym c.deref.ensures.value) ∙ sym c.is_open.ensures ∙ c.if-not-is_open.true in
    rw (← c.self.view_is) (λ a s st. drop-closed g.V.Versions.version g.V.Versions.count _ s c.args.scan (open-alone xs c.args.scan false empty) st)

pub returns-clause-step : goal.returns-clause-step
returns-clause-step g c =
    let xs = c.self.inside.scans.items in
    let found : is_some (cased_at xs c.args.scan) ≡ true = ap (λ ys. is_some (cased_at ys c.args.scan)) (sym c.deref.ensures.value) ∙ sym c.is_open.ensures ∙ c.if-not-is_open.false in
    let set : scans_in c.set_scan.new.scans.items ≡ slice_set (scans_in xs) c.args.scan None = ap scans_in c.set_scan.ensures.scans ∙ set-in xs c.args.scan None in
    rw (← c.self.view_is) (λ a s st. drop-open g.V.Versions.version g.V.Versions.count _ s c.args.scan _ set (open-alone xs c.args.scan true found) st)
