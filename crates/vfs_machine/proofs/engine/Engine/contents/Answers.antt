use Rattle.std.proofs.Common.{◌∙◌, sym, ap, IfSome, option_map}
use Rattle.vfs_model.specs.Scanning.{contents}
use Rattle.vfs_model.specs.Stands.{RunningScan}
use Rattle.scan_walk.specs.Cased.{CasedScan, cased_at}
use Rattle.scan_walk.specs.Scans.{IsShapedRunning}
use Rattle.scan_walk.proofs.CasedLemmas.{running-is, map-running, shaped-in}
use Rattle.vfs_machine.proofs.SlotLemmas.{contents-of}
use Rattle.vfs_machine.proofs.engine.Engine.contents.Goals as goal

pub returns-clause-bytes : goal.returns-clause-bytes
returns-clause-bytes g c =
    let alone = map-running (λ r. contents r.partial) (cased_at c.self.inside.scans.items c.args.scan) in
    let read = c.contents_of.ensures.bytes ∙ ap (λ xs. option_map (λ (s : CasedScan). contents s.scan.partial) (cased_at xs c.args.scan)) c.deref.ensures.value in
    rw (← c.self.view_is) (read ∙ sym alone ∙ ap (option_map (λ (r : RunningScan). contents r.partial)) (sym (running-is c.self.inside.scans.items c.args.scan)))

pub returns-clause-state : goal.returns-clause-state
returns-clause-state g c =
    let read = rw (← c.self.view_is) at (returns-clause-bytes g c) in
    rw (← c.self.view_is) (λ s st. read ∙ contents-of g.V.Versions.version g.V.Versions.count _ s c.args.scan st)

pub returns-clause-shape : goal.returns-clause-shape
returns-clause-shape g c =
    let shape : IfSome (cased_at c.self.inside.scans.items c.args.scan) (λ s. IsShapedRunning s.case s.scan) = rw c.deref.ensures.value at c.contents_of.ensures.shape in
    rw (← c.self.view_is) (shaped-in c.self.inside.vfs.case c.self.inside.scans.items c.args.scan c.self.invariant.walks shape)
