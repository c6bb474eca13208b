use Rattle.std.proofs.Common.{◌≡◌, ◌∙◌, ℕ, sym, ap, arith, subst, Option, Some, None, option_map}
use Rattle.vfs_model.specs.Scanning.{count_left}
use Rattle.vfs_model.specs.Stands.{RunningScan}
use Rattle.scan_walk.specs.Cased.{CasedScan, scans_in, cased_at}
use Rattle.scan_walk.specs.Scans.{running_at, AreDigests, AreContentsOf, IsDone}
use Rattle.scan_walk.proofs.CasedLemmas.{running-is, count-alone, under-at}
use Rattle.vfs_machine.proofs.PublishLemmas.{publish-closed, publish-unfinished, publish-whole, publish-logged, publish-last, digests-of_contents, done-of_count, after-in, under-after}
use Rattle.vfs_machine.proofs.engine.Engine.publish.Goals as goal

pub returns-in-None-clause-step : goal.returns-in-None-clause-step
returns-in-None-clause-step g c =
    let none = count-alone c.self.inside.scans.items c.args.scan None (ap (λ xs. option_map (λ (s : CasedScan). count_left s.scan.partial) (cased_at xs c.args.scan)) (sym c.deref.ensures.value) ∙ sym c.left_of.ensures ∙ c.in-None.is) in
    rw (← c.self.view_is) (λ a s st. publish-closed g.V.Versions.version g.V.Versions.count _ s c.args.scan none st)

pub returns-then-left-gt0-clause-step : goal.returns-then-left-gt0-clause-step
returns-then-left-gt0-clause-step g c =
    let some = count-alone c.self.inside.scans.items c.args.scan (Some c.in-Some.left) (ap (λ xs. option_map (λ (s : CasedScan). count_left s.scan.partial) (cased_at xs c.args.scan)) (sym c.deref.ensures.value) ∙ sym c.left_of.ensures ∙ c.in-Some.is) in
    rw (← c.self.view_is) (λ a s st. publish-unfinished g.V.Versions.version g.V.Versions.count _ s c.args.scan c.in-Some.left some c.if-left-gt0.true st)

pub publish_scan-published-requires-clause-done : goal.publish_scan-published-requires-clause-done
publish_scan-published-requires-clause-done g c =
    let nothing : c.in-Some.left ≡ 0 = omega (arith, c.if-left-gt0.false) in
    let done = count-alone c.self.inside.scans.items c.args.scan (Some 0) (ap (λ xs. option_map (λ (s : CasedScan). count_left s.scan.partial) (cased_at xs c.args.scan)) (sym c.deref.ensures.value) ∙ sym c.left_of.ensures ∙ c.in-Some.is ∙ ap (λ (n : ℕ). Some n) nothing) in
    rw c.deref-2.ensures.value (subst IsDone (running-is c.self.inside.scans.items c.args.scan) (done-of_count (running_at (scans_in c.self.inside.scans.items) c.args.scan) done))

pub publish_scan-published-requires-clause-digests : goal.publish_scan-published-requires-clause-digests
publish_scan-published-requires-clause-digests g c =
    let nothing : c.in-Some.left ≡ 0 = omega (arith, c.if-left-gt0.false) in
    let done = count-alone c.self.inside.scans.items c.args.scan (Some 0) (ap (λ xs. option_map (λ (s : CasedScan). count_left s.scan.partial) (cased_at xs c.args.scan)) (sym c.deref.ensures.value) ∙ sym c.left_of.ensures ∙ c.in-Some.is ∙ ap (λ (n : ℕ). Some n) nothing) in
    let given : AreDigests (running_at (scans_in c.self.inside.scans.items) c.args.scan) c.args.digests.now = rw (← c.self.view_is) at c.requires.digests in
    let contents = digests-of_contents (running_at (scans_in c.self.inside.scans.items) c.args.scan) c.args.digests.now done given in
    rw c.deref-2.ensures.value (subst (λ (o : Option RunningScan). AreContentsOf o c.args.digests.now) (running-is c.self.inside.scans.items c.args.scan) contents)

pub publish_scan-published-requires-clause-case : goal.publish_scan-published-requires-clause-case
publish_scan-published-requires-clause-case g c = rw c.deref-2.ensures.value (under-at c.self.inside.vfs.case c.self.inside.scans.items c.args.scan c.self.invariant.walks)

pub invariant_of-self : goal.invariant_of-self
invariant_of-self g c = record {
  one_case = c.self.invariant.one_case ∙ sym c.publish_scan-published.ensures.case;
  sixteen = c.close_after.ensures.sixteen ∙ c.self.invariant.sixteen;
  walks = rw (c.publish_scan-published.ensures.case, c.close_after.ensures.scans) (under-after c.self.inside.vfs.case c.self.inside.scans.items c.args.scan c.publish_scan-published.result c.self.invariant.walks);
}

pub returns-clause-step : goal.returns-clause-step
returns-clause-step g c =
    let nothing : c.in-Some.left ≡ 0 = omega (arith, c.if-left-gt0.false) in
    let done = count-alone c.self.inside.scans.items c.args.scan (Some 0) (ap (λ xs. option_map (λ (s : CasedScan). count_left s.scan.partial) (cased_at xs c.args.scan)) (sym c.deref.ensures.value) ∙ sym c.left_of.ensures ∙ c.in-Some.is ∙ ap (λ (n : ℕ). Some n) nothing) in
    let published = rw (c.deref-2.ensures.value, ← (running-is c.self.inside.scans.items c.args.scan)) at c.publish_scan-published.ensures.published in
    let closed = ap scans_in c.close_after.ensures.scans ∙ after-in c.self.inside.scans.items c.args.scan c.publish_scan-published.result in
    rw (← c.self.view_is)
    (λ a s st. publish-whole g.V.Versions.version g.V.Versions.count _ s c.args.scan c.publish_scan-published.new.vfs.held _ _ c.publish_scan-published.result _
    c.publish_scan-published.ensures.case c.publish_scan-published.ensures.versions closed c.close_after.ensures.reply done published st)

pub returns-clause-log : goal.returns-clause-log
returns-clause-log g c =
    let published = rw (c.deref-2.ensures.value, ← (running-is c.self.inside.scans.items c.args.scan)) at c.publish_scan-published.ensures.published in
    rw (← c.self.view_is)
    (λ s st. publish-logged g.V.Versions.version g.V.Versions.count _ s c.args.scan c.publish_scan-published.new.vfs.held c.publish_scan-published.result _ c.close_after.ensures.reply published st)

pub returns-clause-last : goal.returns-clause-last
returns-clause-last g c =
    let nothing : c.in-Some.left ≡ 0 = omega (arith, c.if-left-gt0.false) in
    let done = count-alone c.self.inside.scans.items c.args.scan (Some 0) (ap (λ xs. option_map (λ (s : CasedScan). count_left s.scan.partial) (cased_at xs c.args.scan)) (sym c.deref.ensures.value) ∙ sym c.left_of.ensures ∙ c.in-Some.is ∙ ap (λ (n : ℕ). Some n) nothing) in
    let published = rw (c.deref-2.ensures.value, ← (running-is c.self.inside.scans.items c.args.scan)) at c.publish_scan-published.ensures.published in
    rw (← c.self.view_is)
    (λ a s st. publish-last g.V.Versions.version g.V.Versions.count _ s c.args.scan c.publish_scan-published.new.vfs.held c.publish_scan-published.result _ c.close_after.ensures.reply done published st)
