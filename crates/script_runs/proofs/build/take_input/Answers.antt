use Rattle.std.proofs.Common.{refl, ap, sym, ◌∙◌}
use Rattle.std.specs.Prelude.{option_map}
use Rattle.vfs_model.specs.State.{CallFind, CallBegin, Found, Fault}
use Rattle.snapshot_tree.specs.Meaning.{glance_of}
use Rattle.script_report.specs.Stages.{Stage, Asks, Reads}
use Rattle.script_report.specs.Lines.{Counts, root_found, root_read, with_miss, tells}
use Rattle.script_runs.specs.Making.{Stops}
use Rattle.script_runs.specs.Taking.{counts_of}
use Rattle.script_runs.proofs.CallLemmas.{calls-of}
use Rattle.script_runs.proofs.LeadLemmas.{leads-as, leads-stop, leads-then, stops-then, call-leads, on-err}
use Rattle.script_runs.proofs.TakeLemmas.{found-hit, found-miss}
use Rattle.script_runs.proofs.build.take_input.Goals as goal

pub returns-then-is_some-clause-done : goal.returns-then-is_some-clause-done
returns-then-is_some-clause-done g c = λ more.
    leads-as g.V.Versions.version g.V.Versions.count c.args.machine.now c.args.machine.now c.args.caller (Asks (CallFind c.args.input.now.root) (root_found c.args.caller c.args.input.now.root (counts_of c.args.counts) more)) _ (more (counts_of c.with_hit.result))
    (found-hit c.args.caller c.args.input.now.root (counts_of c.args.counts) more c.find.result (sym c.is_some.ensures ∙ c.if-is_some.true) ∙ ap (λ z. more (counts_of z)) (sym c.with_hit.ensures))
    (call-leads g.V.Versions.version g.V.Versions.count c.args.machine.now c.args.machine.now (CallFind c.args.input.now.root) (Found (option_map glance_of c.find.result)) c.args.caller (Asks (CallFind c.args.input.now.root) (root_found c.args.caller c.args.input.now.root (counts_of c.args.counts) more)) refl refl (calls-of g.V.Versions.version g.V.Versions.count c.args.machine.now c.args.machine.now (CallFind c.args.input.now.root) (Found (option_map glance_of c.find.result)) c.find.ensures))

pub returns-in_err-scan_root-clause-broken : goal.returns-in_err-scan_root-clause-broken
returns-in_err-scan_root-clause-broken g c =
    let stops : (more : Counts → Stage) → Stops g.V.Versions.version g.V.Versions.count c.args.machine.now c.scan_root.new.machine c.args.caller (Asks (CallFind c.args.input.now.root) (root_found c.args.caller c.args.input.now.root (counts_of c.args.counts) more)) = λ more. stops-then g.V.Versions.version g.V.Versions.count c.args.machine.now c.args.machine.now c.scan_root.new.machine c.args.caller (Asks (CallFind c.args.input.now.root) (root_found c.args.caller c.args.input.now.root (counts_of c.args.counts) more)) (Asks (CallBegin c.args.caller c.args.input.now.root) (λ reply. Reads c.args.caller 0 (root_read c.args.caller (counts_of c.args.counts) more)))
    (leads-as g.V.Versions.version g.V.Versions.count c.args.machine.now c.args.machine.now c.args.caller (Asks (CallFind c.args.input.now.root) (root_found c.args.caller c.args.input.now.root (counts_of c.args.counts) more)) _ (Asks (CallBegin c.args.caller c.args.input.now.root) (λ reply. Reads c.args.caller 0 (root_read c.args.caller (counts_of c.args.counts) more))) (found-miss c.args.caller c.args.input.now.root (counts_of c.args.counts) more c.find.result (sym c.is_some.ensures ∙ c.if-is_some.false))
    (call-leads g.V.Versions.version g.V.Versions.count c.args.machine.now c.args.machine.now (CallFind c.args.input.now.root) (Found (option_map glance_of c.find.result)) c.args.caller (Asks (CallFind c.args.input.now.root) (root_found c.args.caller c.args.input.now.root (counts_of c.args.counts) more)) refl refl (calls-of g.V.Versions.version g.V.Versions.count c.args.machine.now c.args.machine.now (CallFind c.args.input.now.root) (Found (option_map glance_of c.find.result)) c.find.ensures)))
    (c.in_err-scan_root.ensures.broken (counts_of c.args.counts) more) in
    on-err c.from_residual.result _ stops

pub returns-in_err-with_miss-in-Some-clause-broken : goal.returns-in_err-with_miss-in-Some-clause-broken
returns-in_err-with_miss-in-Some-clause-broken g c =
    let stops : (more : Counts → Stage) → Stops g.V.Versions.version g.V.Versions.count c.args.machine.now c.scan_root.new.machine c.args.caller (Asks (CallFind c.args.input.now.root) (root_found c.args.caller c.args.input.now.root (counts_of c.args.counts) more)) = λ more. leads-stop g.V.Versions.version g.V.Versions.count c.args.machine.now c.scan_root.new.machine c.args.caller (Asks (CallFind c.args.input.now.root) (root_found c.args.caller c.args.input.now.root (counts_of c.args.counts) more)) _ (leads-then g.V.Versions.version g.V.Versions.count c.args.machine.now c.args.machine.now c.scan_root.new.machine c.args.caller (Asks (CallFind c.args.input.now.root) (root_found c.args.caller c.args.input.now.root (counts_of c.args.counts) more)) (Asks (CallBegin c.args.caller c.args.input.now.root) (λ reply. Reads c.args.caller 0 (root_read c.args.caller (counts_of c.args.counts) more))) _
    (leads-as g.V.Versions.version g.V.Versions.count c.args.machine.now c.args.machine.now c.args.caller (Asks (CallFind c.args.input.now.root) (root_found c.args.caller c.args.input.now.root (counts_of c.args.counts) more)) _ (Asks (CallBegin c.args.caller c.args.input.now.root) (λ reply. Reads c.args.caller 0 (root_read c.args.caller (counts_of c.args.counts) more))) (found-miss c.args.caller c.args.input.now.root (counts_of c.args.counts) more c.find.result (sym c.is_some.ensures ∙ c.if-is_some.false))
    (call-leads g.V.Versions.version g.V.Versions.count c.args.machine.now c.args.machine.now (CallFind c.args.input.now.root) (Found (option_map glance_of c.find.result)) c.args.caller (Asks (CallFind c.args.input.now.root) (root_found c.args.caller c.args.input.now.root (counts_of c.args.counts) more)) refl refl (calls-of g.V.Versions.version g.V.Versions.count c.args.machine.now c.args.machine.now (CallFind c.args.input.now.root) (Found (option_map glance_of c.find.result)) c.find.ensures)))
    (c.in_ok-scan_root.ensures.done (counts_of c.args.counts) more)) in
    on-err _ _ stops

pub returns-in-None-clause-done : goal.returns-in-None-clause-done
returns-in-None-clause-done g c = λ more.
    let scanned = rw c.in-None.is at c.in_ok-scan_root.ensures.done in
    leads-then g.V.Versions.version g.V.Versions.count c.args.machine.now c.args.machine.now c.scan_root.new.machine c.args.caller (Asks (CallFind c.args.input.now.root) (root_found c.args.caller c.args.input.now.root (counts_of c.args.counts) more)) (Asks (CallBegin c.args.caller c.args.input.now.root) (λ reply. Reads c.args.caller 0 (root_read c.args.caller (counts_of c.args.counts) more))) (tells Fault)
    (leads-as g.V.Versions.version g.V.Versions.count c.args.machine.now c.args.machine.now c.args.caller (Asks (CallFind c.args.input.now.root) (root_found c.args.caller c.args.input.now.root (counts_of c.args.counts) more)) _ (Asks (CallBegin c.args.caller c.args.input.now.root) (λ reply. Reads c.args.caller 0 (root_read c.args.caller (counts_of c.args.counts) more))) (found-miss c.args.caller c.args.input.now.root (counts_of c.args.counts) more c.find.result (sym c.is_some.ensures ∙ c.if-is_some.false))
    (call-leads g.V.Versions.version g.V.Versions.count c.args.machine.now c.args.machine.now (CallFind c.args.input.now.root) (Found (option_map glance_of c.find.result)) c.args.caller (Asks (CallFind c.args.input.now.root) (root_found c.args.caller c.args.input.now.root (counts_of c.args.counts) more)) refl refl (calls-of g.V.Versions.version g.V.Versions.count c.args.machine.now c.args.machine.now (CallFind c.args.input.now.root) (Found (option_map glance_of c.find.result)) c.find.ensures)))
    (scanned (counts_of c.args.counts) more)

pub returns-in_ok-with_miss-in-Some-clause-done : goal.returns-in_ok-with_miss-in-Some-clause-done
returns-in_ok-with_miss-in-Some-clause-done g c = λ more.
    let scanned = rw c.in-Some.is at c.in_ok-scan_root.ensures.done in
    leads-as g.V.Versions.version g.V.Versions.count c.args.machine.now c.scan_root.new.machine c.args.caller (Asks (CallFind c.args.input.now.root) (root_found c.args.caller c.args.input.now.root (counts_of c.args.counts) more)) _ (more (counts_of c.in_ok-with_miss-in-Some.field-0)) (ap (λ z. more (counts_of z)) (sym c.in_ok-with_miss-in-Some.ensures))
    (leads-then g.V.Versions.version g.V.Versions.count c.args.machine.now c.args.machine.now c.scan_root.new.machine c.args.caller (Asks (CallFind c.args.input.now.root) (root_found c.args.caller c.args.input.now.root (counts_of c.args.counts) more)) (Asks (CallBegin c.args.caller c.args.input.now.root) (λ reply. Reads c.args.caller 0 (root_read c.args.caller (counts_of c.args.counts) more))) (more (with_miss (counts_of c.args.counts) c.in-Some.reads))
    (leads-as g.V.Versions.version g.V.Versions.count c.args.machine.now c.args.machine.now c.args.caller (Asks (CallFind c.args.input.now.root) (root_found c.args.caller c.args.input.now.root (counts_of c.args.counts) more)) _ (Asks (CallBegin c.args.caller c.args.input.now.root) (λ reply. Reads c.args.caller 0 (root_read c.args.caller (counts_of c.args.counts) more))) (found-miss c.args.caller c.args.input.now.root (counts_of c.args.counts) more c.find.result (sym c.is_some.ensures ∙ c.if-is_some.false))
    (call-leads g.V.Versions.version g.V.Versions.count c.args.machine.now c.args.machine.now (CallFind c.args.input.now.root) (Found (option_map glance_of c.find.result)) c.args.caller (Asks (CallFind c.args.input.now.root) (root_found c.args.caller c.args.input.now.root (counts_of c.args.counts) more)) refl refl (calls-of g.V.Versions.version g.V.Versions.count c.args.machine.now c.args.machine.now (CallFind c.args.input.now.root) (Found (option_map glance_of c.find.result)) c.find.ensures)))
    (scanned (counts_of c.args.counts) more))
