use Rattle.std.proofs.Common.{Bool, [], map, subst, ap, sym, ◌∙◌}
use Rattle.std.specs.Prelude.{is_some}
use Rattle.std.proofs.lemmas.Result.{IfOk-weaker, on_err_weaker}
use Rattle.vfs_model.specs.State.{Fault}
use Rattle.fingerprint_norms.specs.Meaning.{input_of}
use Rattle.scan_walk.specs.Scans.{running_at}
use Rattle.script_report.specs.Stages.{Whole}
use Rattle.script_report.specs.Lines.{no_counts, building, taking, tells}
use Rattle.script_runs.specs.Making.{Leads, Stops}
use Rattle.script_runs.specs.Taking.{counts_of}
use Rattle.script_runs.proofs.LeadLemmas.{leads-as, leads-none, leads-stop, leads-then, stops-here, stops-then, on-err}
use Rattle.script_runs.proofs.build.build_line.Goals as goal

pub returns-then-scanning-clause-done : goal.returns-then-scanning-clause-done
returns-then-scanning-clause-done g c =
    IfOk-weaker c.word.result _ _
    (λ text is. leads-as g.V.Versions.version g.V.Versions.count c.args.machine.now c.args.machine.now c.args.caller (building c.args.caller (is_some (running_at c.args.machine.now.scans c.args.caller)) (map input_of c.args.inputs.now)) (building c.args.caller (is_some (running_at c.args.machine.now.scans c.args.caller)) (map input_of c.args.inputs.now)) (Whole text.items) (ap (λ (b : Bool). building c.args.caller b (map input_of c.args.inputs.now)) (sym c.scanning.ensures.running ∙ c.if-scanning.true) ∙ ap Whole (sym is)) (leads-none g.V.Versions.version g.V.Versions.count c.args.machine.now c.args.caller (building c.args.caller (is_some (running_at c.args.machine.now.scans c.args.caller)) (map input_of c.args.inputs.now))))
    c.word.ensures

pub returns-then-scanning-clause-broken : goal.returns-then-scanning-clause-broken
returns-then-scanning-clause-broken g c = on-err c.word.result _ (stops-here g.V.Versions.version g.V.Versions.count c.args.machine.now c.args.caller (building c.args.caller (is_some (running_at c.args.machine.now.scans c.args.caller)) (map input_of c.args.inputs.now)))

pub returns-in_err-_delivered-clause-broken : goal.returns-in_err-_delivered-clause-broken
returns-in_err-_delivered-clause-broken g c =
    on-err c.from_residual.result _
    (subst (λ (b : Bool). Stops g.V.Versions.version g.V.Versions.count c.args.machine.now c.settle.new.machine c.args.caller (building c.args.caller b (map input_of c.args.inputs.now))) (sym (sym c.scanning.ensures.running ∙ c.if-scanning.false))
    (c.in_err-_delivered.ensures.broken c.args.caller (λ n. (taking c.args.caller (map input_of c.args.inputs.now) (map input_of c.args.inputs.now) no_counts))))

pub returns-in_err-take_inputs-clause-broken : goal.returns-in_err-take_inputs-clause-broken
returns-in_err-take_inputs-clause-broken g c =
    let settled : Leads g.V.Versions.version g.V.Versions.count c.args.machine.now c.settle.new.machine c.args.caller (building c.args.caller (is_some (running_at c.args.machine.now.scans c.args.caller)) (map input_of c.args.inputs.now)) (taking c.args.caller (map input_of c.args.inputs.now) (map input_of c.args.inputs.now) no_counts) =
    subst (λ (b : Bool). Leads g.V.Versions.version g.V.Versions.count c.args.machine.now c.settle.new.machine c.args.caller (building c.args.caller b (map input_of c.args.inputs.now)) (taking c.args.caller (map input_of c.args.inputs.now) (map input_of c.args.inputs.now) no_counts)) (sym (sym c.scanning.ensures.running ∙ c.if-scanning.false))
    (c.in_ok-_delivered.ensures.done c.args.caller (λ n. (taking c.args.caller (map input_of c.args.inputs.now) (map input_of c.args.inputs.now) no_counts))) in
    on-err c.from_residual-in_err-take_inputs.result _ (stops-then g.V.Versions.version g.V.Versions.count c.args.machine.now c.settle.new.machine c.take_inputs.new.machine c.args.caller (building c.args.caller (is_some (running_at c.args.machine.now.scans c.args.caller)) (map input_of c.args.inputs.now)) (taking c.args.caller (map input_of c.args.inputs.now) (map input_of c.args.inputs.now) no_counts) settled (c.in_err-take_inputs.ensures.broken (map input_of c.args.inputs.now)))

pub returns-in-None-clause-done : goal.returns-in-None-clause-done
returns-in-None-clause-done g c =
    let settled : Leads g.V.Versions.version g.V.Versions.count c.args.machine.now c.settle.new.machine c.args.caller (building c.args.caller (is_some (running_at c.args.machine.now.scans c.args.caller)) (map input_of c.args.inputs.now)) (taking c.args.caller (map input_of c.args.inputs.now) (map input_of c.args.inputs.now) no_counts) =
    subst (λ (b : Bool). Leads g.V.Versions.version g.V.Versions.count c.args.machine.now c.settle.new.machine c.args.caller (building c.args.caller b (map input_of c.args.inputs.now)) (taking c.args.caller (map input_of c.args.inputs.now) (map input_of c.args.inputs.now) no_counts)) (sym (sym c.scanning.ensures.running ∙ c.if-scanning.false))
    (c.in_ok-_delivered.ensures.done c.args.caller (λ n. (taking c.args.caller (map input_of c.args.inputs.now) (map input_of c.args.inputs.now) no_counts))) in
    let taken = rw c.in-None.is at c.in_ok-take_inputs.ensures.done in
    IfOk-weaker c.word-in-None.result _ _
    (λ text is. leads-as g.V.Versions.version g.V.Versions.count c.args.machine.now c.take_inputs.new.machine c.args.caller (building c.args.caller (is_some (running_at c.args.machine.now.scans c.args.caller)) (map input_of c.args.inputs.now)) (tells Fault) (Whole text.items) (ap Whole (sym is)) (leads-then g.V.Versions.version g.V.Versions.count c.args.machine.now c.settle.new.machine c.take_inputs.new.machine c.args.caller (building c.args.caller (is_some (running_at c.args.machine.now.scans c.args.caller)) (map input_of c.args.inputs.now)) (taking c.args.caller (map input_of c.args.inputs.now) (map input_of c.args.inputs.now) no_counts) (tells Fault) settled (taken (map input_of c.args.inputs.now))))
    c.word-in-None.ensures

pub returns-in-None-clause-broken : goal.returns-in-None-clause-broken
returns-in-None-clause-broken g c =
    let settled : Leads g.V.Versions.version g.V.Versions.count c.args.machine.now c.settle.new.machine c.args.caller (building c.args.caller (is_some (running_at c.args.machine.now.scans c.args.caller)) (map input_of c.args.inputs.now)) (taking c.args.caller (map input_of c.args.inputs.now) (map input_of c.args.inputs.now) no_counts) =
    subst (λ (b : Bool). Leads g.V.Versions.version g.V.Versions.count c.args.machine.now c.settle.new.machine c.args.caller (building c.args.caller b (map input_of c.args.inputs.now)) (taking c.args.caller (map input_of c.args.inputs.now) (map input_of c.args.inputs.now) no_counts)) (sym (sym c.scanning.ensures.running ∙ c.if-scanning.false))
    (c.in_ok-_delivered.ensures.done c.args.caller (λ n. (taking c.args.caller (map input_of c.args.inputs.now) (map input_of c.args.inputs.now) no_counts))) in
    let taken = rw c.in-None.is at c.in_ok-take_inputs.ensures.done in
    on-err c.word-in-None.result _
    (leads-stop g.V.Versions.version g.V.Versions.count c.args.machine.now c.take_inputs.new.machine c.args.caller (building c.args.caller (is_some (running_at c.args.machine.now.scans c.args.caller)) (map input_of c.args.inputs.now)) (tells Fault) (leads-then g.V.Versions.version g.V.Versions.count c.args.machine.now c.settle.new.machine c.take_inputs.new.machine c.args.caller (building c.args.caller (is_some (running_at c.args.machine.now.scans c.args.caller)) (map input_of c.args.inputs.now)) (taking c.args.caller (map input_of c.args.inputs.now) (map input_of c.args.inputs.now) no_counts) (tells Fault) settled (taken (map input_of c.args.inputs.now))))

pub returns-in-Some-clause-done : goal.returns-in-Some-clause-done
returns-in-Some-clause-done g c =
    let settled : Leads g.V.Versions.version g.V.Versions.count c.args.machine.now c.settle.new.machine c.args.caller (building c.args.caller (is_some (running_at c.args.machine.now.scans c.args.caller)) (map input_of c.args.inputs.now)) (taking c.args.caller (map input_of c.args.inputs.now) (map input_of c.args.inputs.now) no_counts) =
    subst (λ (b : Bool). Leads g.V.Versions.version g.V.Versions.count c.args.machine.now c.settle.new.machine c.args.caller (building c.args.caller b (map input_of c.args.inputs.now)) (taking c.args.caller (map input_of c.args.inputs.now) (map input_of c.args.inputs.now) no_counts)) (sym (sym c.scanning.ensures.running ∙ c.if-scanning.false))
    (c.in_ok-_delivered.ensures.done c.args.caller (λ n. (taking c.args.caller (map input_of c.args.inputs.now) (map input_of c.args.inputs.now) no_counts))) in
    let taken = rw c.in-Some.is at c.in_ok-take_inputs.ensures.done in
    let end = taking c.args.caller (map input_of c.args.inputs.now) [] (counts_of c.in-Some.counts) in
    IfOk-weaker c.fingerprint_built.result _ _
    (λ text prints. leads-then g.V.Versions.version g.V.Versions.count c.args.machine.now c.take_inputs.new.machine c.fingerprint_built.new.machine c.args.caller (building c.args.caller (is_some (running_at c.args.machine.now.scans c.args.caller)) (map input_of c.args.inputs.now)) end (Whole text.items) (leads-then g.V.Versions.version g.V.Versions.count c.args.machine.now c.settle.new.machine c.take_inputs.new.machine c.args.caller (building c.args.caller (is_some (running_at c.args.machine.now.scans c.args.caller)) (map input_of c.args.inputs.now)) (taking c.args.caller (map input_of c.args.inputs.now) (map input_of c.args.inputs.now) no_counts) end settled (taken (map input_of c.args.inputs.now))) (prints c.args.caller))
    c.fingerprint_built.ensures.done

pub returns-in-Some-clause-broken : goal.returns-in-Some-clause-broken
returns-in-Some-clause-broken g c =
    let settled : Leads g.V.Versions.version g.V.Versions.count c.args.machine.now c.settle.new.machine c.args.caller (building c.args.caller (is_some (running_at c.args.machine.now.scans c.args.caller)) (map input_of c.args.inputs.now)) (taking c.args.caller (map input_of c.args.inputs.now) (map input_of c.args.inputs.now) no_counts) =
    subst (λ (b : Bool). Leads g.V.Versions.version g.V.Versions.count c.args.machine.now c.settle.new.machine c.args.caller (building c.args.caller b (map input_of c.args.inputs.now)) (taking c.args.caller (map input_of c.args.inputs.now) (map input_of c.args.inputs.now) no_counts)) (sym (sym c.scanning.ensures.running ∙ c.if-scanning.false))
    (c.in_ok-_delivered.ensures.done c.args.caller (λ n. (taking c.args.caller (map input_of c.args.inputs.now) (map input_of c.args.inputs.now) no_counts))) in
    let taken = rw c.in-Some.is at c.in_ok-take_inputs.ensures.done in
    let end = taking c.args.caller (map input_of c.args.inputs.now) [] (counts_of c.in-Some.counts) in
    on_err_weaker c.fingerprint_built.result
    (λ stops. stops-then g.V.Versions.version g.V.Versions.count c.args.machine.now c.take_inputs.new.machine c.fingerprint_built.new.machine c.args.caller (building c.args.caller (is_some (running_at c.args.machine.now.scans c.args.caller)) (map input_of c.args.inputs.now)) end (leads-then g.V.Versions.version g.V.Versions.count c.args.machine.now c.settle.new.machine c.take_inputs.new.machine c.args.caller (building c.args.caller (is_some (running_at c.args.machine.now.scans c.args.caller)) (map input_of c.args.inputs.now)) (taking c.args.caller (map input_of c.args.inputs.now) (map input_of c.args.inputs.now) no_counts) end settled (taken (map input_of c.args.inputs.now))) (stops c.args.caller))
    c.fingerprint_built.ensures.broken
