use Rattle.std.proofs.Common.{ℕ, [], map, refl, ap, sym}
use Rattle.std.proofs.lemmas.Result.{IfOk-weaker}
use Rattle.fingerprint_norms.specs.Meaning.{input_of}
use Rattle.vfs_model.specs.State.{CallFingerprint, Is, Unknown}
use Rattle.vfs_machine.specs.Steps.{printed_reply}
use Rattle.script_report.specs.Stages.{Whole}
use Rattle.script_report.specs.Lines.{taking}
use Rattle.script_runs.specs.Making.{Stops}
use Rattle.script_runs.specs.Taking.{counts_of}
use Rattle.script_runs.proofs.CallLemmas.{calls-of}
use Rattle.script_runs.proofs.LeadLemmas.{leads-as, leads-stop, call-leads, call-stops, on-err}
use Rattle.script_runs.proofs.build.fingerprint_built.Goals as goal

pub returns-in-Is-clause-done : goal.returns-in-Is-clause-done
returns-in-Is-clause-done g c =
    IfOk-weaker c.counted_text.result _ _
    (λ text is caller. leads-as g.V.Versions.version g.V.Versions.count c.args.machine.now c.fingerprint.new.self caller (taking caller (map input_of c.args.inputs.now) [] (counts_of c.args.counts)) _ (Whole text.items) (ap Whole (sym is))
    (call-leads g.V.Versions.version g.V.Versions.count c.args.machine.now c.fingerprint.new.self (CallFingerprint (map input_of c.args.inputs.now)) (Is c.in-Is.digest) caller (taking caller (map input_of c.args.inputs.now) [] (counts_of c.args.counts)) refl refl (calls-of g.V.Versions.version g.V.Versions.count c.args.machine.now c.fingerprint.new.self (CallFingerprint (map input_of c.args.inputs.now)) (Is c.in-Is.digest) c.in-Is.ensures.called)))
    c.counted_text.ensures

pub returns-in-Is-clause-broken : goal.returns-in-Is-clause-broken
returns-in-Is-clause-broken g c =
    let stops : (caller : ℕ) → Stops g.V.Versions.version g.V.Versions.count c.args.machine.now c.fingerprint.new.self caller (taking caller (map input_of c.args.inputs.now) [] (counts_of c.args.counts)) =
    λ caller. leads-stop g.V.Versions.version g.V.Versions.count c.args.machine.now c.fingerprint.new.self caller (taking caller (map input_of c.args.inputs.now) [] (counts_of c.args.counts)) _
    (call-leads g.V.Versions.version g.V.Versions.count c.args.machine.now c.fingerprint.new.self (CallFingerprint (map input_of c.args.inputs.now)) (Is c.in-Is.digest) caller (taking caller (map input_of c.args.inputs.now) [] (counts_of c.args.counts)) refl refl (calls-of g.V.Versions.version g.V.Versions.count c.args.machine.now c.fingerprint.new.self (CallFingerprint (map input_of c.args.inputs.now)) (Is c.in-Is.digest) c.in-Is.ensures.called)) in
    on-err c.counted_text.result _ stops

pub returns-in-Unknown-clause-done : goal.returns-in-Unknown-clause-done
returns-in-Unknown-clause-done g c =
    IfOk-weaker c.numbered.result _ _
    (λ text is caller. leads-as g.V.Versions.version g.V.Versions.count c.args.machine.now c.fingerprint.new.self caller (taking caller (map input_of c.args.inputs.now) [] (counts_of c.args.counts)) _ (Whole text.items) (ap Whole (sym is))
    (call-leads g.V.Versions.version g.V.Versions.count c.args.machine.now c.fingerprint.new.self (CallFingerprint (map input_of c.args.inputs.now)) (Unknown c.in-Unknown.input) caller (taking caller (map input_of c.args.inputs.now) [] (counts_of c.args.counts)) refl refl (calls-of g.V.Versions.version g.V.Versions.count c.args.machine.now c.fingerprint.new.self (CallFingerprint (map input_of c.args.inputs.now)) (Unknown c.in-Unknown.input) c.in-Unknown.ensures.called)))
    c.numbered.ensures

pub returns-in-Unknown-clause-broken : goal.returns-in-Unknown-clause-broken
returns-in-Unknown-clause-broken g c =
    let stops : (caller : ℕ) → Stops g.V.Versions.version g.V.Versions.count c.args.machine.now c.fingerprint.new.self caller (taking caller (map input_of c.args.inputs.now) [] (counts_of c.args.counts)) =
    λ caller. leads-stop g.V.Versions.version g.V.Versions.count c.args.machine.now c.fingerprint.new.self caller (taking caller (map input_of c.args.inputs.now) [] (counts_of c.args.counts)) _
    (call-leads g.V.Versions.version g.V.Versions.count c.args.machine.now c.fingerprint.new.self (CallFingerprint (map input_of c.args.inputs.now)) (Unknown c.in-Unknown.input) caller (taking caller (map input_of c.args.inputs.now) [] (counts_of c.args.counts)) refl refl (calls-of g.V.Versions.version g.V.Versions.count c.args.machine.now c.fingerprint.new.self (CallFingerprint (map input_of c.args.inputs.now)) (Unknown c.in-Unknown.input) c.in-Unknown.ensures.called)) in
    on-err c.numbered.result _ stops

pub returns-in-NoMemory-clause-broken : goal.returns-in-NoMemory-clause-broken
returns-in-NoMemory-clause-broken g c = λ caller.
    call-stops g.V.Versions.version g.V.Versions.count c.args.machine.now c.fingerprint.new.self (CallFingerprint (map input_of c.args.inputs.now)) (printed_reply c.fingerprint.result) caller (taking caller (map input_of c.args.inputs.now) [] (counts_of c.args.counts)) refl
    (calls-of g.V.Versions.version g.V.Versions.count c.args.machine.now c.fingerprint.new.self (CallFingerprint (map input_of c.args.inputs.now)) (printed_reply c.fingerprint.result) c.fingerprint.ensures.called)
