use Rattle.std.proofs.Common.{refl}
use Rattle.std.proofs.lemmas.Result.{IfOk-weaker}
use Rattle.script_report.specs.Stages.{Asks}
use Rattle.vfs_machine.specs.Calls.{call_of, reply_of}
use Rattle.script_runs.proofs.CallLemmas.{calls-of}
use Rattle.script_runs.proofs.LeadLemmas.{call-leads, call-stops, stops-here, on-err}
use Rattle.script_runs.proofs.replay.reply_to.Goals as goal

pub returns-in_err-digests-clause-broken : goal.returns-in_err-digests-clause-broken
returns-in_err-digests-clause-broken g c =
    on-err c.from_residual.result _ (λ next. stops-here g.V.Versions.version g.V.Versions.count c.args.machine.now c.args.caller (Asks (call_of c.args.caller c.args.call) next))

pub returns-clause-done : goal.returns-clause-done
returns-clause-done g c =
    IfOk-weaker c.reply_text.result _ _
    (λ text told. record {
      reply = reply_of c.call-2.result;
      told = told.told;
      leads = λ next. call-leads g.V.Versions.version g.V.Versions.count c.args.machine.now c.call-2.new.self (call_of c.args.caller c.args.call) (reply_of c.call-2.result) c.args.caller (Asks (call_of c.args.caller c.args.call) next) refl told.given (calls-of g.V.Versions.version g.V.Versions.count c.args.machine.now c.call-2.new.self (call_of c.args.caller c.args.call) (reply_of c.call-2.result) c.call-2.ensures.called);
    })
    c.reply_text.ensures

pub returns-clause-broken : goal.returns-clause-broken
returns-clause-broken g c =
    on-err c.reply_text.result _
    (λ next. call-stops g.V.Versions.version g.V.Versions.count c.args.machine.now c.call-2.new.self (call_of c.args.caller c.args.call) (reply_of c.call-2.result) c.args.caller (Asks (call_of c.args.caller c.args.call) next) refl (calls-of g.V.Versions.version g.V.Versions.count c.args.machine.now c.call-2.new.self (call_of c.args.caller c.args.call) (reply_of c.call-2.result) c.call-2.ensures.called))
