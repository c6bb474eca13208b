use Rattle.std.proofs.Common.{ap, sym}
use Rattle.std.proofs.lemmas.Result.{IfOk-weaker, on_err_weaker}
use Rattle.script_report.specs.Stages.{Whole}
use Rattle.script_report.specs.Lines.{one_call, tells}
use Rattle.vfs_machine.specs.Calls.{call_of}
use Rattle.script_runs.proofs.LeadLemmas.{leads-as}
use Rattle.script_runs.proofs.replay.call_line.Goals as goal

pub returns-clause-done : goal.returns-clause-done
returns-clause-done g c =
    IfOk-weaker c.reply_to.result _ _
    (λ text put. leads-as g.V.Versions.version g.V.Versions.count c.args.machine.now c.reply_to.new.machine c.args.caller (one_call (call_of c.args.caller c.args.call)) _ (Whole text.items) (ap Whole (sym put.told)) (put.leads tells))
    c.reply_to.ensures.done

pub returns-clause-broken : goal.returns-clause-broken
returns-clause-broken g c = on_err_weaker c.reply_to.result (λ stops. stops tells) c.reply_to.ensures.broken
