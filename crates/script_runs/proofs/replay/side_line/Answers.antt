use Rattle.std.proofs.Common.{refl}
use Rattle.std.proofs.lemmas.Result.{IfOk-weaker}
use Rattle.script_report.specs.Lines.{one_call}
use Rattle.vfs_machine.specs.Calls.{side_call_of, side_reply_of}
use Rattle.script_runs.proofs.CallLemmas.{calls-of}
use Rattle.script_runs.proofs.LeadLemmas.{one-done, call-stops, on-err}
use Rattle.script_runs.proofs.replay.side_line.Goals as goal

pub returns-clause-done : goal.returns-clause-done
returns-clause-done g c =
    IfOk-weaker c.side_reply_text.result _ _
    (λ text told. one-done g.V.Versions.version g.V.Versions.count c.args.machine.now c.side_call.new.self (side_call_of c.args.caller c.args.call) (side_reply_of c.side_call.result) text.items c.args.caller
    (calls-of g.V.Versions.version g.V.Versions.count c.args.machine.now c.side_call.new.self (side_call_of c.args.caller c.args.call) (side_reply_of c.side_call.result) c.side_call.ensures.called) told)
    c.side_reply_text.ensures

pub returns-clause-broken : goal.returns-clause-broken
returns-clause-broken g c =
    on-err c.side_reply_text.result _
    (call-stops g.V.Versions.version g.V.Versions.count c.args.machine.now c.side_call.new.self (side_call_of c.args.caller c.args.call) (side_reply_of c.side_call.result) c.args.caller (one_call (side_call_of c.args.caller c.args.call)) refl
    (calls-of g.V.Versions.version g.V.Versions.count c.args.machine.now c.side_call.new.self (side_call_of c.args.caller c.args.call) (side_reply_of c.side_call.result) c.side_call.ensures.called))
