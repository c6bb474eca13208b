use Rattle.std.proofs.Common.{sym, ap, subst, ◌∙◌}
use Rattle.std.proofs.lemmas.Result.{IfOk-weaker}
use Rattle.std.specs.List.{AllByRecursion as Each}
use Rattle.script_text.specs.declared.script.Script.{Script}
use Rattle.script_report.specs.Reports.{IsReport}
use Rattle.script_runs.specs.Printing.{CanRun}
use Rattle.script_summary.specs.Summary.{summary_of}
use Rattle.vfs_tool.proofs.GenLemmas.{generated-runs}
use Rattle.vfs_tool.proofs.generate.generated_summary.Goals as goal

pub replayed-requires-clause-lines : goal.replayed-requires-clause-lines
replayed-requires-clause-lines g c = λ κs within. subst (λ (s : Script). Each CanRun s.lines) (sym c.in_ok-script.ensures) (generated-runs c.args.directories)

pub returns : goal.returns
returns g c =
    let report = c.in_ok-report.ensures in
    IfOk-weaker c.summary_line.result _ _
    (λ line is. (
      report.0,
      subst (λ (s : Script). IsReport s report.0) c.in_ok-script.ensures report.1,
      is ∙ ap summary_of (c.written.ensures ∙ report.2),
    ))
    c.summary_line.ensures
