use Rattle.std.proofs.Common.{ap, ◌∙◌}
use Rattle.std.proofs.lemmas.Result.{IfOk-weaker}
use Rattle.of_plan.specs.Report as plain
use Rattle.of_plan.proofs.SerialLegal.{serial_legal}
use Rattle.of_report.specs.Report.{report_value}
use Rattle.of_report.specs.ReportText.{report_text}
use Rattle.of_tool.proofs.commands.of_plan.Goals as goal

pub returns-in_ok-serial-in-Serial : goal.returns-in_ok-serial-in-Serial
returns-in_ok-serial-in-Serial c = λ source read. rw c.in-Serial.is (IfOk-weaker c.print.result _ _
    (λ text is. record { plan = c.args.plan.now; read = read; legal = serial_legal c.args.plan.now; text_is = is ∙ ap (λ (r : plain.Report). report_text r) c.in_ok-serial-in-Serial.ensures.report })
    c.print.ensures)

pub returns-in_ok-play_report-in-Play : goal.returns-in_ok-play_report-in-Play
returns-in_ok-play_report-in-Play c = λ source read. rw c.in-Play.is (IfOk-weaker c.print-in-Play.result _ _
    (λ text is. record { plan = c.args.plan.now; read = read; report = report_value c.in_ok-play_report-in-Play.field-0; played = c.in_ok-play_report-in-Play.ensures; text_is = is })
    c.print-in-Play.ensures)
