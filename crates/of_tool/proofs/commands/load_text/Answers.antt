use Rattle.of_report.specs.Report.{report_value}
use Rattle.of_tool.proofs.Carried.{holds_load}
use Rattle.of_tool.proofs.commands.load_text.Goals as goal

pub returns : goal.returns
returns g c = λ source. holds_load _ c.args.callers c.args.scripts c.in_ok-plan.plan (report_value c.in_ok-report.report) c.in_ok-text.text.items c.in_ok-report.ran.0 c.in_ok-report.ran.1.seat.me.0
    c.in_ok-plan.ensures c.requires.load c.in_ok-report.ensures c.in_ok-text.ensures
