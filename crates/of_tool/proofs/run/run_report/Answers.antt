use Rattle.of_report.specs.Report.{report_value}
use Rattle.of_caller.specs.PlanRows.{start_of_row}
use Rattle.of_tool.proofs.RanReports.{has_report, reported}
use Rattle.of_tool.proofs.run.run_report.Goals as goal

pub make-requires : goal.make-requires
make-requires g c = has_report c.args.plan.now (start_of_row c.in_ok-row.row) c.in_ok-ended.ended c.in_ok-ended.pass.seat.me.0 c.in_ok-row.ensures.zeros c.plan_keeps_laws.ensures.zeros c.in_ok-ended.ensures.handed

pub returns : goal.returns
returns g c =
    reported c.args.plan.now (start_of_row c.in_ok-row.row) c.in_ok-ended.ended c.in_ok-ended.pass.seat.me.0 c.in_ok-row.ensures.zeros c.plan_keeps_laws.ensures.zeros c.in_ok-ended.ensures.handed _ c.args.brakes.items (report_value c.in_ok-report.report)
    c.in_ok-report.ensures.report c.teams_are_lawful.ensures.allowances c.reports_respect_time.ensures.teams c.in_ok-ended.ensures.stops
