use Rattle.std.proofs.lemmas.Result.{IfOk-weaker}
use Rattle.of_report.specs.Report.{report_value}
use Rattle.of_play.proofs.PlaysMoments.{playable}
use Rattle.of_play.proofs.PlayedReports.{has_report, played_report}
use Rattle.of_play.proofs.report.play_report.Goals as goal

pub make-requires : goal.make-requires
make-requires c = has_report c.args.plan.now (playable c.args.plan.now c.play.ensures.plan c.plan_keeps_laws.ensures.laws c.plan_keeps_laws.ensures.moments c.plan_keeps_laws.ensures.zeros) c.runs_are_lawful.ensures.lawful c.runs_are_lawful.ensures.reported c.runs_are_lawful.ensures.allowances c.reports_respect_time.ensures.schedules c.in_ok-ended.ended c.in_ok-ended.ensures.played

pub returns : goal.returns
returns c = IfOk-weaker c.make.result _ _ (λ made is. played_report c.args.plan.now (playable c.args.plan.now c.play.ensures.plan c.plan_keeps_laws.ensures.laws c.plan_keeps_laws.ensures.moments c.plan_keeps_laws.ensures.zeros) c.runs_are_lawful.ensures.lawful c.runs_are_lawful.ensures.reported c.runs_are_lawful.ensures.allowances c.reports_respect_time.ensures.schedules c.in_ok-ended.ended c.in_ok-ended.ensures.played (report_value made) is) c.make.ensures.report
