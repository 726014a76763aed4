use Rattle.of_play.proofs.PlaysMoments.{playable}
use Rattle.of_tool.proofs.RanReports.{as_played}
use Rattle.of_tool.proofs.laws.runs_are_played.Goals as goal

pub returns : goal.returns
returns c =
    let p = c.args.plan.now in
    let laws = c.plan_keeps_laws.ensures in
    λ course e r run. as_played p (playable p laws.plan laws.laws laws.moments laws.zeros) c.runs_are_lawful.ensures.allowances c.reports_respect_time.ensures.schedules e r run.schedule run.leaves run.reports
