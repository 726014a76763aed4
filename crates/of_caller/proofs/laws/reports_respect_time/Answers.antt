use Rattle.of_row.specs.Runs.{RunsAreSchedules}
use Rattle.of_caller.specs.Tables.{plan_setup, IsLawfulFor}
use Rattle.of_caller.proofs.PlansKeepLaws.{at_plan}
use Rattle.of_caller.proofs.InTime.{KeepsTime, schedules_respect_time}
use Rattle.of_caller.proofs.TeamsInTime.{teams_respect_time}
use Rattle.of_caller.proofs.laws.reports_respect_time.Goals as goal

runs : (c : goal.After-every_order) → RunsAreSchedules (IsLawfulFor c.args.plan.now) (plan_setup c.args.plan.now)
runs c = at_plan c.args.plan.now c.of_plan-scripts.result.callers c.of_plan-scripts.result.blocks c.limit-limit.result c.of_plan-scripts.ensures.callers c.of_plan-scripts.ensures.blocks c.limit-limit.ensures.value (λ S L. RunsAreSchedules L S) c.runs_are_schedules.ensures

time : (c : goal.After-every_order) → KeepsTime (plan_setup c.args.plan.now) (IsLawfulFor c.args.plan.now)
time c =
    at_plan c.args.plan.now c.of_plan-scripts.result.callers c.of_plan-scripts.result.blocks c.limit-limit.result c.of_plan-scripts.ensures.callers c.of_plan-scripts.ensures.blocks c.limit-limit.ensures.value KeepsTime
    (record { real_time = c.every_order.ensures.real_time; late = c.every_order.ensures.late })

pub returns-clause-schedules : goal.returns-clause-schedules
returns-clause-schedules c = schedules_respect_time c.args.plan.now (time c)

pub returns-clause-teams : goal.returns-clause-teams
returns-clause-teams c = teams_respect_time c.args.plan.now c.plan_keeps_laws.ensures.laws (runs c) (time c)
