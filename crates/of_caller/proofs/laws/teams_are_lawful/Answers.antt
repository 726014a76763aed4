use Rattle.of_row.specs.Runs.{RunsAreSchedules}
use Rattle.of_caller.specs.Tables.{plan_setup, IsLawfulFor}
use Rattle.of_caller.proofs.PlansKeepLaws.{at_plan}
use Rattle.of_caller.proofs.Teams.{teams_are_lawful, teams_keep_allowances}
use Rattle.of_caller.proofs.Restarting.{teams_restart}
use Rattle.of_caller.proofs.Scheduled.{teams_are_scheduled}
use Rattle.of_caller.proofs.laws.teams_are_lawful.Goals as goal

runs : (c : goal.After-runs_are_schedules) → RunsAreSchedules (IsLawfulFor c.args.plan.now) (plan_setup c.args.plan.now)
runs c = at_plan c.args.plan.now c.of_plan-scripts.result.callers c.of_plan-scripts.result.blocks c.limit-limit.result c.of_plan-scripts.ensures.callers c.of_plan-scripts.ensures.blocks c.limit-limit.ensures.value (λ S L. RunsAreSchedules L S) c.runs_are_schedules.ensures

pub returns-clause-lawful : goal.returns-clause-lawful
returns-clause-lawful c = teams_are_lawful c.args.plan.now c.plan_keeps_laws.ensures.laws (runs c)

pub returns-clause-allowances : goal.returns-clause-allowances
returns-clause-allowances c = teams_keep_allowances c.args.plan.now c.plan_keeps_laws.ensures.laws (runs c)

pub returns-clause-restarts : goal.returns-clause-restarts
returns-clause-restarts c = teams_restart c.args.plan.now c.plan_keeps_laws.ensures.laws (runs c)

pub returns-clause-scheduled : goal.returns-clause-scheduled
returns-clause-scheduled c = teams_are_scheduled c.args.plan.now c.plan_keeps_laws.ensures.laws (runs c)
