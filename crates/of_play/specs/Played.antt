-- What a plan's schedule leaves, as a report.
use Rattle.std.specs.Prelude.{ℕ, ◌<◌, Some}
use Rattle.of_plan.specs.Plan.{Plan}
use Rattle.of_plan.specs.Ended.{Ended}
use Rattle.of_plan.specs.Report.{Report, empty_start}
use Rattle.of_plan.specs.Allowance.{KeepsAllowance, turns_for}
use Rattle.of_eval.specs.Reported.{ReportsRun}
use Rattle.of_core.specs.Events.{zero_start}
use Rattle.of_caller.specs.Tables.{plan_setup}
use Rattle.of_caller.specs.InTime.{RespectsTime, course_of}
use Rattle.of_play.specs.Play.{IsPlayed}

-- `r` is the report of what a plan's schedule leaves, and has all that holds of the report of a run
-- (`ReportsRun`). Each caller keeps to the number of its turns as its allowance of steps, and each
-- call comes after the calls that ended before it began.
pub record IsPlayedReport (p : Plan) (r : Report) : Type 0 where
  pub run : Ended
  pub played : IsPlayed p run
  pub reports : ReportsRun p (empty_start p) run r
  pub allowance : (c : ℕ) → c < p.callers → KeepsAllowance p r c (Some (turns_for p c))
  pub in_time : RespectsTime (empty_start p) (course_of p (zero_start (plan_setup p)) p.schedule) r
