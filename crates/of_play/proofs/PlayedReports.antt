-- The report that what a plan's schedule leaves is.
use Rattle.std.proofs.Common.{◌≡◌, ℕ, Some, sym, subst}
use Rattle.of_plan.specs.Plan.{Plan}
use Rattle.of_plan.specs.Ended.{Ended}
use Rattle.of_plan.specs.Report.{Report, empty_start}
use Rattle.of_plan.specs.Allowance.{KeepsAllowance}
use Rattle.of_eval.specs.Record.{IsLawfulRecord}
use Rattle.of_caller.specs.InTime.{SchedulesRespectTime}
use Rattle.of_caller.specs.Runs.{RunsAreLawful, RunsAreReported, RunsKeepAllowances}
use Rattle.of_play.specs.Play.{IsPlayed}
use Rattle.of_play.specs.Played.{IsPlayedReport}
use Rattle.of_play.proofs.PlaysMoments.{IsPlayable}
use Rattle.of_play.proofs.PlaysSchedule.{play_is_schedule, play_of_plan, play_turns}
use Rattle.of_play.proofs.PlaysBusy.{stopped_never_idle}
use Rattle.of_play.proofs.PlaysRecords.{played_is_lawful, played_reports, played_keeps_allowance, played_in_time}

module _ (p : Plan) (play : IsPlayable p) (lawful_runs : RunsAreLawful) (reported : RunsAreReported) (kept : RunsKeepAllowances) (time : SchedulesRespectTime p) (e : Ended) (played : IsPlayed p e) where
  -- it is a lawful record
  pub has_report : (r : Report) × IsLawfulRecord p (empty_start p) e r
  has_report = played_is_lawful p play (play_is_schedule p play) (play_of_plan p play) e played lawful_runs

  -- of whose report all holds that holds of every run's, and each caller keeps to its turns
  pub lawful_report : (r : Report) → IsLawfulRecord p (empty_start p) e r → IsPlayedReport p r
  lawful_report r lawful = record {
    run = e;
    played = played;
    reports = played_reports p play (play_is_schedule p play) (play_of_plan p play) e played reported r lawful;
    allowance = λ c lt. subst (λ (n : ℕ). KeepsAllowance p r c (Some n)) (play_turns p c)
        (played_keeps_allowance p play (play_is_schedule p play) (play_of_plan p play) e played kept r lawful c lt (stopped_never_idle p play p.schedule play.plan.each_item e played c lt));
    in_time = played_in_time p play (play_is_schedule p play) (play_of_plan p play) e played time r lawful;
  }

  pub played_report : (r : Report) → ((q : Report) → IsLawfulRecord p (empty_start p) e q → r ≡ q) → IsPlayedReport p r
  played_report r made = lawful_report r (subst (IsLawfulRecord p (empty_start p) e) (sym (made has_report.0 has_report.1)) has_report.1)
