-- The report of what a team leaves respects the real time of the schedule that its run is.
use Rattle.std.proofs.Common.{List, refl, subst}
use Rattle.of_plan.specs.Plan.{Plan}
use Rattle.of_plan.specs.Report.{Start, Report}
use Rattle.of_plan.specs.Ended.{Ended}
use Rattle.of_eval.specs.Record.{IsLawfulRecord}
use Rattle.of_core.specs.TableMoment.{TableStart}
use Rattle.of_core.specs.Events.{Event}
use Rattle.of_row.specs.Views.{View}
use Rattle.of_row.specs.Runs.{RunsAreSchedules}
use Rattle.of_caller.specs.Tables.{plan_setup, IsLawfulFor, opening_at}
use Rattle.of_caller.specs.PlanLaws.{KeepsLaws}
use Rattle.of_caller.specs.Teams.{IsTeamOf}
use Rattle.of_caller.specs.InTime.{RespectsTime, marks_in, TeamsRespectTime}
use Rattle.of_caller.proofs.Teams.{ran, w, team_is_run}
use Rattle.of_caller.proofs.Scheduled.{team_scheduled}
use Rattle.of_caller.proofs.InTime.{KeepsTime, respects_time}

module _ (p : Plan) (laws : KeepsLaws p) (runs : RunsAreSchedules (IsLawfulFor p) (plan_setup p)) (time : KeepsTime (plan_setup p) (IsLawfulFor p)) (s : Start) (B : TableStart) (e : Ended) (v : View) (t : IsTeamOf p s B e v) where
  in_time : (r : Report) → IsLawfulRecord p s e r → RespectsTime s (marks_in (plan_setup p) (opening_at p B) (ran p laws runs s B e v t).0) r
  in_time r lawful =
      let h = (ran p laws runs s B e v t).1 in
      respects_time p time s B h.from (w p laws runs s B e v t) e (team_is_run p laws runs s B e v t) (ran p laws runs s B e v t).0 h.schedule
      (λ c lt. refl) (λ k. refl) refl r lawful

pub teams_respect_time : (p : Plan) → KeepsLaws p → RunsAreSchedules (IsLawfulFor p) (plan_setup p) → KeepsTime (plan_setup p) (IsLawfulFor p) → TeamsRespectTime p
teams_respect_time p laws runs time s B e v t =
    let q = team_scheduled p laws runs s B e v t in
    (q.0, q.1, λ r lawful. subst (λ (fs : List Event). RespectsTime s (marks_in (plan_setup p) (opening_at p B) fs) r) q.2 (in_time p laws runs time s B e v t r lawful))
