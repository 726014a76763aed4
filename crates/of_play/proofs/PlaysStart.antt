-- Every schedule of a plan's scripts leads from the plan's empty start to a moment of it.
use Rattle.std.proofs.Common.{◌≡◌, ℕ, ◌<◌, List, map, take, drop, sym, ap, ◌∙◌, arith}
use Rattle.of_mem.proofs.Lists.{zero_at}
use Rattle.of_plan.specs.Plan.{Plan, scripts_of}
use Rattle.of_plan.specs.Report.{empty_start, finished_of}
use Rattle.of_core.specs.Calls.{operations_begun, outcomes}
use Rattle.of_core.specs.Events.{Event, IsSchedule, zero_start}
use Rattle.of_caller.specs.Tables.{plan_setup, opening_for, operation_of}
use Rattle.of_caller.specs.Left.{IsOfPlan, moment_after}
use Rattle.of_caller.specs.Runs.{AreNextScripts, IsMomentOf}
use Rattle.of_play.proofs.PlaysMoments.{IsPlayable}

pub none_finished : (p : Plan) (c : ℕ) → finished_of (empty_start p) c ≡ 0
none_finished p c = zero_at p.callers c

module _ (p : Plan) (play : IsPlayable p) (es : List Event) (schedule : IsSchedule (plan_setup p) (opening_for p) es) (of_plan : IsOfPlan p es) where
  -- the first scripts are those behind none
  next_of : (c : ℕ) → c < p.callers → AreNextScripts p (finished_of (empty_start p) c) c (operations_begun es c)
  next_of c lt =
      let q = of_plan c lt in
      record { count = q.0; few = omega (arith, q.1, none_finished p c); are = q.2 ∙ ap (λ (n : ℕ). map operation_of (take q.0 (drop n (scripts_of p c)))) (sym (none_finished p c)) }

  pub moment_here : IsMomentOf p (empty_start p) (zero_start (plan_setup p)) (moment_after p es) (operations_begun es) (outcomes (plan_setup p) (opening_for p) es)
  moment_here = play.moments (empty_start p) (zero_start (plan_setup p)) play.zeros play.laws.zero_start.start (omega arith) es schedule next_of
