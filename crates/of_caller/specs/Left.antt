-- What events leave on a plan's table of zeros, and when events are of a plan.
use Rattle.std.specs.Prelude.{◌≡◌, ℕ, ◌≤◌, ◌<◌, List, length, map, take}
use Rattle.of_plan.specs.Plan.{Plan, scripts_of}
use Rattle.of_plan.specs.Ended.{Ended, answers_of, ending_of}
use Rattle.of_core.specs.TableMoment.{Moment}
use Rattle.of_core.specs.Events.{Event, machine_in, after_events}
use Rattle.of_core.specs.Calls.{operations_begun, outcomes}
use Rattle.of_caller.specs.Tables.{plan_setup, opening_for, operation_of}
use Rattle.of_caller.specs.Ends.{AreAnswers, ending_at}

-- the moment that these events leave on a plan's table of zeros
abbrev pub moment_after : Plan → List Event → Moment
moment_after p es = after_events (plan_setup p) (opening_for p) es

-- these events, on a plan's table of zeros, leave this record of a run
pub record IsLeftBy (p : Plan) (es : List Event) (e : Ended) : Type 0 where
  pub answers : length e.answers ≡ p.callers
  pub endings : length e.endings ≡ p.callers
  pub words : e.words ≡ (moment_after p es).words
  pub told : (c : ℕ) → c < p.callers
      → AreAnswers (outcomes (plan_setup p) (opening_for p) es c) (answers_of e c)
  pub ended : (c : ℕ) → c < p.callers
      → ending_of e c
      ≡ ending_at (machine_in (moment_after p es) c) (length (scripts_of p c))
      (length (answers_of e c))

-- in these events each caller begins calls of its first n scripts, for some n, in their order
abbrev pub IsOfPlan : Plan → List Event → Type 0
IsOfPlan p es =
    (c : ℕ) → c < p.callers → (n : ℕ) × (n ≤ length (scripts_of p c))
    × (operations_begun es c ≡ map operation_of (take n (scripts_of p c)))
