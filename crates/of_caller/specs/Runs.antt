-- A run of a plan from a start: the moments of its table, the record that it leaves, and what holds
-- of all runs.
use Rattle.std.specs.Prelude.{◌≡◌, ℕ, ◌+◌, ◌-◌, ◌==◌, ◌≤◌, ◌<◌, if◌then◌else◌, List, [], length, map, take, drop, replicate, Some}
use Rattle.std.specs.List.{range_with_len}
use Rattle.std.proofs.Common.{get_or}
use Rattle.of_eval.specs.Record.{end_state_of, IsLawfulRecord}
use Rattle.of_eval.specs.Reported.{ReportsRun}
use Rattle.of_plan.specs.declared.answer.Ending.{Ending}
use Rattle.of_plan.specs.declared.answer.Ending.TheVariants.{Done}
use Rattle.of_plan.specs.Plan.{Plan, IsPlan, scripts_of}
use Rattle.of_plan.specs.Report.{Start, Report, stopped, finished_of}
use Rattle.of_plan.specs.Legal.{scripts_left}
use Rattle.of_plan.specs.Ended.{Ended, answers_of, ending_of}
use Rattle.of_plan.specs.Allowance.{KeepsAllowance}
use Rattle.of_core.specs.declared.place.Outcome.{Outcome}
use Rattle.of_core.specs.TableMoment.{Moment, TableStart}
use Rattle.of_core.specs.Bound.{bound}
use Rattle.of_core.specs.WordsMatch.{IsStart}
use Rattle.of_core.specs.Events.{Event, IsSchedule, machine_in, after_events}
use Rattle.of_core.specs.Claim.{IsSound}
use Rattle.of_core.specs.Moment.{table_word_count}
use Rattle.of_core.specs.Calls.{HasCalls, NoneSpent, operations_begun, outcomes, no_outcome, last_outcome, total_steps}
use Rattle.of_caller.specs.Tables.{plan_setup, opening_at, operation_of}
use Rattle.of_caller.specs.Ends.{OutcomeHoldsReply, AnswersStandBeforeSpent, AreAnswers, ending_if_left}
use Rattle.of_caller.specs.Starts.{StartsAtPlan}

-- for some `count`, these are the operations of the first `count` scripts of caller c after its
-- first `behind`, in order
pub record AreNextScripts (p : Plan) (behind c : ℕ) (ops : List (List ℕ)) : Type 0 where
  pub count : ℕ
  pub few : count ≤ length (scripts_of p c) - behind
  pub are : ops ≡ map operation_of (take count (drop behind (scripts_of p c)))

-- How a caller ends whose calls have these outcomes. It is done if all scripts that it had left are
-- answered. Otherwise it is spent if its last call was spent, and else stopped: its brake was asked
-- once more than its open call has made steps.
abbrev pub ending_of_calls : (outs : List Outcome) → (steps scripts_left answered : ℕ) → Ending
ending_of_calls outs steps n a = if a == n then Done else ending_if_left (last_outcome outs) steps

-- The plan is in range, its table has started at this start, and the moment w is sound (`IsSound`).
-- Each caller has begun calls of the operations `ops`, those of its next scripts, and its ended
-- calls have the outcomes `outs` (`HasCalls`).
pub record IsMomentOf (p : Plan) (s : Start) (B : TableStart) (w : Moment) (ops : ℕ → List (List ℕ))
    (outs : ℕ → List Outcome) : Type 0 where
  pub plan : IsPlan p
  pub starts : StartsAtPlan p s B
  pub sound : IsSound (plan_setup p) B w
  pub scripts : (c : ℕ) → c < p.callers → AreNextScripts p (finished_of s c) c (ops c)
  pub calls : (c : ℕ) → c < p.callers
      → HasCalls (plan_setup p) B (finished_of s c) w c (ops c) (outs c)

-- The record's answers and ending of caller c agree with the outcomes of the caller's calls. No
-- call is answered after a spent one; so the index of an answer says to which script it is the
-- answer.
pub record TellsCalls (p : Plan) (s : Start) (w : Moment) (e : Ended) (c : ℕ) (outs : List Outcome)
    : Type 0 where
  pub answers_first : AnswersStandBeforeSpent outs
  pub told : AreAnswers outs (answers_of e c)
  pub ended : ending_of e c
      ≡ ending_of_calls outs (machine_in w c).steps (scripts_left p s c) (length (answers_of e c))

-- A run of the plan from the start has left this record. The moment w is one of the plan
-- (`IsMomentOf`); the record's words are all words of the table at it. The record's answers and
-- endings agree with the outcomes of the calls (`TellsCalls`).
pub record IsRunOfPlan (p : Plan) (s : Start) (B : TableStart) (w : Moment) (e : Ended)
    : Type 0 where
  pub operations : ℕ → List (List ℕ)
  pub outcomes : ℕ → List Outcome
  pub moment : IsMomentOf p s B w operations outcomes
  pub callers : (c : ℕ) → c < p.callers → TellsCalls p s w e c (outcomes c)
  pub answers : length e.answers ≡ p.callers
  pub endings : length e.endings ≡ p.callers
  pub words : e.words ≡ w.words
  pub room : length w.words ≡ table_word_count (plan_setup p)

-- ---- what holds of a plan's starts and moments

-- from each start of a plan at which a table may start, each schedule in which the callers begin
-- their next scripts leads to a moment of the plan
abbrev pub SchedulesAreMoments : Plan → Type 0
SchedulesAreMoments p =
    (s : Start) (B : TableStart) → StartsAtPlan p s B → IsStart (plan_setup p) B → B.seq ≤ p.limit
    → (es : List Event) → IsSchedule (plan_setup p) (opening_at p B) es
    → ((c : ℕ) → c < p.callers → AreNextScripts p (finished_of s c) c (operations_begun es c))
    → IsMomentOf p s B (after_events (plan_setup p) (opening_at p B) es)
    (operations_begun es) (outcomes (plan_setup p) (opening_at p B) es)

-- the record of a run from this start in which nothing has happened: no answers; a caller that has
-- a script left is stopped, and another one is done
abbrev pub record_at_start : Plan → Start → TableStart → Ended
record_at_start p s B = record {
  answers = replicate p.callers [];
  endings =
      map (λ (c : ℕ). ending_of_calls [] 0 (scripts_left p s c) 0) (range_with_len 0 p.callers);
  words = (opening_at p B).words;
}

-- from each start of a plan at which a table may start, a run in which nothing happens leaves
-- `record_at_start`
abbrev pub StartsAreRuns : Plan → Type 0
StartsAreRuns p =
    (s : Start) (B : TableStart) → StartsAtPlan p s B → IsStart (plan_setup p) B → B.seq ≤ p.limit
    → IsRunOfPlan p s B (opening_at p B) (record_at_start p s B)

-- at each moment of a plan, the raw reply of an answered call (its reply cells) holds some reply of
-- a script
abbrev pub RepliesAreHeld : Type 0
RepliesAreHeld =
    (p : Plan) (s : Start) (B : TableStart) (w : Moment)
    → (ops : ℕ → List (List ℕ)) (outs : ℕ → List Outcome) → IsMomentOf p s B w ops outs
    → (c x : ℕ) → c < p.callers → x < length (outs c)
    → OutcomeHoldsReply (get_or (outs c) x no_outcome)

-- ---- what holds of all runs

-- each run of a plan leaves a lawful record
abbrev pub RunsAreLawful : Type 0
RunsAreLawful =
    (p : Plan) (s : Start) (B : TableStart) (w : Moment) (e : Ended) → IsRunOfPlan p s B w e
    → (r : Report) × IsLawfulRecord p s e r

-- In each run's report the sequence is within the limit. An entry that a caller has beyond its
-- answers was announced. No answered call has fewer steps than it must make (`ReportsRun`).
abbrev pub RunsAreReported : Type 0
RunsAreReported =
    (p : Plan) (s : Start) (B : TableStart) (w : Moment) (e : Ended) → IsRunOfPlan p s B w e
    → (r : Report) → IsLawfulRecord p s e r → ReportsRun p s e r

-- how many steps caller c has made: the steps of its ended calls, by their outcomes, and the steps
-- of its open call
abbrev pub steps_made : Moment → (c : ℕ) → List Outcome → ℕ
steps_made w c outs = total_steps outs + (machine_in w c).steps

-- Suppose that a caller has made at most n steps, and exactly n if it is stopped and no call of it
-- is spent, and that its open call has made fewer steps than the bound. Then n is a possible
-- allowance of steps for the caller in the report (`KeepsAllowance`).
abbrev pub RunsKeepAllowances : Type 0
RunsKeepAllowances =
    (p : Plan) (s : Start) (B : TableStart) (w : Moment) (e : Ended) (run : IsRunOfPlan p s B w e)
    → (r : Report) → IsLawfulRecord p s e r → (c n : ℕ) → c < p.callers
    → (machine_in w c).steps < bound (plan_setup p) → steps_made w c (run.outcomes c) ≤ n
    → (end_state_of (ending_of e c) ≡ stopped → NoneSpent (run.outcomes c)
    → steps_made w c (run.outcomes c) ≡ n)
    → KeepsAllowance p r c (Some n)
