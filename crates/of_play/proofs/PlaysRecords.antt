-- What a plan's schedule leaves is what a run of it leaves from the empty start, so it is a lawful
-- record, and each caller keeps to its turns.
use Rattle.std.proofs.Common.{◌≡◌, ℕ, suc, ◌+◌, ◌<◌, ◌≤◌, inl, inr, List, [], ◌∷◌, length, get_or, Some, None, Option, refl, sym, ap, ◌∙◌, arith, cond, eqb, false}
use Rattle.of_eval.specs.Record.{end_state_of, IsLawfulRecord}
use Rattle.of_plan.specs.declared.answer.Ending.{Ending}
use Rattle.of_plan.specs.declared.answer.Ending.TheVariants.{Done, Stopped}
use Rattle.of_plan.specs.Plan.{Plan, scripts_of}
use Rattle.of_plan.specs.Report.{Report, stopped, empty_start}
use Rattle.of_plan.specs.Legal.{scripts_left}
use Rattle.of_plan.specs.Ended.{Ended, answers_of, ending_of}
use Rattle.of_plan.specs.Allowance.{KeepsAllowance}
use Rattle.of_core.specs.declared.place.Outcome.{Outcome}
use Rattle.of_core.specs.declared.place.Outcome.TheVariants.{Answered, Spent, Lost}
use Rattle.of_core.specs.Bound.{bound}
use Rattle.of_core.specs.Events.{Event, IsSchedule, machine_in, turn_count, zero_start, AllReplaceNone}
use Rattle.of_core.specs.Calls.{operations_begun, outcomes, no_outcome, TurnsFindOpenCalls, last_outcome}
use Rattle.of_caller.specs.Tables.{plan_setup, opening_for}
use Rattle.of_caller.specs.Ends.{is_spent, AnswersStandBeforeSpent, NoneAnswered, ending_if_left, ending_at}
use Rattle.of_caller.specs.InTime.{RespectsTime, marks_in, SchedulesRespectTime}
use Rattle.of_caller.specs.Left.{IsLeftBy, IsOfPlan, moment_after}
use Rattle.of_eval.specs.Reported.{ReportsRun}
use Rattle.of_caller.specs.Runs.{ending_of_calls, TellsCalls, IsRunOfPlan, RunsAreLawful, RunsAreReported, RunsKeepAllowances}
use Rattle.of_play.specs.Play.{IsPlayed, play_events}
use Rattle.of_play.proofs.PlaysMoments.{IsPlayable, idle_or_open, calls_here, turns_here, open_unspent, idle_steps, words_left, last_here}
use Rattle.of_play.proofs.PlaysStart.{none_finished, moment_here}
use Rattle.of_play.proofs.PlaysUnspent.{IsSpentLast, last_at}
use Rattle.of_play.proofs.PlaysSpent.{play_spent_last, play_stays}

-- a machine that isn't spent and has a script left is stopped
stopped_at : (o : Option Outcome) (steps : ℕ) → is_spent o ≡ false → ending_if_left o steps ≡ Stopped (steps + 1)
stopped_at None steps is = refl
stopped_at (Some (Answered s announced raw n)) steps is = refl
stopped_at (Some (Spent s)) steps is = cc
stopped_at (Some (Lost s)) steps is = refl

-- outcomes of which at most the last is spent have no answer behind a spent one
pub first_answers : (outs : List Outcome) → ((x s : ℕ) → x < length outs → get_or outs x no_outcome ≡ Spent s → x + 1 ≡ length outs) → AnswersStandBeforeSpent outs
first_answers [] last = tt
first_answers (Answered s announced raw steps ∷ outs) last = first_answers outs (λ x q lt is. omega (arith, last (suc x) q (omega (arith, lt)) is))
first_answers (Lost s ∷ outs) last = first_answers outs (λ x q lt is. omega (arith, last (suc x) q (omega (arith, lt)) is))
first_answers (Spent s ∷ outs) last = none_behind outs (omega (arith, last 0 s (omega arith) refl))
  where
    none_behind : (outs : List Outcome) → length outs ≡ 0 → NoneAnswered outs
    none_behind [] none = tt
    none_behind (o ∷ outs) none = absurd (omega (arith, none))

module _ (p : Plan) (play : IsPlayable p) (es : List Event) (schedule : IsSchedule (plan_setup p) (opening_for p) es) (of_plan : IsOfPlan p es) (spent : IsSpentLast p es) (stay : AllReplaceNone es) (e : Ended) (left : IsLeftBy p es e) where
  module _ (c : ℕ) (lt : c < p.callers) where
    abbrev outs : List Outcome
    outs = outcomes (plan_setup p) (opening_for p) es c

    few_ended : length outs ≤ length (operations_begun es c)
    few_ended = elim (idle_or_open (machine_in (moment_after p es) c).place) [
      | inl idle ↦ omega (arith, (calls_here p play es schedule c lt).idle idle)
      | inr opened ↦ omega (arith, ((calls_here p play es schedule c lt).open_call opened).0)
    ]

    -- the last outcome of a caller with an open call isn't spent
    last_unspent : length (operations_begun es c) ≡ length outs + 1 → is_spent (last_outcome outs) ≡ false
    last_unspent more = go outs refl
      where
        at_last : (n : ℕ) → length outs ≡ suc n → (o : Outcome) → get_or outs n no_outcome ≡ o → is_spent (last_outcome outs) ≡ false
        at_last n long (Answered q announced raw steps) is = ap is_spent (last_at outs None n (omega (arith, long)) ∙ ap (λ (o : Outcome). Some o) is)
        at_last n long (Lost q) is = ap is_spent (last_at outs None n (omega (arith, long)) ∙ ap (λ (o : Outcome). Some o) is)
        at_last n long (Spent q) is = absurd (omega (arith, spent c lt n q (omega (arith, long)) is, more, long))

        go : (os : List Outcome) → outs ≡ os → is_spent (last_outcome outs) ≡ false
        go [] none = ap (λ (os : List Outcome). is_spent (last_outcome os)) none
        go (o ∷ os) some = at_last (length os) (ap length some) (get_or outs (length os) no_outcome) refl

    -- what the machine holds tells the same ending
    same_halt : ending_if_left (machine_in (moment_after p es) c).answer (machine_in (moment_after p es) c).steps ≡ ending_if_left (last_outcome outs) (machine_in (moment_after p es) c).steps
    same_halt = elim (idle_or_open (machine_in (moment_after p es) c).place) [
      | inl idle ↦ ap (λ (o : Option Outcome). ending_if_left o (machine_in (moment_after p es) c).steps) (last_here p play es schedule stay c lt idle)
      | inr opened ↦
          stopped_at (machine_in (moment_after p es) c).answer (machine_in (moment_after p es) c).steps (open_unspent p play es schedule c lt opened)
          ∙ sym (stopped_at (last_outcome outs) (machine_in (moment_after p es) c).steps (last_unspent ((calls_here p play es schedule c lt).open_call opened).0))
    ]

    ended : ending_of e c ≡ ending_of_calls outs (machine_in (moment_after p es) c).steps (scripts_left p (empty_start p) c) (length (answers_of e c))
    ended =
        let n : length (scripts_of p c) ≡ scripts_left p (empty_start p) c = omega (arith, none_finished p c) in
        left.ended c lt ∙ ap (λ (k : ℕ). ending_at (machine_in (moment_after p es) c) k (length (answers_of e c))) n
        ∙ ap (λ (h : Ending). cond (eqb (length (answers_of e c)) (scripts_left p (empty_start p) c)) Done h) same_halt

    tells : TellsCalls p (empty_start p) (moment_after p es) e c (outcomes (plan_setup p) (opening_for p) es c)
    tells = record { answers_first = first_answers outs (λ x s among is. omega (arith, spent c lt x s among is, few_ended, among)); told = left.told c lt; ended = ended }

  -- a schedule of the plan's scripts leaves what a run does
  pub run_here : IsRunOfPlan p (empty_start p) (zero_start (plan_setup p)) (moment_after p es) e
  run_here = record {
    operations = operations_begun es;
    outcomes = outcomes (plan_setup p) (opening_for p) es;
    moment = moment_here p play es schedule of_plan;
    callers = tells;
    answers = left.answers;
    endings = left.endings;
    words = left.words;
    room = words_left p play es;
  }

  -- which is a lawful record
  pub left_is_lawful : RunsAreLawful → (r : Report) × IsLawfulRecord p (empty_start p) e r
  left_is_lawful law = law p (empty_start p) (zero_start (plan_setup p)) (moment_after p es) e run_here

  -- of its report all holds that holds of every run's
  pub left_reports : RunsAreReported → (r : Report) → IsLawfulRecord p (empty_start p) e r → ReportsRun p (empty_start p) e r
  left_reports law r lawful = law p (empty_start p) (zero_start (plan_setup p)) (moment_after p es) e run_here r lawful

  -- and in it each caller keeps to its turns, of which a stopped one has made each in a call
  pub left_keeps_allowance : RunsKeepAllowances → (r : Report) → IsLawfulRecord p (empty_start p) e r → (c : ℕ) → c < p.callers → (end_state_of (ending_of e c) ≡ stopped → TurnsFindOpenCalls (plan_setup p) (opening_for p) es c) → KeepsAllowance p r c (Some (turn_count c es))
  unfolding run_here
  left_keeps_allowance law r lawful c lt busy =
      let told = turns_here p play es schedule c lt in
      let few : (machine_in (moment_after p es) c).steps < bound (plan_setup p) = elim (idle_or_open (machine_in (moment_after p es) c).place) [
        | inl idle ↦ omega (arith, idle_steps p play es schedule c lt idle)
        | inr opened ↦ told.within opened
      ] in
      law p (empty_start p) (zero_start (plan_setup p)) (moment_after p es) e run_here r lawful c (turn_count c es) lt few told.few (λ state none. told.exact (busy state) none)

  -- and each call comes after those that ended before it began
  pub left_in_time : SchedulesRespectTime p → (r : Report) → IsLawfulRecord p (empty_start p) e r → RespectsTime (empty_start p) (marks_in (plan_setup p) (opening_for p) es) r
  unfolding run_here
  left_in_time law r lawful = law (empty_start p) (zero_start (plan_setup p)) play.laws.zero_start es schedule e run_here (λ c lt. refl) r lawful

module _ (p : Plan) (play : IsPlayable p) (schedule : IsSchedule (plan_setup p) (opening_for p) (play_events p)) (of_plan : IsOfPlan p (play_events p)) (e : Ended) (played : IsPlayed p e) where
  -- what a plan's own schedule leaves is a lawful record
  pub played_is_lawful : RunsAreLawful → (r : Report) × IsLawfulRecord p (empty_start p) e r
  played_is_lawful law = left_is_lawful p play (play_events p) schedule of_plan (play_spent_last p play schedule) (play_stays p) e played law

  -- with the report that every run has
  pub played_reports : RunsAreReported → (r : Report) → IsLawfulRecord p (empty_start p) e r → ReportsRun p (empty_start p) e r
  played_reports law r lawful = left_reports p play (play_events p) schedule of_plan (play_spent_last p play schedule) (play_stays p) e played law r lawful

  -- and each caller keeps to its turns in it
  pub played_keeps_allowance : RunsKeepAllowances → (r : Report) → IsLawfulRecord p (empty_start p) e r → (c : ℕ) → c < p.callers → (end_state_of (ending_of e c) ≡ stopped → TurnsFindOpenCalls (plan_setup p) (opening_for p) (play_events p) c)
      → KeepsAllowance p r c (Some (turn_count c (play_events p)))
  played_keeps_allowance law r lawful c lt busy = left_keeps_allowance p play (play_events p) schedule of_plan (play_spent_last p play schedule) (play_stays p) e played law r lawful c lt busy

  -- and each call comes after those that ended before it began
  pub played_in_time : SchedulesRespectTime p → (r : Report) → IsLawfulRecord p (empty_start p) e r → RespectsTime (empty_start p) (marks_in (plan_setup p) (opening_for p) (play_events p)) r
  played_in_time law r lawful = left_in_time p play (play_events p) schedule of_plan (play_spent_last p play schedule) (play_stays p) e played law r lawful
