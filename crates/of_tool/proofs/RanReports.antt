-- The report that what a team hands back is: what it promises, that its run is a schedule, and what its brakes say of it.
use Rattle.std.proofs.Common.{◌≡◌, ◌∙◌, ℕ, ◌+◌, ◌<◌, List, [], ◌∷◌, length, Option, None, Some, ◌==◌, Bool, true, false, length-set, refl, sym, ap, subst, arith}
use Rattle.std.specs.List.{sum_by}
use Rattle.std.specs.Prelude.{map, get_or}
use Rattle.std.proofs.lemmas.List.{get_or-set_other}
use Rattle.of_cell.specs.Cells.{durable_cells, durable_place, table_words}
use Rattle.of_cell.specs.Words.{seq_of, payload_of}
use Rattle.of_recover.proofs.Agreeing.{recovered_data-same}
use Rattle.of_mem.proofs.BucketPlaces.{few_behind}
use Rattle.of_mem.specs.Places.{ticket_cell_at}
use Rattle.of_mem.specs.declared.work.RawReply.{RawReply}
use Rattle.of_script.specs.declared.instr.TheConstants.{MOST_INSTRS}
use Rattle.of_store.specs.Replies.{reply_value_of}
use Rattle.of_plan.specs.declared.answer.Ending.{Ending}
use Rattle.of_plan.specs.declared.answer.Ending.TheVariants.{Done, Stopped, Spent as RanOut}
use Rattle.of_plan.specs.declared.plan.Item.{Item}
use Rattle.of_plan.specs.Plan.{Plan, IsPlan, stop_of}
use Rattle.of_plan.specs.Report.{Entry, Start, Report, empty_start, finished_of}
use Rattle.of_plan.specs.Ended.{Ended, answers_of, ending_of}
use Rattle.of_plan.specs.Allowance.{KeepsAllowance, turns_in}
use Rattle.of_eval.specs.Shapes.{IsHeldBy}
use Rattle.of_eval.specs.Record.{IsLawfulRecord, plan_data_cells, durable_of, recovered_data_word, record_number, OpenCall, BeyondAnswers}
use Rattle.of_eval.specs.Reported.{ReportsRun}
use Rattle.of_core.specs.Table.{words_before_members}
use Rattle.of_core.specs.TableMoment.{TableStart}
use Rattle.of_core.specs.Events.{Event, zero_start, machine_in, after_events, IsSchedule}
use Rattle.of_row.specs.Views.{View}
use Rattle.of_caller.specs.Starts.{StartsAtPlan, ZerosAreEmpty}
use Rattle.of_caller.specs.Tables.{plan_setup, opening_for}
use Rattle.of_caller.specs.Ends.{ending_at}
use Rattle.of_caller.specs.Left.{IsLeftBy}
use Rattle.of_caller.specs.Runs.{RunsKeepAllowances}
use Rattle.of_caller.specs.Scheduled.{without_members, IsScheduled}
use Rattle.of_caller.specs.InTime.{RespectsTime, marks_in, course_of, SchedulesRespectTime, TeamsRespectTime}
use Rattle.of_caller.specs.Stops.{KeepToStop, CallerKeepsStop, KeepStops}
use Rattle.of_caller.specs.Allowances.{KeepsStopAsAllowance}
use Rattle.of_caller.specs.Teams.{IsHandedBack, TeamsKeepAllowances}
use Rattle.of_report.proofs.Cells.{reply_same, stands_for_same}
use Rattle.of_play.specs.Played.{IsPlayedReport}
use Rattle.of_tool.specs.Seen.{StepsLeft}
use Rattle.of_tool.specs.Ran.{with_schedule, IsRunReport}
use Rattle.of_play.proofs.PlaysStart.{none_finished}
use Rattle.of_play.proofs.PlaysEvents.{events_of}
use Rattle.of_play.proofs.PlaysMoments.{IsPlayable}
use Rattle.of_play.proofs.PlaysSchedule.{items_are_schedule, items_of_plan, items_are_turns}
use Rattle.of_play.proofs.PlaysSpent.{items_spent_last, items_stay}
use Rattle.of_play.proofs.PlaysBusy.{stopped_never_idle}
use Rattle.of_play.proofs.PlaysRecords.{left_keeps_allowance, left_in_time}
use Rattle.of_tool.proofs.WithSchedule.{events_are, left_is_played, reports_with, keeps_with}
use Rattle.of_tool.proofs.Promises.{history_of, told_stops}

allowed_by : (p : Plan) (r : Report) (e : Ended) (c : ℕ) → (KeepToStop (stop_of p c) (answers_of e c) (ending_of e c) → KeepsAllowance p r c (stop_of p c)) → (o : StepsLeft) → CallerKeepsStop p e c o → KeepsStopAsAllowance o p r c
allowed_by p r e c keeps None h = tt
allowed_by p r e c keeps (Some steps) h = keeps h

-- a record's report is that of the record with no number taken: recovery reads no such word
module _ (p : Plan) (s : Start) (plan : IsPlan p) (e : Ended) (long : length e.words ≡ table_words p.callers MOST_INSTRS (plan_data_cells p)) where
  abbrev d : Ended
  d = without_members p e

  durable_same : (c : ℕ) → c < durable_cells p.callers (plan_data_cells p) → durable_of p d c ≡ durable_of p e c
  durable_same c l = get_or-set_other e.words (words_before_members (plan_setup p)) (durable_place p.callers (plan_data_cells p) c) 0 0 (λ q. omega (arith, q, l))

  found : (a : ℕ) → a < plan_data_cells p → recovered_data_word p d a ≡ recovered_data_word p e a
  found a l = recovered_data-same p.callers (plan_data_cells p) (durable_of p d) (durable_of p e) durable_same a l (omega (arith, l, plan.few_callers, plan.few_blocks, few_behind p.blocks plan.few_blocks))

  number : (a : ℕ) → a < plan_data_cells p → record_number p d a ≡ record_number p e a
  number a l = ap payload_of (found a l)

  open_as : (c x : ℕ) → c < p.callers → (b : Bool) (extra : List Entry) → OpenCall p e c x b extra → OpenCall p d c x b extra
  open_as c x l false extra h = h
  open_as c x l true extra h = (
    h.0,
    subst (λ (raw : RawReply). IsHeldBy raw h.0) (sym (reply_same p.callers p.blocks (record_number p d) (record_number p e) number c l)) h.1,
    h.2 ∙ (λ k. record { seq = seq_of (sym (found (ticket_cell_at MOST_INSTRS c) (omega (arith, l))) k); caller = c; index = x; announced = true; reply = reply_value_of h.0 } ∷ []),
  )

  beyond_as : (c x : ℕ) → c < p.callers → (o : Ending) (extra : List Entry) → BeyondAnswers p e c x o extra → BeyondAnswers p d c x o extra
  beyond_as c x l Done extra h = h
  beyond_as c x l (RanOut q) extra h = h
  beyond_as c x l (Stopped asked) extra h =
      subst (λ (n : ℕ). OpenCall p d c x (n == x + 1) extra) (sym (number (ticket_cell_at MOST_INSTRS c) (omega (arith, l)))) (open_as c x l (record_number p e (ticket_cell_at MOST_INSTRS c) == x + 1) extra h)

  lawful_as : (r : Report) → IsLawfulRecord p s e r → IsLawfulRecord p s d r
  lawful_as r h = record {
    answers = h.answers;
    endings = h.endings;
    words = length-set e.words (words_before_members (plan_setup p)) 0 ∙ h.words;
    whole = h.whole;
    report = record {
      entries = λ c l. let o = h.report.entries c l in record { extra = o.extra; beyond = beyond_as c (finished_of s c + length (answers_of e c)) l (ending_of e c) o.extra o.beyond; own = o.own };
      each_caller = h.report.each_caller;
      callers = h.report.callers;
      seq = h.report.seq ∙ sym (ap seq_of (durable_same 0 (omega arith)));
      store = stands_for_same p.callers p.blocks (record_number p e) (record_number p d) (λ a l. sym (number a l)) r.store h.report.store;
    };
    legal = h.legal;
  }

  reports_as : (r : Report) → ReportsRun p s e r → ReportsRun p s d r
  reports_as r h = record { lawful = lawful_as r h.lawful; within_limit = h.within_limit; announced = h.announced; least = h.least }

-- the report is one that `play` makes of the plan with the turns and evictions of the run
module _ (p : Plan) (play : IsPlayable p) (kept : RunsKeepAllowances) (time : SchedulesRespectTime p) (e : Ended) (r : Report) (items : List Item)
    (h : IsScheduled p (empty_start p) (zero_start (plan_setup p)) items e) (reports : ReportsRun p (empty_start p) e r) where
  left_so : IsLeftBy p (events_of p items) (without_members p e)
  left_so = record {
    answers = h.answers;
    endings = h.endings;
    words = h.words;
    told = h.told;
    ended = λ c l. h.ended c l ∙ ap (λ (n : ℕ). ending_at (machine_in (after_events (plan_setup p) (opening_for p) (events_of p items)) c) n (length (answers_of e c))) (omega (arith, none_finished p c));
  }

  schedule : IsSchedule (plan_setup p) (opening_for p) (events_of p items)
  schedule = items_are_schedule p play items h.items_in

  here : ReportsRun p (empty_start p) (without_members p e) r
  here = reports_as p (empty_start p) play.plan e reports.lawful.words r reports

  -- each caller keeps to its turns, and each call comes after those that ended before it began
  keeps : (c : ℕ) → c < p.callers → KeepsAllowance p r c (Some (sum_by (turns_in c) items))
  keeps c lt =
      subst (λ (n : ℕ). KeepsAllowance p r c (Some n)) (items_are_turns p items c)
      (left_keeps_allowance p play (events_of p items) schedule (items_of_plan p play items h.items_in) (items_spent_last p play items schedule) (items_stay p items) (without_members p e) left_so kept r here.lawful c lt
      (stopped_never_idle p play items h.items_in (without_members p e) left_so c lt))

  in_time : RespectsTime (empty_start p) (marks_in (plan_setup p) (opening_for p) (events_of p items)) r
  in_time = left_in_time p play (events_of p items) schedule (items_of_plan p play items h.items_in) (items_spent_last p play items schedule) (items_stay p items) (without_members p e) left_so time r here.lawful

  pub as_played : IsPlayedReport (with_schedule p items) r
  as_played = record {
    run = without_members p e;
    played = left_is_played p items (without_members p e) left_so;
    reports = reports_with p items (empty_start p) (without_members p e) r here;
    allowance = λ c lt. keeps_with p items r c (Some (sum_by (turns_in c) items)) (keeps c lt);
    in_time = subst (λ (es : List Event). RespectsTime (empty_start p) (marks_in (plan_setup p) (opening_for p) es) r) (sym (events_are p items)) in_time;
  }

module _ (p : Plan) (B : TableStart) (e : Ended) (w : View) (at_zeros : B ≡ zero_start (plan_setup p)) (empty : ZerosAreEmpty p) (handed : (s : Start) → StartsAtPlan p s B → IsHandedBack p s B e w) where
  back : IsHandedBack p (empty_start p) (zero_start (plan_setup p)) e w
  back = subst (λ (C : TableStart). IsHandedBack p (empty_start p) C e w) at_zeros (handed (empty_start p) (subst (λ (C : TableStart). StartsAtPlan p (empty_start p) C) (sym at_zeros) empty))

  pub has_report : (r : Report) × IsLawfulRecord p (empty_start p) e r
  has_report = (back.report, back.reported.lawful)

  -- what was handed back is a report of the run with these brakes
  pub reported : {A : Type 0} (left : A → StepsLeft) (brakes : List A) (r : Report) → ((q : Report) → IsLawfulRecord p (empty_start p) e q → r ≡ q) → TeamsKeepAllowances p → TeamsRespectTime p → KeepStops left p e 0 brakes
      → IsRunReport (map left brakes) p r e w
  reported left brakes r made keeps teams keep =
      let same : back.report ≡ r = sym (made back.report back.reported.lawful) in
      let reports : ReportsRun p (empty_start p) e r = subst (ReportsRun p (empty_start p) e) same back.reported in
      let stops : (c : ℕ) → c < p.callers → CallerKeepsStop p e c (get_or (map left brakes) c None) = told_stops left p e brakes keep in
      let after_events = teams (empty_start p) (zero_start (plan_setup p)) e back.sight back.team in
      record {
        course = course_of p (zero_start (plan_setup p)) after_events.0;
        promises = record {
          history = history_of p (empty_start p) e r reports (course_of p (zero_start (plan_setup p)) after_events.0) (after_events.2 r reports.lawful);
          stops = stops;
          allowances = λ c lt. allowed_by p r e c (keeps (empty_start p) (zero_start (plan_setup p)) e back.sight back.team r reports.lawful c lt) (get_or (map left brakes) c None) (stops c lt);
        };
        real = record { schedule = after_events.0; leaves = after_events.1; course_is = refl; reports = reports };
        table = record { handed = back; report = same };
      }
