-- What a plan's schedule is no matter for: which reports are those of a run, and which call of a caller comes next. So what is left by
-- the turns and evictions of a run is what `play` leaves of the plan with these for its schedule.
use Rattle.std.proofs.Common.{◌≡◌, ℕ, ◌+◌, ◌==◌, Bool, true, false, List, [], ◌∷◌, ◌++◌, length, Option, refl, sym, ap, subst}
use Rattle.std.specs.List.{flat_map}
use Rattle.of_mem.specs.Places.{ticket_cell_at}
use Rattle.of_script.specs.declared.instr.TheConstants.{MOST_INSTRS}
use Rattle.of_plan.specs.declared.answer.Answer.{Answer}
use Rattle.of_plan.specs.declared.answer.Ending.{Ending}
use Rattle.of_plan.specs.declared.answer.Ending.TheVariants.{Done, Stopped, Spent as RanOut}
use Rattle.of_plan.specs.declared.plan.Item.{Item}
use Rattle.of_plan.specs.Plan.{Plan}
use Rattle.of_plan.specs.Report.{Entry, Start, Report, finished_of}
use Rattle.of_plan.specs.Legal.{IsLegal}
use Rattle.of_plan.specs.Ended.{Ended, answers_of, ending_of}
use Rattle.of_plan.specs.Allowance.{KeepsAllowance}
use Rattle.of_eval.specs.Record.{IsLawfulRecord, OpenCall, BeyondAnswers, record_number}
use Rattle.of_eval.specs.Reported.{MakeLeastSteps, ReportsRun}
use Rattle.of_core.specs.TableMoment.{Moment}
use Rattle.of_core.specs.Events.{Event, Begins, Turns, Loads, Evicts, Raises, Revives, after_event, after_events}
use Rattle.of_caller.specs.Tables.{plan_setup, opening_for}
use Rattle.of_caller.specs.Left.{IsLeftBy}
use Rattle.of_caller.specs.Scheduled.{item_events, with_begin, events_from}
use Rattle.of_play.specs.Play.{IsPlayed}
use Rattle.of_tool.specs.Ran.{with_schedule}
use Rattle.of_play.proofs.PlaysEvents.{events_of}

module _ (p : Plan) (items : List Item) where
  abbrev q : Plan
  q = with_schedule p items

  -- ---- events

  same_events : (w : Moment) (ms : List Event) → events_from q w ms ≡ events_from p w ms
  same_events w [] = refl
  same_events w (Begins i op ∷ ms) = ap (λ (fs : List Event). Begins i op ∷ fs) (same_events (after_event (plan_setup p) w (Begins i op)) ms)
  same_events w (Turns i ∷ ms) = ap (λ (fs : List Event). with_begin p w (Turns i) ++ fs) (same_events (after_events (plan_setup p) w (with_begin p w (Turns i))) ms)
  same_events w (Loads c ∷ ms) = ap (λ (fs : List Event). Loads c ∷ fs) (same_events (after_event (plan_setup p) w (Loads c)) ms)
  same_events w (Evicts k ∷ ms) = ap (λ (fs : List Event). Evicts k ∷ fs) (same_events (after_event (plan_setup p) w (Evicts k)) ms)
  same_events w (Raises c ∷ ms) = ap (λ (fs : List Event). Raises c ∷ fs) (same_events (after_event (plan_setup p) w (Raises c)) ms)
  same_events w (Revives i made ∷ ms) = ap (λ (fs : List Event). Revives i made ∷ fs) (same_events (after_event (plan_setup p) w (Revives i made)) ms)

  -- the events of the plan with this schedule are those of the items
  pub events_are : events_of (with_schedule p items) items ≡ events_of p items
  events_are = same_events (opening_for p) (flat_map item_events items)

  -- what they leave is what `play` leaves
  pub left_is_played : (e : Ended) → IsLeftBy p (events_of p items) e → IsPlayed (with_schedule p items) e
  left_is_played e h = subst (λ (es : List Event). IsLeftBy (with_schedule p items) es e) (sym events_are) (record {
    answers = h.answers;
    endings = h.endings;
    words = h.words;
    told = h.told;
    ended = h.ended;
  })

  -- ---- reports

  open_with : (e : Ended) (c x : ℕ) (b : Bool) (extra : List Entry) → OpenCall p e c x b extra → OpenCall q e c x b extra
  open_with e c x true extra h = h
  open_with e c x false extra h = h

  beyond_with : (e : Ended) (c x : ℕ) (o : Ending) (extra : List Entry) → BeyondAnswers p e c x o extra → BeyondAnswers q e c x o extra
  beyond_with e c x Done extra h = h
  beyond_with e c x (RanOut t) extra h = h
  beyond_with e c x (Stopped asked) extra h = open_with e c x (record_number p e (ticket_cell_at MOST_INSTRS c) == x + 1) extra h

  legal_with : (s : Start) (r : Report) → IsLegal p s r → IsLegal q s r
  legal_with s r h = record {
    in_order = record { of_callers = h.in_order.of_callers; one_by_one = h.in_order.one_by_one; of_scripts = h.in_order.of_scripts };
    open_calls = record { each_caller = h.open_calls.each_caller; entries = h.open_calls.entries; open_call = h.open_calls.open_call };
    by_sequence = record { order = h.by_sequence.order; sequences = h.by_sequence.sequences; from_start = h.by_sequence.from_start; none_left_out = h.by_sequence.none_left_out };
    replies = h.replies;
    final_store = h.final_store;
    endings = h.endings;
    within_bound = h.within_bound;
  }

  lawful_with : (s : Start) (e : Ended) (r : Report) → IsLawfulRecord p s e r → IsLawfulRecord q s e r
  lawful_with s e r h = record {
    answers = h.answers;
    endings = h.endings;
    words = h.words;
    whole = h.whole;
    report = record {
      entries = λ c l. let o = h.report.entries c l in record { extra = o.extra; beyond = beyond_with e c (finished_of s c + length (answers_of e c)) (ending_of e c) o.extra o.beyond; own = o.own };
      each_caller = h.report.each_caller;
      callers = h.report.callers;
      seq = h.report.seq;
      store = h.report.store;
    };
    legal = legal_with s r h.legal;
  }

  least_with : (c x : ℕ) (answers : List Answer) → MakeLeastSteps p c x answers → MakeLeastSteps q c x answers
  least_with c x [] h = tt
  least_with c x (a ∷ others) h = (h.0, least_with c (x + 1) others h.1)

  pub reports_with : (s : Start) (e : Ended) (r : Report) → ReportsRun p s e r → ReportsRun (with_schedule p items) s e r
  reports_with s e r h = record {
    lawful = lawful_with s e r h.lawful;
    within_limit = h.within_limit;
    announced = h.announced;
    least = λ c l. least_with c (finished_of s c) (answers_of e c) (h.least c l);
  }

  pub keeps_with : (r : Report) (c : ℕ) (allowance : Option ℕ) → KeepsAllowance p r c allowance → KeepsAllowance (with_schedule p items) r c allowance
  keeps_with r c allowance h = record { adds_up = h.adds_up; upto = h.upto; least = h.least; used_up = h.used_up }
