-- From every start every schedule of a plan's next scripts leads to a moment of the plan; and a
-- start at which nothing has happened is left by a run.
use Rattle.std.proofs.Common.{◌≡◌, ℕ, zero, suc, ◌<◌, ◌≤◌, inl, inr, List, [], ◌∷◌, length, get_or, map, take, drop, replicate, refl, sym, ap, subst, ◌∙◌, arith}
use Rattle.std.specs.List.{range_with_len}
use Rattle.std.proofs.lemmas.List.{length-replicate, length-map}
use Rattle.std.proofs.lemmas.List.FromFn.{length-range_with_len, get_or-map-range_with_len}
use Rattle.of_cell.specs.Words.{payload_of}
use Rattle.of_mem.specs.Places.{ticket_cell_at}
use Rattle.of_script.specs.declared.instr.Instr.{Instr}
use Rattle.of_script.specs.declared.instr.TheConstants.{MOST_INSTRS}
use Rattle.of_plan.specs.declared.answer.Answer.{Answer}
use Rattle.of_plan.specs.declared.answer.Ending.TheVariants.{Done}
use Rattle.of_plan.specs.Plan.{Plan, IsPlan, scripts_of}
use Rattle.of_plan.specs.Legal.{scripts_left}
use Rattle.of_plan.specs.Report.{Start, finished_of}
use Rattle.of_core.specs.Table.{ticket_cell}
use Rattle.of_core.specs.TableMoment.{TableStart}
use Rattle.of_core.specs.WordsMatch.{IsStart, MayStart}
use Rattle.of_core.specs.Moment.{table_word_count}
use Rattle.of_core.specs.Calls.{HasCalls, operations_begun, outcomes}
use Rattle.of_core.specs.Events.{machine_in, after_events, start_ticket}
use Rattle.of_caller.specs.Tables.{plan_setup, IsLawfulFor, opening_at, operation_of}
use Rattle.of_caller.specs.Ends.{AreAnswers}
use Rattle.of_caller.specs.PlanLaws.{KeepsLaws}
use Rattle.of_caller.specs.Starts.{StartsAtPlan}
use Rattle.of_caller.specs.Runs.{AreNextScripts, ending_of_calls, IsMomentOf, TellsCalls, IsRunOfPlan, SchedulesAreMoments, record_at_start, StartsAreRuns}
use Rattle.of_caller.proofs.StoresReplay.{number_at}
use Rattle.of_caller.proofs.RecordsOwn.{idle_or_open}

module _ (p : Plan) (s : Start) (B : TableStart) (starts : StartsAtPlan p s B) where
  -- its cells are lawful, since they stand for a store
  may_start : IsStart (plan_setup p) B → B.seq ≤ p.limit → MayStart (plan_setup p) (IsLawfulFor p) B
  may_start start limit = record { start = start; lawful = (s.store, starts.stands.stored); limit = limit }

  -- each caller has the calls behind it that are done
  pub ticket_is : (c : ℕ) → c < p.callers → start_ticket (plan_setup p) B c ≡ finished_of s c
  ticket_is c lt =
      let place : ticket_cell (plan_setup p) c ≡ ticket_cell_at MOST_INSTRS c = omega arith in
      ap (λ (a : ℕ). payload_of (get_or B.cells a 0)) place ∙ sym (number_at B.cells (ticket_cell_at MOST_INSTRS c)) ∙ starts.tickets c lt

pub schedules_are_moments : (p : Plan) → IsPlan p → KeepsLaws p → SchedulesAreMoments p
schedules_are_moments p plan laws s B starts start limit es schedule next =
    let may = may_start p s B starts start limit in
    record {
      plan = plan;
      starts = starts;
      sound = laws.moments B may (table_word_count (plan_setup p)) (omega arith) es schedule;
      scripts = next;
      calls = λ c lt. subst (λ (n : ℕ). HasCalls (plan_setup p) B n (after_events (plan_setup p) (opening_at p B) es) c (operations_begun es c) (outcomes (plan_setup p) (opening_at p B) es c)) (ticket_is p s B starts c lt)
          (laws.calls B may (table_word_count (plan_setup p)) (omega arith) es schedule c lt);
    }

-- ---- before anything has happened

no_scripts : (p : Plan) (behind c : ℕ) → AreNextScripts p behind c []
no_scripts p behind c = record { count = 0; few = omega arith; are = none (drop behind (scripts_of p c)) }
  where
    none : (scripts : List (List Instr)) → [] ≡ map operation_of (take 0 scripts)
    none [] = refl
    none (script ∷ scripts) = refl

no_answers : (n c : ℕ) → ◌≡◌ {A = List Answer} (get_or (replicate n []) c []) []
no_answers zero c = refl
no_answers (suc n) zero = refl
no_answers (suc n) (suc c) = no_answers n c

module _ (p : Plan) (plan : IsPlan p) (laws : KeepsLaws p) (s : Start) (B : TableStart) (starts : StartsAtPlan p s B) (start : IsStart (plan_setup p) B) (limit : B.seq ≤ p.limit) where
  moment : IsMomentOf p s B (opening_at p B) (λ c. []) (λ c. [])
  moment = schedules_are_moments p plan laws s B starts start limit [] tt (λ c lt. no_scripts p (finished_of s c) c)

  -- a caller that has begun no call is idle, and has made no step
  no_steps : (c : ℕ) → c < p.callers → (machine_in (opening_at p B) c).steps ≡ 0
  no_steps c lt = elim (idle_or_open (machine_in (opening_at p B) c).place) [
    | inl idle ↦ moment.sound.at_rest c lt idle
    | inr opened ↦ absurd (omega (arith, ((moment.calls c lt).open_call opened).0))
  ]

  tells : (c : ℕ) → c < p.callers → TellsCalls p s (opening_at p B) (record_at_start p s B) c []
  tells c lt = record {
    answers_first = tt;
    told = subst (AreAnswers []) (sym (no_answers p.callers c)) tt;
    ended = get_or-map-range_with_len (λ (i : ℕ). ending_of_calls [] 0 (scripts_left p s i) 0) 0 p.callers c c Done lt (omega arith)
        ∙ ap (λ (n : ℕ). ending_of_calls [] n (scripts_left p s c) 0) (sym (no_steps c lt))
        ∙ ap (λ (answers : List Answer). ending_of_calls [] (machine_in (opening_at p B) c).steps (scripts_left p s c) (length answers)) (sym (no_answers p.callers c));
  }

  left_by_run : IsRunOfPlan p s B (opening_at p B) (record_at_start p s B)
  left_by_run = record {
    operations = λ c. [];
    outcomes = λ c. [];
    moment = moment;
    callers = tells;
    answers = length-replicate p.callers [];
    endings = length-map (range_with_len 0 p.callers) (λ (c : ℕ). ending_of_calls [] 0 (scripts_left p s c) 0) ∙ length-range_with_len 0 p.callers;
    words = refl;
    room = (laws.words B start (table_word_count (plan_setup p)) (omega arith)).long;
  }

pub starts_are_runs : (p : Plan) → IsPlan p → KeepsLaws p → StartsAreRuns p
starts_are_runs = left_by_run
