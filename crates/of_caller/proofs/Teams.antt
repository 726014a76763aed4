-- What a team leaves is what a run leaves; its announced entries are the calls that its pass has
-- seen, and a caller that keeps to its stop keeps that as its allowance.
use Rattle.std.proofs.Common.{◌≡◌, ℕ, zero, suc, ◌+◌, ◌-◌, ◌<◌, inl, inr, List, [], ◌∷◌, length, get_or, set, map, refl, sym, ap, subst, ◌∙◌, arith, Option, Some, None}
use Rattle.std.specs.List.{AllByRecursion as EachKept}
use Rattle.std.proofs.lemmas.List.{set-set}
use lib.Seq.{set-get_or}
use Rattle.of_eval.specs.Record.{IsLawfulRecord}
use Rattle.of_eval.specs.Reported.{ReportsRun}
use Rattle.of_plan.specs.Plan.{Plan, stop_of}
use Rattle.of_plan.specs.Report.{Line, Start, Report, finished_of}
use Rattle.of_plan.specs.Legal.{scripts_left}
use Rattle.of_plan.specs.Ended.{Ended, answers_of, ending_of}
use Rattle.of_plan.specs.Allowance.{KeepsAllowance}
use Rattle.of_core.specs.declared.place.Outcome.{Outcome}
use Rattle.of_core.specs.Table.{Setup, words_before_members}
use Rattle.of_core.specs.Machine.{CallState}
use Rattle.of_core.specs.TableMoment.{Moment, Batch, TableStart}
use Rattle.of_core.specs.History.{batch_at, no_batch}
use Rattle.of_core.specs.Bound.{bound}
use Rattle.of_core.specs.Claim.{IsSound}
use Rattle.of_core.specs.Moment.{table_word_count}
use Rattle.of_core.specs.Invariant.{MeetsInvariant}
use Rattle.of_core.specs.Events.{Event, machine_in, after_events, start_ticket}
use Rattle.of_core.specs.Calls.{HasCalls, operations_begun, outcomes, total_steps}
use Rattle.of_row.specs.Views.{SeenBatch, KnownCaller, View, seen_batch, seen_history}
use Rattle.of_row.specs.Told.{outcomes_of}
use Rattle.of_row.specs.Trail.{IsToldBy, IsRunBy}
use Rattle.of_row.specs.Rule.{members_of, HasOtherNumber, HasDistinctNumbers, IsAtHome, ViewFits, IsCallerKept}
use Rattle.of_row.specs.Runs.{HasRun, HasNoLoss, RunsAreSchedules}
use Rattle.of_caller.specs.Tables.{plan_setup, IsLawfulFor, opening_at}
use Rattle.of_caller.specs.Ends.{AnswersStandBeforeSpent, AreAnswers}
use Rattle.of_caller.specs.PlanLaws.{KeepsLaws}
use Rattle.of_caller.specs.Moments.{batch_calls}
use Rattle.of_caller.specs.Runs.{AreNextScripts, IsMomentOf, IsRunOfPlan, TellsCalls, steps_made, ending_of_calls}
use Rattle.of_caller.specs.Stops.{KeepToStop, answer_steps, open_call_steps}
use Rattle.of_caller.specs.Teams.{KeepsCaller, KeepsCallerWith, IsTeamOf, seen_calls, AnnouncesSeen, TeamsAreLawful, TeamsKeepAllowances}
use Rattle.of_caller.proofs.Schedules.{ticket_is}
use Rattle.of_caller.proofs.KeptCallers.{TellsRecord, tells_record, told_steps}
use Rattle.of_caller.proofs.SeenEntries.{announces}
use Rattle.of_caller.proofs.TeamEnds.{is_kept}
use Rattle.of_caller.proofs.Records.{facts}
use Rattle.of_caller.proofs.RecordsLawful.{report_left, lawful_left}
use Rattle.of_caller.proofs.RecordsReports.{run_reports}
use Rattle.of_caller.proofs.RecordsAllowance.{runs_keep_allowances}

-- ---- what a list of kept callers says of one

-- the caller that is kept with a number, of which both hold
one_of : (c : ℕ) (P Q : KnownCaller → Type 0) (xs : List KnownCaller) → KeepsCallerWith c P xs → EachKept Q xs → (x : KnownCaller) × (x.machine.caller ≡ c) × P x × Q x
one_of c P Q [] q a = absurd q
one_of c P Q (x ∷ xs) (inl q) a = (x, q.0, q.1, a.0)
one_of c P Q (x ∷ xs) (inr q) a = one_of c P Q xs q a.1

-- what follows from P holds of the caller that is kept with a number
kept_with : (c : ℕ) (P Q : KnownCaller → Type 0) → ((x : KnownCaller) → P x → Q x) → (xs : List KnownCaller) → KeepsCallerWith c P xs → KeepsCallerWith c Q xs
kept_with c P Q f [] q = absurd q
kept_with c P Q f (x ∷ xs) (inl q) = inl (q.0, f x q.1)
kept_with c P Q f (x ∷ xs) (inr q) = inr (kept_with c P Q f xs q)

-- if P bounds the number of a caller, a number that is kept is below the bound
below_all : (n : ℕ) (P : KnownCaller → Type 0) → ((x : KnownCaller) → P x → x.machine.caller < n) → (c : ℕ) (xs : List KnownCaller) → EachKept P xs → IsCallerKept c xs → c < n
below_all n P f c [] a q = absurd q
below_all n P f c (x ∷ xs) a (inl q) = subst (λ (i : ℕ). i < n) q (f x a.0)
below_all n P f c (x ∷ xs) a (inr q) = below_all n P f c xs a.1 q

-- the number of x is none of those kept
none_other : (x : KnownCaller) (xs : List KnownCaller) → EachKept (HasOtherNumber x) xs → IsCallerKept x.machine.caller xs → ⊥
none_other x [] a q = q
none_other x (y ∷ xs) a (inl q) = a.0 q
none_other x (y ∷ xs) a (inr q) = none_other x xs a.1 q

-- P holds of each kept caller if it holds of one with each number that is kept, since no number is kept twice
each_kept : (P : KnownCaller → Type 0) (xs : List KnownCaller) → HasDistinctNumbers xs → ((c : ℕ) → IsCallerKept c xs → KeepsCallerWith c P xs) → EachKept P xs
each_kept P [] apart all = tt
each_kept P (x ∷ xs) apart all = (here (all x.machine.caller (inl refl)), each_kept P xs apart.1 (λ c kept. further c kept (all c (inr kept))))
  where
    here : KeepsCallerWith x.machine.caller P (x ∷ xs) → P x
    here (inl q) = q.1
    here (inr q) = absurd (none_other x xs apart.0 (is_kept x.machine.caller P xs q))

    further : (c : ℕ) → IsCallerKept c xs → KeepsCallerWith c P (x ∷ xs) → KeepsCallerWith c P xs
    further c kept (inl q) = absurd (none_other x xs apart.0 (subst (λ (i : ℕ). IsCallerKept i xs) (sym q.0) kept))
    further c kept (inr q) = q

module _ (p : Plan) (laws : KeepsLaws p) (runs : RunsAreSchedules (IsLawfulFor p) (plan_setup p)) (s : Start) (B : TableStart) (e : Ended) (v : View) (t : IsTeamOf p s B e v) where
  abbrev pub T : Setup
  T = plan_setup p

  abbrev pub O : Moment
  O = opening_at p B

  -- each caller that the pass keeps has its first machine: its number is that of one of the plan's callers, and no number is kept twice
  unlost : EachKept HasNoLoss v.kept
  unlost = each_kept HasNoLoss v.kept fits.apart of_number
    where
      fits : ViewFits T B t.meets.state.words t.meets.rule.events t.meets.rule.home t.meets.rule.chief t.meets.seat v
      fits = t.meets.rule.each t.meets.seat v t.meets.view t.live

      of_number : (c : ℕ) → IsCallerKept c v.kept → KeepsCallerWith c HasNoLoss v.kept
      of_number c kept =
          let lt : c < p.callers = below_all p.callers (IsAtHome T t.meets.rule.home (members_of T t.meets.state.words) t.meets.seat) (λ x a. a.in_range) c v.kept fits.kept kept in
          kept_with c (KeepsCaller p (finished_of s c) c (answers_of e c) (ending_of e c)) HasNoLoss (λ x k. k.unlost) v.kept (t.each c lt)

  -- the events of some schedule have led to all this
  pub ran : (es : List Event) × HasRun (plan_setup p) (IsLawfulFor p) B e.words v es
  ran = runs B e.words v t.meets t.live t.first t.loaded t.keeps_all unlost

  abbrev pub es : List Event
  es = ran.0

  abbrev pub h : HasRun (plan_setup p) (IsLawfulFor p) B e.words v es
  h = ran.1

  -- the moment that they leave, and the same with the numbers that are taken
  abbrev pub W : Moment
  W = after_events T O es

  abbrev members : ℕ
  members = get_or e.words (words_before_members T) 0

  abbrev pub w : Moment
  w = record W { words = set W.words (words_before_members T) members }

  pub words_are : e.words ≡ w.words
  words_are = sym (ap (λ (z : List ℕ). set z (words_before_members T) members) (sym h.words) ∙ (set-set e.words (words_before_members T) 0 members ∙ set-get_or e.words (words_before_members T) 0))

  pub long : length w.words ≡ table_word_count T
  long = ap length (sym words_are) ∙ h.room

  good_there : MeetsInvariant T (IsLawfulFor p) B W
  good_there = laws.schedules B O (laws.starts B h.from (table_word_count T) (omega arith)).0 es h.schedule

  sound : IsSound T B w
  sound = laws.sound B w (laws.beside B W good_there (words_before_members T) members (omega arith)).0

  -- the pass keeps each caller, with its answers and its ending, as the events tell
  pub keeps : (c : ℕ) → c < p.callers → (x : KnownCaller) × (x.machine.caller ≡ c) × KeepsCaller p (finished_of s c) c (answers_of e c) (ending_of e c) x × IsRunBy (plan_setup p) B es x
  keeps c lt = one_of c (KeepsCaller p (finished_of s c) c (answers_of e c) (ending_of e c)) (IsRunBy T B es) v.kept (t.each c lt) h.callers

  -- and what is kept shows its machine, and tells its calls
  pub machine_is : (c : ℕ) (lt : c < p.callers) → machine_in W c ≡ (keeps c lt).0.machine
  machine_is c lt = let k = keeps c lt in ap (machine_in W) (sym k.1) ∙ k.3.machine_is

  pub told_by : (c : ℕ) (lt : c < p.callers) → IsToldBy (plan_setup p) B es c (keeps c lt).0
  told_by c lt = let k = keeps c lt in subst (λ (i : ℕ). IsToldBy T B es i k.0) k.1 k.3.told

  pub calls_of : (c : ℕ) → c < p.callers → HasCalls (plan_setup p) B (start_ticket (plan_setup p) B c) W c (operations_begun es c) (outcomes (plan_setup p) O es c)
  calls_of c lt = laws.calls B h.from (table_word_count T) (omega arith) es h.schedule c lt

  pub tells : (c : ℕ) (lt : c < p.callers) → TellsRecord p (finished_of s c) c (answers_of e c) (ending_of e c) (keeps c lt).0
  tells c lt =
      let is = machine_is c lt in
      tells_record p (finished_of s c) c (answers_of e c) (ending_of e c) (keeps c lt).0 (keeps c lt).2
      (λ idle. ap (λ (m : CallState). m.steps) (sym is) ∙ sound.at_rest c lt (ap (λ (m : CallState). m.place) is ∙ idle))

  pub moment : IsMomentOf p s B w (operations_begun es) (outcomes T O es)
  moment = record {
    plan = t.plan;
    starts = t.starts;
    sound = sound;
    scripts = λ c lt. subst (AreNextScripts p (finished_of s c) c) (told_by c lt).begun (tells c lt).scripts;
    calls = λ c lt. subst (λ (n : ℕ). HasCalls T B n w c (operations_begun es c) (outcomes T O es c)) (ticket_is p s B t.starts c lt)
        (laws.beside_calls B W good_there (words_before_members T) members (omega arith) c lt (start_ticket T B c) (operations_begun es c) (outcomes T O es c) (calls_of c lt));
  }

  pub tells_calls : (c : ℕ) → c < p.callers → TellsCalls p s w e c (outcomes T O es c)
  tells_calls c lt =
      let own = tells c lt in
      let outs = (told_by c lt).ended in
      record {
        answers_first = subst AnswersStandBeforeSpent outs own.answers_first;
        told = subst (λ (os : List Outcome). AreAnswers os (answers_of e c)) outs own.told;
        ended = own.ended ∙ λ k. ending_of_calls (outs k) (sym (machine_is c lt) k).steps (scripts_left p s c) (length (answers_of e c));
      }

  -- the world of the closed row is one that a run leads to
  abbrev pub team_is_run : IsRunOfPlan p s B w e
  team_is_run = record {
    operations = operations_begun es;
    outcomes = outcomes T O es;
    moment = moment;
    callers = tells_calls;
    answers = t.answers;
    endings = t.endings;
    words = words_are;
    room = long;
  }

  pub team_run : (x : Moment) × IsRunOfPlan p s B x e
  team_run = (w, team_is_run)

  -- the batches that were seen are those of its history
  seen_are : (k : ℕ) → seen_calls B v.seen k ≡ batch_calls B w k
  unfolding batch_at
  seen_are k = ap (λ (cs : List SeenBatch). (get_or (seen_history cs) (k - B.seq - 1) no_batch).calls) h.batches ∙ go w.batches (k - B.seq - 1)
    where
      go : (bs : List Batch) (j : ℕ) → (get_or (seen_history (map seen_batch bs)) j no_batch).calls ≡ (get_or bs j no_batch).calls
      go [] j = refl
      go (b ∷ bs) zero = refl
      go (b ∷ bs) (suc j) = go bs j

  pub team_is_lawful : (r : Report) × ReportsRun p s e r × AnnouncesSeen B v.seen r
  team_is_lawful =
      let f = facts p s B w e team_is_run in
      let r = report_left p s B w e team_is_run.operations team_is_run.outcomes f in (
        r,
        run_reports p s B w e team_is_run r (lawful_left p s B w e team_is_run.operations team_is_run.outcomes f),
        announces p s B w e team_is_run.operations team_is_run.outcomes f v.seen seen_are,
      )

  module _ (r : Report) (lawful : IsLawfulRecord p s e r) (c : ℕ) (lt : c < p.callers) where
    made_is : steps_made w c (team_is_run.outcomes c) ≡ answer_steps (answers_of e c) + open_call_steps (ending_of e c)
    made_is =
        let own = tells c lt in
        let outs : answer_steps (answers_of e c) ≡ total_steps (team_is_run.outcomes c) = told_steps (outcomes_of (keeps c lt).0) (answers_of e c) own.told ∙ ap total_steps (told_by c lt).ended in
        omega (arith, outs, own.steps, ap (λ (m : CallState). m.steps) (machine_is c lt))

    few : (machine_in w c).steps < bound (plan_setup p)
    few = omega (arith, (tells c lt).within, ap (λ (m : CallState). m.steps) (machine_is c lt))

    by_stop : (stop : Option ℕ) → KeepToStop stop (answers_of e c) (ending_of e c) → KeepsAllowance p r c stop
    by_stop (Some n) keep =
        runs_keep_allowances p s B w e team_is_run r lawful c n lt few (omega (arith, made_is, keep.0)) (λ state none. made_is ∙ keep.1 state)
    by_stop None keep =
        let all = runs_keep_allowances p s B w e team_is_run r lawful c (steps_made w c (team_is_run.outcomes c)) lt few (omega arith) (λ state none. refl) in
        record { adds_up = tt; upto = tt; least = all.least; used_up = λ state. absurd (keep (sym (ap (λ (l : Line). l.state) (lawful.report.callers c lt)) ∙ state)) }

    pub keeps_stop : KeepToStop (stop_of p c) (answers_of e c) (ending_of e c) → KeepsAllowance p r c (stop_of p c)
    keeps_stop = by_stop (stop_of p c)

pub teams_are_lawful : (p : Plan) → KeepsLaws p → RunsAreSchedules (IsLawfulFor p) (plan_setup p) → TeamsAreLawful p
teams_are_lawful = team_is_lawful

pub teams_keep_allowances : (p : Plan) → KeepsLaws p → RunsAreSchedules (IsLawfulFor p) (plan_setup p) → TeamsKeepAllowances p
teams_keep_allowances = keeps_stop
