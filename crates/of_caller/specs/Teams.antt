-- What a team hands back: the record of a run, and a pass that has the run's calls. What holds of
-- all teams.
use Rattle.std.specs.Prelude.{◌≡◌, ℕ, ◌+◌, ◌-◌, ◌≤◌, ◌<◌, ◌⊎◌, List, [], ◌∷◌, ◌++◌, length, map, take, drop, slice_index_or, false, true, IsTrue, All, Any}
use Rattle.of_eval.specs.declared.scripts.Scripts.{Scripts}
use Rattle.of_eval.specs.Record.{IsLawfulRecord}
use Rattle.of_eval.specs.Reported.{ReportsRun}
use Rattle.of_plan.specs.declared.answer.Answer.{Answer}
use Rattle.of_plan.specs.declared.answer.Ending.{Ending}
use Rattle.of_plan.specs.declared.answer.Ending.TheVariants.{Done, Stopped, Spent}
use Rattle.of_plan.specs.declared.plan.Item.{Item}
use Rattle.of_plan.specs.Plan.{Plan, IsPlan, scripts_of, stop_of, bound_of}
use Rattle.of_plan.specs.Report.{Entry, Report, Start, finished_of}
use Rattle.of_plan.specs.Ended.{Ended, answers_of, ending_of}
use Rattle.of_plan.specs.Allowance.{KeepsAllowance}
use Rattle.of_core.specs.declared.place.Outcome.TheVariants.{Spent as RanOut}
use Rattle.of_core.specs.Machine.{Call, CallState, IsOpen}
use Rattle.of_core.specs.TableMoment.{TableStart}
use Rattle.of_core.specs.History.{batch_at}
use Rattle.of_core.specs.Turn.{IsIdle}
use Rattle.of_core.specs.Calls.{NoneSpent}
use Rattle.of_row.specs.declared.row.Row.{Row}
use Rattle.of_row.specs.Views.{SeenBatch, EndedCall, KnownCaller, View, seen_history}
use Rattle.of_row.specs.Rule.{ViewMeetsRule, KeepsAll}
use Rattle.of_row.specs.Turned.{copied_view}
use Rattle.of_row.specs.Runs.{HasNoLoss}
use Rattle.of_caller.specs.Tables.{plan_setup, IsLawfulFor, operation_of}
use Rattle.of_caller.specs.Starts.{StartsAtPlan}
use Rattle.of_caller.specs.Ends.{AreAnswers}
use Rattle.of_caller.specs.PlanRows.{start_of_row}
use Rattle.of_caller.specs.Stops.{KeepToStop}
pub use Rattle.of_caller.specs.Scheduled.{evicted_by, evictions_of}
use Rattle.of_caller.specs.Scheduled.{IsScheduled}

-- ---- what is kept of one caller

-- the operation of the caller's script with this index
abbrev pub script_operation_at : Plan → (caller index : ℕ) → List ℕ
script_operation_at p c x = operation_of (slice_index_or (scripts_of p c) x [])

-- the ended calls of caller c are those of its scripts right after the first `behind`, in order;
-- each call was answered, and these are the answers
pub record AreAnswered (p : Plan) (behind c : ℕ) (calls : List EndedCall) (answers : List Answer)
    : Type 0 where
  pub few : length answers ≤ length (scripts_of p c) - behind
  pub scripts : map (λ e. e.op) calls
      ≡ map operation_of (take (length answers) (drop behind (scripts_of p c)))
  pub none_spent : NoneSpent (map (λ e. e.outcome) calls)
  pub told : AreAnswers (map (λ e. e.outcome) calls) answers

-- A caller was stopped when its brake was asked for the `asked`-th time, which is within the bound.
-- If the first ask was denied, no call is open. Otherwise a call of this operation is open, and has
-- made one step less than the brake was asked.
pub record IsStopped (p : Plan) (op : List ℕ) (asked : ℕ) (m : CallState) : Type 0 where
  pub some : 1 ≤ asked
  pub within : asked ≤ bound_of p
  pub at_once : asked ≡ 1 → IsIdle m
  pub open_call : 1 < asked → IsOpen m.place × (m.op ≡ op) × (m.steps + 1 ≡ asked)

-- What is kept of caller c beyond its answered calls, if x of its n scripts are done. If the caller
-- is done, x is n, no call is open and nothing more is kept. If it is stopped, it has a script
-- left, of which a call may be open (`IsStopped`), and nothing more is kept. If it is spent, it has
-- a script left, no call is open, and the spent call of script x is kept.
abbrev pub KeepsLastCall : Plan → (c x n : ℕ) → CallState → List EndedCall → Ending → Type 0
KeepsLastCall p c x n m beyond Done = (x ≡ n) × IsIdle m × (beyond ≡ [])
KeepsLastCall p c x n m beyond (Stopped asked) =
    (x < n) × IsStopped p (script_operation_at p c x) asked m × (beyond ≡ [])
KeepsLastCall p c x n m beyond (Spent seq) =
    (x < n) × IsIdle m
    × (beyond ≡ record { op = script_operation_at p c x; outcome = RanOut seq } ∷ [])

-- What is kept of caller c agrees with its answers and its ending: first come its answered calls,
-- which have these answers, and then what `KeepsLastCall` says. The first `behind` of its scripts
-- were done before the start. Its machine was never replaced.
pub record KeepsCaller (p : Plan) (behind c : ℕ) (answers : List Answer) (ending : Ending)
    (x : KnownCaller) : Type 0 where
  pub calls : List EndedCall
  pub beyond : List EndedCall
  pub ended : x.ended ≡ calls ++ beyond
  pub answered : AreAnswered p behind c calls answers
  pub last :
      KeepsLastCall p c (behind + length answers) (length (scripts_of p c)) x.machine beyond ending
  -- the caller's machine is its first one
  pub unlost : HasNoLoss x

-- the list has a caller with this number of which P holds
abbrev pub KeepsCallerWith : (c : ℕ) → (KnownCaller → Type 0) → List KnownCaller → Type 0
KeepsCallerWith c P [] = ⊥
KeepsCallerWith c P (x ∷ xs) = ((x.machine.caller ≡ c) × P x) ⊎ KeepsCallerWith c P xs

-- ---- a team's record and its pass

-- a team of the plan's callers has left this record, from this start, and its pass has this view
pub record IsTeamOf (p : Plan) (s : Start) (B : TableStart) (e : Ended) (v : View) : Type 0 where
  pub plan : IsPlan p
  pub starts : StartsAtPlan p s B
  -- words and view meet the rule of a row; the view isn't spent, and keeps every taken number
  pub meets : ViewMeetsRule (plan_setup p) (IsLawfulFor p) B e.words v
  pub live : v.spent ≡ false
  pub keeps_all : KeepsAll (plan_setup p) e.words v
  -- the pass is the row's first one; it has loaded no word and made the plan's evictions in order
  pub first : v.first ≡ true
  pub loaded : v.loaded ≡ []
  pub evicted : map (λ e. e.0) v.evicted ≡ evictions_of p
  -- of each caller the pass keeps the answered calls; of a stopped caller also the open call, if
  -- there is one; of a spent caller also the spent call
  pub answers : length e.answers ≡ p.callers
  pub endings : length e.endings ≡ p.callers
  pub each : (c : ℕ) → c < p.callers
      → KeepsCallerWith c (KeepsCaller p (finished_of s c) c (answers_of e c) (ending_of e c))
      v.kept

-- the entry and the call are of the same caller, and the call's ticket is the index of the entry's
-- script plus 1
abbrev pub IsEntryOf : Entry → Call → Type 0
IsEntryOf f k = (k.caller ≡ f.caller) × (k.ticket ≡ f.index + 1)

-- the calls of the batch at sequence k, as it was seen
abbrev pub seen_calls : TableStart → List SeenBatch → ℕ → List Call
seen_calls B seen k = (batch_at B (seen_history seen) k).calls

-- the announced entries of a report are the calls of the batches that were seen, up to the report's
-- sequence
pub record AnnouncesSeen (B : TableStart) (seen : List SeenBatch) (r : Report) : Type 0 where
  pub entries :
      All (λ f. IsTrue f.announced → Any (IsEntryOf f) (seen_calls B seen f.seq)) r.entries
  pub calls : (k : ℕ) → B.seq < k → k ≤ r.seq
      → All (λ d. Any (λ f. IsTrue f.announced × (f.seq ≡ k) × IsEntryOf f d) r.entries)
      (seen_calls B seen k)

-- A team has left this record, and w is the view of the team's pass, marked as spent. The record
-- has a report with all that holds of the report of a run (`ReportsRun`). The report's announced
-- entries are the calls of the batches that the pass has seen.
pub record IsHandedBack (p : Plan) (s : Start) (B : TableStart) (e : Ended) (w : View)
    : Type 0 where
  pub sight : View
  pub copy : w ≡ copied_view sight
  pub team : IsTeamOf p s B e sight
  pub report : Report
  pub reported : ReportsRun p s e report
  pub announced : AnnouncesSeen B sight.seen report
  -- some schedule of turns, with the plan's evictions in their order, leaves this record
  pub scheduled : (items : List Item) × IsScheduled p s B items e

-- for each start of the plan at which the row has started, a team has left this record from that
-- start, and w is the view of the team's pass, marked as spent
abbrev pub HandsBack : Plan → Row Scripts → Ended → View → Type 0
HandsBack p r e w =
    (s : Start) → StartsAtPlan p s (start_of_row r) → IsHandedBack p s (start_of_row r) e w

-- ---- what holds of all teams

-- The record of a team of the plan is lawful, and its report has all that holds of the report of a
-- run (`ReportsRun`). The report's announced entries are the calls of the batches that the team's
-- pass has seen.
abbrev pub TeamsAreLawful : Plan → Type 0
TeamsAreLawful p =
    (s : Start) (B : TableStart) (e : Ended) (v : View) → IsTeamOf p s B e v
    → (r : Report) × ReportsRun p s e r × AnnouncesSeen B v.seen r

-- in the report of a team of the plan, the stop of each caller that keeps to its stop is a possible
-- allowance of steps for the caller (`KeepsAllowance`)
abbrev pub TeamsKeepAllowances : Plan → Type 0
TeamsKeepAllowances p =
    (s : Start) (B : TableStart) (e : Ended) (v : View) → IsTeamOf p s B e v
    → (r : Report) → IsLawfulRecord p s e r → (c : ℕ) → c < p.callers
    → KeepToStop (stop_of p c) (answers_of e c) (ending_of e c) → KeepsAllowance p r c (stop_of p c)

-- what a team of the plan leaves, some schedule of the plan's callers leaves too
abbrev pub TeamsAreScheduled : Plan → Type 0
TeamsAreScheduled p =
    (s : Start) (B : TableStart) (e : Ended) (v : View) → IsTeamOf p s B e v
    → (items : List Item) × IsScheduled p s B items e
