-- Real time: the begins and the ends of calls in the order in which they came, and the reports
-- that respect it.
use Rattle.std.specs.Prelude.{◌==◌, ℕ, ◌+◌, ◌≤◌, ◌<◌, if◌then◌else◌, List, [], ◌∷◌, ◌++◌, map, take, All, IsTrue, ◌≡◌}
use Rattle.of_plan.specs.declared.plan.Item.{Item}
use Rattle.of_plan.specs.Plan.{Plan}
use Rattle.of_plan.specs.Ended.{Ended}
use Rattle.of_plan.specs.Report.{Entry, Report, Start, finished_of}
use Rattle.of_eval.specs.Record.{IsLawfulRecord}
use Rattle.of_core.specs.Table.{Setup, committed_seq}
use Rattle.of_core.specs.Machine.{is_idle}
use Rattle.of_core.specs.TableMoment.{Moment, TableStart}
use Rattle.of_core.specs.WordsMatch.{MayStart}
use Rattle.of_core.specs.Events.{Event, Begins, Turns, Loads, Evicts, Raises, Revives, after_event, machine_in, after_events, IsSchedule}
use Rattle.of_core.specs.Calls.{outcome_of_step, outcome_of_loss, outcomes}
use Rattle.of_row.specs.Views.{View}
use Rattle.of_caller.specs.Tables.{plan_setup, IsLawfulFor, opening_at}
use Rattle.of_caller.specs.Scheduled.{events_of_items, IsScheduled}
use Rattle.of_caller.specs.Runs.{IsRunOfPlan}
use Rattle.of_caller.specs.Teams.{IsTeamOf}

-- ---- what is seen of calls from outside

-- a caller begins its next call, or its open call ends
pub data Mark : Type 0 where
  BeginsCall : (caller : ℕ) → Mark
  EndsCall : (caller : ℕ) → Mark

-- how many calls of the caller have begun in these marks
abbrev pub begun_in : (caller : ℕ) → List Mark → ℕ
begun_in c [] = 0
begun_in c (BeginsCall d ∷ ms) = (if c == d then 1 else 0) + begun_in c ms
begun_in c (EndsCall d ∷ ms) = begun_in c ms

-- how many calls of the caller have ended in these marks
abbrev pub over_in : (caller : ℕ) → List Mark → ℕ
over_in c [] = 0
over_in c (BeginsCall d ∷ ms) = over_in c ms
over_in c (EndsCall d ∷ ms) = (if c == d then 1 else 0) + over_in c ms

-- by the first k marks of a run from this start, the call of the entry has ended
abbrev pub EntryHasEnded : Start → List Mark → (k : ℕ) → Entry → Type 0
EntryHasEnded s ms k e = e.index < finished_of s e.caller + over_in e.caller (take k ms)

-- by the first k marks, the call of the entry has not begun
abbrev pub NotBegun : Start → List Mark → (k : ℕ) → Entry → Type 0
NotBegun s ms k e = finished_of s e.caller + begun_in e.caller (take k ms) ≤ e.index

-- the call of e ends before the call of f begins: after the first k marks, for some k, the call of
-- e has ended and the call of f has not begun
abbrev pub EndsBefore : Start → List Mark → Entry → Entry → Type 0
EndsBefore s ms e f = (k : ℕ) × EntryHasEnded s ms k e × NotBegun s ms k f

-- f comes no earlier than e in the history: the sequence of f is not lower than that of e, and it
-- is higher if f was announced
abbrev pub StandsBehind : Entry → Entry → Type 0
StandsBehind e f = (e.seq ≤ f.seq) × (IsTrue f.announced → e.seq < f.seq)

-- if the call of an entry e ends before the call of an entry f begins, f comes no earlier than e in
-- the history
abbrev pub RespectsTime : Start → List Mark → Report → Type 0
RespectsTime s ms r =
    All (λ e. All (λ f. EndsBefore s ms e f → StandsBehind e f) r.entries) r.entries

-- ---- the marks of a schedule

-- the marks of an event at this moment: one if the event begins a call, or if it is a turn or the
-- loss of a machine and ends a call; otherwise none
abbrev pub marks_of : Setup → Moment → Event → List Mark
marks_of S w (Begins i op) = BeginsCall i ∷ []
marks_of S w (Turns i) =
    map (λ o. EndsCall i)
    (outcome_of_step (machine_in w i) (machine_in (after_event S w (Turns i)) i))
marks_of S w (Loads c) = []
marks_of S w (Evicts k) = []
marks_of S w (Raises c) = []
marks_of S w (Revives i made) =
    map (λ o. EndsCall i)
    (outcome_of_loss (committed_seq w.words) (is_idle (machine_in w i).place)
    (is_idle (machine_in (after_event S w (Revives i made)) i).place))

-- the marks of these events, the first of which happens at this moment
abbrev pub marks_in : Setup → Moment → List Event → List Mark
marks_in S w [] = []
marks_in S w (e ∷ es) = marks_of S w e ++ marks_in S (after_event S w e) es

-- the marks of a run of the plan's callers from this start, with these items as the schedule
abbrev pub course_of : Plan → TableStart → List Item → List Mark
course_of p B items = marks_in (plan_setup p) (opening_at p B) (events_of_items p B items)

-- ---- what holds of all schedules and teams

-- if a schedule of the plan, from any start at which a table may start, leaves a record, the
-- record's report respects the real time of the schedule
abbrev pub SchedulesRespectTime : Plan → Type 0
SchedulesRespectTime p =
    (s : Start) (B : TableStart) → MayStart (plan_setup p) (IsLawfulFor p) B
    → (es : List Event) → IsSchedule (plan_setup p) (opening_at p B) es
    → (e : Ended) (left : IsRunOfPlan p s B (after_events (plan_setup p) (opening_at p B) es) e)
    → ((c : ℕ) → c < p.callers
    → left.outcomes c ≡ outcomes (plan_setup p) (opening_at p B) es c)
    → (r : Report) → IsLawfulRecord p s e r
    → RespectsTime s (marks_in (plan_setup p) (opening_at p B) es) r

-- some schedule leaves the record that a team of the plan leaves, and the record's report respects
-- the real time of this schedule
abbrev pub TeamsRespectTime : Plan → Type 0
TeamsRespectTime p =
    (s : Start) (B : TableStart) (e : Ended) (v : View) → IsTeamOf p s B e v
    → (items : List Item) × IsScheduled p s B items e
    × ((r : Report) → IsLawfulRecord p s e r → RespectsTime s (course_of p B items) r)
