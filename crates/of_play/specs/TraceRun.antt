-- The state of the code that traces a plan, between two events.
use Rattle.std.specs.Prelude.{◌≡◌, ℕ, ◌-◌, ◌≤◌, ◌<◌, List, ◌++◌, length, take, drop, flat_map, String, string_bytes}
use Rattle.of_script.specs.Appending.{AppendsText}
use Rattle.of_plan.specs.Plan.{Plan, IsPlan}
use Rattle.of_core.specs.Table.{cell_count}
use Rattle.of_core.specs.TableMoment.{Moment}
use Rattle.of_core.specs.Events.{Event, Turns, Raises}
use Rattle.of_caller.specs.Tables.{plan_setup, opening_for}
use Rattle.of_caller.specs.Left.{moment_after}
use Rattle.of_play.specs.Play.{events_from}
use Rattle.of_play.specs.ScheduleRun.{StandsAfter}
use Rattle.of_play.specs.Trace.{event_line_at, committed_at, lines_from}
use Rattle.of_play.specs.declared.schedule_run.ScheduleRun.{ScheduleRun}
use Rattle.of_play.specs.declared.schedule_run.trace_run.TraceEvent.{TraceEvent}
use Rattle.of_play.specs.declared.schedule_run.trace_run.TraceEvent.TheVariants.{Turn, Evict}
use Rattle.of_play.specs.declared.schedule_run.trace_run.Form.{Form}
use Rattle.of_play.specs.declared.schedule_run.trace_run.Form.TheVariants.{Events, Commits}
use Rattle.of_play.specs.declared.schedule_run.trace_run.TraceRun.{TraceRun}

-- the event of a schedule that the code's event stands for
abbrev pub event_of : TraceEvent → Event
event_of (Turn c) = Turns c
event_of (Evict a) = Raises a

-- the event is of a caller or a cell of the plan's table
abbrev pub IsEvent : Plan → TraceEvent → Type 0
IsEvent p (Turn c) = c < p.callers
IsEvent p (Evict a) = a < cell_count (plan_setup p)

-- what a trace of this form prints of event `k`
abbrev pub line_as : Form → Plan → (k : ℕ) → Moment → Event → List ℕ
line_as Events p = event_line_at p
line_as Commits p = committed_at p

-- the line of event `k` was added at the end of a text; `before` is the run before the event
abbrev pub WritesLine : {Z : Type 0} → Form → Plan → (k : ℕ) → Event → (before : ScheduleRun)
    → (old new : String Z) → Type 0
WritesLine f p k e before old new =
    (es : List Event) → StandsAfter p es before
    → AppendsText old new (line_as f p k (moment_after p es) e)

-- the text of `c` of these lines, beginning with line `f`
abbrev pub shown_lines : (first count : ℕ) → List (List ℕ) → List ℕ
shown_lines f c lines = flat_map (λ line. line) (take c (drop f lines))

-- what a trace of this form prints of each turn and eviction in this list of a plan's events
abbrev pub lines_as : Form → Plan → List Event → List (List ℕ)
lines_as f p ms = lines_from (line_as f p) p 0 (opening_for p) ms

-- the code is in the state in which these turns and evictions leave it; once all lines that were
-- asked for are written, only the text is promised
pub record TracesAfter (p : Plan) (ms : List Event) (t : TraceRun) : Type 0 where
  pub before_end : t.number ≤ t.end
  pub number : t.number < t.end → t.number ≡ length ms
  pub stands : t.number < t.end → StandsAfter p (events_from p (opening_for p) ms) t.playing
  pub over : t.end ≤ t.number → t.end ≤ length ms
  pub text : string_bytes t.text
      ≡ shown_lines t.first (t.end - t.first) (lines_as t.form p ms)

-- the code is in the state in which some turns and evictions of the plan leave it
pub record IsTracing (p : Plan) (t : TraceRun) : Type 0 where
  pub plan : IsPlan p
  pub first : t.first ≤ t.end
  pub moves : List Event
  pub stands : TracesAfter p moves t

-- the code has gone on by these turns and evictions
pub record TracesOn (p : Plan) (moves : List Event) (before now : TraceRun) : Type 0 where
  pub form : now.form ≡ before.form
  pub first : now.first ≡ before.first
  pub end : now.end ≡ before.end
  pub stands : (ms : List Event) → TracesAfter p ms before → TracesAfter p (ms ++ moves) now
