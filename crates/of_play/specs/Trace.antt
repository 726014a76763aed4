-- The trace of a plan: a line for each turn and each eviction of the plan's schedule, or for some
-- of them. And the lines of the schedule's commits.
use Rattle.std.specs.Prelude.{ℕ, ◌-◌, ◌+◌, List, [], ◌∷◌, ◌++◌, Bool, true, false, length, get_or, take, drop, flat_map, codes, decimal}
use Rattle.of_plan.specs.Plan.{Plan}
use Rattle.of_core.specs.Table.{durable_at, committed_seq}
use Rattle.of_core.specs.Machine.{Call, is_idle}
use Rattle.of_core.specs.MachineValue.{ended_outcome}
use Rattle.of_core.specs.Helping.{helped_owner}
use Rattle.of_core.specs.Steps.{want, word_of}
use Rattle.of_core.specs.TableMoment.{Moment, Batch}
use Rattle.of_core.specs.Events.{Event, Turns, Raises, machine_in, after_event, after_events}
use Rattle.of_caller.specs.Tables.{plan_setup, opening_for}
use Rattle.of_play.specs.declared.trace_text.Change.{Change}
use Rattle.of_play.specs.declared.trace_line.TraceStep.{TraceStep}
use Rattle.of_play.specs.Play.{plan_events, next_begin, with_begin}
use Rattle.of_play.specs.TraceLine.{step_line, rest_line, evict_line}

-- the change of a word from the moment `w` to the moment `v`: what it held, and what it holds then
abbrev pub word_change : (word : ℕ) → (w v : Moment) → Change
word_change c w v = record { word = c; found = get_or w.words c 0; left = get_or v.words c 0 }

-- the step of caller `i` that leads from the moment `w` to the moment `v`
abbrev pub step_of : Plan → (i : ℕ) → (w v : Moment) → TraceStep
step_of p i w v = record {
  caller = i;
  index = (machine_in w i).made - 1;
  place = (machine_in w i).place;
  op = want (plan_setup p) (machine_in w i);
  helps = helped_owner (machine_in w i);
  change = word_change (word_of (want (plan_setup p) (machine_in w i))) w v;
  outcome = ended_outcome (machine_in v i);
}

-- the line of event `k`, a turn of caller `i`; if no call of the caller is open, the turn does
-- nothing
abbrev pub turn_line : Plan → (k i : ℕ) → (idle : Bool) → (w v : Moment) → List ℕ
turn_line p k i true w v = rest_line k i
turn_line p k i false w v = step_line p k (step_of p i w v)

-- the line of event `k`, which leads from the moment `w` to the moment `v`
abbrev pub event_line : Plan → (k : ℕ) → (w v : Moment) → Event → List ℕ
event_line p k w v (Turns i) = turn_line p k i (is_idle (machine_in w i).place) w v
event_line p k w v (Raises c) = evict_line p k (word_change (durable_at (plan_setup p) c) w v)
event_line p k w v e = []

-- the moment at which an event happens, if the events before it leave `w`; a call that a turn
-- begins has begun at this moment
abbrev pub moment_of_event : Plan → Moment → Event → Moment
moment_of_event p w (Turns i) = after_events (plan_setup p) w (next_begin p i (machine_in w i))
moment_of_event p w e = w

-- the moment that an event leaves, if the events before it leave `w`
abbrev pub moment_left_by : Plan → Moment → Event → Moment
moment_left_by p w e = after_event (plan_setup p) (moment_of_event p w e) e

-- the line of event `k`, if the events before it leave the moment `w`
abbrev pub event_line_at : Plan → (k : ℕ) → Moment → Event → List ℕ
event_line_at p k w e = event_line p k (moment_of_event p w e) (moment_left_by p w e) e

-- a line for each event, numbered from `k` on; `w` is the moment before the first
abbrev pub lines_from : (line : ℕ → Moment → Event → List ℕ) → Plan → (k : ℕ) → Moment → List Event
    → List (List ℕ)
lines_from line p k w [] = []
lines_from line p k w (e ∷ es) =
    line k w e ∷ lines_from line p (k + 1) (after_events (plan_setup p) w (with_begin p w e)) es

-- the lines of all turns and evictions of a plan's schedule
abbrev pub trace_lines : Plan → List (List ℕ)
trace_lines p = lines_from (event_line_at p) p 0 (opening_for p) (plan_events p)

-- the lines of `c` events of a plan's schedule, from event `f` on
abbrev pub trace_text : Plan → (f c : ℕ) → List ℕ
trace_text p f c = flat_map (λ line. line) (take c (drop f (trace_lines p)))

-- ---- commits

-- what is printed of a call of a batch: the index of its script, and its caller
abbrev pub call_part : Call → List ℕ
call_part c = codes ", script " ++ decimal (c.ticket - 1) ++ codes " of " ++ decimal c.caller

-- the line of event `k`, a turn of caller `i` that has committed these calls at the sequence `s`
abbrev pub batch_line : (k i s : ℕ) → List Call → List ℕ
batch_line k i s calls =
    (decimal k ++ codes " " ++ decimal i ++ codes " commits " ++ decimal s)
    ++ flat_map call_part calls ++ codes "\n"

-- the batches of the history at the moment `v` that it did not have at the moment `w`
abbrev pub added_by : (w v : Moment) → List Batch
added_by w v = drop (length w.batches) v.batches

-- the line of the batch that event `k` has committed, if it has committed one, between the moments
-- `w` and `v`
abbrev pub committed_by : (k : ℕ) → (w v : Moment) → Event → List ℕ
committed_by k w v (Turns i) =
    flat_map (λ b. batch_line k i (committed_seq w.words + 1) b.calls) (added_by w v)
committed_by k w v e = []

-- the line of the batch that event `k` commits, or nothing, if the events before it leave `w`
abbrev pub committed_at : Plan → (k : ℕ) → Moment → Event → List ℕ
committed_at p k w e = committed_by k (moment_of_event p w e) (moment_left_by p w e) e

-- for each turn or eviction of a plan's schedule, the line of the batch that it commits, or nothing
abbrev pub commit_lines : Plan → List (List ℕ)
commit_lines p = lines_from (committed_at p) p 0 (opening_for p) (plan_events p)

-- the lines of all commits among the first `c` events of a plan's schedule
abbrev pub commits_text : Plan → (c : ℕ) → List ℕ
commits_text p c = flat_map (λ line. line) (take c (commit_lines p))
