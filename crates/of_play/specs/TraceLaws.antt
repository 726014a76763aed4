-- What is claimed of traces, apart from their text.
use Rattle.std.specs.Prelude.{◌≡◌, ℕ, ◌<◌, List, [], ◌∷◌, length, take, get_or}
use Rattle.std.specs.List.{AllByRecursion}
use Rattle.of_script.specs.declared.instr.Reply.{Reply}
use Rattle.of_script.specs.declared.instr.TheConstants.{MOST_INSTRS}
use Rattle.of_store.specs.Replies.{reply_value_of}
use Rattle.of_mem.specs.declared.work.RawReply.{RawReply}
use Rattle.of_eval.specs.Shapes.{IsHeldBy}
use Rattle.of_plan.specs.Plan.{Plan}
use Rattle.of_core.specs.TableMoment.{Moment}
use Rattle.of_core.specs.Events.{Event, Begins, Turns, Loads, Evicts, Raises, Revives, after_events}
use Rattle.of_caller.specs.Tables.{plan_setup, opening_for}
use Rattle.of_caller.specs.Left.{moment_after}
use Rattle.of_play.specs.Play.{with_begin, plan_events, play_events}
use Rattle.of_play.specs.Trace.{event_line_at, trace_lines}
use Rattle.of_play.specs.TraceParts.{shown_reply}

-- the event is a turn or an eviction, which has a line in a trace
abbrev pub IsShown : Event → Type 0
IsShown (Turns i) = Unit {0}
IsShown (Raises c) = Unit {0}
IsShown (Begins i op) = ⊥
IsShown (Loads c) = ⊥
IsShown (Evicts k) = ⊥
IsShown (Revives i made) = ⊥

-- the schedule of a plan has only turns and evictions
abbrev pub AllAreShown : Type 0
AllAreShown = (p : Plan) → AllByRecursion IsShown (plan_events p)

-- the moment after these turns and evictions, with each call begun right before its first turn
abbrev pub world_after : Plan → Moment → List Event → Moment
world_after p w [] = w
world_after p w (e ∷ es) = world_after p (after_events (plan_setup p) w (with_begin p w e)) es

-- line `k` of a trace is that of turn or eviction `k`, at the moment that those before it leave
abbrev pub LinesAreOfMoves : Type 0
LinesAreOfMoves = (p : Plan) (k : ℕ) (e : Event) → k < length (plan_events p)
    → get_or (trace_lines p) k []
    ≡ event_line_at p k (world_after p (opening_for p) (take k (plan_events p)))
    (get_or (plan_events p) k e)

-- the last moment of a trace is the one in which `play` ends
abbrev pub TracesEndAsPlays : Type 0
TracesEndAsPlays =
    (p : Plan) → world_after p (opening_for p) (plan_events p) ≡ moment_after p (play_events p)

-- if cells hold a reply, a trace prints this reply for them
abbrev pub RepliesAreRead : Type 0
RepliesAreRead = (raw : RawReply) (r : Reply) → length raw.values ≡ MOST_INSTRS → IsHeldBy raw r
    → shown_reply raw ≡ reply_value_of r
