use Rattle.std.proofs.Common.{refl}
use Rattle.of_play.specs.TraceRun.{event_of}
use Rattle.of_play.proofs.TracesFurther.{runs_on, trace_shows}
use Rattle.of_play.proofs.schedule_run.trace_run.TraceRun.show.Goals as goal

pub trace_event-requires-clause-playing : goal.trace_event-requires-clause-playing
trace_event-requires-clause-playing c = runs_on c.args.plan.now c.args.self.now c.requires.tracing c.requires.open

pub returns : goal.returns
returns c = trace_shows c.args.plan.now (event_of c.args.event) c.args.self.now c.requires.tracing c.requires.open _ refl refl refl refl c.in_ok-trace_event.ensures.goes c.requires.late c.in_ok-trace_event.ensures.line
