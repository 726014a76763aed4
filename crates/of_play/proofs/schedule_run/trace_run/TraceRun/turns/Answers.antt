use Rattle.of_play.proofs.TracesFurther.{traces_nowhere, traces_still, trace_turn_more}
use Rattle.of_play.proofs.schedule_run.trace_run.TraceRun.turns.Goals as goal

pub loop-init : goal.loop-init
loop-init c = traces_nowhere c.args.plan.now c.args.self.now

pub event-requires-clause-tracing : goal.event-requires-clause-tracing
event-requires-clause-tracing c = traces_still c.args.plan.now _ c.args.self.now c.loop.self c.requires.tracing c.loop.invariant

pub loop-preserved : goal.loop-preserved
loop-preserved c = trace_turn_more c.args.plan.now c.args.caller c.loop.counter c.args.self.now c.loop.self c.event.new.self c.loop.invariant c.in_ok-event.ensures
