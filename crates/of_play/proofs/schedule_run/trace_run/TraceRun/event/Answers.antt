use Rattle.std.proofs.Common.{arith}
use Rattle.of_play.specs.TraceRun.{event_of}
use Rattle.of_play.proofs.TracesFurther.{trace_stays}
use Rattle.of_play.proofs.schedule_run.trace_run.TraceRun.event.Goals as goal

pub returns-then-self : goal.returns-then-self
returns-then-self c = let r = c.requires.tracing in trace_stays c.args.plan.now (event_of c.args.event) c.args.self.now r (omega (arith, r.stands.before_end))
