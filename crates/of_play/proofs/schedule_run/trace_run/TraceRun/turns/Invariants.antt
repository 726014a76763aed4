use Rattle.std.proofs.Common.{replicate}
use Rattle.of_core.specs.Events.{Turns}
use Rattle.of_play.specs.TraceRun.{TracesOn}
use Rattle.of_play.proofs.schedule_run.trace_run.TraceRun.turns.Given as goal

-- so many turns are made
abbrev pub invariant-loop : goal.invariant-loop
invariant-loop l = TracesOn l.plan (replicate l.counter (Turns l.caller)) l.fn.self l.self
