use Rattle.std.proofs.Common.{◌≡◌, take}
use Rattle.std.specs.List.{flat_map}
use Rattle.of_play.specs.Play.{item_events}
use Rattle.of_play.specs.TraceRun.{TracesAfter}
use Rattle.of_play.specs.declared.schedule_run.trace_run.Form.TheVariants.{Commits}
use Rattle.of_play.proofs.schedule_run.trace_run.commits.Given as goal

-- the events of the items so far are made
abbrev pub invariant-loop-item : goal.invariant-loop-item
invariant-loop-item l = (l.tracing.form ≡ Commits) × (l.tracing.first ≡ 0) × (l.tracing.end ≡ l.count) × TracesAfter l.plan (flat_map item_events (take l.item-index l.plan.schedule)) l.tracing
