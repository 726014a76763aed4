use Rattle.std.proofs.Common.{take}
use Rattle.std.specs.List.{flat_map}
use Rattle.of_caller.specs.Tables.{opening_for}
use Rattle.of_play.specs.Play.{item_events, events_from}
use Rattle.of_play.specs.ScheduleRun.{StandsAfter}
use Rattle.of_play.proofs.schedule_run.play.Given as goal

-- the moves of the items so far are made
abbrev pub invariant-loop-item : goal.invariant-loop-item
invariant-loop-item l = StandsAfter l.plan (events_from l.plan (opening_for l.plan) (flat_map item_events (take l.item-index l.plan.schedule))) l.playing
