use Rattle.std.proofs.Common.{◌≤◌, ◌-◌}
use Rattle.of_play.specs.Play.{turns_by}
use Rattle.of_play.specs.ScheduleRun.{MakesMoves}
use Rattle.of_play.proofs.schedule_run.ScheduleRun.turns.Given as goal

-- all turns but those that are left are made
abbrev pub invariant-loop-left : goal.invariant-loop-left
invariant-loop-left l = record {
  few : l.left ≤ l.count;
  moves : MakesMoves l.plan (turns_by l.caller (l.count - l.left)) l.fn.self l.self;
}

abbrev pub decreases-loop-left : goal.decreases-loop-left
decreases-loop-left l = l.left
