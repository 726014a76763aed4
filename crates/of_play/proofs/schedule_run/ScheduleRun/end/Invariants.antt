use Rattle.std.proofs.Common.{◌≡◌, ◌<◌, ℕ, length, get_or}
use Rattle.of_plan.specs.declared.answer.Ending.TheVariants.{Done}
use Rattle.of_play.specs.ScheduleRun.{CallerEndsAs}
use Rattle.of_play.proofs.schedule_run.ScheduleRun.end.Given as goal

-- the callers so far end so
abbrev pub invariant-loop-caller : goal.invariant-loop-caller
invariant-loop-caller l = record {
  count : length l.endings.items ≡ l.caller;
  each : (c : ℕ) → c < l.caller → CallerEndsAs l.plan c l.self (get_or l.endings.items c Done);
}
