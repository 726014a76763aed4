use Rattle.std.proofs.Common.{◌≡◌, ℕ, [], length, map, get_or}
use Rattle.of_play.proofs.schedule_run.ScheduleRun.new.Given as goal

-- so many callers have no answer
abbrev pub invariant-loop-caller : goal.invariant-loop-caller
invariant-loop-caller l = record {
  answers : length l.answers.items ≡ l.caller;
  none : (c : ℕ) → get_or (map (λ v. v.items) l.answers.items) c [] ≡ [];
}
