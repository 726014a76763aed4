use Rattle.std.proofs.Common.{ℕ, ◌<◌, ◌≤◌, length}
use Rattle.of_check.specs.Endings.{left_of, IsEnding, claimed_line_at}
use Rattle.of_check.proofs.judging.first_end.Given as goal

-- the callers so far have a line, and may end as they claim
abbrev pub invariant-loop-caller : goal.invariant-loop-caller
invariant-loop-caller l = record {
  lines : l.caller ≤ length l.ends;
  each : (k : ℕ) → k < l.caller → IsEnding l.plan (left_of l.plan l.done k) l.seq (claimed_line_at l.done l.counts l.ends k);
}
