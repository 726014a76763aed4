use Rattle.std.proofs.Common.{◌≡◌, ◌+◌, ◌≤◌, length, drop}
use Rattle.of_plan.specs.Lines.{text_lines}
use Rattle.of_plan.proofs.above.line_at.Given as goal

-- these lines are left
abbrev pub invariant-loop-at : goal.invariant-loop-at
invariant-loop-at l = record {
  left : drop l.at (text_lines l.text) ≡ text_lines l.rest;
  count : l.at + length l.rest ≤ length l.text;
  below : l.at ≤ l.above;
}

abbrev pub decreases-loop-at : goal.decreases-loop-at
decreases-loop-at l = length l.rest
