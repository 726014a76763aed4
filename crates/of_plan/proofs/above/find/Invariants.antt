use Rattle.std.proofs.Common.{◌≡◌, ℕ, ◌+◌, ◌<◌, ◌≤◌, length, drop, None}
use Rattle.of_script.specs.Text.{text_words}
use Rattle.of_plan.specs.Lines.{text_lines}
use Rattle.of_plan.specs.Above.{said, line_at}
use Rattle.of_plan.proofs.above.find.Given as goal

-- these lines are left, and none before them says it
abbrev pub invariant-loop-at : goal.invariant-loop-at
invariant-loop-at l = record {
  left : drop l.at (text_lines l.text) ≡ text_lines l.rest;
  count : l.at + length l.rest ≤ length l.text;
  none : (k : ℕ) → k < l.at → said l.wanted (text_words (line_at (text_lines l.text) k)) ≡ None;
}

abbrev pub decreases-loop-at : goal.decreases-loop-at
decreases-loop-at l = length l.rest
