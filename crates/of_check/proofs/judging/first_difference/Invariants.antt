use Rattle.std.proofs.Common.{◌≡◌, ◌+◌, ◌≤◌, length, take, drop}
use Rattle.of_plan.specs.Lines.{text_lines}
use Rattle.of_check.proofs.judging.first_difference.Given as goal

-- the lines so far are the same, and these are left
abbrev pub invariant-loop-more : goal.invariant-loop-more
invariant-loop-more l = record {
  same : take l.above (text_lines l.fn.one) ≡ take l.above (text_lines l.fn.other);
  first : drop l.above (text_lines l.fn.one) ≡ text_lines l.left;
  second : drop l.above (text_lines l.fn.other) ≡ text_lines l.right;
  count : l.above + length l.left ≤ length l.fn.one;
}

abbrev pub decreases-loop-more : goal.decreases-loop-more
decreases-loop-more l = length l.left
