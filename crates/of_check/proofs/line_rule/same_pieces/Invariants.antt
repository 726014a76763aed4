use Rattle.std.proofs.Common.{◌≡◌, ◌+◌, ◌≤◌, length, take, drop}
use Rattle.of_check.specs.LineRules.{line_pieces}
use Rattle.of_check.proofs.line_rule.same_pieces.Given as goal

-- the pieces so far are the same, and these are left
abbrev pub invariant-loop-more : goal.invariant-loop-more
invariant-loop-more l = record {
  same : take l.count (line_pieces l.one) ≡ take l.count (line_pieces l.other);
  first : drop l.count (line_pieces l.one) ≡ line_pieces l.left;
  second : drop l.count (line_pieces l.other) ≡ line_pieces l.right;
  count : l.count + length l.left ≤ length l.one;
}

abbrev pub decreases-loop-more : goal.decreases-loop-more
decreases-loop-more l = length l.left
