use Rattle.std.proofs.Common.{◌≡◌, ◌+◌, ◌≤◌, length, drop}
use Rattle.of_check.specs.LineRules.{line_pieces}
use Rattle.of_check.proofs.line_rule.piece.Given as goal

-- these pieces are left
abbrev pub invariant-loop-at : goal.invariant-loop-at
invariant-loop-at l = record {
  left : drop l.at (line_pieces l.line) ≡ line_pieces l.rest;
  count : l.at + length l.rest ≤ length l.line;
  below : l.at ≤ l.before;
}

abbrev pub decreases-loop-at : goal.decreases-loop-at
decreases-loop-at l = length l.rest
