use Rattle.std.proofs.Common.{◌≡◌, ◌++◌, length, drop}
use Rattle.of_check.specs.Claims.{call_of_line, read_lines, lines_of}
use Rattle.of_check.proofs.claims.read_calls.Given as goal

-- what was read, and what is left
abbrev pub invariant-loop-rest : goal.invariant-loop-rest
invariant-loop-rest l = record {
  found : l.calls.items ++ read_lines call_of_line (lines_of l.rest) ≡ read_lines call_of_line (lines_of l.lines);
  left : lines_of l.rest ≡ drop (length l.calls.items) (lines_of l.lines);
}

abbrev pub decreases-loop-rest : goal.decreases-loop-rest
decreases-loop-rest l = length (lines_of l.rest)
