use Rattle.std.proofs.Common.{◌≡◌, ◌++◌, length}
use Rattle.of_check.specs.Claims.{end_of_line, read_lines, lines_of}
use Rattle.of_check.proofs.claims.read_ends.Given as goal

-- what was read, and what is left
abbrev pub invariant-loop-rest : goal.invariant-loop-rest
invariant-loop-rest l = l.ends.items ++ read_lines end_of_line (lines_of l.rest) ≡ read_lines end_of_line (lines_of l.lines)

abbrev pub decreases-loop-rest : goal.decreases-loop-rest
decreases-loop-rest l = length (lines_of l.rest)
