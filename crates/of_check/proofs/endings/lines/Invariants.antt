use Rattle.std.proofs.Common.{◌≡◌, map}
use Rattle.std.specs.List.{range_with_len}
use Rattle.of_check.specs.Endings.{claimed_line_at}
use Rattle.of_check.proofs.endings.lines.Given as goal

-- these are the lines of the callers so far
abbrev pub invariant-loop-caller : goal.invariant-loop-caller
invariant-loop-caller l = l.lines.items ≡ map (claimed_line_at l.done l.counts l.ends) (range_with_len 0 l.caller)
