use Rattle.std.proofs.Common.{◌≤◌, length}
use Rattle.of_plan.proofs.InputParts.{IsBehind}
use Rattle.of_plan.proofs.split_input.parts.Given as goal

-- the lines that were passed are no end lines
abbrev pub invariant-loop-more : goal.invariant-loop-more
invariant-loop-more l = record { behind : IsBehind l.text l.rest; within : length l.rest ≤ length l.text }

abbrev pub decreases-loop-more : goal.decreases-loop-more
decreases-loop-more l = length l.rest
