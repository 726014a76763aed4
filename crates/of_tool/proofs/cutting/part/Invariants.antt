use Rattle.std.proofs.Common.{ℕ, ◌-◌, ◌+◌, ◌≤◌, List}
use Rattle.of_tool.specs.Cutting.{IsPart}
use Rattle.of_tool.proofs.cutting.part.Given as goal

-- a part of what is left is one of the text
abbrev pub invariant-loop : goal.invariant-loop
invariant-loop l = record {
  counted : 1 ≤ l.counter;
  parts : (part : List ℕ) → IsPart (l.number + 1 - l.counter) l.rest part → IsPart l.number l.text part;
}
