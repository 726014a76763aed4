use Rattle.std.proofs.Common.{◌≡◌, ◌++◌, replicate}
use Rattle.of_plan.proofs.pointing.put_times.Given as goal

-- so many are written
abbrev pub invariant-loop : goal.invariant-loop
invariant-loop l = l.out.items ≡ l.initial.out.items ++ replicate l.counter l.byte
