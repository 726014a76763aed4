use Rattle.std.proofs.Common.{◌≡◌, ◌+◌, ◌-◌}
use Rattle.of_core.specs.Steps.{first_marked_place}
use Rattle.of_core.proofs.machine.logs.first_mark.Given as goal

abbrev pub invariant-loop-j : goal.invariant-loop-j
invariant-loop-j l = first_marked_place l.shape l.from l.many ≡ first_marked_place l.shape l.j (l.from + l.many - l.j)
