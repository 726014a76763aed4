use Rattle.std.proofs.Common.{◌≡◌, [], map, replicate}
use Rattle.of_plan.proofs.parser.step.no_scripts.Given as goal

abbrev pub invariant-loop : goal.invariant-loop
invariant-loop l = map (λ scripts. scripts.items) l.all.items ≡ replicate l.counter []
