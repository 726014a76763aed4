use Rattle.std.proofs.Common.{◌≡◌, map, replicate, None}
use Rattle.std.specs.List.{range_with_len}
use Rattle.of_plan.specs.Generated.{load_scripts}
use Rattle.of_plan.proofs.plan.load.generate.Given as goal

-- the callers so far
abbrev pub invariant-loop-caller : goal.invariant-loop-caller
invariant-loop-caller l = record {
  scripts : map (λ v. v.items) l.all.items ≡ map (load_scripts l.scripts) (range_with_len 0 l.caller);
  stops : l.stops.items ≡ replicate l.caller None;
}
