use Rattle.std.proofs.Common.{◌≡◌}
use Rattle.of_plan.specs.Generated.{load_scripts}
use Rattle.of_plan.proofs.plan.load.load_scripts.Given as goal

-- the scripts so far
abbrev pub invariant-loop-index : goal.invariant-loop-index
invariant-loop-index l = l.scripts.items ≡ load_scripts l.index l.caller
