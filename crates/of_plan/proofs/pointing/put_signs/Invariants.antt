use Rattle.std.proofs.Common.{◌≡◌, ◌++◌, drop, map}
use Rattle.of_plan.specs.Pointed.{sign}
use Rattle.of_plan.proofs.pointing.put_signs.Given as goal

-- what was written, and what is left
abbrev pub invariant-loop-byte : goal.invariant-loop-byte
invariant-loop-byte l = l.out.items ++ map sign (drop l.byte-index l.bytes) ≡ l.initial.out.items ++ map sign l.bytes
