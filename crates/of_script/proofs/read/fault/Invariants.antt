use Rattle.std.proofs.Common.{◌≡◌, List, length}
use Rattle.of_script.specs.declared.instr.Instr.{Instr}
use Rattle.of_script.proofs.ByPieces.{IsRead}
use Rattle.of_script.proofs.read.fault.Given as goal

-- the pieces so far are instructions
abbrev pub invariant-loop-at : goal.invariant-loop-at
invariant-loop-at l = (is : List Instr) × (length is ≡ l.at) × IsRead l.text l.rest is
