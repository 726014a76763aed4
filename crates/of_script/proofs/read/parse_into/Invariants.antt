use Rattle.std.proofs.Common.{◌-◌, length}
use Rattle.of_script.specs.declared.instr.TheConstants.{MOST_INSTRS}
use Rattle.of_script.proofs.InOnePass.{IsAhead}
use Rattle.of_script.proofs.read.parse_into.Given as goal

-- the instructions so far
abbrev pub invariant-loop-mark : goal.invariant-loop-mark
invariant-loop-mark l = IsAhead l.text l.rest l.script

abbrev pub decreases-loop-mark : goal.decreases-loop-mark
decreases-loop-mark l = MOST_INSTRS - length l.script
