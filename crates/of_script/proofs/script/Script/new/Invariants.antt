use Rattle.std.proofs.Common.{◌≡◌, ◌-◌, length, take, drop, replicate}
use Rattle.of_script.specs.declared.instr.TheConstants.{MOST_INSTRS}
use Rattle.of_script.specs.Script.{padding_instr}
use Rattle.of_script.proofs.script.Script.new.Given as goal

-- the instructions so far, and the places past them
abbrev pub invariant-loop-i : goal.invariant-loop-i
invariant-loop-i l = record {
  same : take l.i l.all ≡ take l.i l.instrs;
  room : length l.all ≡ MOST_INSTRS;
  rest : drop l.i l.all ≡ replicate (MOST_INSTRS - l.i) padding_instr;
}
