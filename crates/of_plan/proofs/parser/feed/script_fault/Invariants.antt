use Rattle.std.proofs.Common.{◌≡◌, ◌-◌, List, length}
use Rattle.of_script.specs.declared.instr.Instr.{Instr}
use Rattle.of_script.specs.declared.instr.TheConstants.{MOST_INSTRS}
use Rattle.of_script.specs.Text.{EndsWith}
use Rattle.of_script.proofs.InOnePass.{IsAhead}
use Rattle.of_plan.proofs.parser.feed.script_fault.Given as goal

-- the instructions so far
abbrev pub invariant-loop-mark : goal.invariant-loop-mark
invariant-loop-mark l = record {
  script : List Instr;
  ahead : IsAhead l.bytes l.rest script;
  count : length script ≡ l.count;
  ends : EndsWith l.bytes l.rest;
}

abbrev pub decreases-loop-mark : goal.decreases-loop-mark
decreases-loop-mark l = MOST_INSTRS - l.count
