use Rattle.std.proofs.Common.{◌≡◌, drop, length}
use Rattle.of_script.specs.declared.instr.TheConstants.{MOST_INSTRS}
use Rattle.of_eval.specs.Reading.{marked_in}
use Rattle.of_c.specs.Replies.{given_flag, given_number}
use Rattle.of_c.proofs.Marked.{ShowsFirst}
use Rattle.of_c.proofs.reply.write_marked.Given as goal

-- what is written so far, and which marks are left
abbrev pub invariant-loop-place : goal.invariant-loop-place
invariant-loop-place l = record {
  given : ShowsFirst given_flag l.place (marked_in l.marks l.cells) l.given;
  numbers : ShowsFirst given_number l.place (marked_in l.marks l.cells) l.numbers;
  width : (length l.given ≡ MOST_INSTRS) × (length l.numbers ≡ MOST_INSTRS);
  left : marked_in l.rest (drop l.place l.cells) ≡ drop l.place (marked_in l.marks l.cells);
}
