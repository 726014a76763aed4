use Rattle.std.proofs.Common.{◌≡◌, ℕ, ◌+◌, ◌*◌, ◌^◌, ◌≤◌, take, length, map, get_or}
use Rattle.of_eval.specs.Shapes.{mask_of, abort_part}
use Rattle.of_eval.proofs.Noted.{number}
use Rattle.of_eval.proofs.reply.reply_cells.Given as goal
use Rattle.of_script.specs.declared.instr.TheConstants.{MOST_INSTRS}

abbrev pub invariant-loop-i : goal.invariant-loop-i
invariant-loop-i l = record {
  shape : l.shape ≡ mask_of (take l.i l.reply.values) + l.reply.len * 2 ^ 16 + abort_part l.reply.abort;
  numbers : take l.i l.values ≡ map number (take l.i l.reply.values);
  width : length l.values ≡ MOST_INSTRS;
  rest : (k : ℕ) → l.i ≤ k → get_or l.values k 0 ≡ 0;
}
