use Rattle.std.proofs.Common.{◌≡◌, ℕ, ◌+◌, ◌*◌, ◌^◌, ◌≤◌, take, length, map, get_or, set}
use Rattle.of_eval.specs.Shapes.{mask_of}
use Rattle.of_eval.proofs.Noted.{number}
use Rattle.of_eval.proofs.reply.answers_in_cells.Given as goal
use Rattle.of_script.specs.declared.instr.TheConstants.{MOST_INSTRS}

abbrev pub invariant-loop-i : goal.invariant-loop-i
invariant-loop-i l = record {
  shape : l.out.shape ≡ mask_of (take l.i (set l.fn.kept.values l.fn.kept.done l.fn.last)) + (l.fn.kept.done + 1) * 2 ^ 16;
  numbers : take l.i l.out.values ≡ map number (take l.i (set l.fn.kept.values l.fn.kept.done l.fn.last));
  width : length l.out.values ≡ MOST_INSTRS;
  rest : (k : ℕ) → l.i ≤ k → get_or l.out.values k 0 ≡ 0;
}
