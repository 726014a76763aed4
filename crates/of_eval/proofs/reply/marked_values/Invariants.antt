use Rattle.std.proofs.Common.{◌≡◌, ◌++◌, ◌<◌, ◌-◌, ◌^◌, ◌≤◌, take, drop, length, get_or, None, ℕ}
use Rattle.of_store.specs.Replies.{IsSmall}
use Rattle.of_eval.specs.Reading.{marked_in}
use Rattle.of_eval.proofs.reply.marked_values.Given as goal
use Rattle.of_script.specs.declared.instr.TheConstants.{MOST_INSTRS}

abbrev pub invariant-loop-i : goal.invariant-loop-i
invariant-loop-i l = record {
  read : take l.i l.values ++ marked_in l.rest (drop l.i l.cells) ≡ marked_in l.mask l.cells;
  rest : l.rest < 2 ^ (l.len - l.i);
  width : length l.values ≡ MOST_INSTRS;
  past : (k : ℕ) → l.i ≤ k → get_or l.values k None ≡ None;
  small : (k : ℕ) → IsSmall (get_or l.values k None);
}
