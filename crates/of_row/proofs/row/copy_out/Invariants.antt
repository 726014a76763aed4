use Rattle.std.proofs.Common.{◌≡◌, ℕ, ◌+◌, ◌<◌, ◌≤◌, length, get_or}
use Rattle.std.specs.Vec.{vec_capacity}
use mathlib.Core.Option.{some}
use lib.ListN.{get_elem?}
use Rattle.std.specs.Slots.{slots_items}
use Rattle.of_row.proofs.row.copy_out.Given as goal

-- the first i words of the part are handed out, and there is room for the others
abbrev pub invariant-loop-i : goal.invariant-loop-i
invariant-loop-i l = record {
  long : length l.room.items ≡ l.i;
  within : l.i ≤ l.count;
  fits : l.count ≤ vec_capacity l.room;
  same : (k : ℕ) → k < l.i → get_elem? (slots_items l.closed.words) (l.first + k) ≡ some (get_or l.room.items k 0);
}
