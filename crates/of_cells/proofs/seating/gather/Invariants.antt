use Rattle.std.proofs.Common.{◌≡◌, ◌≤◌, ℕ, length, get_or, None, true}
use Rattle.of_row.specs.Rows.{IsSeatOf}
use Rattle.of_cells.specs.Serving.{KeepsThose, KnowsPasts}
use Rattle.of_cells.proofs.seating.gather.Given as goal

abbrev pub invariant-loop-number : goal.invariant-loop-number
invariant-loop-number g l = record {
  pass : IsSeatOf l.row l.pass.seat;
  first : l.pass.seat.me.0.first ≡ true;
  long : length l.callers.items ≡ length l.fn.callers.items;
  rest : (n : ℕ) → l.number ≤ n → get_or l.callers.items n None ≡ get_or l.fn.callers.items n None;
  kept : KeepsThose l.fn.callers.items l.number l.pass.seat.me.0.kept;
  pasts : KnowsPasts l.fn.callers.items l.number l.pass.seat.me.0.past;
}
