use Rattle.std.proofs.Common.{◌≡◌, ℕ, ◌<◌, length, get_or}
use Rattle.of_mem.specs.Places.{reply_at}
use Rattle.of_mem.specs.declared.work.TheConstants.{MOST_INSTRS}
use Rattle.of_cells.specs.Saving.{saved_cells}
use Rattle.of_cells.proofs.saved.SavedCells.reply.Given as goal

-- the numbers so far
abbrev pub invariant-loop-place : goal.invariant-loop-place
invariant-loop-place g l = record {
  long : length l.values ≡ MOST_INSTRS;
  each : (k : ℕ) → k < l.place → get_or l.values k 0 ≡ get_or (saved_cells l.self) (reply_at MOST_INSTRS l.number k) 0;
}
