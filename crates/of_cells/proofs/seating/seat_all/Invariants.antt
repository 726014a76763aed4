use Rattle.std.proofs.Common.{◌≡◌, length}
use Rattle.of_cells.specs.Serving.{IsNew, Enrols, AllStand}
use Rattle.of_cells.proofs.seating.seat_all.Given as goal

abbrev pub invariant-loop-number : goal.invariant-loop-number
invariant-loop-number g l = record {
  pass : Enrols l.row l.number l.pass;
  long : length l.callers.items ≡ l.number;
  new : AllStand (IsNew g.W.Work.meaning l.row) l.number l.callers.items;
}
