use Rattle.of_cells.specs.Serving.{AllHere}
use Rattle.of_cells.proofs.seating.all_here.Given as goal

abbrev pub invariant-loop-i : goal.invariant-loop-i
invariant-loop-i g l = AllHere l.callers l.i
