use Rattle.of_map.proofs.WalkingOn.{HasWalked}
use Rattle.of_map.proofs.seek.Given as goal

abbrev pub invariant-loop-passed : goal.invariant-loop-passed
invariant-loop-passed g l = HasWalked l.plot l.key (g.C.Cells.run l.fn.cells) (g.C.Cells.run l.cells) l.passed l.cell
