use Rattle.std.proofs.Common.{◌≡◌, ℕ, List}
use Rattle.of_mem.specs.Plots.{base}
use Rattle.of_eval.specs.Faults.{pointer_cell}
use Rattle.of_eval.specs.Walking.{HasWalked, unmet_count}
use Rattle.of_eval.proofs.lawful_cells.walk.free_list.Given as goal

abbrev pub invariant-loop-block : goal.invariant-loop-block
invariant-loop-block l = (chains : ℕ → List ℕ) × HasWalked l.plot l.cells 0 0 chains l.owners × (l.cell ≡ pointer_cell (base l.plot) l.plot.blocks 0 chains)

abbrev pub decreases-loop-block : goal.decreases-loop-block
decreases-loop-block l = unmet_count l.owners
