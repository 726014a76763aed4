use Rattle.std.proofs.Common.{◌≡◌, ℕ, List}
use Rattle.of_mem.specs.Plots.{base}
use Rattle.of_mem.specs.Stores.{queue_chain, last_pointer}
use Rattle.of_eval.specs.Faults.{pointer_cell}
use Rattle.of_eval.specs.Walking.{HasWalked, HoldsWhatWasMet, unmet_count}
use Rattle.of_eval.proofs.lawful_cells.walk.queue.Given as goal

abbrev pub invariant-loop-block : goal.invariant-loop-block
invariant-loop-block l = (chains : ℕ → List ℕ) × HasWalked l.plot l.cells (queue_chain l.plot.blocks l.q) (queue_chain l.plot.blocks l.q) chains l.owners × HoldsWhatWasMet l.plot l.cells chains l.store × (l.cell ≡ pointer_cell (base l.plot) l.plot.blocks (queue_chain l.plot.blocks l.q) chains) × (l.last ≡ last_pointer 0 (chains (queue_chain l.plot.blocks l.q)))

abbrev pub decreases-loop-block : goal.decreases-loop-block
decreases-loop-block l = unmet_count l.owners
