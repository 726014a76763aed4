use Rattle.of_eval.specs.Walking.{HasRegisters}
use Rattle.of_eval.proofs.lawful_cells.fill.begun_store.Given as goal

abbrev pub invariant-loop-r : goal.invariant-loop-r
invariant-loop-r l = HasRegisters l.plot l.cells l.r l.store
