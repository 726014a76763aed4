use Rattle.std.proofs.Common.{◌+◌}
use Rattle.of_eval.specs.Walking.{IsBeforeChain}
use Rattle.of_eval.proofs.lawful_cells.read_store.Given as goal
use Rattle.of_mem.specs.Stores.{queue_chain}

abbrev pub invariant-loop-b : goal.invariant-loop-b
invariant-loop-b l = IsBeforeChain l.plot l.cells (1 + l.b) 0 l.owners.items l.store

abbrev pub invariant-loop-q : goal.invariant-loop-q
invariant-loop-q l = IsBeforeChain l.plot l.cells (queue_chain l.plot.blocks l.q) (queue_chain l.plot.blocks l.q) l.owners.items l.store
