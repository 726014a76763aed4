use Rattle.of_cells.specs.Memories.{IsCellMemory}
use Rattle.example_accounts.specs.Meaning.{accounts_meaning}
use Rattle.example_accounts.proofs.meter.visit.Given as goal

abbrev pub invariant-loop : goal.invariant-loop
invariant-loop g l = IsCellMemory accounts_meaning l.memory
