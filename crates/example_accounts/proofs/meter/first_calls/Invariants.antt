use Rattle.of_cells.specs.Memories.{IsCellMemory}
use Rattle.example_accounts.specs.Meaning.{accounts_meaning}
use Rattle.example_accounts.proofs.meter.first_calls.Given as goal

abbrev pub invariant-loop-number : goal.invariant-loop-number
invariant-loop-number g l = IsCellMemory accounts_meaning l.memory
