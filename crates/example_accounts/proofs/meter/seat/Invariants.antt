use Rattle.std.specs.List.{All}
use Rattle.of_cells.specs.Handles.{IsCellHandle}
use Rattle.of_cells.specs.Memories.{IsCellMemory}
use Rattle.example_accounts.specs.Meaning.{accounts_meaning}
use Rattle.example_accounts.proofs.meter.seat.Given as goal

abbrev pub invariant-loop-number : goal.invariant-loop-number
invariant-loop-number l = record {
  memory : IsCellMemory accounts_meaning l.memory;
  handles : All (IsCellHandle accounts_meaning) l.handles.items;
}
