use Rattle.std.proofs.Common.{◌≡◌, ◌++◌, ◌+◌, map, reverse, length}
use Rattle.of_cells.specs.Memories.{IsCellMemory, IsStill}
use Rattle.example_accounts.specs.Meaning.{accounts_meaning}
use Rattle.example_accounts.specs.Days.{AreSeated, AreLogged, job_of, job_of_teller}
use Rattle.example_accounts.proofs.day.gather.Given as goal

abbrev pub decreases-loop-teller : goal.decreases-loop-teller
decreases-loop-teller l = length l.tellers.items

abbrev pub invariant-loop-teller : goal.invariant-loop-teller
invariant-loop-teller l = record {
  memory : IsCellMemory accounts_meaning l.memory;
  still : IsStill l.fn.memory l.memory;
  count : length l.tellers.items + length l.logs.items ≡ length l.fn.tellers.items;
  tellers : AreSeated l.memory (length l.fn.tellers.items) l.tellers.items;
  logs : AreLogged l.memory l.logs.items;
  jobs : map job_of_teller l.fn.tellers.items ≡ map job_of_teller l.tellers.items ++ reverse (map job_of l.logs.items);
}
