use Rattle.std.proofs.Common.{◌≡◌, ◌++◌, ◌≤◌, ◌<◌, ◌+◌, ℕ, [], map, reverse, length}
use Rattle.of_mem.specs.declared.work.TheConstants.{MOST_CALLERS}
use Rattle.of_cells.specs.Memories.{IsCellMemory, IsStill, HasMadeOf}
use Rattle.example_accounts.specs.Meaning.{accounts_meaning}
use Rattle.example_accounts.specs.Days.{AreSeated, job_of_teller}
use Rattle.example_accounts.proofs.day.seat_all.Given as goal

abbrev pub decreases-loop-job : goal.decreases-loop-job
decreases-loop-job l = length l.jobs.items

abbrev pub invariant-loop-job : goal.invariant-loop-job
invariant-loop-job l = record {
  memory : IsCellMemory accounts_meaning l.memory;
  still : IsStill l.fn.memory l.memory;
  few : length l.jobs.items ≤ MOST_CALLERS;
  count : length l.jobs.items + length l.tellers.items ≡ length l.fn.jobs.items;
  none : (n : ℕ) → n < length l.jobs.items → HasMadeOf l.memory n [];
  tellers : AreSeated l.memory (length l.fn.jobs.items) l.tellers.items;
  jobs : l.fn.jobs.items ≡ l.jobs.items ++ reverse (map job_of_teller l.tellers.items);
}
