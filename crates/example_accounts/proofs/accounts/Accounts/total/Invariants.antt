use Rattle.std.proofs.Common.{◌≡◌, ◌≤◌, ◌*◌}
use Rattle.of_mem.specs.ProgramWork.{memory_of}
use Rattle.example_accounts.specs.Accounts.{total_of}
use Rattle.example_accounts.proofs.accounts.Accounts.total.Given as goal

abbrev pub invariant-loop-account : goal.invariant-loop-account
invariant-loop-account l = (l.total ≡ total_of l.self (memory_of l.cells) l.account) × (l.total ≤ l.account * 4294967296)
