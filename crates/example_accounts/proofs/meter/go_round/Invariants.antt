use Rattle.std.proofs.Common.{◌≡◌}
use Rattle.of_cells.specs.Handles.{IsCellHandle, home_of}
use Rattle.example_accounts.specs.Meaning.{accounts_meaning}
use Rattle.example_accounts.proofs.meter.go_round.Given as goal

abbrev pub invariant-loop : goal.invariant-loop
invariant-loop l = record {
  handle : IsCellHandle accounts_meaning l.handle;
  home : home_of l.handle ≡ home_of l.fn.handle;
}
