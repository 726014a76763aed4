use Rattle.example_accounts.specs.Days.{HasWorked}
use Rattle.example_accounts.proofs.teller.Teller.work.Given as goal

abbrev pub invariant-loop : goal.invariant-loop
invariant-loop l = HasWorked l.fn.self l.self
