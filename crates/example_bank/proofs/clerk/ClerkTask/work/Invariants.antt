use Rattle.std.proofs.Common.{◌≡◌, [], None}
use Rattle.of_memory.specs.Handles.{IsHandle, IsSame, HasMade, HasCallOpen}
use Rattle.example_bank.specs.Clerks.{counted, HasWorked}
use Rattle.example_bank.proofs.clerk.ClerkTask.work.Given as goal

-- unless it has ended early, it has counted all before this one
abbrev pub invariant-loop : goal.invariant-loop
invariant-loop l = record {
  handle : IsHandle l.handle;
  same : IsSame l.fn.handle l.handle;
  job : l.self.job ≡ l.fn.self.job;
  at : l.self.end ≡ None → counted l.self ≡ l.counter;
  worked : HasMade l.fn.handle [] → (HasCallOpen l.fn.handle → ⊥) → HasWorked l.fn.self l.self l.handle;
}
