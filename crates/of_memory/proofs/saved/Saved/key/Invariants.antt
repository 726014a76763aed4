use Rattle.of_memory.proofs.Chains.{LeadsIn, HasValueOf}
use Rattle.of_memory.proofs.saved.Saved.key.Given as goal

-- the rest of the chain tells the value of the key
abbrev pub invariant-loop-passed : goal.invariant-loop-passed
invariant-loop-passed l = record {
  leads : LeadsIn l.self (HasValueOf l.self l.key) l.cell l.passed;
}
