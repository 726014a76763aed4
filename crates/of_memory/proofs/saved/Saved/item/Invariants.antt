use Rattle.of_memory.proofs.Chains.{LeadsIn, HasItemOf}
use Rattle.of_memory.proofs.saved.Saved.item.Given as goal

-- the rest of the chain tells the item
abbrev pub invariant-loop-passed : goal.invariant-loop-passed
invariant-loop-passed l = record {
  leads : LeadsIn l.self (HasItemOf l.self l.q l.at l.passed) l.cell l.passed;
}
