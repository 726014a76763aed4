use Rattle.std.proofs.Common.{◌≡◌, ◌≢◌, ℕ, ◌<◌, ◌≤◌, ◌-◌, ◌%◌, length}
use Rattle.of_mem.specs.declared.index.TheConstants.{HOMES}
use Rattle.of_mem.specs.CellMap.{entry_address}
use Rattle.of_mem.specs.Chains.{pairs_of}
use Rattle.of_mem.proofs.index.follow.Given as goal

abbrev pub invariant-loop-at : goal.invariant-loop-at
invariant-loop-at l = record {
  few : l.at ≤ length l.entries;
  home : l.at ≢ 0 → entry_address (pairs_of l.entries) (l.at - 1) % HOMES ≡ l.addr % HOMES;
  unmet : (k : ℕ) → l.at ≤ k → k < length (pairs_of l.entries) → entry_address (pairs_of l.entries) k ≢ l.addr;
}

abbrev pub decreases-loop-at : goal.decreases-loop-at
decreases-loop-at l = l.at
