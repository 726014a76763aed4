use Rattle.std.proofs.Common.{◌≡◌, ℕ, ◌<◌, get_or}
use Rattle.of_mem.proofs.write_set.WriteSet.has_entries_of.Given as goal

abbrev pub invariant-loop-place : goal.invariant-loop-place
invariant-loop-place l = record {
  same : (k : ℕ) → k < l.place → get_or l.self.entries k (0, 0) ≡ get_or l.other.entries k (0, 0);
}
