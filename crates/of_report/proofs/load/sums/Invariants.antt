use Rattle.std.proofs.Common.{◌≡◌, ◌≤◌, ◌*◌, length, map}
use Rattle.std.specs.Prelude.{sum_by}
use Rattle.std.specs.Map.Iter.{deref_pair}
use Rattle.of_report.proofs.load.sums.Given as goal

-- the sum so far
abbrev pub invariant-loop-value : goal.invariant-loop-value
invariant-loop-value l = record {
  sum : l.sum ≡ sum_by (λ e. e.1) (map deref_pair l.yielded);
  bound : l.sum ≤ 4294967295 * length l.yielded;
}
