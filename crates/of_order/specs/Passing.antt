-- How far the walk to the least key that is at least `low` came.
use Rattle.std.specs.Prelude.{◌≡◌, ◌+◌, ℕ, Option, Some, None, Result, MatchResult}
use Rattle.of_mem.specs.declared.part.Need.{Need}
use Rattle.of_mem.specs.declared.plot.Plot.{Plot}
use Rattle.of_mem.specs.declared.walk.Sought.TheVariants.{LeastFrom}
use Rattle.of_mem.specs.declared.walk.Walk.{Walk}
use Rattle.of_mem.specs.Part.{Part}
use Rattle.of_mem.specs.Plots.{base}
use Rattle.of_mem.specs.Programs.{NeedsAt}
use Rattle.of_mem.specs.Walks.{WeighsBuckets, HasCome}
use Rattle.of_order.specs.OrderPrograms.{least}

-- `best` is the least key, of those that are at least `low`, in the walk's bucket and in the
-- buckets before it
abbrev pub HasWeighed : Plot → ℕ → Part → Walk → Option ℕ → Type 0
HasWeighed plot low p start best =
    WeighsBuckets (base plot) plot.blocks low p (start.bucket + 1) best

-- The walk `here` has tried to pass one more block. If the result is None, its bucket has no more
-- blocks, and the walk's best key is the least one of this bucket and the buckets before. If it is
-- `Some next`, then `next` is the walk after one more block of the same bucket.
abbrev pub IsPast : Plot → ℕ → Part → Walk → Option Walk → Type 0
IsPast plot low p here None = HasWeighed plot low p here here.best
IsPast plot low p here (Some next) =
    HasCome plot (LeastFrom low) p next
    × (next.bucket ≡ here.bucket) × (next.passed ≡ here.passed + 1)

-- the walk passed one block, or its bucket has no more, or the error names the cell that the
-- program needs and that is not known
abbrev pub PassesBlock : Plot → ℕ → Part → Walk → Result (Option Walk) Need → Type 0
PassesBlock plot low p here result =
    MatchResult result (IsPast plot low p here) (λ need. NeedsAt (least plot low) p need.addr)

abbrev pub PassesBucket : Plot → ℕ → Part → Walk → Result (Option ℕ) Need → Type 0
PassesBucket plot low p start result =
    MatchResult result (HasWeighed plot low p start) (λ need. NeedsAt (least plot low) p need.addr)
