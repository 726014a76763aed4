-- How far dropping the keys below `low` came: which keys are gone already. The cell that counts the
-- keys still counts the keys that are gone.
use Rattle.std.specs.Prelude.{◌≡◌, ℕ, ◌+◌, ◌%◌, ◌<◌, ◌≤◌, List, ◌++◌, length, Some, None}
use Rattle.std.specs.List.{AllByRecursion as Each}
use Rattle.std.specs.FinMap as fin
use Rattle.of_mem.specs.declared.plot.Plot.{Plot}
use Rattle.of_mem.specs.Places.{bucket_count, keys_at}
use Rattle.of_mem.specs.Plots.{base, data_cell_count}
use Rattle.of_mem.specs.Part.{Part, newest_at}
use Rattle.of_mem.specs.Programs.{with_value, IsPartOf}
use Rattle.of_mem.specs.Stores.{CellStore, StandsForStore, front_at, first_at, cell_after}

-- From the store `first` to the store s, `gone` keys below `low` were dropped. All keys from `low`
-- on are still there with their values, and nothing else changed.
pub record HasFewerKeys (low : ℕ) (first s : CellStore) (gone : ℕ) : Type 0 where
  pub stays : (key : ℕ) → low ≤ key → fin.get s.map key ≡ fin.get first.map key
  pub others : s ≡ record first { map = s.map }
  pub count : fin.len s.map + gone ≡ fin.len first.map

-- The buckets before bucket i have no key below `low` any more. The cells stand for the store
-- without the dropped keys, except that the cell that counts the keys still has the count from
-- before the dropping.
pub record IsBetweenBuckets (o blocks low i : ℕ) (first : CellStore) (m : ℕ → ℕ) (gone : ℕ)
    : Type 0 where
  pub store : CellStore
  pub stands : StandsForStore o blocks (with_value m (keys_at o) (fin.len store.map)) store
  pub fewer : HasFewerKeys low first store gone
  pub counted : m (keys_at o) ≡ fin.len first.map
  pub few : fin.len first.map ≤ blocks
  pub cleared : (key : ℕ) → key < low → key % bucket_count blocks < i
      → fin.get store.map key ≡ None

-- The keys of the blocks of bucket i before this pointer cell are not below `low`, and the blocks
-- of the last argument come after the cell. The cell holds `pointer`. The buckets before are as
-- `IsBetweenBuckets` says.
pub record IsInsideBucket (o blocks low i : ℕ) (first : CellStore) (m : ℕ → ℕ)
    (cell pointer gone : ℕ) (behind : List ℕ) : Type 0 where
  pub state : IsBetweenBuckets o blocks low i first m gone
  pub before : List ℕ
  pub split : state.stands.chains (1 + i) ≡ before ++ behind
  pub place : cell ≡ cell_after o (front_at o blocks (1 + i)) before
  pub points : pointer ≡ m cell
  pub passed : Each (λ b. low ≤ m (first_at o b)) before

-- the partial memory agrees with some memory in which the dropping came to bucket i
pub record IsDropping (plot : Plot) (p : Part) (low i gone : ℕ) : Type 0 where
  pub fits : length p.known ≡ data_cell_count plot
  pub memory : ℕ → ℕ
  pub first : CellStore
  pub part : IsPartOf p memory
  pub state : IsBetweenBuckets (base plot) plot.blocks low i first memory gone

-- the cell that counts the keys, if it is known, holds at least the number of keys that are gone
pub record IsDropped (plot : Plot) (p : Part) (gone : ℕ) : Type 0 where
  pub fits : length p.known ≡ data_cell_count plot
  pub keys : (k : ℕ) → newest_at p (keys_at (base plot)) ≡ Some k → gone ≤ k
