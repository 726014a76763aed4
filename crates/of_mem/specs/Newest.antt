-- The newest number of each cell, kept next to the known numbers and the writes from which it
-- follows.
use Rattle.std.specs.Prelude.{◌≡◌, ℕ, ◌<◌, List, length, Option, None}
use Rattle.std.proofs.Common.{get_or}
use Rattle.of_mem.specs.Part.{Part, newest_at}
use Rattle.of_mem.specs.TouchedCells.{TouchedCells}
use Rattle.of_mem.specs.WriteSet.{WriteSet}

-- `cells` has for each cell the newest number that is known of it, or None
pub record HasNewest (p : Part) (cells : List (Option ℕ)) : Type 0 where
  pub size : length cells ≡ length p.known
  pub at : (a : ℕ) → a < length p.known → get_or cells a None ≡ newest_at p a

-- the partial memory made of the known cells, the batch's writes and the script's writes
abbrev pub part_of : TouchedCells → (batch script : WriteSet) → Part
part_of c b s = record { known = c.known; batch = b.entries; script = s.entries }

-- The newest number of each cell is right, given the writes of batch and script. Both write-sets
-- have room for all cells.
pub record HoldsNewest (c : TouchedCells) (b s : WriteSet) : Type 0 where
  pub batch : b.room ≡ length c.known
  pub script : s.room ≡ length c.known
  pub newest : HasNewest (part_of c b s) c.newest
