-- Write-sets: the addresses that were written, and their numbers.
use Rattle.std.specs.Prelude.{◌≡◌, ℕ, ◌<◌, ◌≤◌, List, length}
use Rattle.of_mem.specs.CellMap.{entry_address}
use Rattle.of_mem.specs.Numbers.{FitsCell}

pub record WriteSet : Type 0 where
  -- each address is below this
  pub room : ℕ
  -- each address and its number, in order of first writing
  pub entries : List (ℕ × ℕ)

-- no address is in two entries, and each address is below the room
pub record IsWriteSet (p : WriteSet) : Type 0 where
  pub once : (j k : ℕ) → j < length p.entries → k < length p.entries
      → entry_address p.entries j ≡ entry_address p.entries k → j ≡ k
  pub below : (k : ℕ) → k < length p.entries → entry_address p.entries k < p.room
  pub few : length p.entries ≤ p.room
  pub room : FitsCell p.room
