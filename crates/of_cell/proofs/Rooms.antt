-- How much room a log has.
use Rattle.std.proofs.Common.{◌≡◌, ℕ, ◌+◌, ◌*◌, ◌<◌, ◌≤◌, min, ◌⊎◌, inl, inr, arith}
use Rattle.std.proofs.Math.Nat.{min-le_left, min-le_right, min-eq_left, min-eq_right}
use Rattle.std.proofs.lemmas.Bool.{cases_lt}
use Rattle.of_cell.specs.Cells.{log_room, durable_cells}

-- no more than there are data cells
pub room_upto : (n m : ℕ) → log_room n m ≤ m
unfolding log_room
room_upto n m = min-le_left m (4096 + n * 256)

pub room_few : (n m : ℕ) → log_room n m ≤ 4096 + n * 256
unfolding log_room
room_few n m = min-le_right m (4096 + n * 256)

-- a log of a small table has room for each data cell
pub room_whole : (n m : ℕ) → m ≤ 4096 → log_room n m ≡ m
unfolding log_room
room_whole n m l = min-eq_left (omega (arith, l))

-- there is room for each data cell, or for the shares of all callers
pub room_share : (n m : ℕ) → (log_room n m ≡ m) ⊎ (4096 + n * 256 ≤ log_room n m)
unfolding log_room
room_share n m = go (cases_lt (4096 + n * 256) m)
  where
    go : (4096 + n * 256 < m) ⊎ (m ≤ 4096 + n * 256) → (min m (4096 + n * 256) ≡ m) ⊎ (4096 + n * 256 ≤ min m (4096 + n * 256))
    go (inl l) = inr (omega (arith, min-eq_right {n = 4096 + n * 256} {m = m} (omega (arith, l))))
    go (inr l) = inl (min-eq_left l)

few_rows : (n k : ℕ) → n ≤ 64 → n * k ≤ 64 * k
few_rows n k l = grind arith

-- so the cells of the largest tables have numbers of 32 bits, and their durable words places
pub cells_small : (n m : ℕ) → n ≤ 64 → m ≤ 134217728 → durable_cells n m ≤ 136839297
cells_small n m l k = omega (arith, few_rows n (2 * log_room n m + 1) l, room_few n m, l, k)
