-- Renumbering: a recovered row is changed so that sequences begin at 0 again.
use Rattle.std.specs.Prelude.{◌≡◌, ℕ, ◌-◌, ◌<◌, ◌≤◌, ◌⊎◌, false, if◌then◌else◌, List, length, map, slice_index}
use Rattle.std.specs.List.{range_with_len}
use Rattle.of_cell.specs.Words.{pack, seq_of, payload_of}
use Rattle.of_cell.specs.Cells.{data_cell}
use Rattle.of_recover.specs.Row.{IsDurableRow, current_seq, current_owner}
use Rattle.of_recover.specs.Recovered.{is_data, recovered_words}

-- the word of cell c after renumbering: a data cell has its number with sequence 0, and every other
-- cell is 0
abbrev pub renumbered_word : (callers cells : ℕ) → (ℕ → ℕ) → (c : ℕ) → ℕ
renumbered_word callers cells row c =
    if is_data callers cells c then pack 0 (payload_of (row c)) else 0

-- the row after renumbering, as a list of words
unfoldable pub renumbered_words : (callers cells : ℕ) → List ℕ → List ℕ
renumbered_words callers cells words =
    map (renumbered_word callers cells (slice_index words)) (range_with_len 0 (length words))

-- The row `new` has the numbers that the data cells have in `old`, with sequence 0, and 0 in all
-- other cells. Recovery changes nothing in it.
pub record BeginsAnew (callers cells : ℕ) (old new : List ℕ) : Type 0 where
  pub size : IsDurableRow callers cells new
  pub seq : current_seq (slice_index new) ≡ 0
  pub owner : current_owner (slice_index new) ≡ 0
  -- a recovery of the row changes nothing
  pub settled : recovered_words callers cells new ≡ new
  pub numbers : (addr : ℕ) → addr < cells
      → slice_index new (data_cell callers addr)
      ≡ pack 0 (payload_of (slice_index old (data_cell callers addr)))
  pub others : (c : ℕ) → c < length old → is_data callers cells c ≡ false → slice_index new c ≡ 0

-- The writes that a renumbering makes, in order: from the last cell down to the current-transaction
-- word, which is cell 0.
unfoldable pub renumbering_writes : (callers cells : ℕ) → List ℕ → List (ℕ × ℕ)
renumbering_writes callers cells words =
    let last : ℕ = length words - 1 in
    map (λ j. (last - j, renumbered_word callers cells (slice_index words) (last - j)))
    (range_with_len 0 (length words))

-- What is true of the row `new` if a renumbering of `old` has stopped after some of its writes. Its
-- data cells have the numbers that they have in `old`, and recovery changes nothing in it. A second
-- renumbering leaves the same row as one that has not stopped.
pub record BeginsAnewPartly (callers cells : ℕ) (old new : List ℕ) : Type 0 where
  pub size : IsDurableRow callers cells new
  -- a recovery of the row changes nothing
  pub settled : recovered_words callers cells new ≡ new
  pub numbers : (addr : ℕ) → addr < cells
      → payload_of (slice_index new (data_cell callers addr))
      ≡ payload_of (slice_index old (data_cell callers addr))
  -- the current-transaction word is as in `old`, or it is 0
  pub current : (slice_index new 0 ≡ slice_index old 0) ⊎ (slice_index new 0 ≡ 0)
  -- if no data cell of `old` is newer than the current transaction, then none of `new` is
  pub none_newer : ((addr : ℕ) → addr < cells
      → seq_of (slice_index old (data_cell callers addr)) ≤ current_seq (slice_index old))
      → (addr : ℕ) → addr < cells
      → seq_of (slice_index new (data_cell callers addr)) ≤ current_seq (slice_index new)
  -- a renumbering of `new` leaves the same row as a renumbering of `old`
  pub again : renumbered_words callers cells new ≡ renumbered_words callers cells old
