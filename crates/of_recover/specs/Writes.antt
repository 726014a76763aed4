-- The writes that a recovery makes, one by one and in order, to say which row is left if it stops
-- between two of them.
use Rattle.std.specs.Prelude.{◌≡◌, ℕ, ◌<◌, ◌≤◌, ◌⊎◌, ◌&&◌, nat_lt, List, [], ◌∷◌, ◌++◌, if◌then◌else◌, slice_index, slice_set}
use Rattle.std.specs.Option.{is_none}
use Rattle.std.specs.List.{fold, flat_map, range_with_len}
use Rattle.of_cell.specs.Words.{pack, seq_of}
use Rattle.of_cell.specs.Cells.{request_cell, data_cell}
use Rattle.of_recover.specs.Row.{IsDurableRow, current_seq, current_owner, is_open}
use Rattle.of_recover.specs.Log.{entry_count, entry_addr, log_entry_value, entry_counts, first_naming}
use Rattle.of_recover.specs.Recovered.{recovered_data}

-- the row after these writes, made in order; a write is a cell and its new word
abbrev pub words_after_writes : (writes : List (ℕ × ℕ)) → List ℕ → List ℕ
words_after_writes writes words = fold (λ ws w. slice_set ws w.0 w.1) words writes

-- The write of entry j, if it makes one: the logged value goes to the data cell, if the entry
-- counts, no earlier entry names the cell, and the cell is older than the current transaction.
abbrev pub entry_writes : (callers cells : ℕ) → (ℕ → ℕ) → ℕ → List (ℕ × ℕ)
entry_writes callers cells row j =
    let addr = entry_addr callers cells row j in
    let cell = data_cell callers addr in
    if entry_counts callers cells row j
    && (is_none (first_naming callers cells row j addr)
    && nat_lt (seq_of (row cell)) (current_seq row))
    then (cell, pack (current_seq row) (log_entry_value callers cells row j)) ∷ [] else []

-- the writes of the first n entries, in the order of the log
unfoldable pub log_writes : (callers cells : ℕ) → (ℕ → ℕ) → (n : ℕ) → List (ℕ × ℕ)
log_writes callers cells row n = flat_map (entry_writes callers cells row) (range_with_len 0 n)

-- all writes of a recovery: those of the log's entries, and last the write that closes the request.
-- There are none if the current transaction is not open.
abbrev pub recovery_writes : (callers cells : ℕ) → (ℕ → ℕ) → List (ℕ × ℕ)
recovery_writes callers cells row =
    if is_open callers row
    then log_writes callers cells row (entry_count callers cells row)
    ++ ((request_cell (current_owner row), pack (current_seq row) 1) ∷ [])
    else []

-- The row `new` is `old` after some of the writes of the log's entries, whichever they are and in
-- any order. No other write was made.
pub record IsUnderway (callers cells : ℕ) (old new : List ℕ) : Type 0 where
  pub size : IsDurableRow callers cells new
  pub on_data : (addr : ℕ) → addr < cells →
      (slice_index new (data_cell callers addr) ≡ slice_index old (data_cell callers addr))
      ⊎ (slice_index new (data_cell callers addr)
      ≡ recovered_data callers cells (slice_index old) addr)
  pub others : (c : ℕ) → (c ≤ callers) ⊎ (data_cell callers cells ≤ c)
      → slice_index new c ≡ slice_index old c
