-- Where a table starts: its words at a start, the start that a durable row is, and the one that
-- recovery finds.
use Rattle.std.specs.Prelude.{◌≡◌, ℕ, ◌+◌, ◌*◌, ◌-◌, ◌<◌, List, ◌∷◌, ◌++◌, length, slice_range}
use Rattle.std.proofs.Common.{get_or, set, replicate, zero, suc}
use Rattle.of_cell.specs.declared.shape.Shape.{Shape}
use Rattle.of_cell.specs.Words.{pack, seq_of, payload_of}
use Rattle.of_cell.specs.Cells.{log_room, data_cell, durable_cells}
use Rattle.of_recover.specs.Recovered.{recovered_words}
use Rattle.of_core.specs.Table.{Setup, cell_count, durable_word, durable_seq}
use Rattle.of_core.specs.TableMoment.{Moment, TableStart}
use Rattle.of_core.specs.History.{state_after}
use Rattle.of_core.specs.WordsMatch.{MayStart}

-- the request of a start's owner: closed, if any transaction was committed before the start
abbrev pub closed_request : ℕ → ℕ
closed_request zero = 0
closed_request (suc s) = pack (suc s) 1

-- the cells at a start: the current-transaction word and the data words of the start, the request
-- of its owner closed, and 0 everywhere else
unfoldable pub first_cells : (callers cells : ℕ) → TableStart → List ℕ
first_cells callers cells B =
    (pack B.seq B.owner ∷ set (replicate callers 0) B.owner (closed_request B.seq))
    ++ (B.cells ++ replicate (callers * (2 * log_room callers cells + 1)) 0)

-- the n words of a table at a start: the cells, then their durable words, which are the same, and
-- then 0
unfoldable pub first_words : (callers cells : ℕ) → TableStart → (words : ℕ) → List ℕ
first_words callers cells B n =
    first_cells callers cells B
    ++ (first_cells callers cells B
    ++ replicate (n - (durable_cells callers cells + durable_cells callers cells)) 0)

-- the start of a table that begins with this durable row
abbrev pub start_from_durable : (callers cells : ℕ) → List ℕ → TableStart
start_from_durable callers cells row = record {
  seq = seq_of (get_or row 0 0);
  owner = payload_of (get_or row 0 0);
  cells = slice_range row (data_cell callers 0) (data_cell callers 0 + cells);
}

-- the start of a table of this shape that begins with this durable row
abbrev pub start_on : Shape → List ℕ → TableStart
start_on shape row = start_from_durable shape.callers shape.cells row

-- the list `row` has the durable words of the table, cell by cell
pub record IsDurable (S : Setup) (ws row : List ℕ) : Type 0 where
  pub long : length row ≡ cell_count S
  pub each : (c : ℕ) → c < cell_count S → get_or row c 0 ≡ durable_word S ws c

-- the start that recovery finds: the durable sequence, its owner, and the state after its batch
abbrev pub recovered_start : Setup → TableStart → Moment → TableStart
recovered_start S B w = record {
  seq = durable_seq S w.words;
  owner = payload_of (durable_word S w.words 0);
  cells = state_after B w.batches (durable_seq S w.words);
}

-- a durable row which recovery does not change, and from which a table may start
pub record IsStartRow (S : Setup) (Lawful : List ℕ → Type 0) (row : List ℕ) : Type 0 where
  pub long : length row ≡ durable_cells S.callers S.cells
  pub recovered : recovered_words S.callers S.cells row ≡ row
  pub may_start : MayStart S Lawful (start_from_durable S.callers S.cells row)
