-- When a recovered row is lawful.
use Rattle.std.specs.Prelude.{ℕ, ◌≤◌, ◌<◌, List, slice_index}
use Rattle.of_cell.specs.Words.{seq_of}
use Rattle.of_cell.specs.Cells.{data_cell}
use Rattle.of_mem.specs.ProgramWork.{memory_of}
use Rattle.of_recover.specs.Row.{current_seq, current_owner}
use Rattle.of_store.specs.Store.{Store}
use Rattle.of_eval.specs.Lawful.{DataCellsStandFor}
use Rattle.of_report.specs.ImageRow.{DurableRow, row_cell_count, data_numbers_in}

-- the owner of the current transaction is the number of a caller
abbrev pub IsOwned : DurableRow → Type 0
IsOwned r = current_owner (slice_index r.words) < r.callers

-- none of the first n data cells is newer than the current transaction
abbrev pub NoneNewer : (callers : ℕ) → List ℕ → ℕ → Type 0
NoneNewer callers words n =
    (a : ℕ) → a < n
    → seq_of (slice_index words (data_cell callers a)) ≤ current_seq (slice_index words)

-- a caller owns the current transaction, no data cell is newer than it, and the data cells stand
-- for this store
pub record IsLawfulRow (instrs : ℕ) (r : DurableRow) (s : Store) : Type 0 where
  pub owned : IsOwned r
  pub none_newer : NoneNewer r.callers r.words (row_cell_count instrs r)
  pub stands : DataCellsStandFor r.callers instrs r.blocks (memory_of (data_numbers_in instrs r)) s
