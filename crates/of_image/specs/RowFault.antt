-- The first cell at fault of a recovered row that is not lawful.
use Rattle.std.specs.Prelude.{◌≡◌, ℕ, ◌≤◌, ◌<◌, List, slice_index}
use Rattle.of_cell.specs.Words.{seq_of}
use Rattle.of_cell.specs.Cells.{data_cell}
use Rattle.of_mem.specs.ProgramWork.{memory_of}
use Rattle.of_recover.specs.Row.{current_seq, current_owner}
use Rattle.of_eval.specs.Faults.{IsFirstFault}
use Rattle.of_report.specs.ImageRow.{DurableRow, row_cell_count, data_numbers_in}
use Rattle.of_report.specs.ImageLaw.{IsOwned, NoneNewer}
use Rattle.of_image.specs.declared.law.Law.{Law}
use Rattle.of_image.specs.declared.law.Law.TheVariants.{Owner, Newest, Store}

-- data cell `a` is newer than the current transaction, and no data cell before it is
pub record IsFirstNewer (callers : ℕ) (words : List ℕ) (a : ℕ) : Type 0 where
  pub before : NoneNewer callers words a
  pub newer : current_seq (slice_index words) < seq_of (slice_index words (data_cell callers a))

-- cell 0 names an owner of the current transaction that is no caller, so cell 0 is at fault
pub record IsUnowned (r : DurableRow) (cell : ℕ) : Type 0 where
  pub unowned : r.callers ≤ current_owner (slice_index r.words)
  pub is : cell ≡ 0

-- this is the first data cell that is newer than the current transaction
pub record HasNewerCell (instrs : ℕ) (r : DurableRow) (cell : ℕ) : Type 0 where
  pub owned : IsOwned r
  pub at : ℕ
  pub within : at < row_cell_count instrs r
  pub first : IsFirstNewer r.callers r.words at
  pub is : cell ≡ data_cell r.callers at

-- the data cells stand for no store, and this is the first of them at fault
pub record HasNoStore (instrs : ℕ) (r : DurableRow) (cell : ℕ) : Type 0 where
  pub owned : IsOwned r
  pub none_newer : NoneNewer r.callers r.words (row_cell_count instrs r)
  pub at : ℕ
  pub first : IsFirstFault r.callers instrs r.blocks (memory_of (data_numbers_in instrs r)) at
  pub is : cell ≡ data_cell r.callers at

-- this is the first cell at fault of the row, and it breaks this law; the laws above it in this
-- list are kept
abbrev pub Breaks : Law → (instrs : ℕ) → DurableRow → (cell : ℕ) → Type 0
Breaks Owner instrs r cell = IsUnowned r cell
Breaks Newest instrs r cell = HasNewerCell instrs r cell
Breaks Store instrs r cell = HasNoStore instrs r cell

-- this is the first cell at fault of the row
pub record IsRowFault (instrs : ℕ) (r : DurableRow) (cell : ℕ) : Type 0 where
  pub law : Law
  pub breaks : Breaks law instrs r cell
