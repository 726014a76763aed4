-- Names for the cells and the words of the table, with which it is stated that no two cells have
-- the same number, and no two words the same index.
use Rattle.std.specs.Prelude.{ℕ, ◌≡◌, ◌<◌}
use Rattle.of_cell.specs.Cells.{log_room, request_cell, data_cell, log_count_cell, log_addr_cell, log_value_cell, durable_cells, durable_place, script_place, announce_place, members_place, table_words}

pub data CellName : Type 0 where
  Current : CellName
  Request : (caller : ℕ) → CellName
  DataCell : (addr : ℕ) → CellName
  LogCount : (caller : ℕ) → CellName
  LogAddr : (caller entry : ℕ) → CellName
  LogValue : (caller entry : ℕ) → CellName

-- the shape has a cell of this name: its caller, address and entry are in range
abbrev pub IsCell : (callers cells : ℕ) → CellName → Type 0
IsCell callers cells Current = Unit {0}
IsCell callers cells (Request caller) = caller < callers
IsCell callers cells (DataCell addr) = addr < cells
IsCell callers cells (LogCount caller) = caller < callers
IsCell callers cells (LogAddr caller entry) = (caller < callers) × (entry < log_room callers cells)
IsCell callers cells (LogValue caller entry) = (caller < callers) × (entry < log_room callers cells)

abbrev pub cell_number : (callers cells : ℕ) → CellName → ℕ
cell_number callers cells Current = 0
cell_number callers cells (Request caller) = request_cell caller
cell_number callers cells (DataCell addr) = data_cell callers addr
cell_number callers cells (LogCount caller) = log_count_cell callers cells caller
cell_number callers cells (LogAddr caller entry) = log_addr_cell callers cells caller entry
cell_number callers cells (LogValue caller entry) = log_value_cell callers cells caller entry

-- cells with different names have different numbers
abbrev pub CellsDiffer : (callers cells : ℕ) → Type 0
CellsDiffer callers cells =
    (c d : CellName) → IsCell callers cells c → IsCell callers cells d
    → cell_number callers cells c ≡ cell_number callers cells d → c ≡ d

-- the number of each cell is below the number of cells
abbrev pub CellsBelow : (callers cells : ℕ) → Type 0
CellsBelow callers cells =
    (c : CellName) → IsCell callers cells c
    → cell_number callers cells c < durable_cells callers cells

pub data WordName : Type 0 where
  CellWord : (cell : ℕ) → WordName
  DurableWord : (cell : ℕ) → WordName
  ScriptWord : (caller x : ℕ) → WordName
  Announcement : (caller : ℕ) → WordName
  Members : WordName

-- the shape's table has a word of this name
abbrev pub IsWord : (callers instrs cells : ℕ) → WordName → Type 0
IsWord callers instrs cells (CellWord cell) = cell < durable_cells callers cells
IsWord callers instrs cells (DurableWord cell) = cell < durable_cells callers cells
IsWord callers instrs cells (ScriptWord caller x) = (caller < callers) × (x < instrs)
IsWord callers instrs cells (Announcement caller) = caller < callers
IsWord callers instrs cells Members = Unit {0}

abbrev pub word_place : (callers instrs cells : ℕ) → WordName → ℕ
word_place callers instrs cells (CellWord cell) = cell
word_place callers instrs cells (DurableWord cell) = durable_place callers cells cell
word_place callers instrs cells (ScriptWord caller x) = script_place callers instrs cells caller x
word_place callers instrs cells (Announcement caller) = announce_place callers instrs cells caller
word_place callers instrs cells Members = members_place callers instrs cells

-- words with different names have different indices in the table
abbrev pub WordPlacesDiffer : (callers instrs cells : ℕ) → Type 0
WordPlacesDiffer callers instrs cells =
    (v w : WordName) → IsWord callers instrs cells v → IsWord callers instrs cells w
    → word_place callers instrs cells v ≡ word_place callers instrs cells w → v ≡ w

-- the index of each word is below the number of words in the table
abbrev pub PlacesBelow : (callers instrs cells : ℕ) → Type 0
PlacesBelow callers instrs cells =
    (w : WordName) → IsWord callers instrs cells w
    → word_place callers instrs cells w < table_words callers instrs cells
