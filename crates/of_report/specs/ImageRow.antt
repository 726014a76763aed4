-- The durable words of a table of some callers and blocks. How many data cells there are also
-- depends on how many instructions a script has at most.
use Rattle.std.specs.Prelude.{ℕ, ◌^◌, ◌≤◌, ◌<◌, List, map, slice_index}
use Rattle.std.specs.List.{range_with_len}
use Rattle.of_cell.specs.Words.{payload_of}
use Rattle.of_cell.specs.Cells.{data_cell}
use Rattle.of_mem.specs.declared.plot.TheConstants.{MOST_BLOCKS}
use Rattle.of_mem.specs.declared.work.TheConstants.{MOST_CALLERS}
use Rattle.of_mem.specs.declared.plot.Plot.{Plot}
use Rattle.of_mem.specs.Places.{base_of, cells_at}
use Rattle.of_plan.specs.declared.plan.TheConstants.{MOST_PLAN_CALLERS, MOST_PLAN_BLOCKS}
use Rattle.of_recover.specs.Row.{IsDurableRow}
use Rattle.of_recover.specs.Recovered.{recovered_words}

-- the durable words of a table, and how many callers and blocks the table has
pub record DurableRow : Type 0 where
  pub callers : ℕ
  pub blocks : ℕ
  pub words : List ℕ

-- the row of these words, with the callers and blocks of this plot
abbrev pub row_in : Plot → List ℕ → DurableRow
row_in p ws = record { callers = p.callers; blocks = p.blocks; words = ws }

-- how many data cells a table has, if scripts have at most this many instructions
abbrev pub data_cell_count_for : (instrs callers blocks : ℕ) → ℕ
data_cell_count_for instrs callers blocks = cells_at (base_of callers instrs) blocks

-- how many data cells a row has, if scripts have at most this many instructions
abbrev pub row_cell_count : (instrs : ℕ) → DurableRow → ℕ
row_cell_count instrs r = data_cell_count_for instrs r.callers r.blocks

-- the numbers that the data cells of a row hold, in order
abbrev pub data_numbers_in : (instrs : ℕ) → DurableRow → List ℕ
data_numbers_in instrs r =
    map (λ a. payload_of (slice_index r.words (data_cell r.callers a)))
    (range_with_len 0 (row_cell_count instrs r))

-- a row is in range: it has at most this many callers and blocks, and a word of 64 bits for each
-- cell, if scripts have at most `instrs` instructions
pub record IsRowWithin (callers blocks instrs : ℕ) (r : DurableRow) : Type 0 where
  pub some_callers : 1 ≤ r.callers
  pub few_callers : r.callers ≤ callers
  pub few_blocks : r.blocks ≤ blocks
  pub size : IsDurableRow r.callers (row_cell_count instrs r) r.words
  pub words : (c : ℕ) → slice_index r.words c < 2 ^ 64

-- the row of an image that a command reads: it has no more callers and blocks than a plan may have
abbrev pub IsRow : (instrs : ℕ) → DurableRow → Type 0
IsRow instrs r = IsRowWithin MOST_PLAN_CALLERS MOST_PLAN_BLOCKS instrs r

-- the row of any table, which has no more callers and blocks than a table may have
abbrev pub IsTableRow : (instrs : ℕ) → DurableRow → Type 0
IsTableRow instrs r = IsRowWithin MOST_CALLERS MOST_BLOCKS instrs r

-- the row that recovery makes of a row
abbrev pub recovered_row : (instrs : ℕ) → DurableRow → DurableRow
recovered_row instrs r = record r {
  words = recovered_words r.callers (row_cell_count instrs r) r.words;
}
