-- The durable words of a memory's table, and what recovery finds in them.
use Rattle.std.specs.Prelude.{◌≡◌, ◌≢◌, ◌⊎◌, ℕ, ◌<◌, ◌≤◌, List, length, slice_index}
use Rattle.of_cell.specs.Cells.{durable_cells, durable_place, table_words}
use Rattle.of_cell.specs.declared.word.TheConstants.{GREATEST_LIMIT}
use Rattle.of_mem.specs.declared.work.TheConstants.{MOST_CALLERS, MOST_INSTRS}
use Rattle.of_mem.specs.declared.plot.TheConstants.{MOST_BLOCKS}
use Rattle.of_recover.specs.Row.{current_seq}
use Rattle.of_recover.specs.Recovered.{recovered_words}
use Rattle.of_eval.specs.declared.scripts.Scripts.{Scripts}
use Rattle.of_eval.specs.Scripts.{scripts_data_cells, LawfulCells}
use Rattle.of_core.specs.Starts.{IsStartRow, start_from_durable}
use Rattle.of_row.specs.declared.row.Row.{Row}
use Rattle.of_row.specs.Rows.{key_of}
use Rattle.of_report.specs.ImageRow.{DurableRow, data_cell_count_for, recovered_row}
use Rattle.of_report.specs.Image.{Image, IsRestored}
use Rattle.of_image.specs.RowFault.{IsRowFault}
use Rattle.of_memory.specs.declared.saved.Saved.{Saved}
use Rattle.of_memory.specs.declared.words.TableSizes.{TableSizes}
use Rattle.of_memory.specs.declared.error.WordsError.{WordsError}
use Rattle.of_memory.specs.declared.error.WordsError.TheVariants.{OutOfMemory, Callers, Blocks, Limit, Count, Unlawful, PastLimit}
use Rattle.of_memory.specs.Laws.{setup_with}
use Rattle.of_memory.specs.Rows.{IsScriptsRow, HoldsLastReplies}
use Rattle.of_memory.specs.Texts.{IsImageOfSaved}

-- ---- sizes

-- a memory may have this many callers and blocks
pub record AreCounts (callers blocks : ℕ) : Type 0 where
  pub some_callers : 1 ≤ callers
  pub few_callers : callers ≤ MOST_CALLERS
  pub few_blocks : blocks ≤ MOST_BLOCKS

-- the scripts are those of a memory with this many callers and blocks
pub record AreCountsOf (w : Scripts) (callers blocks : ℕ) : Type 0 where
  pub callers_are : w.callers ≡ callers
  pub blocks_are : w.blocks ≡ blocks

-- how many data cells the table of a memory with these callers and blocks has
abbrev pub data_count : (callers blocks : ℕ) → ℕ
data_count callers blocks = data_cell_count_for MOST_INSTRS callers blocks

-- how many durable words the table of a memory with these callers and blocks has
abbrev pub durable_count : (callers blocks : ℕ) → ℕ
durable_count callers blocks = durable_cells callers (data_count callers blocks)

-- these are the sizes of the table of a memory with these callers and blocks
pub record AreSizesOf (callers blocks : ℕ) (s : TableSizes) : Type 0 where
  pub words : s.words ≡ table_words callers MOST_INSTRS (data_count callers blocks)
  pub first : s.first ≡ durable_place callers (data_count callers blocks) 0
  pub durable : s.durable ≡ durable_count callers blocks

-- the table of each row of scripts with these callers and blocks has this many words
abbrev pub IsSizeOfTables : (callers blocks words : ℕ) → Type 0
IsSizeOfTables callers blocks words =
    (r : Row Scripts) → IsScriptsRow r → AreCountsOf (key_of r).work callers blocks
    → r.table.shared.table_id.words ≡ words

-- ---- what is found

-- these words, as the durable words of a table with these callers and blocks
abbrev pub row_with : (callers blocks : ℕ) → List ℕ → DurableRow
row_with callers blocks words = record { callers = callers; blocks = blocks; words = words }

-- recovery finds an image in the words, and what is saved has the image's words, sequence, store
-- and tickets
abbrev pub WordsHold : (callers blocks : ℕ) → List ℕ → Saved → Type 0
WordsHold callers blocks words d =
    (i : Image) × IsRestored MOST_INSTRS (row_with callers blocks words) i × IsImageOfSaved i d

-- what recovery makes of durable words of a table for these scripts
abbrev pub words_found : Scripts → List ℕ → List ℕ
words_found w words = recovered_words w.callers (scripts_data_cells w) words

-- a table for these scripts, with this limit, may start from what recovery finds in the words; what
-- is found holds a reply to the last call of each caller, and the limit is in its range
pub record AreStartWords (w : Scripts) (limit : ℕ) (words : List ℕ) : Type 0 where
  pub row : IsStartRow (setup_with w limit) (LawfulCells w) (words_found w words)
  pub replies : HoldsLastReplies w
      (start_from_durable w.callers (scripts_data_cells w) (words_found w words))
  pub some_limit : 1 ≤ limit
  pub few_limit : limit ≤ GREATEST_LIMIT

-- ---- why nothing is found

-- the cell is the first at fault in what recovery finds in the words
abbrev pub IsFaultIn : (callers blocks : ℕ) → List ℕ → (cell : ℕ) → Type 0
IsFaultIn callers blocks words cell =
    IsRowFault MOST_INSTRS (recovered_row MOST_INSTRS (row_with callers blocks words)) cell

-- this is the sequence of the words, and the limit is below it
pub record IsPastLimit (limit : ℕ) (words : List ℕ) (seq : ℕ) : Type 0 where
  pub is : seq ≡ current_seq (slice_index words)
  pub past : limit < seq

-- why these words, with these callers, blocks and limit, give nothing that is saved
abbrev pub IsWordsCause : (callers blocks limit : ℕ) → List ℕ → WordsError → Type 0
IsWordsCause callers blocks limit words OutOfMemory = Unit {0}
IsWordsCause callers blocks limit words (Callers k) =
    (k ≡ callers) × ((callers ≡ 0) ⊎ (MOST_CALLERS < callers))
IsWordsCause callers blocks limit words (Blocks k) = (k ≡ blocks) × (MOST_BLOCKS < blocks)
IsWordsCause callers blocks limit words (Limit k) =
    (k ≡ limit) × ((limit ≡ 0) ⊎ (GREATEST_LIMIT < limit))
IsWordsCause callers blocks limit words (Count k) =
    (k ≡ length words) × (length words ≢ durable_count callers blocks)
IsWordsCause callers blocks limit words (Unlawful cell) = IsFaultIn callers blocks words cell
IsWordsCause callers blocks limit words (PastLimit seq) = IsPastLimit limit words seq
