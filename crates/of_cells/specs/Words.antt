-- The durable words of a table, and what recovery finds in them.
use Rattle.std.specs.Prelude.{◌≡◌, ◌≢◌, ◌⊎◌, ℕ, ◌<◌, List, length, map}
use Rattle.atomic_table.specs.Table.{State}
use Rattle.of_cell.specs.Words.{payload_of}
use Rattle.of_cell.specs.Cells.{durable_cells, durable_place, table_words}
use Rattle.of_cell.specs.declared.word.TheConstants.{GREATEST_LIMIT}
use Rattle.of_mem.specs.declared.work.TheConstants.{MOST_INSTRS}
use Rattle.of_mem.specs.Meaning.{Meaning}
use Rattle.of_recover.specs.Recovered.{recovered_words}
use Rattle.of_core.specs.Table.{setup_of}
use Rattle.of_core.specs.Machine.{Call}
use Rattle.of_core.specs.Linear.{Sequences}
use Rattle.of_core.specs.TableMoment.{TableStart}
use Rattle.of_core.specs.Starts.{IsDurable, IsStartRow, start_from_durable}
use Rattle.of_row.specs.Views.{View}
use Rattle.of_row.specs.Rule.{MeetsRule, EachFree}
use Rattle.of_row.specs.Moments.{HasNoneOf}
use Rattle.of_row.specs.Rows.{setup_at, row_start}
use Rattle.of_row.specs.Trail.{EachView}
use Rattle.of_cells.specs.declared.words.TableSizes.{TableSizes}
use Rattle.of_cells.specs.declared.memory.CellMemory.{CellMemory}
use Rattle.of_cells.specs.declared.saved.SavedCells.{SavedCells}
use Rattle.of_cells.specs.declared.error.WordsError.{WordsError}
use Rattle.of_cells.specs.declared.error.WordsError.TheVariants.{OutOfMemory, Limit, Count, PastLimit}
use Rattle.of_cells.specs.Memories.{SavesOwnCells, row_of, work_of, callers_of, cells_before, tickets_before}
use Rattle.of_cells.specs.Saving.{HistoryLeads, ExplainsView, saved_callers, saved_cells, saved_seq, saved_work}

-- these are the sizes of a table for this many callers and data cells
pub record AreSizesOf (callers cells : ℕ) (s : TableSizes) : Type 0 where
  pub words : s.words ≡ table_words callers MOST_INSTRS cells
  pub first : s.first ≡ durable_place callers cells 0
  pub durable : s.durable ≡ durable_cells callers cells

-- ---- what is found

-- a table for the work, with this limit, may start from this row of durable words, which recovery
-- leaves as it is
abbrev pub IsStartFor : {W : Type 0} → (many size : W → ℕ) → (W → Meaning)
    → (W → List ℕ → Type 0) → W → (limit : ℕ) → (row : List ℕ) → Type 0
IsStartFor many size meaning lawful work limit row =
    IsStartRow (setup_of (many work) (size work) limit (meaning work)) (lawful work) row

-- what recovery makes of the durable words of a table for the work
abbrev pub words_found : {W : Type 0} → (many size : W → ℕ) → W → (words : List ℕ) → List ℕ
words_found many size work words = recovered_words (many work) (size work) words

-- if the words are as many as a table for the work has, such a table may start, with some limit,
-- from what recovery finds in them
abbrev pub AreDurableWords : {W : Type 0} → (many size : W → ℕ) → (W → Meaning)
    → (W → List ℕ → Type 0) → W → (words : List ℕ) → Type 0
AreDurableWords many size meaning lawful work words =
    length words ≡ durable_cells (many work) (size work)
    → (limit : ℕ)
    × IsStartFor many size meaning lawful work limit (words_found many size work words)

-- the start of a table of the work that begins with this row of durable words
abbrev pub start_in : {W : Type 0} → (many size : W → ℕ) → W → (row : List ℕ) → TableStart
start_in many size work row = start_from_durable (many work) (size work) row

-- what is saved is of this work, with as many callers as the work has, and has the numbers and the
-- sequence of this row
pub record IsSavedRow {W : Type 0} (many size : W → ℕ) (work : W) (row : List ℕ)
    (d : SavedCells W) : Type 0 where
  pub work_is : saved_work d ≡ work
  pub callers : saved_callers d ≡ many work
  pub cells : saved_cells d ≡ map payload_of (start_in many size work row).cells
  pub seq : saved_seq d ≡ (start_in many size work row).seq

-- what is saved has the work, numbers and sequence that recovery finds in these words
abbrev pub WordsHold : {W : Type 0} → (many size : W → ℕ) → W → (words : List ℕ) → SavedCells W
    → Type 0
WordsHold many size work words d =
    IsSavedRow many size work (words_found many size work words) d

-- why nothing is found in these words: memory ran out, the limit is out of its range or below the
-- sequence in the words, or a table for the work has another number of words
abbrev pub IsWordsCause : {W : Type 0} → (many size : W → ℕ) → W → (limit : ℕ) → (words : List ℕ)
    → WordsError → Type 0
IsWordsCause many size work limit words OutOfMemory = Unit {0}
IsWordsCause many size work limit words (Limit k) =
    (k ≡ limit) × ((limit ≡ 0) ⊎ (GREATEST_LIMIT < limit))
IsWordsCause many size work limit words (Count k) =
    (k ≡ length words) × (length words ≢ durable_cells (many work) (size work))
IsWordsCause many size work limit words (PastLimit seq) =
    (seq ≡ (start_in many size work (words_found many size work words)).seq) × (limit < seq)

-- ---- moments

-- Recovery finds a start in the durable words, and one serial history leads from the cells with
-- which the memory was opened to what recovery finds. Each view that is not spent finds in the
-- history what the view knows: each answered call of the callers that its pass or member keeps,
-- with its reply, and besides these only open calls. A number that is not taken has no call in it.
-- The own cells of a caller with no call since the memory was opened are as they were.
pub record MayGoOnFromWords {W : Type 0} (many size : W → ℕ) (meaning : W → Meaning)
    (lawful : W → List ℕ → Type 0) (m : CellMemory W) (s : State (Unit {0}) View)
    (words : List ℕ) : Type 0 where
  pub starts : AreDurableWords many size meaning lawful (work_of m) words
  pub history : List Call
  pub sequences : Sequences
  pub leads : (d : SavedCells W) → WordsHold many size (work_of m) words d
      → HistoryLeads (meaning (work_of m)) (callers_of m) (tickets_before meaning m)
      (cells_before meaning m) (saved_cells d) history sequences
  pub views : EachView (ExplainsView (setup_at meaning (row_of m)) (row_start meaning (row_of m))
      history sequences) s.views
  pub free : EachFree (setup_at meaning (row_of m)) s.words (HasNoneOf history)
  pub own : (d : SavedCells W) → WordsHold many size (work_of m) words d → SavesOwnCells meaning m d

-- At each moment of the memory's row, also between two steps on it, `MayGoOnFromWords` holds for
-- the durable words of that moment.
abbrev pub HoldsWordsAlways : {W : Type 0} → (many size : W → ℕ) → (W → Meaning)
    → (W → List ℕ → Type 0) → CellMemory W → Type 0
HoldsWordsAlways many size meaning lawful m =
    (s : State (Unit {0}) View)
    → MeetsRule (setup_at meaning (row_of m)) (lawful (work_of m)) (row_start meaning (row_of m)) s
    → (words : List ℕ) → IsDurable (setup_at meaning (row_of m)) s.words words
    → MayGoOnFromWords many size meaning lawful m s words
