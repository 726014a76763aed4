-- What the words of a row hold at any moment, so also when its process is killed.
use Rattle.std.specs.Prelude.{◌≡◌, ℕ, ◌<◌, ◌≤◌, List, length, map}
use Rattle.std.specs.List.{All}
use Rattle.atomic_table.specs.Table.{State}
use Rattle.of_cell.specs.Words.{payload_of}
use Rattle.of_recover.specs.Recovered.{recovered_words}
use Rattle.of_core.specs.Table.{Setup}
use Rattle.of_core.specs.TableMoment.{TableStart}
use Rattle.of_core.specs.Machine.{Call}
use Rattle.of_core.specs.Linear.{Sequences}
use Rattle.of_core.specs.Starts.{IsDurable, IsStartRow, start_from_durable}
use Rattle.of_row.specs.Views.{View}
use Rattle.of_row.specs.Rule.{MeetsRule, EachFree, done_before}
use Rattle.of_row.specs.Moments.{HasNoneOf}
use Rattle.of_row.specs.Trail.{EachView}
use Rattle.of_cells.specs.Saving.{HistoryLeads, ExplainsView, OwnCellsStay, own_ticket}

-- the numbers of the data cells of a start
abbrev pub numbers_of : TableStart → List ℕ
numbers_of B = map payload_of B.cells

-- the numbers of the data cells of the start that recovery finds in durable words of a table
abbrev pub numbers_found : (callers cells : ℕ) → (words : List ℕ) → List ℕ
numbers_found n m words = numbers_of (start_from_durable n m (recovered_words n m words))

-- the call has at least one word, and at most as many as an operation may have
abbrev pub IsSized : Setup → Call → Type 0
IsSized S c = (1 ≤ length c.op) × (length c.op ≤ S.instrs)

-- A table may start from what recovery finds in the durable words, and one serial history leads to
-- this from the row's start. Each call of the history has as many words as an operation may have.
-- Each view that is not spent finds in the history what the view knows.
-- A number that is not taken has no call in the history, and the own cells of a caller with no call
-- since the row's start are as they were.
pub record HoldsHistory (S : Setup) (Lawful : List ℕ → Type 0) (B : TableStart)
    (s : State (Unit {0}) View) (words : List ℕ) : Type 0 where
  pub row : IsStartRow S Lawful (recovered_words S.callers S.cells words)
  pub history : List Call
  pub sequences : Sequences
  pub leads : HistoryLeads S.meaning S.callers (done_before S B) (numbers_of B)
      (numbers_found S.callers S.cells words) history sequences
  pub sized : All (IsSized S) history
  pub views : EachView (ExplainsView S B history sequences) s.views
  pub free : EachFree S s.words (HasNoneOf history)
  pub own : (n : ℕ) → n < S.callers
      → own_ticket (numbers_found S.callers S.cells words) n ≡ done_before S B n
      → OwnCellsStay (numbers_of B) (numbers_found S.callers S.cells words) n

-- At each moment of a row, also between two steps on it, `HoldsHistory` holds for the durable words
-- of that moment.
abbrev pub RowsHoldHistory : (List ℕ → Type 0) → Setup → Type 0
RowsHoldHistory Lawful S =
    (B : TableStart) (s : State (Unit {0}) View) → MeetsRule S Lawful B s
    → (words : List ℕ) → IsDurable S s.words words → HoldsHistory S Lawful B s words
