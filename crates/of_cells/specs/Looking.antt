-- What a number's last call answered, looked up in an open memory while other calls go on.
use Rattle.std.specs.Prelude.{◌≡◌, ◌≢◌, ℕ, ◌<◌, List, length, Option, Some, None}
use Rattle.std.proofs.Common.{get_or}
use mathlib.Core.List.{IsPrefix}
use Rattle.atomic_table.specs.Table.{State}
use Rattle.of_mem.specs.Meaning.{Meaning}
use Rattle.of_mem.specs.Places.{shape_at, reply_at}
use Rattle.of_mem.specs.declared.work.RawReply.{RawReply}
use Rattle.of_mem.specs.declared.work.TheConstants.{MOST_INSTRS}
use Rattle.of_core.specs.Events.{Event}
use Rattle.of_core.specs.Starts.{IsDurable}
use Rattle.of_row.specs.Views.{View}
use Rattle.of_row.specs.Rule.{MeetsRule}
use Rattle.of_row.specs.Rows.{key_of, setup_at, row_start, view_of_pass}
use Rattle.of_row.specs.Looking.{WasNotStill}
use Rattle.of_cells.specs.declared.memory.CellMemory.{CellMemory}
use Rattle.of_cells.specs.Memories.{row_of, work_of}
use Rattle.of_cells.specs.Moments.{HoldsHistory, numbers_found}
use Rattle.of_cells.specs.Saving.{own_ticket}

-- the events of the row up to the memory's last look
abbrev pub events_looked : {W : Type 0} → CellMemory W → List Event
events_looked m = (view_of_pass m.pass).past

-- At a moment of the memory's row between m and k, `words` are the row's durable words, and P holds
-- of the numbers of the data cells that recovery finds in them. The moment is that of the memory's
-- last look, and it is not before the look before. One serial history leads to what recovery finds, and has
-- the calls that were answered (`HoldsHistory`).
pub record WasSoMeanwhile {W : Type 0} (meaning : W → Meaning) (lawful : W → List ℕ → Type 0)
    (P : List ℕ → Type 0) (m k : CellMemory W) : Type 0 where
  pub state : State (Unit {0}) View
  pub rule : MeetsRule (setup_at meaning (row_of m)) (lawful (work_of m))
      (row_start meaning (row_of m)) state
  pub since : IsPrefix (events_looked m) rule.events
  pub now : rule.events ≡ events_looked k
  pub words : List ℕ
  pub durable : IsDurable (setup_at meaning (row_of m)) state.words words
  pub found : P (numbers_found (key_of (row_of m)).callers (key_of (row_of m)).cells words)
  pub history : HoldsHistory (setup_at meaning (row_of m)) (lawful (work_of m))
      (row_start meaning (row_of m)) state words

-- between m and k a transaction was open on the memory's row, or one was committed
abbrev pub WasBusyMeanwhile : {W : Type 0} → (W → Meaning) → (m k : CellMemory W) → Type 0
WasBusyMeanwhile meaning m k =
    WasNotStill (setup_at meaning (row_of m)) (row_start meaning (row_of m))
    (view_of_pass m.pass) (view_of_pass k.pass)

-- data cells with these numbers hold this ticket and this reply of caller n
pub record HoldLast (cells : List ℕ) (n ticket : ℕ) (raw : RawReply) : Type 0 where
  pub ticket_is : own_ticket cells n ≡ ticket
  pub shape : raw.shape ≡ get_or cells (shape_at MOST_INSTRS n) 0
  pub long : length raw.values ≡ MOST_INSTRS
  pub numbers : (y : ℕ) → y < MOST_INSTRS
      → get_or raw.values y 0 ≡ get_or cells (reply_at MOST_INSTRS n y) 0

-- what data cells with these numbers show of the last call of caller n
abbrev pub ShowLastCall : (n : ℕ) → Option (ℕ × RawReply) → (cells : List ℕ) → Type 0
ShowLastCall n None cells = own_ticket cells n ≡ 0
ShowLastCall n (Some r) cells = (r.0 ≢ 0) × HoldLast cells n r.0 r.1
