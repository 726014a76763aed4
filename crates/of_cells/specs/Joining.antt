-- Laws of memories, for programs that reason about what is saved.
use Rattle.std.specs.Prelude.{◌≡◌, ◌++◌, ℕ, List, length}
use Rattle.of_mem.specs.Meaning.{Meaning}
use Rattle.of_core.specs.Machine.{Call}
use Rattle.of_cells.specs.declared.memory.CellMemory.{CellMemory}
use Rattle.of_cells.specs.declared.handle.CellHandle.{CellHandle}
use Rattle.of_cells.specs.History.{IsSerial, cells_after}
use Rattle.of_cells.specs.Handles.{IsSame, HasCallOpen}
use Rattle.of_cells.specs.Memories.{IsStill, HasNoneOpen, TakesOut, PutsBack}
use Rattle.of_cells.specs.Memories.{work_of, callers_of, cells_before, tickets_before}

-- a serial history, followed by one that starts from the cells which the first one leaves, is one
-- serial history
abbrev pub HistoriesJoin : Meaning → Type 0
HistoriesJoin M =
    (cells : List ℕ) (h k : List Call) → IsSerial M cells h
    → IsSerial M (cells_after M cells h) k → IsSerial M cells (h ++ k)
    × (cells_after M cells (h ++ k) ≡ cells_after M (cells_after M cells h) k)

-- operations lead from as many lawful cells as `size` says to lawful cells, and to as many
abbrev pub CellsStayLawful : Meaning → (List ℕ → Type 0) → (size : ℕ) → Type 0
CellsStayLawful M lawful size =
    (cells : List ℕ) (h : List Call) → length cells ≡ size → lawful cells
    → (length (cells_after M cells h) ≡ size) × lawful (cells_after M cells h)

-- the memory has the same work and as many callers as before, and the same cells and tickets that
-- it was opened with
pub record StaysAsOpened {W : Type 0} (meaning : W → Meaning) (before now : CellMemory W)
    : Type 0 where
  pub work : work_of now ≡ work_of before
  pub callers : callers_of now ≡ callers_of before
  pub cells : cells_before meaning now ≡ cells_before meaning before
  pub tickets : (n : ℕ) → tickets_before meaning now n ≡ tickets_before meaning before n

-- one memory at two times has the same work, the same number of callers, and the same cells and
-- tickets that it was opened with
abbrev pub MemoriesStay : {W : Type 0} → (W → Meaning) → Type 0
MemoriesStay {W} meaning = (m k : CellMemory W) → IsStill m k → StaysAsOpened meaning m k

-- if no call of a memory is open, and a handle comes, makes its calls and leaves with none open,
-- then no call of the memory is open
abbrev pub NoneStaysOpen : Type 0 → Type 0
NoneStaysOpen W =
    (m k l : CellMemory W) (h g : CellHandle W) → HasNoneOpen m → TakesOut m k h → IsSame h g
    → (HasCallOpen g → ⊥) → PutsBack k l g → HasNoneOpen l
