-- Tasks that work at once, each with a handle of its own.
use Rattle.std.specs.Prelude.{◌≡◌, ℕ, ◌<◌, ◌≤◌, List, Some, length, get_or}
use Rattle.of_script.specs.declared.instr.Instr.{Instr}
use Rattle.of_eval.specs.declared.scripts.Scripts.{Scripts}
use Rattle.of_cells.specs.declared.error.EnrolError.{EnrolError}
use Rattle.of_cells.specs.declared.handle.CellHandle.{CellHandle}
use Rattle.of_cells.specs.Tasks as generic
use Rattle.of_memory.specs.declared.memory.Memory.{Memory}
use Rattle.of_memory.specs.declared.handle.Handle.{Handle}
use Rattle.of_memory.specs.History.{Made}
use Rattle.of_memory.specs.Handles.{IsHandle, HasMade, HasOpen, IsSame, number_of_handle}
use Rattle.of_memory.specs.Memories.{HasMadeOf, HasOpenOf, HasOrderOf, IsFrom}
use Rattle.of_memory.specs.Telling.{KnowsOrdersOf, LeavesOrder, HearsMemory, TellsMemory}

-- the caller of the handle's number is in the memory, with exactly the calls that the handle has,
-- ended and open
pub record KnowsHandle (m : Memory) (h : Handle) : Type 0 where
  pub made : (ms : List Made) → HasMade h ms → HasMadeOf m (number_of_handle h) ms
  pub only : (ms : List Made) → HasMadeOf m (number_of_handle h) ms → HasMade h ms
  pub open_call : (script : List Instr) → HasOpen h script
      → HasOpenOf m (number_of_handle h) script
  pub only_open : (script : List Instr) → HasOpenOf m (number_of_handle h) script
      → HasOpen h script

-- of number n the memory knows exactly the ended calls and the open call that it knew before
pub record KnowsSame (n : ℕ) (m k : Memory) : Type 0 where
  pub made : (ms : List Made) → HasMadeOf m n ms → HasMadeOf k n ms
  pub only : (ms : List Made) → HasMadeOf k n ms → HasMadeOf m n ms
  pub open_call : (script : List Instr) → HasOpenOf m n script → HasOpenOf k n script
  pub only_open : (script : List Instr) → HasOpenOf k n script → HasOpenOf m n script

-- of each number from `from` on the memory knows exactly the calls that it knew before
abbrev pub KnowsRest : (from : ℕ) → (before now : Memory) → Type 0
KnowsRest from m k = (n : ℕ) → from ≤ n → KnowsSame n m k

-- for each number from `from` on: if the number's caller in the memory knew that some calls had
-- ended before another call began, it still knows this
abbrev pub RestKnowsOrder : (from : ℕ) → (before now : Memory) → Type 0
RestKnowsOrder from m l =
    (j : ℕ) → from ≤ j → (n x k y : ℕ) → HasOrderOf m j n x k y → HasOrderOf l j n x k y

-- what a task promises of its work: a relation of the task and the handle before the work, and of
-- the task and the handle after it
abbrev pub TaskWork : Type 0 → Type 1
TaskWork J = J → Handle → J → Handle → Type 0

-- a task has worked with its handle, and gives back a handle of the same memory and number
pub record HasWorked {J : Type 0} (Does : TaskWork J) (p q : Handle × J) : Type 0 where
  pub handle : IsHandle q.0
  pub same : IsSame p.0 q.0
  pub done : Does p.1 p.0 q.1 q.0

-- what the task promises of its work (`Does`), as a fact about the task and a handle of a memory of
-- cells
abbrev pub WorksWith : {J : Type 0} → TaskWork J → generic.TaskWork Scripts J
WorksWith Does x h y k = HasWorked Does (record { cells = h }, x) (record { cells = k }, y)

-- A task has worked with the handle of this number. The handle knew what the memory knew of the
-- number before, and had heard of all calls that the memory knew to have ended. The memory knows
-- what the handle knew when it left, and has heard of all calls of the handle.
pub record HasWorkedAs {J : Type 0} (Does : TaskWork J) (n : ℕ) (m k : Memory) (x y : J)
    : Type 0 where
  pub begun : Handle
  pub number : number_of_handle begun ≡ n
  pub from : IsFrom m begun
  pub handle : IsHandle begun
  pub knew : KnowsHandle m begun
  pub knew_order : KnowsOrdersOf m begun
  pub heard : HearsMemory m begun
  pub left : Handle
  pub worked : HasWorked Does (begun, x) (left, y)
  pub knows : KnowsHandle k left
  pub order : LeavesOrder left k
  pub told : TellsMemory left k

-- each task has worked with the handle whose number is the index of the task in the list
pub record HaveWorked {J : Type 0} (Does : TaskWork J) (m k : Memory) (xs ys : List J)
    : Type 0 where
  pub count : length ys ≡ length xs
  pub each : (n : ℕ) (d : J) → n < length xs
      → HasWorkedAs Does n m k (get_or xs n d) (get_or ys n d)

-- why no task has worked: memory ran out, there are more tasks than callers, or a handle with the
-- number of a task is out
abbrev pub IsTaskCause : Memory → (count : ℕ) → EnrolError → Type 0
IsTaskCause m count e = generic.IsTaskCause m.cells count e

-- ---- a task works with a handle of cells

-- if the slot holds a handle, it is one of a memory of scripts
abbrev pub MayWork : {J : Type 0} → generic.Slot Scripts J → Type 0
MayWork {J} s =
    (p : CellHandle Scripts × J) → s ≡ Some p → IsHandle (record { cells = p.0 })

-- each handle in these slots is one of a memory of scripts
abbrev pub MayAllWork : {J : Type 0} → List (generic.Slot Scripts J) → Type 0
MayAllWork {J} ss =
    (i : ℕ) (s : generic.Slot Scripts J) → i < length ss → s ≡ get_or ss i s → MayWork s
