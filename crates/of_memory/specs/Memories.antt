-- A memory that a program has opened, and what its close leaves.
use Rattle.std.specs.Prelude.{◌≡◌, ◌≢◌, ℕ, ◌+◌, ◌<◌, ◌⊎◌, List, map}
use Rattle.std.specs.List.{All}
use Rattle.of_cell.specs.declared.word.TheConstants.{GREATEST_LIMIT}
use Rattle.of_mem.specs.declared.plot.TheConstants.{MOST_BLOCKS}
use Rattle.of_mem.specs.declared.work.TheConstants.{MOST_CALLERS}
use Rattle.of_script.specs.declared.instr.Instr.{Instr}
use Rattle.of_script.specs.Language.{IsScript, instr_word}
use Rattle.of_store.specs.Store.{Store}
use Rattle.of_eval.specs.declared.scripts.Scripts.{Scripts}
use Rattle.of_eval.specs.Scripts.{scripts_meaning}
use Rattle.of_core.specs.Linear.{Sequences}
use Rattle.of_row.specs.declared.row.Row.{Row}
use Rattle.of_row.specs.Views.{EndedCall}
use Rattle.of_cells.specs.declared.error.EnrolError.{EnrolError}
use Rattle.of_cells.specs.Memories as generic
use Rattle.of_memory.specs.declared.error.OpenError.{OpenError}
use Rattle.of_memory.specs.declared.error.OpenError.TheVariants.{OutOfMemory, Callers, Blocks, Limit}
use Rattle.of_memory.specs.declared.memory.Memory.{Memory}
use Rattle.of_memory.specs.declared.handle.Handle.{Handle}
use Rattle.of_memory.specs.declared.saved.Saved.{Saved}
use Rattle.of_memory.specs.History.{HistoryEntry, Made, IsSerial, store_after, StandsInOrder, EntriesRiseBySequence, ExplainsAll, HaveOwnSequences, HasOnly, IsUpTo, ComeInOrder}
use Rattle.of_memory.specs.Calls.{AreMade, AreOfScripts, IsScriptOperation}
use Rattle.of_memory.specs.Rows.{IsScriptsRow, StandFor}
use Rattle.of_memory.specs.Saving.{SavedHolds, TellLast, saved_cells, saved_ticket}

abbrev pub row_of : Memory → Row Scripts
row_of m = generic.row_of m.cells

-- the memory's work: scripts, with its numbers of callers and blocks
abbrev pub scripts_work_of : Memory → Scripts
scripts_work_of m = generic.work_of m.cells

-- how many callers the memory has
abbrev pub callers_of : Memory → ℕ
callers_of m = generic.callers_of m.cells

-- the last sequence that may be committed in the memory
abbrev pub limit_of : Memory → ℕ
limit_of m = generic.limit_of m.cells

-- the numbers of the data cells with which the memory was opened
abbrev pub cells_before : Memory → List ℕ
cells_before m = generic.cells_before scripts_meaning m.cells

-- the memory is open, and its callers have run only scripts
pub record IsMemory (m : Memory) : Type 0 where
  pub memory : generic.IsCellMemory scripts_meaning m.cells
  pub row : IsScriptsRow (row_of m)
  pub made : (n : ℕ) (es : List EndedCall) → generic.HasMadeOf m.cells n es → AreOfScripts es
  pub opened : (n : ℕ) (op : List ℕ) → generic.HasOpenOf m.cells n op → IsScriptOperation op

-- the memory was opened with this store
abbrev pub StartsWith : Memory → Store → Type 0
StartsWith m s = StandFor (scripts_work_of m) (cells_before m) s

-- how many calls a caller had made before the memory was opened
abbrev pub tickets_before : Memory → ℕ → ℕ
tickets_before m n = generic.tickets_before scripts_meaning m.cells n

-- no handle of number n is out, and these calls of number n have ended since the memory was opened
pub record HasMadeOf (m : Memory) (n : ℕ) (ms : List Made) : Type 0 where
  pub ended : List EndedCall
  pub here : generic.HasMadeOf m.cells n ended
  pub made : AreMade ended ms

-- no handle of number n is out, and number n has an open call of this script
pub record HasOpenOf (m : Memory) (n : ℕ) (script : List Instr) : Type 0 where
  pub is : IsScript script
  pub opened : generic.HasOpenOf m.cells n (map instr_word script)

-- no handle of number j is out, and number j knows that the first x calls of number n had ended
-- before number k began the call after its first y
abbrev pub HasOrderOf : Memory → (j n x k y : ℕ) → Type 0
HasOrderOf m j n x k y = generic.HasOrderOf scripts_meaning m.cells j n x k y

-- of each ended call that the memory knew of before, it still knows
abbrev pub RemembersAll : (before now : Memory) → Type 0
RemembersAll m k = generic.RemembersAll scripts_meaning m.cells k.cells

-- no handle is out: the caller of each number is in the memory
abbrev pub HasNoHandleOut : Memory → Type 0
HasNoHandleOut m = generic.HasNoHandleOut m.cells

-- a handle is out: the caller of some number is not in the memory
abbrev pub HasHandleOut : Memory → Type 0
HasHandleOut m = HasNoHandleOut m → ⊥

-- the handle is one of this memory
abbrev pub IsFrom : Memory → Handle → Type 0
IsFrom m h = generic.IsFrom m.cells h.cells

-- both are the same memory at different times: they have the same row
abbrev pub IsStill : (before now : Memory) → Type 0
IsStill m k = generic.IsStill m.cells k.cells

-- For each number other than n: if the number's caller was in the memory, this caller is still
-- there, with the same ended calls.
abbrev pub KnowsOthers : ℕ → (before now : Memory) → Type 0
KnowsOthers n m k = (i : ℕ) (ms : List Made) → i ≢ n → HasMadeOf m i ms → HasMadeOf k i ms

-- for each number other than n: if the number's caller was in the memory with an open call, this
-- caller is still there, with this call open
abbrev pub OthersStayOpen : ℕ → (before now : Memory) → Type 0
OthersStayOpen n m k =
    (i : ℕ) (script : List Instr) → i ≢ n → HasOpenOf m i script → HasOpenOf k i script

-- for each number other than i: if the number's caller in the memory knew that some calls had ended
-- before another call began, it still knows this
abbrev pub OthersKnowOrder : ℕ → (before now : Memory) → Type 0
OthersKnowOrder i m l = generic.OthersKnowOrder scripts_meaning i m.cells l.cells

-- no caller that is in the memory has an open call
abbrev pub HasNoneOpen : Memory → Type 0
HasNoneOpen m = generic.HasNoneOpen m.cells

-- The caller of the handle's number was in the memory, and is taken out of it; all other callers
-- stay. The handle has this caller's calls, and knows what the caller knew.
abbrev pub TakesOut : (before now : Memory) → Handle → Type 0
TakesOut m k h = generic.TakesOut m.cells k.cells h.cells

-- the memory has the same callers in it as before
abbrev pub TakesNone : (before now : Memory) → Type 0
TakesNone m k = generic.TakesNone m.cells k.cells

-- the handle's caller is put back into the memory, with its calls and all that it knew
abbrev pub PutsBack : (before now : Memory) → Handle → Type 0
PutsBack m k h = generic.PutsBack m.cells k.cells h.cells

-- What is saved shows the last call of caller n since the memory was opened: either there was none;
-- or it is a call of the history, and its reply is saved.
abbrev pub TellsLastOf : Memory → Saved → List HistoryEntry → ℕ → Type 0
TellsLastOf m d h n = TellLast (saved_cells d) h n (tickets_before m n)

-- The history leads from the store with which the memory was opened to the saved one. It is serial:
-- each call has the reply that it gets when they are run one after the other. It has each call at
-- most once, and the calls of each caller in the order in which it made them. It is ordered by
-- sequence. All its calls are of callers of the memory. Of the callers that are in the memory, it
-- has each answered call, with its reply, at the sequence that the answer names; it has no spent
-- call, and besides the answered calls only open ones. What is saved names the last call of each
-- caller; later calls of the caller only read. The history respects real time, as far as a caller
-- in the memory knows it.
pub record LeadsTo (m : Memory) (s : Store) (d : Saved) (h : List HistoryEntry) : Type 0 where
  pub serial : IsSerial s h
  pub ends : SavedHolds d (store_after s h)
  pub order : StandsInOrder h
  pub sequences : Sequences
  pub by_seq : EntriesRiseBySequence h sequences
  pub made : (n : ℕ) (ms : List Made) → HasMadeOf m n ms → ExplainsAll h n (tickets_before m n) ms
  pub own_seq : (n : ℕ) (ms : List Made) → HasMadeOf m n ms
      → HaveOwnSequences h sequences n (tickets_before m n) ms
  pub only : (n : ℕ) (ms : List Made) → HasMadeOf m n ms
      → HasOnly h n (tickets_before m n) ms (HasOpenOf m n)
  pub callers : All (λ (e : HistoryEntry). e.caller < callers_of m) h
  pub last : (n : ℕ) → n < callers_of m → TellsLastOf m d h n
  pub upto : (n : ℕ) → n < callers_of m → IsUpTo h n (saved_ticket d n)
  pub time : (j n x k y : ℕ) → HasOrderOf m j n x k y
      → ComeInOrder h n (tickets_before m n + x) k (tickets_before m k + y)

-- a history leads from each store with which the memory was opened to what is saved
abbrev pub HasHistory : Memory → Saved → Type 0
HasHistory m d = (s : Store) → StartsWith m s → (h : List HistoryEntry) × LeadsTo m s d h

-- why the memory gives no handle for number n: memory ran out, the memory has no such caller, or
-- the caller is not in the memory
abbrev pub IsEnrolCause : Memory → ℕ → EnrolError → Type 0
IsEnrolCause m n e = generic.IsEnrolCause m.cells n e

-- why no memory is opened with these callers, blocks and limit: memory ran out, or one of the three
-- is out of its range
abbrev pub IsOpenCause : (callers blocks limit : ℕ) → OpenError → Type 0
IsOpenCause callers blocks limit (OutOfMemory e) = Unit {0}
IsOpenCause callers blocks limit (Callers k) =
    (k ≡ callers) × ((callers ≡ 0) ⊎ (MOST_CALLERS < callers))
IsOpenCause callers blocks limit (Blocks k) = (k ≡ blocks) × (MOST_BLOCKS < blocks)
IsOpenCause callers blocks limit (Limit k) =
    (k ≡ limit) × ((limit ≡ 0) ⊎ (GREATEST_LIMIT < limit))
