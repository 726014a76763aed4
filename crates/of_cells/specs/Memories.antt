-- An open memory of cells, and what it leaves when it is closed.
use Rattle.std.specs.Prelude.{◌≡◌, ◌≢◌, ℕ, ◌+◌, ◌<◌, ◌≤◌, ◌⊎◌, List, [], Some, None, length, slice_set}
use Rattle.std.specs.Arc.{arc_value}
use Rattle.std.specs.List.{All}
use Rattle.std.proofs.Common.{get_or}
use Rattle.of_cell.specs.declared.word.TheConstants.{GREATEST_LIMIT}
use Rattle.of_mem.specs.Meaning.{Meaning}
use Rattle.of_core.specs.Fit.{IsEmptyWithRoom}
use Rattle.of_core.specs.Machine.{Call}
use Rattle.of_core.specs.Linear.{Sequences, StandsBySequence}
use Rattle.of_row.specs.declared.row.Row.{Row}
use Rattle.of_core.specs.Events.{Event}
use Rattle.of_row.specs.Rows.{key_of, setup_at, row_start, IsRowPass, IsFirstPass}
use Rattle.of_row.specs.Views.{EndedCall}
use Rattle.of_caller.specs.declared.caller.Caller.{Caller}
use Rattle.of_cells.specs.declared.error.EnrolError.{EnrolError}
use Rattle.of_cells.specs.declared.error.EnrolError.TheVariants.{OutOfMemory, NoCaller, Enrolled}
use Rattle.of_cells.specs.declared.error.OpenError.{OpenError}
use Rattle.of_cells.specs.declared.error.OpenError.TheVariants.{OutOfMemory as NoRoom, Limit}
use Rattle.of_cells.specs.declared.memory.CellMemory.{CellMemory}
use Rattle.of_cells.specs.declared.handle.CellHandle.{CellHandle}
use Rattle.of_cells.specs.declared.saved.SavedCells.{SavedCells}
use Rattle.of_cells.specs.History.{IsSerial, cells_after, StandsInOrder, ExplainsAll, HaveOwnSequences, HasOnly, IsUpTo, ComeInOrder}
use Rattle.of_cells.specs.Times.{calls_ended_in, EndBefore}
use Rattle.of_cells.specs.Called.{IsOpenAt}
use Rattle.of_cells.specs.Serving.{ServeAll, AllHere, KnowsMore, IsKnowledge, ended_of, events_known_to, events_in, cells_at_start, durable_count, made_before}
use Rattle.of_cells.specs.Saving.{HoldAfterOwn, TellLast, KeepsOwnCells, saved_callers, saved_cells, saved_ticket}
use Rattle.of_cells.specs.Handles.{home_of, number_of_handle, caller_of}

abbrev pub row_of : {W : Type 0} → CellMemory W → Row W
row_of m = arc_value m.row

-- the memory is open: it has the row's first pass, a slot for each caller, what handles that have
-- left knew, and empty room for the durable words; the caller in a slot serves the row with the
-- number that is the slot's index
pub record IsCellMemory {W : Type 0} (meaning : W → Meaning) (m : CellMemory W) : Type 0 where
  pub pass : IsRowPass (row_of m) m.pass
  pub first : IsFirstPass m.pass
  pub each : length m.callers.items ≡ (key_of (row_of m)).callers
  pub serve : ServeAll meaning (row_of m) m.callers.items
  pub known : IsKnowledge (row_of m) m.known
  pub room : IsEmptyWithRoom (durable_count (row_of m)) m.room

-- the work whose operations the memory runs
abbrev pub work_of : {W : Type 0} → CellMemory W → W
work_of m = (key_of (row_of m)).work

-- how many callers the memory has
abbrev pub callers_of : {W : Type 0} → CellMemory W → ℕ
callers_of m = (key_of (row_of m)).callers

-- how many data cells the memory has
abbrev pub cell_count_of : {W : Type 0} → CellMemory W → ℕ
cell_count_of m = (key_of (row_of m)).cells

-- the last sequence that a commit in the memory may have
abbrev pub limit_of : {W : Type 0} → CellMemory W → ℕ
limit_of m = (key_of (row_of m)).limit

-- the numbers of the data cells with which the memory was opened
abbrev pub cells_before : {W : Type 0} → (W → Meaning) → CellMemory W → List ℕ
cells_before meaning m = cells_at_start meaning (row_of m)

-- the memory was opened with lawful cells of its work, and with as many as this work has
pub record BeganLawful {W : Type 0} (size : W → ℕ) (meaning : W → Meaning)
    (lawful : W → List ℕ → Type 0) (m : CellMemory W) : Type 0 where
  pub long : length (cells_before meaning m) ≡ size (work_of m)
  pub is_lawful : lawful (work_of m) (cells_before meaning m)

-- how many calls a caller had made before the memory was opened
abbrev pub tickets_before : {W : Type 0} → (W → Meaning) → CellMemory W → ℕ → ℕ
tickets_before meaning m n = made_before meaning (row_of m) n

-- no handle of number n is out, and these calls of number n have ended since the memory was opened
pub record HasMadeOf {W : Type 0} (m : CellMemory W) (n : ℕ) (es : List EndedCall) : Type 0 where
  pub caller : Caller W
  pub here : get_or m.callers.items n None ≡ Some caller
  pub made : ended_of caller ≡ es

-- no handle of number n is out, and number n has an open call of this operation
pub record HasOpenOf {W : Type 0} (m : CellMemory W) (n : ℕ) (op : List ℕ) : Type 0 where
  pub caller : Caller W
  pub here : get_or m.callers.items n None ≡ Some caller
  pub opened : IsOpenAt op caller

-- no handle of number j is out, and number j knows that the first x calls of number n had ended
-- before number k began the call after its first y
pub record HasOrderOf {W : Type 0} (meaning : W → Meaning) (m : CellMemory W) (j n x k y : ℕ)
    : Type 0 where
  pub caller : Caller W
  pub here : get_or m.callers.items j None ≡ Some caller
  pub order : EndBefore (setup_at meaning (row_of m)) (row_start meaning (row_of m))
      (events_known_to caller) n x k y

-- the events that the memory knows: all that was known to handles that have left
abbrev pub events_heard : {W : Type 0} → CellMemory W → List Event
events_heard m = events_in m.known

-- the memory knows that at least `count` calls of this number have ended since it was opened
abbrev pub HasHeardOf : {W : Type 0} → (W → Meaning) → CellMemory W → (number count : ℕ) → Type 0
HasHeardOf meaning m n count =
    count ≤ calls_ended_in (setup_at meaning (row_of m)) (row_start meaning (row_of m))
    (events_heard m) n

-- of each ended call that the memory knew of before, it still knows
abbrev pub RemembersAll : {W : Type 0} → (W → Meaning) → (before now : CellMemory W) → Type 0
RemembersAll meaning m k =
    (n count : ℕ) → HasHeardOf meaning m n count → HasHeardOf meaning k n count

-- no handle is out, and no number has ended a call since the memory was opened
abbrev pub HasMadeNothing : {W : Type 0} → CellMemory W → Type 0
HasMadeNothing m = (n : ℕ) → n < callers_of m → HasMadeOf m n []

-- no caller that is in the memory has an open call
abbrev pub HasNoneOpen : {W : Type 0} → CellMemory W → Type 0
HasNoneOpen m = (n : ℕ) (op : List ℕ) → HasOpenOf m n op → ⊥

-- no handle is out: the caller of each number is in the memory
abbrev pub HasNoHandleOut : {W : Type 0} → CellMemory W → Type 0
HasNoHandleOut m = AllHere m.callers.items (length m.callers.items)

-- a handle is out: the caller of some number is not in the memory
abbrev pub HasHandleOut : {W : Type 0} → CellMemory W → Type 0
HasHandleOut m = HasNoHandleOut m → ⊥

-- the handle is one of this memory
abbrev pub IsFrom : {W : Type 0} → CellMemory W → CellHandle W → Type 0
IsFrom m h = home_of h ≡ row_of m

-- both are the same memory at different times: they have the same row
abbrev pub IsStill : {W : Type 0} → (before now : CellMemory W) → Type 0
IsStill m k = row_of k ≡ row_of m

-- For each number other than n: if the number's caller was in the memory, this caller is still
-- there, with the same ended calls.
abbrev pub KnowsOthers : {W : Type 0} → ℕ → (before now : CellMemory W) → Type 0
KnowsOthers n m k =
    (i : ℕ) (es : List EndedCall) → i ≢ n → HasMadeOf m i es → HasMadeOf k i es

-- for each number other than n: if the number's caller was in the memory with an open call, this
-- caller is still there, with this call open
abbrev pub OthersStayOpen : {W : Type 0} → ℕ → (before now : CellMemory W) → Type 0
OthersStayOpen n m k =
    (i : ℕ) (op : List ℕ) → i ≢ n → HasOpenOf m i op → HasOpenOf k i op

-- for each number other than i: if the number's caller in the memory knew that some calls had ended
-- before another call began, it still knows this
abbrev pub OthersKnowOrder : {W : Type 0} → (W → Meaning) → ℕ → (before now : CellMemory W)
    → Type 0
OthersKnowOrder meaning i m l =
    (j n x k y : ℕ) → j ≢ i → HasOrderOf meaning m j n x k y → HasOrderOf meaning l j n x k y

-- The caller of the handle's number was in the memory, and is taken out of it; all other callers
-- stay. The handle has this caller's calls, and knows what the caller knew.
pub record TakesOut {W : Type 0} (m k : CellMemory W) (h : CellHandle W) : Type 0 where
  pub caller : Caller W
  pub was : get_or m.callers.items (number_of_handle h) None ≡ Some caller
  pub same : KnowsMore caller (caller_of h)
  pub now : k.callers.items ≡ slice_set m.callers.items (number_of_handle h) None

-- the memory has the same callers in it as before
abbrev pub TakesNone : {W : Type 0} → (before now : CellMemory W) → Type 0
TakesNone m k = k.callers.items ≡ m.callers.items

-- a caller with the calls of caller c, which knows all that c knew, is put into the memory as
-- number n; all other numbers have what they had
pub record PutsCaller {W : Type 0} (n : ℕ) (c : Caller W) (m k : CellMemory W) : Type 0 where
  pub caller : Caller W
  pub same : KnowsMore c caller
  pub now : k.callers.items ≡ slice_set m.callers.items n (Some caller)

-- the handle's caller is put back into the memory, with its calls and all that it knew
abbrev pub PutsBack : {W : Type 0} → (before now : CellMemory W) → CellHandle W → Type 0
PutsBack m k h = PutsCaller (number_of_handle h) (caller_of h) m k

-- The history leads from the cells with which the memory was opened to the saved ones, apart from
-- the callers' own cells. It is serial: each call has the reply that it gets when they are run one
-- after the other. It has each call at most once, and the calls of each caller in the order in
-- which it made them. It is ordered by sequence: sequences do not fall, and of the calls of one
-- sequence the announced ones come first, by caller. All its calls are of callers of the memory. Of
-- the callers that are in the memory, it has each answered call, with its reply, at the sequence
-- that the answer names; it has no spent call, and besides the answered calls only open ones. What
-- is saved names the last call of each caller; later calls of the caller only read.
pub record IsOneHistory {W : Type 0} (meaning : W → Meaning) (m : CellMemory W) (d : SavedCells W)
    (h : List Call) : Type 0 where
  pub serial : IsSerial (meaning (work_of m)) (cells_before meaning m) h
  pub ends : HoldAfterOwn (saved_callers d) (saved_cells d)
      (cells_after (meaning (work_of m)) (cells_before meaning m) h)
  pub order : StandsInOrder h
  pub sequences : Sequences
  pub by_seq : StandsBySequence h sequences
  pub made : (n : ℕ) (es : List EndedCall) → HasMadeOf m n es
      → ExplainsAll h n (tickets_before meaning m n) es
  pub own_seq : (n : ℕ) (es : List EndedCall) → HasMadeOf m n es
      → HaveOwnSequences h sequences n (tickets_before meaning m n) es
  pub only : (n : ℕ) (es : List EndedCall) → HasMadeOf m n es
      → HasOnly h n (tickets_before meaning m n) es (HasOpenOf m n)
  pub callers : All (λ (e : Call). e.caller < callers_of m) h
  pub last : (n : ℕ) → n < callers_of m → TellLast (saved_cells d) h n (tickets_before meaning m n)
  pub upto : (n : ℕ) → n < callers_of m → IsUpTo (meaning (work_of m)) h n (saved_ticket d n)

-- The history respects real time, as far as a caller in the memory knows it: calls that had ended
-- come before calls that had not begun.
abbrev pub KeepsTime : {W : Type 0} → (W → Meaning) → CellMemory W → List Call → Type 0
KeepsTime meaning m h =
    (j n x k y : ℕ) → HasOrderOf meaning m j n x k y
    → ComeInOrder h n (tickets_before meaning m n + x) k (tickets_before meaning m k + y)

-- the list is one serial history of the memory that leads to what is saved, and it respects real
-- time
pub record LeadsTo {W : Type 0} (meaning : W → Meaning) (m : CellMemory W) (d : SavedCells W)
    (h : List Call) : Type 0 where
  pub one : IsOneHistory meaning m d h
  pub time : KeepsTime meaning m h

-- some history of the memory leads to what is saved, and respects real time
abbrev pub HasHistory : {W : Type 0} → (W → Meaning) → CellMemory W → SavedCells W → Type 0
HasHistory meaning m d = (h : List Call) × LeadsTo meaning m d h

-- if what is saved has no call of a caller since the memory was opened, the caller's own cells are
-- the same as when the memory was opened, with the reply in them
abbrev pub SavesOwnCells : {W : Type 0} → (W → Meaning) → CellMemory W → SavedCells W → Type 0
SavesOwnCells meaning m d = KeepsOwnCells meaning (row_of m) d

-- why the memory gives no handle for number n: memory ran out, the memory has no such caller, or
-- the caller is not in the memory
abbrev pub IsEnrolCause : {W : Type 0} → CellMemory W → ℕ → EnrolError → Type 0
IsEnrolCause m n (OutOfMemory e) = Unit {0}
IsEnrolCause m n (NoCaller k) = (k ≡ n) × (callers_of m ≤ n)
IsEnrolCause m n (Enrolled k) = (k ≡ n) × (get_or m.callers.items n None ≡ None)

-- why no memory is opened with this limit: memory ran out, or the limit is out of its range
abbrev pub IsOpenCause : (limit : ℕ) → OpenError → Type 0
IsOpenCause limit (NoRoom e) = Unit {0}
IsOpenCause limit (Limit k) = (k ≡ limit) × ((limit ≡ 0) ⊎ (GREATEST_LIMIT < limit))

-- the limit is in its range: 1 to `GREATEST_LIMIT`
pub record IsLimit (limit : ℕ) : Type 0 where
  pub some : 1 ≤ limit
  pub few : limit ≤ GREATEST_LIMIT
