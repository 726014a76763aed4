-- What a handle knows of the calls of its memory, and tells to another handle or to the memory.
use Rattle.std.specs.Prelude.{◌≡◌, ℕ, ◌+◌, ◌≤◌, List, length, Result}
use Rattle.of_mem.specs.Meaning.{Meaning}
use Rattle.of_core.specs.Machine.{Call}
use Rattle.of_core.specs.Events.{Event}
use Rattle.of_row.specs.declared.row.Row.{Row}
use Rattle.of_row.specs.Rows.{setup_at, row_start, view_of_pass, IsRowPass, KeepsNobody}
use Rattle.of_cells.specs.declared.answer.RawAnswer.{RawAnswer}
use Rattle.of_cells.specs.declared.error.RunError.{RunError}
use Rattle.of_cells.specs.declared.handle.CellHandle.{CellHandle}
use Rattle.of_cells.specs.declared.telling.CellNews.{CellNews}
use Rattle.of_cells.specs.declared.memory.CellMemory.{CellMemory}
use Rattle.of_cells.specs.declared.saved.SavedCells.{SavedCells}
use Rattle.of_cells.specs.History.{ComeInOrder}
use Rattle.of_cells.specs.Times.{calls_ended_in, EndBefore}
use Rattle.of_cells.specs.Called.{HasStarted}
use Rattle.of_cells.specs.Serving.{KnowsMore, events_known_to}
use Rattle.of_cells.specs.Handles.{home_of, number_of_handle, caller_of, made_by, steps_so_far}
use Rattle.of_cells.specs.Memories.{IsFrom, IsStill, HasOrderOf, HasHeardOf as MemoryHasHeardOf, HasHistory, LeadsTo, RemembersAll, tickets_before}

-- the handle knows that the first `count` calls of a number since the memory was opened have ended
abbrev pub HasHeardOf : {W : Type 0} → (W → Meaning) → CellHandle W → (number count : ℕ) → Type 0
HasHeardOf meaning h n count =
    count
    ≤ calls_ended_in (setup_at meaning (home_of h)) (row_start meaning (home_of h))
    (events_known_to (caller_of h)) n

-- the handle knows that the first x calls of number n had ended before number k began the call
-- after its first y
abbrev pub KnowsOrder : {W : Type 0} → (W → Meaning) → CellHandle W → (n x k y : ℕ) → Type 0
KnowsOrder meaning h n x k y =
    EndBefore (setup_at meaning (home_of h)) (row_start meaning (home_of h))
    (events_known_to (caller_of h)) n x k y

-- the handle still knows of each ended call that it knew of, and of each pair of calls which of
-- them came first, if it knew this
pub record KeepsKnown {W : Type 0} (meaning : W → Meaning) (before now : CellHandle W)
    : Type 0 where
  pub heard : (n count : ℕ) → HasHeardOf meaning before n count → HasHeardOf meaning now n count
  pub order : (n x k y : ℕ) → KnowsOrder meaning before n x k y → KnowsOrder meaning now n x k y

-- the handle's calls are as they were, the ended ones and the open one, and the handle knows as
-- much as before or more
abbrev pub CallsStay : {W : Type 0} → (before now : CellHandle W) → Type 0
CallsStay h k = KnowsMore (caller_of h) (caller_of k)

-- ---- news

-- the events that the news tells of
abbrev pub events_told : CellNews → List Event
events_told a = (view_of_pass a.pass).past

-- the news is a pass of this row that keeps no caller
pub record IsNews {W : Type 0} (r : Row W) (a : CellNews) : Type 0 where
  pub row : IsRowPass r a.pass
  pub nobody : KeepsNobody a.pass

-- the news tells that the first `count` calls of a number have ended
abbrev pub TellsOf : {W : Type 0} → (W → Meaning) → Row W → CellNews → (number count : ℕ) → Type 0
TellsOf meaning r a n count =
    count ≤ calls_ended_in (setup_at meaning r) (row_start meaning r) (events_told a) n

-- the news tells of each ended call of the handle
abbrev pub TellsOwn : {W : Type 0} → (W → Meaning) → CellHandle W → CellNews → Type 0
TellsOwn meaning h a = TellsOf meaning (home_of h) a (number_of_handle h) (length (made_by h))

-- the news tells of each call that the handle has heard of
abbrev pub TellsHeard : {W : Type 0} → (W → Meaning) → CellHandle W → CellNews → Type 0
TellsHeard meaning h a =
    (n count : ℕ) → HasHeardOf meaning h n count → TellsOf meaning (home_of h) a n count

-- the handle has heard of each call that the news tells of
abbrev pub HearsAll : {W : Type 0} → (W → Meaning) → CellNews → CellHandle W → Type 0
HearsAll meaning a h =
    (n count : ℕ) → TellsOf meaning (home_of h) a n count → HasHeardOf meaning h n count

-- ---- a call

-- if the call has made a step, the handle knows that all calls it had heard of had ended before
-- this call began
abbrev pub BeginsAfterHeard : {W : Type 0} → (W → Meaning) → Result RawAnswer RunError
    → (before now : CellHandle W) → Type 0
BeginsAfterHeard meaning result h k =
    HasStarted result → (n count : ℕ) → HasHeardOf meaning h n count
    → KnowsOrder meaning k n count (number_of_handle h) (length (made_by h))

-- if an open call that had made no step goes on and makes one, the handle knows that all calls it
-- had heard of had ended before this call began
abbrev pub ResumesAfterHeard : {W : Type 0} → (W → Meaning) → Result RawAnswer RunError
    → (before now : CellHandle W) → Type 0
ResumesAfterHeard meaning result h k =
    steps_so_far h ≡ 0 → BeginsAfterHeard meaning result h k

-- ---- handles come and go

-- if the caller of the handle's number, in the memory, knew that some calls had ended before
-- another call began, the handle knows this
abbrev pub KnowsOrdersOf : {W : Type 0} → (W → Meaning) → CellMemory W → CellHandle W → Type 0
KnowsOrdersOf meaning m h =
    (n x k y : ℕ) → HasOrderOf meaning m (number_of_handle h) n x k y
    → KnowsOrder meaning h n x k y

-- the caller of the handle's number is in the memory; if the handle knew that some calls had ended
-- before another call began, this caller knows it
abbrev pub LeavesOrder : {W : Type 0} → (W → Meaning) → CellHandle W → CellMemory W → Type 0
LeavesOrder meaning h m =
    (n x k y : ℕ) → KnowsOrder meaning h n x k y
    → HasOrderOf meaning m (number_of_handle h) n x k y

-- the handle has heard of all calls that the memory knows to have ended
abbrev pub HearsMemory : {W : Type 0} → (W → Meaning) → CellMemory W → CellHandle W → Type 0
HearsMemory meaning m h =
    (n count : ℕ) → MemoryHasHeardOf meaning m n count → HasHeardOf meaning h n count

-- the memory knows of each ended call of the handle, and of each call that the handle has heard of
pub record TellsMemory {W : Type 0} (meaning : W → Meaning) (h : CellHandle W) (m : CellMemory W)
    : Type 0 where
  pub own : MemoryHasHeardOf meaning m (number_of_handle h) (length (made_by h))
  pub heard : (n count : ℕ) → HasHeardOf meaning h n count → MemoryHasHeardOf meaning m n count

-- ---- the whole

-- If handle b hears the news of handle a, each call that a had made comes in the history before b's
-- next call and before each later call of b's number. Here c is handle b after its next call, and e
-- is the same handle when it leaves. The memory m then knows all that c knew, and d is what is
-- saved at the close.
abbrev pub ToldCallsComeFirst : {W : Type 0} → (W → Meaning) → Type 0
ToldCallsComeFirst {W} meaning =
    (m : CellMemory W) (d : SavedCells W) (a b c e : CellHandle W) (news : CellNews)
    (result : Result RawAnswer RunError) → IsFrom m a → IsFrom m b
    → TellsOwn meaning a news → HearsAll meaning news b
    → HasStarted result → BeginsAfterHeard meaning result b c
    → KeepsKnown meaning c e → LeavesOrder meaning e m → HasHistory meaning m d
    → (h : List Call) × LeadsTo meaning m d h
    × ComeInOrder h
    (number_of_handle a) (tickets_before meaning m (number_of_handle a) + length (made_by a))
    (number_of_handle b) (tickets_before meaning m (number_of_handle b) + length (made_by b))

-- If handle a leaves the memory before handle b comes, each call that a had made comes in the
-- history before b's next call and before each later call of b's number, whatever the two numbers
-- are. Here k is the memory after a has left, and l the memory when b comes; from k to l nothing is
-- forgotten. c is handle b after its next call, and e is the same handle when it leaves. The memory
-- m then knows all that c knew, and d is what is saved at the close.
abbrev pub CallsComeInTurn : {W : Type 0} → (W → Meaning) → Type 0
CallsComeInTurn {W} meaning =
    (k l m : CellMemory W) (d : SavedCells W) (a b c e : CellHandle W)
    (result : Result RawAnswer RunError) → IsStill k m → IsStill l m → IsFrom m a → IsFrom m b
    → TellsMemory meaning a k → RemembersAll meaning k l → HearsMemory meaning l b
    → HasStarted result → BeginsAfterHeard meaning result b c
    → KeepsKnown meaning c e → LeavesOrder meaning e m → HasHistory meaning m d
    → (h : List Call) × LeadsTo meaning m d h
    × ComeInOrder h
    (number_of_handle a) (tickets_before meaning m (number_of_handle a) + length (made_by a))
    (number_of_handle b) (tickets_before meaning m (number_of_handle b) + length (made_by b))
