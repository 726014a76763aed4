-- What a handle knows of the calls of its memory, and tells to another handle or to the memory.
use Rattle.std.specs.Prelude.{ℕ, ◌+◌, List, length, Result}
use Rattle.of_store.specs.Store.{Store}
use Rattle.of_plan.specs.declared.answer.Answer.{Answer}
use Rattle.of_eval.specs.declared.scripts.Scripts.{Scripts}
use Rattle.of_eval.specs.Scripts.{scripts_meaning}
use Rattle.of_row.specs.declared.row.Row.{Row}
use Rattle.of_cells.specs.declared.error.RunError.{RunError}
use Rattle.of_cells.specs.declared.telling.CellNews.{CellNews as News}
use Rattle.of_cells.specs.Telling as generic
use Rattle.of_memory.specs.declared.handle.Handle.{Handle}
use Rattle.of_memory.specs.declared.memory.Memory.{Memory}
use Rattle.of_memory.specs.declared.saved.Saved.{Saved}
use Rattle.of_memory.specs.History.{HistoryEntry, Made, ComeInOrder}
use Rattle.of_memory.specs.Called.{HasStarted, without_reply}
use Rattle.of_memory.specs.Handles.{HasMade, number_of_handle}
use Rattle.of_memory.specs.Memories.{IsFrom, IsStill, StartsWith, RemembersAll, HasHistory, LeadsTo, tickets_before}

-- the handle knows that the first `count` calls of a number since the memory was opened have ended
abbrev pub HasHeardOf : Handle → (number count : ℕ) → Type 0
HasHeardOf h n count = generic.HasHeardOf scripts_meaning h.cells n count

-- the handle knows that the first x calls of number n had ended before number k began the call
-- after its first y
abbrev pub KnowsOrder : Handle → (n x k y : ℕ) → Type 0
KnowsOrder h n x k y = generic.KnowsOrder scripts_meaning h.cells n x k y

-- the handle still knows of each ended call that it knew of, and of each pair of calls which of
-- them came first, if it knew this
abbrev pub KeepsKnown : (before now : Handle) → Type 0
KeepsKnown h k = generic.KeepsKnown scripts_meaning h.cells k.cells

-- the handle's calls are as they were, the ended ones and the open one, and the handle knows as
-- much as before or more
abbrev pub CallsStay : (before now : Handle) → Type 0
CallsStay h k = generic.CallsStay h.cells k.cells

-- ---- news

-- the news is a pass of this row that keeps no caller
abbrev pub IsNews : Row Scripts → News → Type 0
IsNews r a = generic.IsNews r a

-- the news tells of each ended call of the handle
abbrev pub TellsOwn : Handle → News → Type 0
TellsOwn h a = generic.TellsOwn scripts_meaning h.cells a

-- the news tells of each call that the handle has heard of
abbrev pub TellsHeard : Handle → News → Type 0
TellsHeard h a = generic.TellsHeard scripts_meaning h.cells a

-- the handle has heard of each call that the news tells of
abbrev pub HearsAll : News → Handle → Type 0
HearsAll a h = generic.HearsAll scripts_meaning a h.cells

-- ---- a call

-- if the call has made a step, the handle knows that all calls it had heard of had ended before
-- this call began
abbrev pub BeginsAfterHeard : Result Answer RunError → (before now : Handle) → Type 0
BeginsAfterHeard result h k =
    generic.BeginsAfterHeard scripts_meaning (without_reply result) h.cells k.cells

-- if an open call that had made no step goes on and makes one, the handle knows that all calls it
-- had heard of had ended before this call began
abbrev pub ResumesAfterHeard : Result Answer RunError → (before now : Handle) → Type 0
ResumesAfterHeard result h k =
    generic.ResumesAfterHeard scripts_meaning (without_reply result) h.cells k.cells

-- ---- handles come and go

-- if the caller of the handle's number, in the memory, knew that some calls had ended before
-- another call began, the handle knows this
abbrev pub KnowsOrdersOf : Memory → Handle → Type 0
KnowsOrdersOf m h = generic.KnowsOrdersOf scripts_meaning m.cells h.cells

-- the caller of the handle's number is in the memory; if the handle knew that some calls had ended
-- before another call began, this caller knows it
abbrev pub LeavesOrder : Handle → Memory → Type 0
LeavesOrder h m = generic.LeavesOrder scripts_meaning h.cells m.cells

-- the handle has heard of all calls that the memory knows to have ended
abbrev pub HearsMemory : Memory → Handle → Type 0
HearsMemory m h = generic.HearsMemory scripts_meaning m.cells h.cells

-- the memory knows of each ended call of the handle, and of each call that the handle has heard of
abbrev pub TellsMemory : Handle → Memory → Type 0
TellsMemory h m = generic.TellsMemory scripts_meaning h.cells m.cells

-- ---- the whole

-- some history leads from the store to what is saved; in it the calls ms of handle a come before
-- each call of handle b's number that comes after b's calls ks
abbrev pub ComeFirst : Memory → Store → Saved → (a b : Handle) → (ms ks : List Made) → Type 0
ComeFirst m s d a b ms ks =
    (h : List HistoryEntry) × LeadsTo m s d h
    × ComeInOrder h (number_of_handle a) (tickets_before m (number_of_handle a) + length ms)
    (number_of_handle b) (tickets_before m (number_of_handle b) + length ks)

-- If handle b hears the news of handle a, each of the calls ms that a had made comes in the history
-- before b's next call and before each later call of b's number. Here ks are the calls that b had
-- made, c is handle b after its next call, and e is the same handle when it leaves. The memory m
-- then knows all that c knew, and d is what is saved at the close.
abbrev pub ToldCallsComeFirst : Type 0
ToldCallsComeFirst =
    (m : Memory) (d : Saved) (a b c e : Handle) (news : News) (result : Result Answer RunError)
    (ms ks : List Made) → IsFrom m a → IsFrom m b
    → HasMade a ms → TellsOwn a news → HearsAll news b
    → HasMade b ks → HasStarted result → BeginsAfterHeard result b c
    → KeepsKnown c e → LeavesOrder e m → HasHistory m d
    → (s : Store) → StartsWith m s → ComeFirst m s d a b ms ks

-- If handle a leaves the memory before handle b comes, each of the calls ms that a had made comes
-- in the history before b's next call and before each later call of b's number, whatever the two
-- numbers are. Here k is the memory after a has left, and l the memory when b comes; from k to l
-- nothing is forgotten. ks are the calls that b's number had made, c is handle b after its next
-- call, and e is the same handle when it leaves. The memory m then knows all that c knew, and d is
-- what is saved at the close.
abbrev pub CallsComeInTurn : Type 0
CallsComeInTurn =
    (k l m : Memory) (d : Saved) (a b c e : Handle) (result : Result Answer RunError)
    (ms ks : List Made) → IsStill k m → IsStill l m → IsFrom m a → IsFrom m b
    → HasMade a ms → TellsMemory a k → RemembersAll k l → HearsMemory l b
    → HasMade b ks → HasStarted result → BeginsAfterHeard result b c
    → KeepsKnown c e → LeavesOrder e m → HasHistory m d
    → (s : Store) → StartsWith m s → ComeFirst m s d a b ms ks
