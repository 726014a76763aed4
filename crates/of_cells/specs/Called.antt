-- What the result of a call says of the operation's reply, and of the caller before and after the
-- call.
use Rattle.std.specs.Prelude.{◌≡◌, ℕ, ◌<◌, ◌≤◌, ◌⊎◌, List, [], ◌∷◌, ◌++◌, length, Result, Ok, Err}
use mathlib.Core.List.{IsPrefix}
use Rattle.of_mem.specs.Meaning.{Meaning}
use Rattle.of_core.specs.declared.place.Outcome.{Outcome}
use Rattle.of_core.specs.declared.place.Outcome.TheVariants.{Answered, Spent}
use Rattle.of_core.specs.Machine.{IsOpen}
use Rattle.of_row.specs.declared.row.Row.{Row}
use Rattle.of_row.specs.Rows.{key_of}
use Rattle.of_row.specs.Views.{EndedCall, last_caller}
use Rattle.of_caller.specs.declared.caller.Caller.{Caller}
use Rattle.of_caller.specs.Callers.{caller_call, looks_made_by, sight_of}
use Rattle.of_cells.specs.declared.answer.RawAnswer.{RawAnswer}
use Rattle.of_cells.specs.declared.error.RunError.{RunError}
use Rattle.of_cells.specs.declared.error.RunError.TheVariants.{Stopped, Spent as NoneLeft, InCall, NoCall, NoTicket}
use Rattle.of_cells.specs.History.{IsMeant}
use Rattle.of_cells.specs.Times.{calls_begun_in}
use Rattle.of_cells.specs.Serving.{HasStartedIfOpen, cells_at_start, ended_of, events_known_to}

-- the outcome that says the same as the answer: sequence, announced or not, reply and steps
abbrev pub outcome_of : RawAnswer → Outcome
outcome_of a = Answered a.seq a.announced a.raw a.steps

-- If the call was answered, its reply is what the operation gives on some cells. A serial history
-- of operations leads to these cells from those with which the row started.
abbrev pub AnswersAsMeant : {W : Type 0} → (W → Meaning) → Row W → (op : List ℕ)
    → Result RawAnswer RunError → Type 0
AnswersAsMeant meaning r op (Ok a) =
    IsMeant (meaning (key_of r).work) (cells_at_start meaning r) op a.raw
AnswersAsMeant meaning r op (Err e) = Unit {0}

-- The list of a caller's ended calls after a call of this operation has had this result. If the
-- call was answered or spent, it is added at the end; otherwise the list stays as it is.
abbrev pub made_with : (op : List ℕ) → Result RawAnswer RunError → List EndedCall → List EndedCall
made_with op (Ok a) es = es ++ record { op = op; outcome = outcome_of a } ∷ []
made_with op (Err (Stopped asked)) es = es
made_with op (Err (NoneLeft seq)) es = es ++ record { op = op; outcome = Spent seq } ∷ []
made_with op (Err InCall) es = es
made_with op (Err NoCall) es = es
made_with op (Err NoTicket) es = es

-- the caller has an open call, of any operation
abbrev pub IsInCall : {W : Type 0} → Caller W → Type 0
IsInCall c = IsOpen (caller_call c).place

-- the caller has an open call of this operation
abbrev pub IsOpenAt : {W : Type 0} → (op : List ℕ) → Caller W → Type 0
IsOpenAt op c = IsInCall c × ((caller_call c).op ≡ op)

-- if a call of this operation has had this result, it is open if the result is a stop, and no call
-- is open if it was answered or spent
abbrev pub LeavesOpen : {W : Type 0} → (op : List ℕ) → Result RawAnswer RunError → Caller W
    → Type 0
LeavesOpen op (Ok a) c = IsInCall c → ⊥
LeavesOpen op (Err (Stopped asked)) c = IsOpenAt op c
LeavesOpen op (Err (NoneLeft seq)) c = IsInCall c → ⊥
LeavesOpen op (Err InCall) c = Unit {0}
LeavesOpen op (Err NoCall) c = Unit {0}
LeavesOpen op (Err NoTicket) c = Unit {0}

-- an open call that the caller has now is of the operation `op`, or the caller had an open call of
-- the same operation before
abbrev pub CallerOpensOnly : {W : Type 0} → (op : List ℕ) → (before now : Caller W) → Type 0
CallerOpensOnly op c d = (o : List ℕ) → IsOpenAt o d → (o ≡ op) ⊎ IsOpenAt o c

-- if the caller has an open call now, a call of the same operation was open before
abbrev pub CallerOpensNone : {W : Type 0} → (before now : Caller W) → Type 0
CallerOpensNone c d = (o : List ℕ) → IsOpenAt o d → IsOpenAt o c

-- the call was made; it was not refused
abbrev pub WasTried : Result RawAnswer RunError → Type 0
WasTried (Ok a) = Unit {0}
WasTried (Err (Stopped asked)) = Unit {0}
WasTried (Err (NoneLeft seq)) = Unit {0}
WasTried (Err InCall) = ⊥
WasTried (Err NoCall) = ⊥
WasTried (Err NoTicket) = ⊥

-- by this result the call has made a step: it was answered or spent, or it was stopped after its
-- brake was asked more than once
abbrev pub HasStarted : Result RawAnswer RunError → Type 0
HasStarted (Ok a) = Unit {0}
HasStarted (Err (Stopped asked)) = 1 < asked
HasStarted (Err (NoneLeft seq)) = Unit {0}
HasStarted (Err InCall) = ⊥
HasStarted (Err NoCall) = ⊥
HasStarted (Err NoTicket) = ⊥

-- If the call has made a step, then before the call the caller knew of at most as many begun calls
-- of this number as it had ended calls.
abbrev pub BeginsAsNext : {W : Type 0} → (number : ℕ) → Result RawAnswer RunError → Caller W
    → Type 0
BeginsAsNext n result c =
    HasStarted result → calls_begun_in (events_known_to c) n ≤ length (ended_of c)

-- If the call has made a step, then before the call the caller knew of no call of its own number
-- that had begun and not ended.
abbrev pub BeginsItsNext : {W : Type 0} → Result RawAnswer RunError → Caller W → Type 0
BeginsItsNext result c = BeginsAsNext (caller_call c).caller result c

-- Suppose that the caller's open call has made no step, and that the caller keeps no open call
-- without a step. If the call makes a step when it goes on, then before that the caller knew of no
-- call of its own number that had begun, besides those that had ended.
abbrev pub ResumesItsNext : {W : Type 0} → Result RawAnswer RunError → Caller W → Type 0
ResumesItsNext result c =
    HasStartedIfOpen (last_caller (sight_of c).kept) → (caller_call c).steps ≡ 0
    → BeginsItsNext result c

-- the caller has made no load outside of its calls: the count of such loads has stayed the same
abbrev pub StepsAlone : {W : Type 0} → (before now : Caller W) → Type 0
StepsAlone c d = looks_made_by d ≡ looks_made_by c

-- the caller knows all events that it knew, in the same order, and maybe later ones
abbrev pub LearnsMore : {W : Type 0} → (before now : Caller W) → Type 0
LearnsMore c d = IsPrefix (events_known_to c) (events_known_to d)

-- if the call was refused (`InCall`, `NoCall` or `NoTicket`), nothing has changed
abbrev pub LeavesAsItWas : {A : Type 0} → Result RawAnswer RunError → (before now : A) → Type 0
LeavesAsItWas (Ok a) before now = Unit {0}
LeavesAsItWas (Err (Stopped asked)) before now = Unit {0}
LeavesAsItWas (Err (NoneLeft seq)) before now = Unit {0}
LeavesAsItWas (Err InCall) before now = now ≡ before
LeavesAsItWas (Err NoCall) before now = now ≡ before
LeavesAsItWas (Err NoTicket) before now = now ≡ before
