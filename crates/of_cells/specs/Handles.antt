-- A handle of a memory of cells, and what the results of its calls say.
use Rattle.std.specs.Prelude.{◌≡◌, ℕ, ◌+◌, ◌<◌, ◌≤◌, List, length, Result, Ok, Err}
use Rattle.std.specs.Arc.{arc_value}
use Rattle.of_mem.specs.Meaning.{Meaning}
use Rattle.of_row.specs.declared.row.Row.{Row}
use Rattle.of_row.specs.Rows.{key_of}
use Rattle.of_row.specs.Views.{EndedCall}
use Rattle.of_caller.specs.declared.caller.Caller.{Caller}
use Rattle.of_caller.specs.Callers.{caller_call, calls_begun_by, looks_made_by}
use Rattle.of_cells.specs.declared.answer.RawAnswer.{RawAnswer}
use Rattle.of_cells.specs.declared.error.RunError.{RunError}
use Rattle.of_cells.specs.declared.error.RunError.TheVariants.{Stopped, Spent, InCall, NoCall, NoTicket}
use Rattle.of_cells.specs.declared.handle.CellHandle.{CellHandle}
use Rattle.of_cells.specs.Called.{AnswersAsMeant, IsInCall, IsOpenAt, LeavesOpen, CallerOpensOnly, CallerOpensNone, StepsAlone}
use Rattle.of_cells.specs.Serving.{Serves, RisesByTouch, ended_of, made_before, row_step_bound, steps_made_by}

-- the row of the handle's memory
abbrev pub home_of : {W : Type 0} → CellHandle W → Row W
home_of h = arc_value h.row

-- the handle's number
abbrev pub number_of_handle : {W : Type 0} → CellHandle W → ℕ
number_of_handle h = h.number

-- the caller with which the handle makes its calls
abbrev pub caller_of : {W : Type 0} → CellHandle W → Caller W
caller_of h = h.caller

-- the handle is one of some memory: its caller serves the memory's row with the handle's number
abbrev pub IsCellHandle : {W : Type 0} → (W → Meaning) → CellHandle W → Type 0
IsCellHandle meaning h = Serves meaning (home_of h) (number_of_handle h) (caller_of h)

-- the calls of the handle's number that have ended since the memory was opened, in order
abbrev pub made_by : {W : Type 0} → CellHandle W → List EndedCall
made_by h = ended_of (caller_of h)

-- the handle has an open call, of any operation
abbrev pub HasCallOpen : {W : Type 0} → CellHandle W → Type 0
HasCallOpen h = IsInCall (caller_of h)

-- the words of the handle's open call, or of its last call if none is open
abbrev pub last_operation_of : {W : Type 0} → CellHandle W → List ℕ
last_operation_of h = (caller_call (caller_of h)).op

-- the handle has an open call of this operation
abbrev pub HasOpen : {W : Type 0} → CellHandle W → (op : List ℕ) → Type 0
HasOpen h op = IsOpenAt op (caller_of h)

-- if a call of this operation has had this result, it is open if the result is a stop, and no call
-- is open if it was answered or spent
abbrev pub StaysOpenOnlyIfStopped : {W : Type 0} → (op : List ℕ) → Result RawAnswer RunError
    → CellHandle W → Type 0
StaysOpenOnlyIfStopped op result h = LeavesOpen op result (caller_of h)

-- If the call was answered, its reply is what the operation gives on some cells. A serial history
-- of operations leads to these cells from those with which the handle's memory was opened.
abbrev pub RepliesAsMeant : {W : Type 0} → (W → Meaning) → (op : List ℕ) → CellHandle W
    → Result RawAnswer RunError → Type 0
RepliesAsMeant meaning op h result = AnswersAsMeant meaning (home_of h) op result

-- how many steps the handle's open call has made
abbrev pub steps_so_far : {W : Type 0} → CellHandle W → ℕ
steps_so_far h = (caller_call (caller_of h)).steps

-- how many atomic steps the calls of the handle's number have made since the memory was opened;
-- those of spent calls and of the open call count too
abbrev pub steps_of_calls : {W : Type 0} → CellHandle W → ℕ
steps_of_calls h = steps_made_by (caller_of h)

-- how many loads the handle has made that are no step of a call: two each time that it tells or
-- hears
abbrev pub looks_of : {W : Type 0} → CellHandle W → ℕ
looks_of h = looks_made_by (caller_of h)

-- the handle has made no load outside of its calls: the count of such loads has stayed the same
abbrev pub MakesStepsAlone : {W : Type 0} → (before now : CellHandle W) → Type 0
MakesStepsAlone h k = StepsAlone (caller_of h) (caller_of k)

-- the calls of the handle's number have made at most this many steps more
abbrev pub MakesAtMost : {W : Type 0} → (most : ℕ) → (before now : CellHandle W) → Type 0
MakesAtMost most h k = steps_of_calls k ≤ steps_of_calls h + most

-- if the handle has an open call, the steps that this call had made before, and the steps made
-- since, are together at most this many
abbrev pub GoesOnWithin : {W : Type 0} → (most : ℕ) → (before now : CellHandle W) → Type 0
GoesOnWithin most h k = HasCallOpen h → steps_so_far h + steps_of_calls k ≤ steps_of_calls h + most

-- The calls of the handle's number have made no more steps than one call of this operation may
-- make. This bound depends on how many cells the operations of the work read and write.
abbrev pub MakesByTouch : {W : Type 0} → (W → Meaning) → (W → List ℕ → Type 0) → (op : List ℕ)
    → (before now : CellHandle W) → Type 0
MakesByTouch meaning lawful op h k =
    RisesByTouch meaning lawful (home_of h) op 0 (steps_of_calls h) (steps_of_calls k)

-- If the handle has an open call, the steps that this call had made before, and the steps made
-- since, are together no more than the call may make. This bound depends on how many cells the
-- operations of the work read and write.
abbrev pub GoesOnByTouch : {W : Type 0} → (W → Meaning) → (W → List ℕ → Type 0)
    → (before now : CellHandle W) → Type 0
GoesOnByTouch meaning lawful h k =
    HasCallOpen h
    → RisesByTouch meaning lawful (home_of h) (last_operation_of h) (steps_so_far h)
    (steps_of_calls h) (steps_of_calls k)

-- the last sequence that may be committed in the handle's memory
abbrev pub limit_at : {W : Type 0} → CellHandle W → ℕ
limit_at h = (key_of (home_of h)).limit

-- the step bound of the handle's memory: how many steps a call makes at most
abbrev pub step_bound_of : {W : Type 0} → (W → Meaning) → CellHandle W → ℕ
step_bound_of meaning h = row_step_bound meaning (home_of h)

-- how many calls of the handle's number were begun, those before its memory was opened included
abbrev pub calls_begun : {W : Type 0} → CellHandle W → ℕ
calls_begun h = calls_begun_by (caller_of h)

-- how many calls the handle's number had made before its memory was opened
abbrev pub tickets_behind : {W : Type 0} → (W → Meaning) → CellHandle W → ℕ
tickets_behind meaning h = made_before meaning (home_of h) (number_of_handle h)

-- the handle's number has begun as many calls as it ever may: those before the memory was opened
-- count too
abbrev pub HasNoTicketLeft : {W : Type 0} → CellHandle W → Type 0
HasNoTicketLeft h = calls_begun h + 1 < 4294967296 → ⊥

-- If a handle has no open call, the number of calls that its number has begun is the sum of two:
-- those from before its memory was opened, and those that have ended since.
abbrev pub CallsAreCounted : {W : Type 0} → (W → Meaning) → Type 0
CallsAreCounted {W} meaning =
    (h : CellHandle W) → IsCellHandle meaning h → (HasCallOpen h → ⊥)
    → calls_begun h ≡ tickets_behind meaning h + length (made_by h)

-- an open call that the handle has now is of the operation `op`, or the handle had an open call of
-- the same operation before
abbrev pub OpensOnly : {W : Type 0} → (op : List ℕ) → (before now : CellHandle W) → Type 0
OpensOnly op h k = CallerOpensOnly op (caller_of h) (caller_of k)

-- if the handle has an open call now, a call of the same operation was open before
abbrev pub OpensNone : {W : Type 0} → (before now : CellHandle W) → Type 0
OpensNone h k = CallerOpensNone (caller_of h) (caller_of k)

-- no call of the handle is open, and its number may make one more
pub record MayCall {W : Type 0} (h : CellHandle W) : Type 0 where
  pub none : HasCallOpen h → ⊥
  pub left : HasNoTicketLeft h → ⊥

-- A new call is made exactly if no call is open and the handle's number may make one more. It is
-- spent only if the sequence has come to the limit. It is refused with `InCall` if a call is open,
-- and with `NoTicket` if none is open and the number may make no more.
abbrev pub RefusesCall : {W : Type 0} → CellHandle W → Result RawAnswer RunError → Type 0
RefusesCall h (Ok a) = MayCall h
RefusesCall h (Err (Stopped asked)) = MayCall h
RefusesCall h (Err (Spent seq)) = MayCall h × (seq ≡ limit_at h)
RefusesCall h (Err InCall) = HasCallOpen h
RefusesCall h (Err NoCall) = ⊥
RefusesCall h (Err NoTicket) = (HasCallOpen h → ⊥) × HasNoTicketLeft h

-- a call goes on exactly if one is open, and otherwise `NoCall` is the error; the call is spent
-- only if the sequence has come to the limit
abbrev pub RefusesToGoOn : {W : Type 0} → CellHandle W → Result RawAnswer RunError → Type 0
RefusesToGoOn h (Ok a) = HasCallOpen h
RefusesToGoOn h (Err (Stopped asked)) = HasCallOpen h
RefusesToGoOn h (Err (Spent seq)) = HasCallOpen h × (seq ≡ limit_at h)
RefusesToGoOn h (Err InCall) = ⊥
RefusesToGoOn h (Err NoCall) = HasCallOpen h → ⊥
RefusesToGoOn h (Err NoTicket) = ⊥

-- both handles are of the same memory, and have the same number
pub record IsSame {W : Type 0} (h k : CellHandle W) : Type 0 where
  pub home : home_of k ≡ home_of h
  pub number : number_of_handle k ≡ number_of_handle h
