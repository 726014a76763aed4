-- What a caller knows of its call after it has made steps of the call: how the call has ended, or
-- that it is still open.
use Rattle.std.specs.Prelude.{◌≡◌, ℕ, ◌+◌, ◌<◌, ◌≤◌, List, [], ◌∷◌, ◌++◌, length, Some, Result, Ok, Err}
use mathlib.Core.List.{IsPrefix}
use Rattle.of_mem.specs.Meaning.{Meaning}
use Rattle.of_core.specs.declared.place.Outcome.{Outcome}
use Rattle.of_core.specs.declared.place.Outcome.TheVariants.{Spent as Over}
use Rattle.of_core.specs.Table.{Setup}
use Rattle.of_core.specs.Machine.{CallState, IsOpen, begin_call}
use Rattle.of_core.specs.TableMoment.{TableStart}
use Rattle.of_core.specs.Bound.{bound}
use Rattle.of_core.specs.Touched.{IsWithinTouched}
use Rattle.of_core.specs.Turn.{IsIdle}
use Rattle.of_core.specs.Calls.{operations_begun, IsNotBefore, IsAnswered}
use Rattle.of_row.specs.Views.{KnownCaller, View, seen_seq, seen_history}
use Rattle.of_row.specs.Told.{operations_known}
use Rattle.of_row.specs.Trail.{IsToldBy}
use Rattle.of_row.specs.Rule.{CallHasEnded, HasOwn, HasOwnOnce, IsLegalFront}
use Rattle.of_row.specs.Turned.{IsMeantReply, TellsSteps, since_after}
use Rattle.of_row.specs.declared.row.Row.{Row}
use Rattle.of_row.specs.Rows.{key_of, setup_at, row_start}
use Rattle.of_caller.specs.declared.caller.Caller.{Caller}
use Rattle.of_caller.specs.declared.caller.CallErr.{CallErr}
use Rattle.of_caller.specs.declared.caller.CallErr.TheVariants.{Stopped, Spent}
use Rattle.of_caller.specs.Callers.{caller_call, sight_of}
use Rattle.of_caller.specs.Vain.{IsLastStep}

-- In these definitions a call goes on from the machine m, with the view v that keeps x, and n steps
-- later it has come to the machine d, with the view w that keeps y.

-- The open call of the machine m has ended with the outcome o, after n more steps, which have led
-- to the machine d. The view v, which kept x of the caller, is now the view w, which keeps y.
pub record HasEndedWith (S : Setup) (Lawful : List ℕ → Type 0) (B : TableStart)
    (m : CallState) (v : View) (x : KnownCaller) (n : ℕ) (d : CallState) (w : View)
    (y : KnownCaller) (o : Outcome) : Type 0 where
  -- the caller has no open call, and its machine holds the outcome
  pub idle : IsIdle d
  pub answer : d.answer ≡ Some o
  -- the member keeps one ended call more, with this outcome
  pub kept : y.ended ≡ x.ended ++ record { op = m.op; outcome = o } ∷ []
  -- What was seen explains the outcome. If the call was answered as announced, a batch that was
  -- seen has it with its reply. If it was answered as a read, its reply is its meaning in the state
  -- at its sequence. If it is spent, the batches that were seen come up to the limit, and none has
  -- it.
  pub stands : CallHasEnded S B (seen_history w.seen) (seen_seq B w.seen) m.caller m.made m.op o
  -- a read's reply is its operation's meaning after the batches that were seen up to its sequence
  pub meant : IsMeantReply S B (seen_history w.seen) m.op o
  -- an answer counts the steps of the whole call
  pub steps : TellsSteps (m.steps + n) o
  -- the call, also a spent one, has made no more steps than the bound
  pub within : m.steps + n ≤ bound S
  -- the call's steps are within a bound that counts the cells that operations of the work read and
  -- write, and not how large the memory is
  pub touched : IsWithinTouched S Lawful m.op (m.steps + n)
  -- an announced answer has a sequence above the one seen when the call began; any other outcome
  -- has at least the one seen
  pub beyond : IsNotBefore (since_after B v x) o
  -- the call is spent exactly if its last step, in a round that began at the limit, did not find
  -- its ticket
  pub last : IsLastStep S Lawful d o

-- After n more steps the open call of the machine m is still open, and has made fewer steps than
-- the bound. The machine is d now. What is kept of the caller was x and is y now, with the same
-- ended calls.
pub record IsStillOpen (S : Setup) (m : CallState) (x : KnownCaller) (n : ℕ) (d : CallState)
    (y : KnownCaller) : Type 0 where
  pub open_call : IsOpen d.place
  pub steps : d.steps ≡ m.steps + n
  pub within : d.steps < bound S
  pub kept : y.ended ≡ x.ended

-- What a call's result says: the call was answered; or it was stopped and is still open, and the
-- brake was asked once more than steps were made, within the bound; or the call is spent.
abbrev pub TellsResult : Setup → (List ℕ → Type 0) → TableStart
    → CallState → View → KnownCaller → (steps : ℕ) → CallState → View → KnownCaller
    → Result Outcome CallErr → Type 0
TellsResult S L B m v x n d w y (Ok o) = IsAnswered o × HasEndedWith S L B m v x n d w y o
TellsResult S L B m v x n d w y (Err (Stopped asked)) =
    IsStillOpen S m x n d y × (asked ≡ n + 1) × (m.steps + asked ≤ bound S)
TellsResult S L B m v x n d w y (Err (Spent seq)) = HasEndedWith S L B m v x n d w y (Over seq)

-- What holds after a call has made steps. The member keeps the machine. What the member has seen is
-- a legal history. Each call of the caller in it has begun, and the outcome of each ended call of
-- the caller agrees with it. A call of the caller that was answered as announced is in it once. In
-- the events that the member knows, the caller's calls begin and end as the member keeps them.
pub record TellsStepsMade (S : Setup) (B : TableStart) (d : CallState) (w : View) (y : KnownCaller)
    : Type 0 where
  pub machine : y.machine ≡ d
  pub legal : IsLegalFront S B w.seen
  pub own : HasOwn S B w.seen y
  pub once : HasOwnOnce S B w.seen y
  pub told : IsToldBy S B w.past d.caller y

-- what holds after a call has had this result; the count of steps was a before the call and is b
-- now
pub record TellsCall (S : Setup) (Lawful : List ℕ → Type 0) (B : TableStart)
    (m : CallState) (v : View) (a : ℕ) (d : CallState) (w : View) (b : ℕ)
    (r : Result Outcome CallErr) : Type 0 where
  -- how many steps were made from m to d; the count has risen by this number
  pub steps : ℕ
  pub rise : b ≡ a + steps
  -- nothing that was seen is lost, and the past only gets longer
  pub seen : IsPrefix v.seen w.seen
  pub past : IsPrefix v.past w.past
  -- the call's caller, ticket and operation stay
  pub caller : d.caller ≡ m.caller
  pub made : d.made ≡ m.made
  pub op : d.op ≡ m.op
  -- the member keeps one caller, as before; if no step was made, the view is as it was
  pub before : KnownCaller
  pub kept : KnownCaller
  pub kept_before : v.kept ≡ before ∷ []
  pub kept_now : w.kept ≡ kept ∷ []
  pub none : steps ≡ 0 → w ≡ v
  pub some : 0 < steps → TellsStepsMade S B d w kept
  -- before the first step, the past had no more calls of the caller than the caller had begun
  pub behind : 0 < steps
      → length (operations_begun v.past m.caller) ≤ length (operations_known before)
  -- the caller's turns on the table have risen by the same number as the count of steps
  pub turns : kept.turns ≡ before.turns + steps
  -- no machine of the caller was replaced meanwhile
  pub losses : kept.losses ≡ before.losses
  -- besides these steps the caller has made no load
  pub looks : w.looks ≡ v.looks
  -- the member keeps the last sequence that was seen when the call began, also if the call was
  -- stopped
  pub since : 0 < steps → kept.since ≡ since_after B v before
  -- the steps of the whole call, also of a stopped one, are within a bound that counts the cells
  -- that operations of the work read and write
  pub touched : 0 < steps → IsWithinTouched S Lawful m.op (m.steps + steps)
  pub result : TellsResult S Lawful B m v before steps d w kept r

-- what holds after a call of a caller of the row has had this result; m was the machine of the call
-- before it made these steps
abbrev pub TellsCallOf : {W : Type 0} → (W → Meaning) → (W → List ℕ → Type 0) → Row W
    → (m : CallState) → (before now : Caller W) → (a b : ℕ) → Result Outcome CallErr → Type 0
TellsCallOf meaning lawful r m before now a b result =
    TellsCall (setup_at meaning r) (lawful (key_of r).work) (row_start meaning r)
    m (sight_of before) a (caller_call now) (sight_of now) b result

-- the call that a caller of the row begins with these words
abbrev pub call_begun_by : {W : Type 0} → (W → Meaning) → Row W → Caller W → (op : List ℕ)
    → CallState
call_begun_by meaning r c op = begin_call (setup_at meaning r) (caller_call c) op
