-- All calls of a schedule: which were begun, how they have ended, and how many steps they have
-- made.
use Rattle.std.specs.Prelude.{◌==◌, Bool, true, false, Option, Some, None, ℕ, ◌+◌, ◌-◌, List, [], ◌∷◌, ◌++◌, length, ◌≡◌, ◌≤◌, ◌<◌, ◌⊎◌}
use Rattle.std.specs.List.{All}
use Rattle.std.proofs.Common.{get_or}
use Rattle.of_core.specs.declared.bank.Turn.{Turn}
use Rattle.of_core.specs.declared.bank.Turn.TheVariants.{Idle as NoCall, Open, Ended}
use Rattle.of_mem.specs.declared.work.RawReply.{RawReply}
use Rattle.of_core.specs.declared.place.Outcome.{Outcome}
use Rattle.of_core.specs.declared.place.Outcome.TheVariants.{Answered, Spent, Lost}
use Rattle.of_core.specs.Table.{Setup, committed_seq, durable_seq}
use Rattle.of_core.specs.Machine.{Call, CallState, IsOpen, is_idle}
use Rattle.of_core.specs.TableMoment.{Moment, TableStart, Read}
use Rattle.of_core.specs.History.{batch_at, EachCall, IsOlderCall, HasCall}
use Rattle.of_core.specs.Order.{no_read}
use Rattle.of_core.specs.Facts.{ReadsFrom}
use Rattle.of_core.specs.Bound.{bound}
pub use Rattle.of_core.specs.Least.{least_read}
use Rattle.of_core.specs.Least.{least_call}
use Rattle.of_core.specs.Events.{Event, Begins, Turns, Loads, Evicts, Raises, Revives, machine_in, after_event, after_events, turn_count}
use Rattle.of_core.specs.Turn.{turn_of, IsIdle}

-- the list if the flag is set, and otherwise the empty list
abbrev pub if_so : {A : Type 0} → Bool → List A → List A
if_so true xs = xs
if_so false xs = []

-- the operation that caller i begins by this event, as a list of one; the list is empty if the
-- event begins none
abbrev pub operation_begun : Event → ℕ → List (List ℕ)
operation_begun (Begins j op) i = if_so (i == j) (op ∷ [])
operation_begun (Turns j) i = []
operation_begun (Loads c) i = []
operation_begun (Evicts k) i = []
operation_begun (Raises c) i = []
operation_begun (Revives j made) i = []

-- the operations of the calls that caller i has begun, in order
abbrev pub operations_begun : List Event → ℕ → List (List ℕ)
operations_begun [] i = []
operations_begun (e ∷ es) i = operation_begun e i ++ operations_begun es i

-- the outcome with which a turn has ended its call, as a list of one; the list is empty if the turn
-- has ended no call
abbrev pub outcome_of_turn : Turn → List Outcome
outcome_of_turn NoCall = []
outcome_of_turn Open = []
outcome_of_turn (Ended o) = o ∷ []

-- the outcome with which a step that led from one machine to the other has ended its call, as a
-- list of one; the list is empty if the step has ended no call
abbrev pub outcome_of_step : (before now : CallState) → List Outcome
outcome_of_step m d = outcome_of_turn (turn_of m d)

-- the outcome of a call whose machine is lost and replaced, as a list of one: the call ends as lost
-- if it was open and the new machine has no open call; otherwise the list is empty
abbrev pub outcome_of_loss : (committed : ℕ) → (was_idle now_idle : Bool) → List Outcome
outcome_of_loss s true now_idle = []
outcome_of_loss s false true = Lost s ∷ []
outcome_of_loss s false false = []

-- the outcome with which an event has ended a call of caller i, as a list of one; the list is empty
-- if the event has ended no call of the caller
abbrev pub outcome_of_event : Setup → Moment → Event → ℕ → List Outcome
outcome_of_event S w (Begins j op) i = []
outcome_of_event S w (Turns j) i =
    if_so (i == j) (outcome_of_step (machine_in w j) (machine_in (after_event S w (Turns j)) j))
outcome_of_event S w (Loads c) i = []
outcome_of_event S w (Evicts k) i = []
outcome_of_event S w (Raises c) i = []
outcome_of_event S w (Revives j made) i =
    if_so (i == j) (outcome_of_loss (committed_seq w.words) (is_idle (machine_in w j).place)
    (is_idle (machine_in (after_event S w (Revives j made)) j).place))

-- how the calls of caller i have ended, in order
abbrev pub outcomes : Setup → Moment → List Event → ℕ → List Outcome
outcomes S w [] i = []
outcomes S w (e ∷ es) i = outcome_of_event S w e i ++ outcomes S (after_event S w e) es i

-- if the event is a turn of caller i, the caller has an open call; and the event does not replace
-- the caller's machine
abbrev pub TurnFindsOpenCall : Moment → Event → ℕ → Type 0
TurnFindsOpenCall w (Begins j op) i = Unit {0}
TurnFindsOpenCall w (Turns j) i = i ≡ j → IsOpen (machine_in w i).place
TurnFindsOpenCall w (Loads c) i = Unit {0}
TurnFindsOpenCall w (Evicts k) i = Unit {0}
TurnFindsOpenCall w (Raises c) i = Unit {0}
TurnFindsOpenCall w (Revives j made) i = i ≡ j → ⊥

-- at every turn of caller i the caller has an open call, and the caller's machine is never replaced
abbrev pub TurnsFindOpenCalls : Setup → Moment → List Event → ℕ → Type 0
TurnsFindOpenCalls S w [] i = Unit {0}
TurnsFindOpenCalls S w (e ∷ es) i =
    TurnFindsOpenCall w e i × TurnsFindOpenCalls S (after_event S w e) es i

-- how many steps an answered call has made; 0 for a spent or a lost call
abbrev pub outcome_steps : Outcome → ℕ
outcome_steps (Answered s announced raw steps) = steps
outcome_steps (Spent s) = 0
outcome_steps (Lost s) = 0

-- the steps of answered calls, added up
abbrev pub total_steps : List Outcome → ℕ
total_steps [] = 0
total_steps (o ∷ os) = outcome_steps o + total_steps os

-- the outcome is an answer: the call is neither spent nor lost
abbrev pub IsAnswered : Outcome → Type 0
IsAnswered (Answered s announced raw steps) = Unit {0}
IsAnswered (Spent s) = ⊥
IsAnswered (Lost s) = ⊥

-- none of the outcomes is spent or lost: each is an answer
abbrev pub NoneSpent : List Outcome → Type 0
NoneSpent [] = Unit {0}
NoneSpent (o ∷ os) = IsAnswered o × NoneSpent os

-- the sequence that an outcome names
abbrev pub outcome_seq : Outcome → ℕ
outcome_seq (Answered s announced raw steps) = s
outcome_seq (Spent s) = s
outcome_seq (Lost s) = s

-- the outcome is no older than the sequence `low`: the sequence of an announced call's answer is
-- above `low`, and the sequence of any other outcome is at least `low`
abbrev pub IsNotBefore : ℕ → Outcome → Type 0
IsNotBefore low (Answered s true raw steps) = low < s
IsNotBefore low (Answered s false raw steps) = low ≤ s
IsNotBefore low (Spent s) = low ≤ s
IsNotBefore low (Lost s) = low ≤ s

-- the outcome that `get_or` gives beyond the end of a list of outcomes
abbrev pub no_outcome : Outcome
no_outcome = Spent 0

-- the last of the outcomes, or `before` if the list is empty
abbrev pub last_outcome_or : Option Outcome → List Outcome → Option Outcome
last_outcome_or before [] = before
last_outcome_or before (o ∷ os) = last_outcome_or (Some o) os

-- the last of the outcomes, or None if the list is empty
abbrev pub last_outcome : List Outcome → Option Outcome
last_outcome os = last_outcome_or None os

-- all calls of caller i in the batches have lower tickets than this one
abbrev pub HasNotRun : TableStart → Moment → (i ticket : ℕ) → Type 0
HasNotRun B w i ticket = EachCall B w.batches (IsOlderCall i ticket)

-- of the calls of caller i that are in batches, those up to this ticket are in batches up to s, and
-- those with higher tickets are in later batches
abbrev pub IsSplitAt : TableStart → Moment → (i ticket s : ℕ) → Type 0
IsSplitAt B w i ticket s = (k : ℕ) → B.seq < k → k ≤ B.seq + length w.batches
    → All (λ (c : Call). c.caller ≡ i → (c.ticket ≤ ticket → k ≤ s) × (k ≤ s → c.ticket ≤ ticket))
    (batch_at B w.batches k).calls

-- the history has the read of caller i with this ticket and operation
abbrev pub HasRead : List Read → (i ticket : ℕ) → (op : List ℕ) → RawReply → (s : ℕ) → Type 0
HasRead rs i ticket op raw s = (k : ℕ) × (k < length rs)
    × (get_or rs k no_read ≡ record { caller = i; ticket = ticket; op = op; raw = raw; seq = s })

-- the history of this moment agrees with the outcome of the call of caller i with this ticket and
-- operation. An answered call is in batch s or is a read, s is durable, and its steps are at least
-- those that it must make and at most the bound. A spent call is in no batch, and s is the limit. A
-- lost call is in no batch after s, and a later call of the caller in none up to s
abbrev pub OutcomeStands : Setup → TableStart → Moment → (i ticket : ℕ) → (op : List ℕ) → Outcome
    → Type 0
OutcomeStands S B w i ticket op (Answered s true raw steps) =
    (B.seq < s) × (s ≤ durable_seq S w.words)
    × HasCall S (batch_at B w.batches s).calls i ticket op raw
    × (least_call op ≤ steps) × (steps ≤ bound S)
OutcomeStands S B w i ticket op (Answered s false raw steps) =
    (s ≤ durable_seq S w.words) × HasRead w.reads i ticket op raw s
    × (S.meaning.reads_only op ≡ true) × (least_read S op ≤ steps) × (steps ≤ bound S)
OutcomeStands S B w i ticket op (Spent s) =
    (s ≡ S.limit) × (durable_seq S w.words ≡ s) × HasNotRun B w i ticket
OutcomeStands S B w i ticket op (Lost s) =
    (s ≤ B.seq + length w.batches) × IsSplitAt B w i ticket s

-- if the read is caller i's, the caller has begun this call after its first `before` calls, and the
-- call's outcome is an unannounced answer with the read's sequence and reply
abbrev pub IsOutcome : (before i : ℕ) → List (List ℕ) → List Outcome → Read → Type 0
IsOutcome before i ops outs r = r.caller ≡ i → (x : ℕ) × (steps : ℕ) × (x < length outs)
    × (r.ticket ≡ before + x + 1) × (r.op ≡ get_or ops x [])
    × (get_or outs x no_outcome ≡ Answered r.seq false r.raw steps)

-- if the call c is caller i's, the caller has begun it after its first `before` calls, and the
-- operation of c is the one that the list `ops` has for it
abbrev pub WasBegun : (before i : ℕ) → List (List ℕ) → Call → Type 0
WasBegun before i ops c = c.caller ≡ i
    → (before < c.ticket) × (c.ticket ≤ before + length ops)
    × (c.op ≡ get_or ops (c.ticket - before - 1) [])

-- caller i had begun `before` calls; since then it has begun calls of the operations `ops`, and
-- those of them that have ended have the outcomes `outs`, in order
pub record HasCalls (S : Setup) (B : TableStart) (before : ℕ) (w : Moment) (i : ℕ)
    (ops : List (List ℕ)) (outs : List Outcome) : Type 0 where
  -- the machine counts the calls that were begun
  pub made : (machine_in w i).made ≡ before + length ops
  -- if no call is open, all calls have ended
  pub idle : IsIdle (machine_in w i) → length outs ≡ length ops
  -- an open call is the last one begun
  pub open_call : IsOpen (machine_in w i).place
      → (length ops ≡ length outs + 1) × ((machine_in w i).op ≡ get_or ops (length outs) [])
  -- an open call has no answer yet
  pub unanswered : IsOpen (machine_in w i).place → (machine_in w i).answer ≡ None
  -- the machine holds the last outcome, or none if it is new
  pub last : IsIdle (machine_in w i)
      → ((machine_in w i).answer ≡ None) ⊎ ((machine_in w i).answer ≡ last_outcome outs)
  -- the history agrees with each outcome (`OutcomeStands`)
  pub each : (x : ℕ) → x < length outs
      → OutcomeStands S B w i (before + x + 1) (get_or ops x []) (get_or outs x no_outcome)
  -- the sequences of outcomes don't fall from one call to a later one, and rise if the later call
  -- is answered as announced
  pub rising : (x y : ℕ) → x < y → y < length outs
      → IsNotBefore (outcome_seq (get_or outs x no_outcome)) (get_or outs y no_outcome)
  -- a try of the open call reads a state that is no older than the sequence of any outcome
  pub reads_from : (x : ℕ) → x < length outs
      → ReadsFrom (outcome_seq (get_or outs x no_outcome)) (machine_in w i)
  -- each of the caller's reads in the history is an outcome
  pub reads : All (IsOutcome before i ops outs) w.reads
  -- each of the caller's calls in a batch is one that the caller has begun, with the same operation
  pub calls : EachCall B w.batches (WasBegun before i ops)

-- the turns of caller i among the events are the steps of its calls
pub record TurnsAreTold (S : Setup) (w : Moment) (es : List Event) (i : ℕ) : Type 0 where
  -- the calls count no more steps than there were turns
  pub few : total_steps (outcomes S w es i) + (machine_in (after_events S w es) i).steps
      ≤ turn_count i es
  -- the calls count each turn, if every turn found a call open and no call was spent
  pub exact : TurnsFindOpenCalls S w es i → NoneSpent (outcomes S w es i)
      → total_steps (outcomes S w es i) + (machine_in (after_events S w es) i).steps
      ≡ turn_count i es
  -- an open call has made fewer steps than the bound
  pub within : IsOpen (machine_in (after_events S w es) i).place
      → (machine_in (after_events S w es) i).steps < bound S
