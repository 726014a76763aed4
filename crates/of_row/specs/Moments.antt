-- Any moment of a row: a schedule has led to its words, and a row that stops there loses no call
-- that was answered.
use Rattle.std.specs.Prelude.{◌≡◌, ◌≢◌, ℕ, ◌<◌, List, [], length, false}
use Rattle.std.specs.List.{All, AllByRecursion as Each}
use Rattle.std.proofs.Common.{get_or}
use Rattle.atomic_table.specs.Table.{State}
use Rattle.of_recover.specs.Recovered.{recovered_words}
use Rattle.of_core.specs.Table.{Setup, words_before_members}
use Rattle.of_core.specs.Machine.{Call}
use Rattle.of_core.specs.TableMoment.{Moment, TableStart}
use Rattle.of_core.specs.Starts.{IsDurable, IsStartRow}
use Rattle.of_core.specs.Events.{Event, IsSchedule}
use Rattle.of_core.specs.Linear.{ExplainsOutcome, Linearizes, Sequences, StandsBySequence, HasOwnSequence, IsBySequence, IsRecovered}
use Rattle.of_row.specs.Views.{KnownCaller, View, IsSeenPrefix}
use Rattle.of_row.specs.Rule.{IsRaised, MeetsRule, ViewMeetsRule, EachFree}
use Rattle.of_row.specs.Rule.{ticket_at, ended_operation_at, outcome_at}
use Rattle.of_row.specs.Trail.{first_of, moment, HasPast, IsRunBy, HasDoneNothing, EachView}

-- The events lead from the row's start to this moment. Each view that isn't spent agrees with them.
pub record IsReachedBy (S : Setup) (B : TableStart) (s : State (Unit {0}) View) (es : List Event)
    : Type 0 where
  pub schedule : IsSchedule S (first_of S B) es
  -- the table's own words are those that the events leave
  pub words : (c : ℕ) → c < words_before_members S
      → get_or s.words c 0 ≡ get_or (moment S B es).words c 0
  -- the batches that a pass or a member has seen are the first ones of the history
  pub seen : EachView (λ v. IsSeenPrefix v.seen (moment S B es).batches) s.views
  -- the past of each pass and member is a beginning of the events
  pub pasts : EachView (HasPast es) s.views
  -- each eviction that a pass has made has raised the durable word of its cell
  pub raised : EachView (λ v. Each (IsRaised S s.words) v.evicted) s.views
  -- each caller that is kept has had as many turns as it has made steps, and its calls began and
  -- ended as the events say
  pub callers : EachView (λ v. Each (IsRunBy S B es) v.kept) s.views
  -- the caller of a number that isn't taken has begun no call and had no turn
  pub free : EachFree S s.words (HasDoneNothing es)

-- of the caller's ended calls, the order has each that was answered, with its reply, and none that
-- was spent
abbrev pub ExplainsEndedCalls : Setup → TableStart → (order : List Call) → KnownCaller → Type 0
ExplainsEndedCalls S B order x =
    (y : ℕ) → y < length x.ended
    → ExplainsOutcome S order x.machine.caller (ticket_at S B x y)
    (ended_operation_at x.ended y) (outcome_at x.ended y)

-- each answered call of the caller has, in the order, the sequence that its answer names, and is
-- announced there exactly if its answer says so
abbrev pub HaveOwnSequence : Setup → TableStart → (order : List Call) → Sequences → KnownCaller
    → Type 0
HaveOwnSequence S B order s x =
    (y : ℕ) → y < length x.ended
    → HasOwnSequence order s x.machine.caller (ticket_at S B x y) (outcome_at x.ended y)

-- no call of the order is this caller's
abbrev pub HasNoneOf : List Call → (caller : ℕ) → Type 0
HasNoneOf order i = All (λ (c : Call). c.caller ≢ i) order

-- a moment that has these words, and no machines, batches, reads or loaded words
abbrev pub words_alone : List ℕ → Moment
words_alone ws = record { words = ws; machines = []; batches = []; reads = []; loaded = [] }

-- A row that stops at this moment loses nothing. One serial order of calls, sorted by sequence,
-- explains how all calls have ended. Recovery of the row's words finds the state to which this
-- order leads.
pub record LosesNothing (S : Setup) (Lawful : List ℕ → Type 0) (B : TableStart)
    (s : State (Unit {0}) View) : Type 0 where
  pub events : List Event
  pub reached : IsReachedBy S B s events
  pub order : List Call
  pub linearizes : Linearizes S B (first_of S B) events order
  pub by_seq : IsBySequence S B (first_of S B) events order
  -- the order explains the ended calls of each caller that a pass or a member keeps
  pub explained : EachView (λ v. Each (ExplainsEndedCalls S B order) v.kept) s.views
  pub sequenced : EachView (λ v. Each (HaveOwnSequence S B order by_seq.sequences) v.kept) s.views
  -- recovery finds the numbers that the order leads to, and each caller's last call of the order
  pub recovered_so : IsRecovered S B (words_alone s.words) order
  -- a table may start from the row that recovery makes
  pub restarts : (row : List ℕ) → IsDurable S s.words row
      → IsStartRow S Lawful (recovered_words S.callers S.cells row)

-- a row loses nothing if it stops at a moment that meets the row's rule, as each moment between two
-- steps does
abbrev pub StopsLoseNothing : (List ℕ → Type 0) → Setup → Type 0
StopsLoseNothing Lawful S =
    (B : TableStart) (s : State (Unit {0}) View) → MeetsRule S Lawful B s
    → LosesNothing S Lawful B s

-- The words of a closed row hold the calls that a view keeps. One serial order, sorted by sequence,
-- has these calls as they ended. Recovery of the words finds the state to which this order leads,
-- and a table may start from the row that recovery makes.
pub record HoldsCalls (S : Setup) (Lawful : List ℕ → Type 0) (B : TableStart) (ws : List ℕ)
    (v : View) : Type 0 where
  pub order : List Call
  pub explained : Each (ExplainsEndedCalls S B order) v.kept
  pub sequences : Sequences
  pub by_seq : StandsBySequence order sequences
  pub sequenced : Each (HaveOwnSequence S B order sequences) v.kept
  -- the order has no call of a number that isn't taken
  pub free : EachFree S ws (HasNoneOf order)
  pub recovered_so : IsRecovered S B (words_alone ws) order
  pub restarts : (row : List ℕ) → IsDurable S ws row
      → IsStartRow S Lawful (recovered_words S.callers S.cells row)

-- if words and a view that isn't spent meet the row's rule, as after a close, the words hold the
-- calls that the view keeps
abbrev pub ClosedHoldsCalls : (List ℕ → Type 0) → Setup → Type 0
ClosedHoldsCalls Lawful S =
    (B : TableStart) (ws : List ℕ) (v : View) → ViewMeetsRule S Lawful B ws v → v.spent ≡ false
    → HoldsCalls S Lawful B ws v
