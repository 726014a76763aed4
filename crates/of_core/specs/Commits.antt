-- How calls depend on commits: an announced call is done after at most two commits, a try or a
-- round is lost only to a commit, and an outcome is no older than its call.
use Rattle.std.specs.Prelude.{ℕ, ◌+◌, ◌-◌, List, [], length, ◌≡◌, ◌≤◌, ◌<◌, Bool, true, false}
use Rattle.std.proofs.Common.{get_or, take}
use Rattle.of_cell.specs.Words.{seq_of}
use Rattle.of_core.specs.declared.machine.trying.TheConstants.{MOST_TRIES}
use Rattle.of_core.specs.declared.place.Place.{Place}
use Rattle.of_core.specs.declared.place.Place.TheVariants.{TryCurrent, StoreScript, StoreAnnouncement, LoadCurrent}
use Rattle.of_core.specs.declared.place.Outcome.{Outcome}
use Rattle.of_core.specs.declared.place.Outcome.TheVariants.{Answered, Spent, Lost}
use Rattle.of_core.specs.Table.{Setup, announcement_of}
use Rattle.of_core.specs.Machine.{CallState, IsOpen, no_call}
use Rattle.of_core.specs.Steps.{take_word}
use Rattle.of_core.specs.TableMoment.{Moment, TableStart, Batch}
use Rattle.of_core.specs.History.{batch_at}
use Rattle.of_core.specs.Invariant.{MeetsInvariant}
use Rattle.of_core.specs.Events.{Event, after_events, opening_moment, start_ticket, IsSchedule, machine_in}
use Rattle.of_core.specs.Turn.{IsIdle}
use Rattle.of_core.specs.Calls.{operations_begun, outcomes, no_outcome}
use Rattle.of_core.specs.Laws.{EachStep, EachSchedule}

-- the sequence of the last batch
abbrev pub last_batch : TableStart → Moment → ℕ
last_batch B w = B.seq + length w.batches

-- Two commits.

-- the ticket that caller i has announced, or 0 if it has announced none
abbrev pub announced_ticket : Setup → Moment → (i : ℕ) → ℕ
announced_ticket S w i = seq_of (announcement_of S w.words i)

-- a batch up to batch n has the call of caller i with the ticket t
pub record BatchHasCall (B : TableStart) (bs : List Batch) (n i t : ℕ) : Type 0 where
  pub number : ℕ
  pub from : B.seq < number
  pub upto : number ≤ n
  pub place : ℕ
  pub among : place < length (batch_at B bs number).calls
  pub caller : (get_or (batch_at B bs number).calls place no_call).caller ≡ i
  pub ticket : (get_or (batch_at B bs number).calls place no_call).ticket ≡ t

-- An announced call is done after at most two commits that follow its announcement: if the call of
-- caller i with a ticket of this table is announced after the first k events, and two more batches
-- are committed, then a batch up to the second of them has that call.
abbrev pub DoneAfterTwoCommits : Setup → (List ℕ → Type 0) → Type 0
DoneAfterTwoCommits S Lawful = EachSchedule S Lawful (λ B n es.
    (k i : ℕ) → i < S.callers →
    let w : Moment = after_events S (opening_moment S B n) (take k es) in
    let v : Moment = after_events S (opening_moment S B n) es in
    start_ticket S B i < announced_ticket S w i → last_batch B w + 2 ≤ last_batch B v
    → BatchHasCall B v.batches (last_batch B w + 2) i (announced_ticket S w i))

-- Lost tries and rounds.

-- whether this place is one to which a call goes when it begins, or after a try or a round is given
-- up: a try or a round begins here, or a script word of the call is stored
abbrev pub begins_at : Place → Bool
begins_at TryCurrent = true
begins_at (StoreScript j) = true
begins_at LoadCurrent = true
begins_at p = false

-- whether a call is being announced at this place, so that its first round comes next
abbrev pub announces_at : Place → Bool
announces_at (StoreScript j) = true
announces_at StoreAnnouncement = true
announces_at p = false

-- if a try or a round was given up, a batch was committed since it began
abbrev pub GivenUp : Setup → (List ℕ → Type 0) → Type 0
GivenUp S Lawful = EachStep S Lawful (λ B w i m n.
    announces_at m.place ≡ false → begins_at (take_word S m n).place ≡ true → IsOpen m.place
    → m.seq < last_batch B w)

-- Which tries and rounds a call may have lost while `commits` batches were committed. Each commit
-- makes the call lose at most one try and one round. So the call has begun at most one try and one
-- round more than there were commits. A call that only reads has begun a round only if there were
-- as many commits as a call may make tries.
pub record HasLost (S : Setup) (m : CallState) (commits : ℕ) : Type 0 where
  pub tries : m.tries ≤ commits + 1
  pub rounds : m.rounds ≤ commits + 1
  pub tried : S.meaning.reads_only m.op ≡ true → 1 ≤ m.rounds → MOST_TRIES ≤ commits

-- If a caller was idle at an earlier moment, its open call has lost tries and rounds only to the
-- commits since that moment. So without a commit a read ends in its first try, and any other call
-- in its first round.
abbrev pub LostToCommits : Setup → (List ℕ → Type 0) → Type 0
LostToCommits S Lawful =
    (B : TableStart) (w : Moment) → MeetsInvariant S Lawful B w → (es : List Event)
    → IsSchedule S w es →
    let v : Moment = after_events S w es in
    (i : ℕ) → i < S.callers → IsIdle (machine_in w i) → IsOpen (machine_in v i).place
    → HasLost S (machine_in v i) (last_batch B v - last_batch B w)

-- How old an outcome may be.

-- The outcome is no older than the batch `from`: a read is of that state or a later one, an
-- announced call is in a later batch, and a call is spent at that sequence or a later one. An
-- operation that only reads is tried before it is announced: it is in a batch, or is spent, only
-- after the commits that the most tries lose.
abbrev pub IsSince : Setup → (from : ℕ) → (op : List ℕ) → Outcome → Type 0
IsSince S from op (Answered s true raw steps) =
    (from < s) × (S.meaning.reads_only op ≡ true → from + MOST_TRIES < s)
IsSince S from op (Answered s false raw steps) = from ≤ s
IsSince S from op (Spent s) =
    (from ≤ s) × (S.meaning.reads_only op ≡ true → from + MOST_TRIES ≤ s)
IsSince S from op (Lost s) = from ≤ s

-- every outcome is no older than the last batch at any moment before its call began
abbrev pub OutcomesAreNew : Setup → (List ℕ → Type 0) → Type 0
OutcomesAreNew S Lawful = EachSchedule S Lawful (λ B n es.
    let w : Moment = opening_moment S B n in
    (k i x : ℕ) → i < S.callers → length (operations_begun (take k es) i) ≤ x
    → x < length (outcomes S w es i)
    → IsSince S (last_batch B (after_events S w (take k es))) (get_or (operations_begun es i) x [])
    (get_or (outcomes S w es i) x no_outcome))
