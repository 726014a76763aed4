-- The laws of all steps and all schedules: what the contracts of `laws` say.
use Rattle.std.specs.Prelude.{ℕ, ◌+◌, List, [], ◌∷◌, ◌++◌, length, ◌≡◌, ◌≤◌, ◌<◌, ◌⊎◌, true, map, slice_index}
use Rattle.std.specs.List.{All}
use Rattle.std.proofs.Common.{get_or, set, take, replicate}
use Rattle.of_cell.specs.declared.word.TheConstants.{PAYLOADS}
use Rattle.of_cell.specs.Words.{pack, payload_of}
use Rattle.of_mem.specs.Meaning.{Meaning}
use Rattle.of_recover.specs.Recovered.{recovered_words}
use Rattle.of_recover.specs.Writes.{words_after_writes, recovery_writes}
use Rattle.of_recover.specs.Renumbered.{renumbering_writes}
use Rattle.of_core.specs.declared.place.Place.{Place}
use Rattle.of_core.specs.declared.place.Place.TheVariants.{Idle, LoadCurrent}
use Rattle.of_core.specs.declared.place.Outcome.{Outcome}
use Rattle.of_core.specs.Table.{Setup, setup_of, cell_count, words_before_members, data_word, durable_at, durable_word}
use Rattle.of_core.specs.declared.place.Op.{Op}
use Rattle.of_core.specs.declared.place.Op.TheVariants.{Load, Store, Exchange, Raise}
use Rattle.of_core.specs.Machine.{Call, CallState, IsOpen, is_idle, idle_machine, begin_call, MayReplace}
use Rattle.of_core.specs.Steps.{want, take_word, word_found, word_of, IsFoundBy}
use Rattle.of_core.specs.TableMoment.{Moment, TableStart, Batch, step_batches, step_reads, after_step}
use Rattle.of_core.specs.History.{state_after, batch_at, no_batch, IsLegalHistory}
use Rattle.of_core.specs.Facts.{IsStep, ReadsFrom, rests_on_seq}
use Rattle.of_core.specs.WordsMatch.{IsStart, MayStart}
use Rattle.of_core.specs.Invariant.{MeetsInvariant, IsLoaded}
use Rattle.of_core.specs.Guarantees.{Guarantees}
use Rattle.of_core.specs.Events.{Event, Turns, MayHappen, after_begin, after_event, after_raise, after_events, turn_count, HasStood, IsSchedule, StaysOpen, machine_in, start_ticket, opening_moment, zero_start}
use Rattle.of_core.specs.Starts.{first_words, start_from_durable, IsStartRow, IsDurable, recovered_start}
use Rattle.of_core.specs.Bound.{bound}
use Rattle.of_core.specs.Claim.{IsSound}
use Rattle.of_core.specs.Calls.{HasCalls, TurnsAreTold, operation_begun, outcome_of_event, outcome_of_step, operations_begun, outcomes, no_outcome, outcome_seq, IsNotBefore}
use Rattle.of_core.specs.Linear.{HasNotBegunBy, CallEndsBefore, Linearizes, IsRecovered, IsDurablyLinearizable, IsDetectable}
use Rattle.of_core.specs.LinearLives.{AreScheduleLives, AreDurablyLinearizable}

-- the setup of a table for a work, with this limit
abbrev pub setup_for : {X : Type 0} → (many cell_count : X → ℕ) → (X → Meaning) → (limit : ℕ) → X
    → Setup
setup_for many cell_count meaning limit work =
    setup_of (many work) (cell_count work) limit (meaning work)

-- The forms that laws have.

-- the law holds of each machine at each moment that meets the invariant
abbrev pub EachMachine : Setup → (List ℕ → Type 0) → (TableStart → Moment → ℕ → CallState → Type 0)
    → Type 0
EachMachine S Lawful Law =
    (B : TableStart) (w : Moment) → MeetsInvariant S Lawful B w
    → (i : ℕ) (m : CallState) → i < S.callers → get_or w.machines i m ≡ m → Law B w i m

-- the law holds of each step of each machine, which finds n, at each moment that meets the
-- invariant
abbrev pub EachStep : Setup → (List ℕ → Type 0) → (TableStart → Moment → ℕ → CallState → ℕ → Type 0)
    → Type 0
EachStep S Lawful Law =
    EachMachine S Lawful (λ B w i m. (n : ℕ) → IsFoundBy (want S m) w.words n → Law B w i m n)

-- the law holds of each begin of a call with these words, by an idle machine or by a fresh one in
-- its place
abbrev pub EachBegin : Setup → (List ℕ → Type 0)
    → (TableStart → Moment → ℕ → CallState → List ℕ → Type 0) → Type 0
EachBegin S Lawful Law = EachMachine S Lawful (λ B w i m. m.place ≡ Idle
    → (d : CallState) → MayReplace S m d → (op : List ℕ) → 1 ≤ length op → length op ≤ S.instrs
    → d.made + 1 < PAYLOADS → Law B w i d op)

-- the law holds of each word that may have been loaded for an eviction, with its cell
abbrev pub EachLoaded : Setup → (List ℕ → Type 0) → (TableStart → Moment → ℕ × ℕ → Type 0) → Type 0
EachLoaded S Lawful Law =
    (B : TableStart) (w : Moment) → MeetsInvariant S Lawful B w
    → (e : ℕ × ℕ) → IsLoaded S B w.words w.batches e → Law B w e

-- the law holds if any number is stored in any word that comes after the table's own words
abbrev pub EachBeside : Setup → (List ℕ → Type 0) → (TableStart → Moment → (c v : ℕ) → Type 0)
    → Type 0
EachBeside S Lawful Law =
    (B : TableStart) (w : Moment) → MeetsInvariant S Lawful B w → (c v : ℕ)
    → words_before_members S ≤ c → Law B w c v

-- the law holds of each table of n words that begins at a start that it may have
abbrev pub EachStart : Setup → (List ℕ → Type 0) → (TableStart → (n : ℕ) → Type 0) → Type 0
EachStart S Lawful Law =
    (B : TableStart) → MayStart S Lawful B → (n : ℕ) → words_before_members S ≤ n → Law B n

-- the law holds of each schedule from each start
abbrev pub EachSchedule : Setup → (List ℕ → Type 0)
    → (TableStart → (n : ℕ) → List Event → Type 0) → Type 0
EachSchedule S Lawful Law =
    EachStart S Lawful (λ B n.
    (es : List Event) → IsSchedule S (opening_moment S B n) es → Law B n es)

-- Steps, whatever their order.

-- each step of each machine keeps the invariant
abbrev pub StepsKeepInvariant : Setup → (List ℕ → Type 0) → Type 0
StepsKeepInvariant S Lawful =
    EachStep S Lawful (λ B w i m n. MeetsInvariant S Lawful B (after_step S i m n w))

-- each step guarantees to the other machines what they rely on
abbrev pub StepsGuarantee : Setup → (List ℕ → Type 0) → Type 0
StepsGuarantee S Lawful = EachStep S Lawful (λ B w i m n.
    Guarantees S B i w.words w.batches (after_step S i m n w).words (after_step S i m n w).batches)

-- each step of an open call is as `IsStep` says, whatever its kind
abbrev pub OpenStepsAreSteps : Setup → (List ℕ → Type 0) → Type 0
OpenStepsAreSteps S Lawful = EachMachine S Lawful (λ B w i m. IsOpen m.place
    → (n : ℕ) → IsFoundBy (want S m) w.words n
    → IsStep S B w m n (take_word S m n) (step_batches S w.words m n))

-- each step leaves each durable word as it was, or makes it the word that its cell holds
abbrev pub StepsKeepDurables : Setup → (List ℕ → Type 0) → Type 0
StepsKeepDurables S Lawful = EachStep S Lawful (λ B w i m n. (c : ℕ) → c < cell_count S
    → (durable_word S (after_step S i m n w).words c ≡ durable_word S w.words c)
    ⊎ (durable_word S (after_step S i m n w).words c ≡ get_or w.words c 0))

-- the step raises a word
abbrev pub IsRaise : Op → Type 0
IsRaise (Load c) = ⊥
IsRaise (Store c v) = ⊥
IsRaise (Exchange c old new) = ⊥
IsRaise (Raise c v) = Unit {0}

-- the machine's next step is a raise that commits nothing and leads to the same machine whatever
-- word it finds
abbrev pub GoesBlindly : Setup → CallState → Type 0
GoesBlindly S m =
    IsRaise (want S m) × ((n k : ℕ) → take_word S m n ≡ take_word S m k)
    × ((ws : List ℕ) (n : ℕ) → step_batches S ws m n ≡ [])

-- each step on a durable word is a raise that commits nothing and leads to the same machine
-- whatever word it finds
abbrev pub StepBlind : Setup → (List ℕ → Type 0) → Type 0
StepBlind S Lawful = EachMachine S Lawful (λ B w i m.
    ((c : ℕ) → c < cell_count S → word_of (want S m) ≡ durable_at S c → ⊥) ⊎ GoesBlindly S m)

-- the call is the open one of its caller
abbrev pub IsOpenCall : Moment → Call → Type 0
IsOpenCall w c =
    let m : CallState = machine_in w c.caller in
    IsOpen m.place × (c.ticket ≡ m.made) × (c.op ≡ m.op)

-- each call in a batch that a step commits was the open call of its caller
abbrev pub NewCallsWereOpen : Setup → (List ℕ → Type 0) → Type 0
NewCallsWereOpen S Lawful = EachStep S Lawful (λ B w i m n.
    (k : ℕ) → B.seq + length w.batches < k → k ≤ B.seq + length (after_step S i m n w).batches
    → All (IsOpenCall w) (batch_at B (after_step S i m n w).batches k).calls)

-- to begin a call keeps the invariant; the new call works at no sequence yet (`rests_on_seq` is 0),
-- and has loaded no current-transaction word in a try
abbrev pub BeginsKeepInvariant : Setup → (List ℕ → Type 0) → Type 0
BeginsKeepInvariant S Lawful =
    EachBegin S Lawful (λ B w i d op. MeetsInvariant S Lawful B (after_begin S i d op w)
    × (rests_on_seq (begin_call S d op) ≡ 0) × ((low : ℕ) → ReadsFrom low (begin_call S d op)))

-- the word that a cell holds may be loaded for an eviction, and raised at any later time
abbrev pub LoadsMayBeRaised : Setup → (List ℕ → Type 0) → Type 0
LoadsMayBeRaised S Lawful =
    (B : TableStart) (w : Moment) → MeetsInvariant S Lawful B w
    → (c : ℕ) → c < cell_count S → IsLoaded S B w.words w.batches (c, get_or w.words c 0)

-- a word that was loaded for an eviction may still be raised after any step
abbrev pub StepsKeepLoaded : Setup → (List ℕ → Type 0) → Type 0
StepsKeepLoaded S Lawful = EachStep S Lawful (λ B w i m n.
    (e : ℕ × ℕ) → IsLoaded S B w.words w.batches e
    → IsLoaded S B (after_step S i m n w).words (after_step S i m n w).batches e)

-- The raise of an eviction keeps the invariant. It raises the durable word of a cell to a word that
-- was loaded from the cell before. Each other word that was loaded for an eviction may still be
-- raised afterwards.
abbrev pub RaisesKeepInvariant : Setup → (List ℕ → Type 0) → Type 0
RaisesKeepInvariant S Lawful =
    EachLoaded S Lawful (λ B w e. MeetsInvariant S Lawful B (after_raise S w e)
    × ((d : ℕ × ℕ) → IsLoaded S B w.words w.batches d
    → IsLoaded S B (after_raise S w e).words w.batches d))

-- the raise of an eviction lowers no durable word
abbrev pub RaisesNeverLower : Setup → (List ℕ → Type 0) → Type 0
RaisesNeverLower S Lawful = EachLoaded S Lawful (λ B w e.
    (c : ℕ) → durable_word S w.words c ≤ durable_word S (after_raise S w e).words c)

-- To store a number in a word that comes after the table's own words keeps the invariant. Each word
-- that was loaded for an eviction may still be raised afterwards.
abbrev pub WordsBehindAreFree : Setup → (List ℕ → Type 0) → Type 0
WordsBehindAreFree S Lawful = EachBeside S Lawful (λ B w c v.
    MeetsInvariant S Lawful B (record w { words = set w.words c v })
    × ((e : ℕ × ℕ) → IsLoaded S B w.words w.batches e
    → IsLoaded S B (set w.words c v) w.batches e))

-- a table at its start, with idle machines, meets the invariant, and an idle machine works at no
-- sequence (`rests_on_seq` is 0)
abbrev pub StartsMeetInvariant : Setup → (List ℕ → Type 0) → Type 0
StartsMeetInvariant S Lawful =
    EachStart S Lawful (λ B n. MeetsInvariant S Lawful B (opening_moment S B n)
    × ((i made : ℕ) → rests_on_seq (idle_machine S i made) ≡ 0))

-- each moment that meets the invariant is sound: its history is legal, and recovery gives the state
-- at the durable sequence
abbrev pub InvariantIsSound : Setup → (List ℕ → Type 0) → Type 0
InvariantIsSound S Lawful =
    (B : TableStart) (w : Moment) → MeetsInvariant S Lawful B w → IsSound S B w

-- The calls of one caller, step by step.

-- between the moments w and v caller i begins calls of the operations `more`, and its calls end
-- with the outcomes `ended`
abbrev pub GainsCalls : Setup → TableStart → (i : ℕ)
    → List (List ℕ) → List Outcome → (w v : Moment) → Type 0
GainsCalls S B i more ended w v =
    (before : ℕ) (ops : List (List ℕ)) (outs : List Outcome)
    → HasCalls S B before w i ops outs → HasCalls S B before v i (ops ++ more) (outs ++ ended)

-- between the moments w and v caller i begins no call, and no call of it ends
abbrev pub KeepsCalls : Setup → TableStart → (i : ℕ) → (w v : Moment) → Type 0
KeepsCalls S B i w v =
    (before : ℕ) (ops : List (List ℕ)) (outs : List Outcome)
    → HasCalls S B before w i ops outs → HasCalls S B before v i ops outs

-- between the moments w and v no caller but i begins a call, and no call of another caller ends
abbrev pub KeepsOthersCalls : Setup → TableStart → (i : ℕ) → (w v : Moment) → Type 0
KeepsOthersCalls S B i w v = (j : ℕ) → j < S.callers → (i ≡ j → ⊥) → KeepsCalls S B j w v

-- at a start each caller has made the calls that its ticket cell counts, and no others
abbrev pub StartsHaveNoCalls : Setup → (List ℕ → Type 0) → Type 0
StartsHaveNoCalls S Lawful = EachStart S Lawful (λ B n.
    (i : ℕ) → i < S.callers → HasCalls S B (start_ticket S B i) (opening_moment S B n) i [] [])

-- a step ends its caller's open call or none, and changes the calls of no other caller
abbrev pub StepsEndOwnCall : Setup → (List ℕ → Type 0) → Type 0
StepsEndOwnCall S Lawful = EachStep S Lawful (λ B w i m n.
    GainsCalls S B i [] (outcome_of_step m (take_word S m n)) w (after_step S i m n w)
    × KeepsOthersCalls S B i w (after_step S i m n w))

-- to begin a call gives its caller one call more, and changes the calls of no other caller
abbrev pub BeginsAddOneCall : Setup → (List ℕ → Type 0) → Type 0
BeginsAddOneCall S Lawful = EachBegin S Lawful (λ B w i d op.
    GainsCalls S B i (op ∷ []) [] w (after_begin S i d op w)
    × KeepsOthersCalls S B i w (after_begin S i d op w))

-- the raise of an eviction changes no caller's calls
abbrev pub RaisesKeepCalls : Setup → (List ℕ → Type 0) → Type 0
RaisesKeepCalls S Lawful = EachLoaded S Lawful (λ B w e.
    (i : ℕ) → i < S.callers → KeepsCalls S B i w (after_raise S w e))

-- to store a number in a word that comes after the table's own words changes no caller's calls
abbrev pub WordsBehindKeepCalls : Setup → (List ℕ → Type 0) → Type 0
WordsBehindKeepCalls S Lawful = EachBeside S Lawful (λ B w c v.
    (i : ℕ) → i < S.callers → KeepsCalls S B i w (record w { words = set w.words c v }))

-- Events and schedules.

-- each event keeps the invariant
abbrev pub EventsKeepInvariant : Setup → (List ℕ → Type 0) → Type 0
EventsKeepInvariant S Lawful =
    (B : TableStart) (w : Moment) → MeetsInvariant S Lawful B w
    → (e : Event) → MayHappen S w e → MeetsInvariant S Lawful B (after_event S w e)

-- each schedule keeps the invariant
abbrev pub SchedulesKeepInvariant : Setup → (List ℕ → Type 0) → Type 0
SchedulesKeepInvariant S Lawful =
    (B : TableStart) (w : Moment) → MeetsInvariant S Lawful B w
    → (es : List Event) → IsSchedule S w es → MeetsInvariant S Lawful B (after_events S w es)

-- if an event commits a batch, each call of the batch is the open call of its caller's present
-- machine. So a call that a lost machine had begun and not announced is never run
abbrev pub LostCallsNeverRun : Setup → (List ℕ → Type 0) → Type 0
LostCallsNeverRun S Lawful = EachSchedule S Lawful (λ B n es.
    let w : Moment = after_events S (opening_moment S B n) es in
    (e : Event) → MayHappen S w e → (k : ℕ) → B.seq + length w.batches < k
    → k ≤ B.seq + length (after_event S w e).batches
    → All (IsOpenCall w) (batch_at B (after_event S w e).batches k).calls)

-- every schedule from every start leaves a moment that is sound
abbrev pub EveryMomentIsSound : Setup → (List ℕ → Type 0) → Type 0
EveryMomentIsSound S Lawful =
    EachSchedule S Lawful (λ B n es. IsSound S B (after_events S (opening_moment S B n) es))

-- each durable word is one that its cell has held, at this moment or before
abbrev pub DurablesWereHeld : Setup → (List ℕ → Type 0) → Type 0
DurablesWereHeld S Lawful = EachSchedule S Lawful (λ B n es.
    let w : Moment = opening_moment S B n in
    (c : ℕ) → c < cell_count S → HasStood S w es c (durable_word S (after_events S w es).words c))

-- after every schedule from every start, each caller has the calls that the events have begun, with
-- the outcomes by which the events have ended them
abbrev pub EveryCallStands : Setup → (List ℕ → Type 0) → Type 0
EveryCallStands S Lawful = EachSchedule S Lawful (λ B n es.
    let w : Moment = opening_moment S B n in
    (i : ℕ) → i < S.callers
    → HasCalls S B (start_ticket S B i) (after_events S w es) i (operations_begun es i)
    (outcomes S w es i))

-- each event adds to a caller's calls the call that it begins, and to the outcomes the outcome of
-- the call that it ends
abbrev pub EventsLeadCalls : Setup → (List ℕ → Type 0) → Type 0
EventsLeadCalls S Lawful =
    (B : TableStart) (w : Moment) → MeetsInvariant S Lawful B w
    → (i before : ℕ) → i < S.callers
    → (ops : List (List ℕ)) (outs : List Outcome) → HasCalls S B before w i ops outs
    → (d : Event) → MayHappen S w d
    → HasCalls S B before (after_event S w d) i (ops ++ operation_begun d i)
    (outs ++ outcome_of_event S w d i)

-- in every schedule from every start the turns of a caller are the steps of its calls
abbrev pub TurnsCountSteps : Setup → (List ℕ → Type 0) → Type 0
TurnsCountSteps S Lawful = EachSchedule S Lawful (λ B n es.
    (i : ℕ) → i < S.callers → TurnsAreTold S (opening_moment S B n) es i)

-- every schedule from every start is durably linearizable
abbrev pub EveryOrder : Setup → (List ℕ → Type 0) → Type 0
EveryOrder S Lawful =
    EachSchedule S Lawful (λ B n es. IsDurablyLinearizable S B (opening_moment S B n) es)

-- every schedule is detectable: what recovery finds shows each caller whether its last call took
-- effect. This holds by each order that linearizes the schedule and leads to what recovery finds
abbrev pub Detectable : Setup → (List ℕ → Type 0) → Type 0
Detectable S Lawful = EachSchedule S Lawful (λ B n es.
    let w : Moment = opening_moment S B n in
    (order : List Call) → Linearizes S B w es order → IsRecovered S B (after_events S w es) order
    → (i : ℕ) → i < S.callers → IsDetectable S B w es order i)

-- if call y of caller j begins after call x of caller i has ended, and ends too, its outcome is not
-- before the sequence that the outcome of call x names (`IsNotBefore`)
abbrev pub RealTime : Setup → (List ℕ → Type 0) → Type 0
RealTime S Lawful = EachSchedule S Lawful (λ B n es.
    let w : Moment = opening_moment S B n in
    (i x j y : ℕ) → i < S.callers → j < S.callers → CallEndsBefore S w es i x j y
    → y < length (outcomes S w es j)
    → IsNotBefore (outcome_seq (get_or (outcomes S w es i) x no_outcome))
    (get_or (outcomes S w es j) y no_outcome))

-- if call x of caller i has ended after the first k events, then a call that has not begun after
-- these events is in no batch up to the sequence that the outcome of call x names
abbrev pub LateCalls : Setup → (List ℕ → Type 0) → Type 0
LateCalls S Lawful = EachSchedule S Lawful (λ B n es.
    let w : Moment = opening_moment S B n in
    let bs : List Batch = (after_events S w es).batches in
    (k i x : ℕ) → i < S.callers → x < length (outcomes S w (take k es) i)
    → (b : ℕ) → B.seq < b → b ≤ B.seq + length bs
    → All (λ (c : Call). HasNotBegunBy S B es k c
    → outcome_seq (get_or (outcomes S w es i) x no_outcome) < b) (batch_at B bs b).calls)

-- a caller's calls are one after the other: each has ended before the next one begins
abbrev pub OwnTime : Setup → (List ℕ → Type 0) → Type 0
OwnTime S Lawful = EachSchedule S Lawful (λ B n es.
    (i x : ℕ) → i < S.callers → x + 1 < length (operations_begun es i)
    → CallEndsBefore S (opening_moment S B n) es i x i (x + 1))

-- lives one after the other, any number of them, are durably linearizable together
abbrev pub EveryLife : Setup → (List ℕ → Type 0) → Type 0
EveryLife S Lawful = EachStart S Lawful (λ B n.
    (lives : List (List Event)) → AreScheduleLives S n B lives → AreDurablyLinearizable S n B lives)

-- if a call stays open through a schedule, its steps before the schedule and its turns in the
-- schedule are together fewer than the bound; and the call never begins a fourth round
abbrev pub CallsEndInTime : Setup → (List ℕ → Type 0) → Type 0
CallsEndInTime S Lawful =
    (B : TableStart) (w : Moment) → MeetsInvariant S Lawful B w
    → (es : List Event) → IsSchedule S w es → (i : ℕ) → i < S.callers → StaysOpen S w es i
    → ((machine_in w i).steps + turn_count i es < bound S)
    × ((machine_in (after_events S w es) i).place ≡ LoadCurrent
    → (machine_in (after_events S w es) i).rounds ≤ 2)

-- Starts.

-- the n words hold the start B: its current-transaction word and its data words, for each cell a
-- durable word that is equal to the cell's word, and 0 after the durable words
pub record HoldsStart (S : Setup) (B : TableStart) (ws : List ℕ) (n : ℕ) : Type 0 where
  pub long : length ws ≡ n
  pub current : get_or ws 0 0 ≡ pack B.seq B.owner
  pub cells : (a : ℕ) → a < S.cells → data_word S ws a ≡ get_or B.cells a 0
  pub durable : (c : ℕ) → c < cell_count S → durable_word S ws c ≡ get_or ws c 0
  pub behind : (c : ℕ) → cell_count S + cell_count S ≤ c → get_or ws c 0 ≡ 0

-- the first words of a table hold its start
abbrev pub FirstWordsHoldStart : Setup → Type 0
FirstWordsHoldStart S = (B : TableStart) → IsStart S B → (n : ℕ) → words_before_members S ≤ n
    → HoldsStart S B (first_words S.callers S.cells B n) n

-- a table opens with one idle machine for each caller, which counts the calls that the caller's
-- ticket cell counts at the start
abbrev pub FirstMachinesAreIdle : Setup → Type 0
FirstMachinesAreIdle S = (B : TableStart) (n : ℕ) →
    let ms : List CallState = (opening_moment S B n).machines in
    (length ms ≡ S.callers)
    × ((i : ℕ) (d : CallState) → i < S.callers
    → get_or ms i d ≡ idle_machine S i (start_ticket S B i))

-- zeros are a start that a table may have
abbrev pub ZerosMayStart : Setup → (List ℕ → Type 0) → Type 0
ZerosMayStart S Lawful = MayStart S Lawful (zero_start S)

-- the first words of a table of zeros are zeros
abbrev pub ZeroTablesAreZeros : Setup → Type 0
ZeroTablesAreZeros S =
    (n : ℕ) → words_before_members S ≤ n
    → first_words S.callers S.cells (zero_start S) n ≡ replicate n 0

-- at a start of zeros no caller has made a call
abbrev pub ZeroTablesHaveNoCalls : Setup → Type 0
ZeroTablesHaveNoCalls S = (i : ℕ) → start_ticket S (zero_start S) i ≡ 0

-- what recovery makes of the durable words of any moment is a row from which a table may start, at
-- the state after the batch of the durable sequence
abbrev pub RecoveredRowsMayStart : Setup → (List ℕ → Type 0) → Type 0
RecoveredRowsMayStart S Lawful =
    (B : TableStart) (w : Moment) → MeetsInvariant S Lawful B w → (row : List ℕ)
    → IsDurable S w.words row →
    let found : List ℕ = recovered_words S.callers S.cells row in
    IsStartRow S Lawful found × (start_from_durable S.callers S.cells found ≡ recovered_start S B w)

-- If a recovery has stopped between two of its writes, a second recovery, of what the first one
-- left, also gives a row from which a table may start, at the state after the batch of the durable
-- sequence.
abbrev pub RestartsMidway : Setup → (List ℕ → Type 0) → Type 0
RestartsMidway S Lawful =
    (B : TableStart) (w : Moment) → MeetsInvariant S Lawful B w → (row : List ℕ)
    → IsDurable S w.words row
    → (made : ℕ) →
    let writes : List (ℕ × ℕ) = recovery_writes S.callers S.cells (slice_index row) in
    let found : List ℕ = recovered_words S.callers S.cells
    (words_after_writes (take made writes) row) in
    IsStartRow S Lawful found × (start_from_durable S.callers S.cells found ≡ recovered_start S B w)

-- what a renumbering of a start row leaves, stopped between two of its writes, is a row from which
-- a table may start with the same numbers
abbrev pub RenumbersMidway : Setup → (List ℕ → Type 0) → Type 0
RenumbersMidway S Lawful = (row : List ℕ) → IsStartRow S Lawful row → (made : ℕ) →
    let writes : List (ℕ × ℕ) = renumbering_writes S.callers S.cells row in
    let left : List ℕ = words_after_writes (take made writes) row in
    IsStartRow S Lawful left
    × (map payload_of (start_from_durable S.callers S.cells left).cells
    ≡ map payload_of (start_from_durable S.callers S.cells row).cells)

-- Machines by themselves.

-- a machine is idle, or a call of it is open
abbrev pub IsIdleOrOpen : Type 0
IsIdleOrOpen = (p : Place) → (p ≡ Idle) ⊎ IsOpen p

-- the test `is_idle` is true only at Idle
abbrev pub IdleTestIsExact : Type 0
IdleTestIsExact = (p : Place) → is_idle p ≡ true → p ≡ Idle

-- a turn leaves an idle machine as it is, and answers nothing
abbrev pub TurnsKeepIdle : Type 0
TurnsKeepIdle =
    (S : Setup) (m : CallState) (n : ℕ) → m.place ≡ Idle
    → (take_word S m n ≡ m) × (step_reads m m ≡ [])

-- an idle machine works at no sequence (`rests_on_seq` is 0), and is in no try
abbrev pub IdleRestsOnNothing : Type 0
IdleRestsOnNothing =
    (m : CallState) → m.place ≡ Idle → (rests_on_seq m ≡ 0) × ((low : ℕ) → ReadsFrom low m)

-- a machine's next step finds the word that `word_found` gives: the table's word that the step is
-- on
abbrev pub StepsFindTheirWord : Type 0
StepsFindTheirWord =
    (S : Setup) (ws : List ℕ) (m : CallState) → IsFoundBy (want S m) ws (word_found S ws m)

-- if a turn of a caller finds a number that the caller's next step may find, the turn is this step
abbrev pub TurnsAreSteps : Type 0
TurnsAreSteps = (S : Setup) (w : Moment) (i n : ℕ) → IsFoundBy (want S (machine_in w i)) w.words n
    → after_event S w (Turns i) ≡ after_step S i (machine_in w i) n w

-- Histories by themselves.

-- the state at the start's sequence is the start's cells, whatever batches follow
abbrev pub FirstStateIsStart : Type 0
FirstStateIsStart = (B : TableStart) (bs : List Batch) → state_after B bs B.seq ≡ B.cells

-- the batches are numbered in order, the first with the number after the start's sequence
abbrev pub BatchesAreNumbered : Type 0
BatchesAreNumbered = (B : TableStart) (bs : List Batch) (d : ℕ)
    → batch_at B bs (B.seq + d + 1) ≡ get_or bs d no_batch

-- a batch that is added to a history has the next number
abbrev pub NextBatchIsNumberedNext : Type 0
NextBatchIsNumberedNext = (B : TableStart) (bs : List Batch) (b : Batch) (k : ℕ)
    → k ≡ B.seq + length bs + 1 → batch_at B (bs ++ b ∷ []) k ≡ b

-- if batches are added to a history, its earlier batches keep their numbers
abbrev pub LongerKeepsBatches : Type 0
LongerKeepsBatches = (B : TableStart) (bs cs : List Batch) (k : ℕ)
    → B.seq < k → k ≤ B.seq + length bs → batch_at B (bs ++ cs) k ≡ batch_at B bs k

-- if batches are added to a history, the states after its earlier batches stay the same
abbrev pub LongerKeepsStates : Type 0
LongerKeepsStates = (B : TableStart) (bs cs : List Batch) (k : ℕ)
    → k ≤ B.seq + length bs → state_after B (bs ++ cs) k ≡ state_after B bs k

-- the first n batches of a history have the same numbers if the later batches are left out
abbrev pub PrefixKeepsBatches : Type 0
PrefixKeepsBatches = (B : TableStart) (bs : List Batch) (n k : ℕ)
    → B.seq < k → k ≤ B.seq + n → batch_at B (take n bs) k ≡ batch_at B bs k

-- the states after the first n batches of a history are the same if the later batches are left out
abbrev pub PrefixKeepsStates : Type 0
PrefixKeepsStates = (B : TableStart) (bs : List Batch) (n k : ℕ)
    → k ≤ B.seq + n → state_after B (take n bs) k ≡ state_after B bs k

-- the beginning of a legal history is legal
abbrev pub PrefixIsLegal : Type 0
PrefixIsLegal = (M : Meaning) (xs : List ℕ) (bs : List Batch) (n : ℕ)
    → IsLegalHistory M xs bs → IsLegalHistory M xs (take n bs)
