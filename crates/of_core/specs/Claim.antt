-- What holds at every moment: the history is legal, each round uses one state, and recovery of the
-- durable words finds a state of the history.
use Rattle.std.specs.Prelude.{ℕ, ◌+◌, ◌*◌, ◌-◌, List, length, Option, Some, None, Bool, true, false, ◌≡◌, ◌≤◌, ◌<◌, map}
use Rattle.std.proofs.Common.{get_or, take}
use Rattle.of_cell.specs.Words.{seq_of, payload_of}
use Rattle.of_mem.specs.Meaning.{Agrees, SameFrom}
use Rattle.of_recover.specs.Recovered.{recovered_data}
use Rattle.of_core.specs.declared.place.Place.{Place}
use Rattle.of_core.specs.declared.place.Place.TheVariants.{Idle, TryCell, LoadOwnTicket, LoadShape, LoadReply, LoadAnnouncement, LoadTicket, LoadScript, LoadCell, RaiseOld, StoreLog, RaiseLog, StoreRequest, RaiseRequest, ExchangeCurrent}
use Rattle.of_core.specs.declared.place.Outcome.{Outcome}
use Rattle.of_core.specs.declared.place.Outcome.TheVariants.{Answered, Spent, Lost}
use Rattle.std.specs.List.{All}
use Rattle.of_core.specs.Table.{most_entries, Setup, first_operation_cell, cell_count, request_at, data_at, log_at, durable_word, announcement_of, committed_seq, durable_seq}
use Rattle.of_core.specs.Machine.{Call, CallState, IsOpen}
use Rattle.of_core.specs.TableMoment.{Moment, TableStart, Batch, Read}
use Rattle.of_core.specs.Order.{AreInCallOrder}
use Rattle.of_core.specs.WordsMatch.{WasHeldByCell, IsRequest, IsLogWord, DataCellsMatchState}
use Rattle.of_core.specs.Rounds.{FindsOwnTicket, HasReadReplyUpTo}
use Rattle.of_core.specs.Invariant.{WasHeldByCurrent}
use Rattle.of_core.specs.History.{state_after, batch_at, EachBatch, EachCall, IsOlderCall, data_word_after, numbers_after, numbers_after_batches, last_ticket_by, IsLegalHistory, OwnCellsShowLast, CallersRise, HasCall}
use Rattle.of_core.specs.Bound.{bound}
use Rattle.of_core.specs.Events.{machine_in}

-- whether, at this place of a round or a try, the cells that the machine knows must be those of its
-- state
abbrev pub knows_state : Place → Bool
knows_state (TryCell a) = true
knows_state LoadOwnTicket = true
knows_state LoadShape = true
knows_state (LoadReply j) = true
knows_state LoadAnnouncement = true
knows_state LoadTicket = true
knows_state (LoadScript j) = true
knows_state (LoadCell a) = true
knows_state RaiseOld = true
knows_state (StoreLog x) = true
knows_state (RaiseLog x) = true
knows_state StoreRequest = true
knows_state RaiseRequest = true
knows_state ExchangeCurrent = true
knows_state p = false

-- if the place is `LoadShape` or `LoadReply`, what the machine m of caller i has loaded from the
-- caller's own cells is what this state has there
abbrev pub OwnCellsAreOfState : Setup → (state_after : List ℕ) → (i : ℕ) → CallState → Place
    → Type 0
OwnCellsAreOfState S st i m LoadShape = FindsOwnTicket S st i m
OwnCellsAreOfState S st i m (LoadReply j) = FindsOwnTicket S st i m × HasReadReplyUpTo S st i m j
OwnCellsAreOfState S st i m p = Unit {0}

-- a round or a try has used the cells of only one state: this holds of the known cells, and of what
-- was loaded of the caller's own cells
pub record UsesOneState (S : Setup) (B : TableStart) (w : Moment) (i : ℕ) (m : CallState)
    : Type 0 where
  pub known : knows_state m.place ≡ true → Agrees m.known (numbers_after B w.batches m.seq)
  pub own : OwnCellsAreOfState S (state_after B w.batches m.seq) i m m.place

-- What the history says of a word that the cell c may have held. A current-transaction word names a
-- batch and the batch's owner. A request that is newer than the start opens a transaction or closes
-- a batch of its caller. A data word is the word of some state. A log word with the sequence of a
-- batch of its caller is a word of that batch's log.
pub record HasHeld (S : Setup) (B : TableStart) (ws : List ℕ) (bs : List Batch) (c v : ℕ)
    : Type 0 where
  pub current : c ≡ 0 → WasHeldByCurrent B ws bs v
  pub request : (j : ℕ) → j < S.callers → c ≡ request_at j → IsRequest B ws bs j v
  pub data_word : (a : ℕ) → a < S.cells → c ≡ data_at S a → WasHeldByCell B ws bs a v
  pub log : (j x : ℕ) → j < S.callers → x < 2 * most_entries S + 1 → c ≡ log_at S j x
      → IsLogWord B ws bs j x v

-- the numbers of the data cells after the first n batches, by replay of their calls
abbrev pub numbers_by_replay : Setup → TableStart → List Batch → (n : ℕ) → List ℕ
numbers_by_replay S B bs n = numbers_after_batches S.meaning (map payload_of B.cells) (take n bs)

-- the read's reply is what its operation answers after a replay of the batches up to its sequence
abbrev pub ReadIsLegal : Setup → TableStart → List Batch → Read → Type 0
ReadIsLegal S B bs r = S.meaning.reply (numbers_by_replay S B bs (r.seq - B.seq)) r.op ≡ r.raw

-- what the last outcome of caller i says of the history: a read's reply is what its operation
-- answers on the state at its sequence, an announced call is in the batch of its sequence, and a
-- spent call is in no batch
abbrev pub OutcomeIsInHistory : Setup → TableStart → Moment → ℕ → CallState → Option Outcome
    → Type 0
OutcomeIsInHistory S B w i m None = Unit {0}
OutcomeIsInHistory S B w i m (Some (Answered s false raw steps)) =
    (steps ≤ bound S) × (B.seq ≤ s) × (s ≤ durable_seq S w.words)
    × (S.meaning.reply (numbers_after B w.batches s) m.op ≡ raw)
    × (S.meaning.reads_only m.op ≡ true)
OutcomeIsInHistory S B w i m (Some (Answered s true raw steps)) =
    (steps ≤ bound S) × (B.seq < s) × (s ≤ durable_seq S w.words)
    × HasCall S (batch_at B w.batches s).calls i m.made m.op raw
OutcomeIsInHistory S B w i m (Some (Spent s)) =
    (s ≡ S.limit) × (B.seq + length w.batches ≡ s)
    × ((k : ℕ) → B.seq < k → k ≤ s → All (IsOlderCall i m.made) (batch_at B w.batches k).calls)
    × (s ≤ durable_seq S w.words)
OutcomeIsInHistory S B w i m (Some (Lost s)) = ⊥

-- a call in a batch was begun by its caller; if it is the caller's open call, the batch has it with
-- the open call's words
abbrev pub WasBegunByCaller : Setup → TableStart → Moment → Call → Type 0
WasBegunByCaller S B w c =
    let m : CallState = machine_in w c.caller in
    (c.caller < S.callers) × (last_ticket_by S B w.batches B.seq c.caller < c.ticket)
    × (c.ticket ≤ m.made) × (IsOpen m.place → c.ticket ≡ m.made → c.op ≡ m.op)

-- if both calls are of one caller, the second has the higher ticket
abbrev pub IsNewerCall : Call → Call → Type 0
IsNewerCall c d = d.caller ≡ c.caller → c.ticket < d.ticket

-- all that is claimed of a moment
pub record IsSound (S : Setup) (B : TableStart) (w : Moment) : Type 0 where
  -- the history is legal: run in order, the calls of the batches give the replies that they have,
  -- and so does each read on the state at its sequence
  pub legal : IsLegalHistory S.meaning (map payload_of B.cells) w.batches
  pub reads : All (ReadIsLegal S B w.batches) w.reads
  -- apart from the callers' own cells the state after each batch is what the calls up to it lead to
  pub state : (k : ℕ) → k ≤ length w.batches
      → SameFrom (first_operation_cell S) (numbers_after B w.batches (B.seq + k))
      (numbers_by_replay S B w.batches k)
  -- each call in a batch was begun by its caller
  pub begun : EachCall B w.batches (WasBegunByCaller S B w)
  -- no batch is empty, a batch's calls are ordered by caller, and each caller's tickets rise
  pub some : EachBatch B w.batches (λ cs. 0 < length cs)
  pub rising : EachBatch B w.batches CallersRise
  pub tickets : (j k : ℕ) → B.seq < j → j < k → k ≤ B.seq + length w.batches
      → All (λ c. All (IsNewerCall c) (batch_at B w.batches k).calls) (batch_at B w.batches j).calls
  -- each caller's calls, in batches and read, are in the order in which it made them, and no read
  -- is newer than the durable sequence
  pub order : AreInCallOrder S B w.words w.batches w.reads
  -- recovery of the durable words gives the state after the batches up to the durable sequence
  pub recovers : (a : ℕ) → a < S.cells
      → recovered_data S.callers S.cells (durable_word S w.words) a
      ≡ data_word_after B w.batches (durable_seq S w.words) a
  -- in the state at the durable sequence, each caller's own cells hold the caller's last call in a
  -- batch
  pub own : (i : ℕ) → i < S.callers → OwnCellsShowLast S B w.batches (durable_seq S w.words) i
  -- no word that recovery gives is newer than the durable sequence
  pub old : (a : ℕ) → a < S.cells
      → seq_of (recovered_data S.callers S.cells (durable_word S w.words) a) ≤ durable_seq S w.words
  -- the durable sequence is at least the start's sequence, and at most the last batch's
  pub from : B.seq ≤ durable_seq S w.words
  pub reaches : durable_seq S w.words ≤ B.seq + length w.batches
  -- the owner that the durable current-transaction word names is a caller
  pub owner : payload_of (durable_word S w.words 0) < S.callers
  -- no batch is above the limit
  pub limit : B.seq + length w.batches ≤ S.limit
  -- a call that was already announced when a batch was committed is run by the next batch at the
  -- latest: a call is in a batch after at most two commits that follow its announcement
  pub met : (k i : ℕ) → B.seq < k → k < B.seq + length w.batches → i < S.callers
      → (batch_at B w.batches k).announcements i ≡ announcement_of S w.words i
      → seq_of (announcement_of S w.words i) ≤ last_ticket_by S B w.batches (k + 1) i
  -- each batch's owner is the number of one of the table's callers
  pub owners : (k : ℕ) → B.seq < k → k ≤ B.seq + length w.batches
      → (batch_at B w.batches k).owner < S.callers
  -- the current-transaction word counts the batches. Each data cell is of the last state; while the
  -- last transaction is open, it may still be of the state before
  pub count : committed_seq w.words ≡ B.seq + length w.batches
  pub data_cells : DataCellsMatchState S B w.words w.batches
  -- no durable word is above its cell's word, and each durable word is one that its cell may have
  -- held (`HasHeld`)
  pub low : (c : ℕ) → c < cell_count S → durable_word S w.words c ≤ get_or w.words c 0
  pub held : (c : ℕ) → c < cell_count S → HasHeld S B w.words w.batches c (durable_word S w.words c)
  -- each round and each try has used the cells of only one state
  pub one : (i : ℕ) → i < S.callers → UsesOneState S B w i (machine_in w i)
  -- each caller has a machine, and no call makes more steps than the bound
  pub members : length w.machines ≡ S.callers
  pub within : (i : ℕ) → i < S.callers → (machine_in w i).steps ≤ bound S
  -- an idle machine counts no steps, as it has no open call
  pub at_rest : (i : ℕ) → i < S.callers → (machine_in w i).place ≡ Idle → (machine_in w i).steps ≡ 0
  -- the history agrees with the last outcome of each idle machine, and this outcome's sequence is
  -- at most the durable one
  pub answered : (i : ℕ) → i < S.callers → (machine_in w i).place ≡ Idle
      → OutcomeIsInHistory S B w i (machine_in w i) (machine_in w i).answer
