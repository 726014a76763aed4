-- What the invariant says of words and history, in groups of facts. None of them is about machines.
use Rattle.std.specs.Prelude.{ℕ, ◌+◌, ◌*◌, ◌-◌, List, length, ◌≡◌, ◌≤◌, ◌<◌, ◌⊎◌, max, map}
use Rattle.std.proofs.Common.{get_or}
use Rattle.of_mem.specs.declared.work.TheConstants.{MOST_INSTRS}
use Rattle.of_cell.specs.declared.word.TheConstants.{PAYLOADS}
use Rattle.of_cell.specs.Words.{pack, seq_of, payload_of}
use Rattle.of_mem.specs.Meaning.{HasDistinctCells, SameFrom}
use Rattle.std.specs.List.{All}
use Rattle.of_core.specs.Table.{most_entries, Setup, first_operation_cell, cell_count, request_of, data_word, log_word_of, durable_word, durable_request, durable_cell, durable_log, announcement_of, committed_seq, committed_owner, durable_seq}
use Rattle.of_core.specs.Machine.{Call, log_words}
use Rattle.of_core.specs.TableMoment.{Batch, TableStart}
use Rattle.of_core.specs.History.{batch_at, data_word_after, numbers_after, numbers_after_calls, CallsHaveReplies, last_ticket_by, OwnCellsShowLast, CallersRise}

-- a possible entry of a log: a data cell, and a number that fits into a word
abbrev pub IsEntry : Setup → ℕ × ℕ → Type 0
IsEntry S e = (e.0 < S.cells) × (e.1 < PAYLOADS)

-- a possible log of a batch: possible entries, no cell twice, and no more entries than there is
-- room for
pub record IsLog (S : Setup) (es : List (ℕ × ℕ)) : Type 0 where
  pub entries : All (IsEntry S) es
  pub once : HasDistinctCells es
  pub few : length es ≤ most_entries S

-- the words `copy` are the log words of a possible log
abbrev pub AreLogWords : Setup → List ℕ → Type 0
AreLogWords S copy = (es : List (ℕ × ℕ)) × (copy ≡ log_words es) × IsLog S es

-- a possible start: its owner is a caller, and no data word is newer than its sequence
pub record IsStart (S : Setup) (B : TableStart) : Type 0 where
  pub owner_in : B.owner < S.callers
  pub size : length B.cells ≡ S.cells
  pub old : (a : ℕ) → seq_of (get_or B.cells a 0) ≤ B.seq

-- a start that a table may have: its state is lawful, and its sequence is at most the limit
pub record MayStart (S : Setup) (Lawful : List ℕ → Type 0) (B : TableStart) : Type 0 where
  pub start : IsStart S B
  pub lawful : Lawful (map payload_of B.cells)
  pub limit : B.seq ≤ S.limit

-- the current-transaction word counts the batches, and names the owner of the last one
pub record CountsBatches (S : Setup) (B : TableStart) (ws : List ℕ) (bs : List Batch) : Type 0 where
  -- the last sequence is the start's sequence plus the number of batches
  pub count : committed_seq ws ≡ B.seq + length bs
  -- the last sequence is at most the limit
  pub limit : committed_seq ws ≤ S.limit
  -- the current-transaction word names who committed the last batch
  pub owner : B.seq < committed_seq ws
      → committed_owner ws ≡ (batch_at B bs (committed_seq ws)).owner
  -- if there is no batch, the current-transaction word names the start's owner
  pub first : committed_seq ws ≡ B.seq → committed_owner ws ≡ B.owner
  -- the owners of all batches are callers
  pub owner_in : committed_owner ws < S.callers
  pub owners : (k : ℕ) → B.seq < k → k ≤ committed_seq ws → (batch_at B bs k).owner < S.callers
  -- each batch's log is a possible one
  pub logs : (k : ℕ) → B.seq < k → k ≤ committed_seq ws → IsLog S (batch_at B bs k).log

-- the last transaction is open: a batch was committed, and its owner's request is open
pub record IsLastOpen (B : TableStart) (ws : List ℕ) : Type 0 where
  -- a batch was committed
  pub any : B.seq < committed_seq ws
  -- the request of the last batch's owner is open
  pub asks : request_of ws (committed_owner ws) ≡ pack (committed_seq ws) 0

-- each data cell has its word after the last batch, or, if the last transaction is open, its word
-- after the batch before
pub record DataCellsMatchState (S : Setup) (B : TableStart) (ws : List ℕ) (bs : List Batch)
    : Type 0 where
  -- while the last transaction is open, a cell may still have its older word
  pub each : (a : ℕ) → a < S.cells
      → (data_word S ws a ≡ data_word_after B bs (committed_seq ws) a)
      ⊎ (IsLastOpen B ws × (data_word S ws a ≡ data_word_after B bs (committed_seq ws - 1) a))

-- Which requests the batches' owners have. The request of an owner closes all batches of this
-- owner; but if the last batch of the history is the owner's, the request may still have it open.
pub record RequestsMatchBatches (S : Setup) (B : TableStart) (ws : List ℕ) (bs : List Batch)
    : Type 0 where
  -- if there is a later batch, the request of a batch's owner closes the batch
  pub closed : (k : ℕ) → B.seq < k → k < committed_seq ws
      → pack k 0 < request_of ws (batch_at B bs k).owner
  -- the request of the last batch's owner is the word that opens that batch, or a greater word
  pub latest : B.seq < committed_seq ws
      → pack (committed_seq ws) 0 ≤ request_of ws (committed_owner ws)
  -- the request of the start's owner closes the start's transaction
  pub floor : 0 < B.seq → pack B.seq 0 < request_of ws B.owner

-- a word that the data cell a has held
abbrev pub WasHeldByCell : TableStart → List ℕ → List Batch → ℕ → ℕ → Type 0
WasHeldByCell B ws bs a w =
    (k : ℕ) × (B.seq ≤ k) × (k ≤ committed_seq ws) × (w ≡ data_word_after B bs k a)

-- No durable word is above its cell's word. As long as the durable request of a batch's owner opens
-- the batch, the batch's log is durable. The durable data cells are those of the state at the
-- durable sequence; while the transaction of that sequence is open, some may still be of the state
-- before.
pub record DurableWordsMatch (S : Setup) (B : TableStart) (ws : List ℕ) (bs : List Batch)
    : Type 0 where
  -- no durable word is above its cell's
  pub low : (c : ℕ) → c < cell_count S → durable_word S ws c ≤ get_or ws c 0
  -- the durable sequence is never below the start
  pub from : B.seq ≤ durable_seq S ws
  -- the durable current-transaction word names the owner of the batch of its sequence
  pub owner : B.seq < durable_seq S ws
      → payload_of (durable_word S ws 0) ≡ (batch_at B bs (durable_seq S ws)).owner
  -- if the durable sequence is the start's, the durable current-transaction word names the start's
  -- owner
  pub first : durable_seq S ws ≡ B.seq → payload_of (durable_word S ws 0) ≡ B.owner
  -- the durable sequence is the last committed one; or the last transaction is open, and the
  -- durable sequence is the one before
  pub step : (committed_seq ws ≡ durable_seq S ws)
      ⊎ ((committed_seq ws ≡ durable_seq S ws + 1) × IsLastOpen B ws)
  -- no data cell is newer than the durable sequence
  pub fresh : (a : ℕ) → a < S.cells → seq_of (data_word S ws a) ≤ durable_seq S ws
  -- each durable data cell is of the state at the durable sequence; while the transaction of that
  -- sequence is open, it may still be of the state before
  pub cells : (a : ℕ) → a < S.cells
      → (durable_cell S ws a ≡ data_word_after B bs (durable_seq S ws) a)
      ⊎ (IsLastOpen B ws × (committed_seq ws ≡ durable_seq S ws)
      × (durable_cell S ws a ≡ data_word_after B bs (durable_seq S ws - 1) a))
  -- if a transaction was committed before the start, the durable request of the start's owner
  -- closes it
  pub begun : 0 < B.seq → pack B.seq 0 < durable_request S ws B.owner
  -- the durable request of each batch's owner is the word that opens that batch, or a greater word
  pub floor : (k : ℕ) → B.seq < k → k ≤ committed_seq ws
      → pack k 0 ≤ durable_request S ws (batch_at B bs k).owner
  -- as long as the durable request of a batch's owner opens that batch, the log words of the owner
  -- and their durable words are the words of the batch's log
  pub logs : (k : ℕ) → B.seq < k → k ≤ committed_seq ws → (i : ℕ) → (batch_at B bs k).owner ≡ i
      → durable_request S ws i ≡ pack k 0 → (x v : ℕ) → x < length (log_words (batch_at B bs k).log)
      → get_or (log_words (batch_at B bs k).log) x 0 ≡ v
      → (log_word_of S ws i x ≡ pack k v) × (durable_log S ws i x ≡ pack k v)

-- the state after each batch is lawful, and the calls of the batch lead from the state before the
-- batch to the state after it. The own cells of each caller hold its last call
pub record StatesFollowBatches (S : Setup) (Lawful : List ℕ → Type 0) (B : TableStart)
    (bs : List Batch) : Type 0 where
  -- each state is lawful
  pub lawful : (k : ℕ) → B.seq ≤ k → k ≤ B.seq + length bs → Lawful (numbers_after B bs k)
  -- apart from the callers' own cells, the calls of a batch lead from the state before the batch to
  -- the state after it
  pub leads : (k : ℕ) → B.seq ≤ k → k < B.seq + length bs
      → SameFrom (first_operation_cell S) (numbers_after B bs (k + 1))
      (numbers_after_calls S.meaning (numbers_after B bs k) (batch_at B bs (k + 1)).calls)
  -- run on the state before their batch, the calls give the replies that they have
  pub replies : (k : ℕ) → B.seq ≤ k → k < B.seq + length bs
      → CallsHaveReplies S.meaning (numbers_after B bs k) (batch_at B bs (k + 1)).calls
  -- each caller's own cells show its last call
  pub last : (k i : ℕ) → B.seq ≤ k → k ≤ B.seq + length bs → i < S.callers
      → OwnCellsShowLast S B bs k i
  -- a call of a batch has a newer ticket than its caller had before
  pub rises : (k : ℕ) → B.seq ≤ k → k < B.seq + length bs
      → All (λ (c : Call). last_ticket_by S B bs k c.caller < c.ticket)
      (batch_at B bs (k + 1)).calls
  -- after a batch, the ticket cells of its calls' callers have the tickets of these calls
  pub now : (k : ℕ) → B.seq < k → k ≤ B.seq + length bs
      → All (λ (c : Call). (c.caller < S.callers) × (last_ticket_by S B bs k c.caller ≡ c.ticket))
      (batch_at B bs k).calls
  -- a batch lowers the number in no ticket cell
  pub grow : (k i : ℕ) → B.seq ≤ k → k < B.seq + length bs → i < S.callers
      → last_ticket_by S B bs k i ≤ last_ticket_by S B bs (k + 1) i
  -- a batch's calls are ordered by caller
  pub ordered : (k : ℕ) → B.seq < k → k ≤ B.seq + length bs → CallersRise (batch_at B bs k).calls
  -- each batch has at least one call
  pub some : (k : ℕ) → B.seq < k → k ≤ B.seq + length bs → 0 < length (batch_at B bs k).calls

-- An announcement is of at least one word, and of at most as many as an operation may have. A
-- caller's announced tickets rise. A call that was already announced when a batch was committed is
-- run by the next batch at the latest.
pub record AnnouncementsAreServed (S : Setup) (B : TableStart) (ws : List ℕ) (bs : List Batch)
    : Type 0 where
  -- an announcement is of at most as many words as an operation may have
  pub small : (i : ℕ) → i < S.callers → payload_of (announcement_of S ws i) ≤ S.instrs
  -- the ticket of an announcement fits into a word
  pub tickets : (i : ℕ) → i < S.callers → seq_of (announcement_of S ws i) < PAYLOADS
  -- an announcement with a ticket above 0 is of at least one word
  pub some : (i : ℕ) → i < S.callers → 0 < seq_of (announcement_of S ws i)
      → 1 ≤ payload_of (announcement_of S ws i)
  -- announced tickets only rise: no batch has recorded a higher one than the present one
  pub before : (k i : ℕ) → B.seq < k → k ≤ committed_seq ws → i < S.callers
      → seq_of ((batch_at B bs k).announcements i) ≤ seq_of (announcement_of S ws i)
  -- a call that was already announced when a batch was committed is run by the next batch at the
  -- latest
  pub met : (k i : ℕ) → B.seq < k → k < committed_seq ws → i < S.callers
      → (batch_at B bs k).announcements i ≡ announcement_of S ws i
      → seq_of (announcement_of S ws i) ≤ last_ticket_by S B bs (k + 1) i
  -- the ticket of a caller's last call that was run is at most the announced one, or the one at the
  -- start
  pub reached : (i : ℕ) → i < S.callers
      → last_ticket_by S B bs (committed_seq ws) i
      ≤ max (last_ticket_by S B bs B.seq i) (seq_of (announcement_of S ws i))
  -- a caller's log has no more entries than there is room for, also if the round that stored the
  -- log has not committed it
  pub counts : (i : ℕ) → i < S.callers → payload_of (log_word_of S ws i 0) ≤ most_entries S

-- if the word w of caller j's request is newer than the start, it opens a transaction, or it closes
-- a batch that j has committed
abbrev pub IsRequest : TableStart → List ℕ → List Batch → ℕ → ℕ → Type 0
IsRequest B ws bs j w =
    B.seq < seq_of w
    → (payload_of w ≡ 0)
    ⊎ ((payload_of w ≡ 1) × (seq_of w ≤ committed_seq ws)
    × ((batch_at B bs (seq_of w)).owner ≡ j))

-- if caller j has committed the batch with the sequence of w, then w is word x of that batch's log
abbrev pub IsLogWord : TableStart → List ℕ → List Batch → ℕ → ℕ → ℕ → Type 0
IsLogWord B ws bs j x w =
    B.seq < seq_of w → seq_of w ≤ committed_seq ws → (batch_at B bs (seq_of w)).owner ≡ j
    → (x < length (log_words (batch_at B bs (seq_of w)).log))
    × (payload_of w ≡ get_or (log_words (batch_at B bs (seq_of w)).log) x 0)

-- requests and log words have the form that they must have; so have their durable words
pub record WordsHaveTheirKind (S : Setup) (B : TableStart) (ws : List ℕ) (bs : List Batch)
    : Type 0 where
  -- each request that is newer than the start opens a transaction or closes one of its caller's
  -- batches
  pub requests : (j : ℕ) → j < S.callers → IsRequest B ws bs j (request_of ws j)
  -- each durable request that is newer than the start opens a transaction or closes one of its
  -- caller's batches
  pub dur_requests : (j : ℕ) → j < S.callers → IsRequest B ws bs j (durable_request S ws j)
  -- if a caller has committed the batch with the sequence of one of its log words, this is a word
  -- of the batch's log
  pub logs : (j x : ℕ) → j < S.callers → x < 2 * most_entries S + 1
      → IsLogWord B ws bs j x (log_word_of S ws j x)
  -- the same of the durable words: if a caller has committed the batch with the sequence of the
  -- durable word of one of its log words, this is a word of the batch's log
  pub dur_logs : (j x : ℕ) → j < S.callers → x < 2 * most_entries S + 1
      → IsLogWord B ws bs j x (durable_log S ws j x)
  -- each entry in a caller's log names a data cell, also if the round that stored the log has not
  -- committed it
  pub sized : (j y : ℕ) → j < S.callers → y < most_entries S
      → payload_of (log_word_of S ws j (2 * y + 1)) < S.cells

-- all that the invariant says of words and history, and not of machines
pub record WordsMatchHistory (S : Setup) (Lawful : List ℕ → Type 0) (B : TableStart) (ws : List ℕ)
    (bs : List Batch) : Type 0 where
  pub start : IsStart S B
  pub few : S.callers < PAYLOADS
  pub narrow : S.instrs ≤ MOST_INSTRS
  pub little : S.cells < PAYLOADS
  pub own_in : first_operation_cell S ≤ S.cells
  pub room : cell_count S + cell_count S + S.callers * (S.instrs + 1) ≤ length ws
  pub counted : CountsBatches S B ws bs
  pub data_cells : DataCellsMatchState S B ws bs
  pub requests : RequestsMatchBatches S B ws bs
  pub durable : DurableWordsMatch S B ws bs
  pub stands : StatesFollowBatches S Lawful B bs
  pub heard : AnnouncementsAreServed S B ws bs
  pub kinds : WordsHaveTheirKind S B ws bs
