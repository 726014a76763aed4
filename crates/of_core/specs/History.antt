-- The states that the batches lead through, and when a history is legal.
use Rattle.std.specs.Prelude.{ℕ, ◌+◌, ◌-◌, List, [], ◌∷◌, length, true, false, ◌≡◌, ◌≤◌, ◌<◌, map, ◌⊎◌}
use Rattle.std.proofs.Common.{get_or, set, take}
use Rattle.of_cell.specs.Words.{pack, seq_of, payload_of}
use Rattle.of_mem.specs.declared.work.RawReply.{RawReply}
use Rattle.of_mem.specs.Meaning.{Meaning, is_marked}
use Rattle.std.specs.List.{All}
use Rattle.of_core.specs.Table.{Setup, ticket_cell, shape_cell, reply_cell}
use Rattle.of_core.specs.Machine.{Call, no_call}
use Rattle.of_core.specs.TableMoment.{Batch, TableStart}

-- the data words after a log's entries are applied at sequence k
abbrev pub with_log_applied : ℕ → List ℕ → List (ℕ × ℕ) → List ℕ
with_log_applied k ws [] = ws
with_log_applied k ws (e ∷ es) = with_log_applied k (set ws e.0 (pack k e.1)) es

-- the data words after these batches, if the words before them are ws, at sequence s
abbrev pub words_after_batches : ℕ → List ℕ → List Batch → List ℕ
words_after_batches s ws [] = ws
words_after_batches s ws (b ∷ bs) =
    words_after_batches (s + 1) (with_log_applied (s + 1) ws b.log) bs

-- the data words after batch k
unfoldable pub state_after : TableStart → List Batch → ℕ → List ℕ
state_after B bs k = words_after_batches B.seq B.cells (take (k - B.seq) bs)

-- an empty batch, which no table commits
abbrev pub no_batch : Batch
no_batch = record { owner = 0; log = []; calls = []; announcements = λ c. 0 }

-- the batch of sequence k: the first of these batches has the sequence after the start's
unfoldable pub batch_at : TableStart → List Batch → ℕ → Batch
batch_at B bs k = get_or bs (k - B.seq - 1) no_batch

-- P holds of the calls of each batch
abbrev pub EachBatch : TableStart → List Batch → (List Call → Type 0) → Type 0
EachBatch B bs P = (k : ℕ) → B.seq < k → k ≤ B.seq + length bs → P (batch_at B bs k).calls

-- P holds of each call in the batches
abbrev pub EachCall : TableStart → List Batch → (Call → Type 0) → Type 0
EachCall B bs P = EachBatch B bs (All P)

-- if the call is caller i's, its ticket is below `ticket`
abbrev pub IsOlderCall : (i ticket : ℕ) → Call → Type 0
IsOlderCall i ticket c = c.caller ≡ i → c.ticket < ticket

-- the word of the data cell a after batch k
abbrev pub data_word_after : TableStart → List Batch → ℕ → ℕ → ℕ
data_word_after B bs k a = get_or (state_after B bs k) a 0

-- the numbers of the data cells after batch k
abbrev pub numbers_after : TableStart → List Batch → ℕ → List ℕ
numbers_after B bs k = map payload_of (state_after B bs k)

-- the numbers of the data cells after the calls, run in order on the numbers xs
abbrev pub numbers_after_calls : Meaning → List ℕ → List Call → List ℕ
numbers_after_calls W xs [] = xs
numbers_after_calls W xs (c ∷ cs) = numbers_after_calls W (W.cells xs c.op) cs

-- run in order on the numbers xs, the calls give the replies that they have
abbrev pub CallsHaveReplies : Meaning → List ℕ → List Call → Type 0
CallsHaveReplies W xs [] = Unit {0}
CallsHaveReplies W xs (c ∷ cs) = (W.reply xs c.op ≡ c.raw) × CallsHaveReplies W (W.cells xs c.op) cs

-- the numbers of the data cells after the calls of all batches, run in order on the numbers xs
abbrev pub numbers_after_batches : Meaning → List ℕ → List Batch → List ℕ
numbers_after_batches W xs [] = xs
numbers_after_batches W xs (b ∷ bs) = numbers_after_batches W (numbers_after_calls W xs b.calls) bs

-- the history is legal: when the calls of all batches are run again in order, from the numbers xs,
-- each gives the reply that it has
abbrev pub IsLegalHistory : Meaning → List ℕ → List Batch → Type 0
IsLegalHistory W xs [] = Unit {0}
IsLegalHistory W xs (b ∷ bs) =
    CallsHaveReplies W xs b.calls × IsLegalHistory W (numbers_after_calls W xs b.calls) bs

-- the number in caller i's ticket cell, in the data words st
abbrev pub ticket_in_state : Setup → List ℕ → ℕ → ℕ
ticket_in_state S st i = payload_of (get_or st (ticket_cell S i) 0)

-- the number in caller i's ticket cell after batch k: the ticket of its last call that was run
abbrev pub last_ticket_by : Setup → TableStart → List Batch → ℕ → ℕ → ℕ
last_ticket_by S B bs k i = payload_of (data_word_after B bs k (ticket_cell S i))

-- the data cell a is one of caller i's own cells
abbrev pub IsCellOfCaller : Setup → ℕ → ℕ → Type 0
IsCellOfCaller S i a = (ticket_cell S i ≤ a) × (a < ticket_cell S i + (S.instrs + 2))

-- after batch k, the own cells of c's caller hold the ticket and the reply of c, a call of batch j
pub record ShowsCall (S : Setup) (B : TableStart) (bs : List Batch) (k j : ℕ) (c : Call)
    : Type 0 where
  pub ticket : data_word_after B bs k (ticket_cell S c.caller) ≡ pack j c.ticket
  pub shape : payload_of (data_word_after B bs k (shape_cell S c.caller)) ≡ c.raw.shape
  pub replies : (y : ℕ) → y < S.instrs → is_marked c.raw.shape y ≡ true
      → payload_of (data_word_after B bs k (reply_cell S c.caller y)) ≡ get_or c.raw.values y 0
  -- a number of the reply that the shape does not mark is 0
  pub rest : (y : ℕ) → y < S.instrs → is_marked c.raw.shape y ≡ false
      → get_or c.raw.values y 0 ≡ 0

-- caller i has no call in batches lo + 1 to hi
abbrev pub HasNoCallBetween : TableStart → List Batch → ℕ → ℕ → ℕ → Type 0
HasNoCallBetween B bs i lo hi = (k : ℕ) → lo < k → k ≤ hi
    → All (λ (c : Call). c.caller ≡ i → ⊥) (batch_at B bs k).calls

-- the last call of caller i in the batches up to k; after batch k the caller's own cells hold this
-- call
pub record IsNewestCall (S : Setup) (B : TableStart) (bs : List Batch) (k i : ℕ) : Type 0 where
  pub number : ℕ
  pub from : B.seq < number
  pub upto : number ≤ k
  pub place : ℕ
  pub among : place < length (batch_at B bs number).calls
  pub caller : (get_or (batch_at B bs number).calls place no_call).caller ≡ i
  pub shows : ShowsCall S B bs k number (get_or (batch_at B bs number).calls place no_call)
  pub absent : HasNoCallBetween B bs i number k
  pub old : (a : ℕ) → IsCellOfCaller S i a → seq_of (data_word_after B bs k a) ≤ number

-- the own cells of caller i in state k hold the caller's last call in the batches up to k; if there
-- is no such call, the cells are those of the start
abbrev pub OwnCellsShowLast : Setup → TableStart → List Batch → ℕ → ℕ → Type 0
OwnCellsShowLast S B bs k i =
    (HasNoCallBetween B bs i B.seq k
    × ((a : ℕ) → IsCellOfCaller S i a → data_word_after B bs k a ≡ data_word_after B bs B.seq a))
    ⊎ IsNewestCall S B bs k i

-- the calls are ordered by caller, and each caller has at most one
abbrev pub CallersRise : List Call → Type 0
CallersRise cs = (j k : ℕ) → j < k → k < length cs
    → (get_or cs j no_call).caller < (get_or cs k no_call).caller

-- the two replies have the same shape, and the same numbers where this shape marks numbers
abbrev pub SameWhereMarked : Setup → RawReply → RawReply → Type 0
SameWhereMarked S r q = (r.shape ≡ q.shape)
    × ((y : ℕ) → y < S.instrs → is_marked r.shape y ≡ true
    → get_or r.values y 0 ≡ get_or q.values y 0)

-- the two replies have the same shape and the same numbers
abbrev pub SameReply : Setup → RawReply → RawReply → Type 0
SameReply S r q = (r.shape ≡ q.shape)
    × ((y : ℕ) → y < S.instrs → get_or r.values y 0 ≡ get_or q.values y 0)

-- one of the calls is caller i's with ticket t, this operation and this reply
pub record HasCall (S : Setup) (cs : List Call) (i t : ℕ) (op : List ℕ) (r : RawReply)
    : Type 0 where
  pub place : ℕ
  pub among : place < length cs
  pub caller : (get_or cs place no_call).caller ≡ i
  pub ticket : (get_or cs place no_call).ticket ≡ t
  pub same : (get_or cs place no_call).op ≡ op
  pub reply : SameReply S r (get_or cs place no_call).raw
