-- What a step guarantees the other machines.
use Rattle.std.specs.Prelude.{ℕ, ◌+◌, ◌*◌, List, length, ◌≡◌, ◌≤◌, ◌<◌, ◌⊎◌}
use Rattle.std.proofs.Common.{get_or}
use Rattle.of_cell.specs.Words.{pack, seq_of}
use Rattle.std.specs.List.{All}
use Rattle.of_core.specs.Table.{most_entries, Setup, cell_count, request_of, data_word, log_word_of, durable_word, script_word, announcement_of, committed_seq, committed_owner}
use Rattle.of_core.specs.Machine.{Call}
use Rattle.of_core.specs.TableMoment.{Batch, Moment, TableStart}
use Rattle.of_core.specs.History.{state_after, batch_at, last_ticket_by}
use Rattle.of_core.specs.Rounds.{AnnouncesNothingNew}
use Rattle.of_core.specs.Scan.{IsAnnouncedCall}
use Rattle.of_core.specs.Invariant.{MeetsCore}

-- What other machines may rely on after a step of machine i, from words ws and batches bs to words
-- vs and batches cs. Earlier batches and states stay, and a new batch is caller i's and has only
-- announced calls. Another caller's log words and announcement stay, and its request changes only
-- if the step closes the last batch's request.
pub record Guarantees (S : Setup) (B : TableStart) (i : ℕ) (ws : List ℕ) (bs : List Batch)
    (vs : List ℕ) (cs : List Batch) : Type 0 where
  -- if the last sequence stays, its owner stays too
  pub same : committed_seq vs ≡ committed_seq ws → committed_owner vs ≡ committed_owner ws
  -- all states and batches from before the step stay
  pub states : (k : ℕ) → B.seq ≤ k → k ≤ committed_seq ws → state_after B cs k ≡ state_after B bs k
  pub batches : (k : ℕ) → B.seq < k → k ≤ committed_seq ws → batch_at B cs k ≡ batch_at B bs k
  -- nothing is committed above the limit
  pub limit : committed_seq vs ≤ S.limit
  -- each call of a new batch is one that its caller announces; the batch leaves each ticket cell as
  -- it was, or raises it to the ticket that its caller announces
  pub newer : (k : ℕ) → committed_seq ws < k → k ≤ committed_seq vs
      → All (λ (c : Call). IsAnnouncedCall S ws c × (length c.op ≤ S.instrs))
      (batch_at B cs k).calls
  pub tickets : (k j : ℕ) → committed_seq ws < k → k ≤ committed_seq vs → j < S.callers
      → (last_ticket_by S B cs k j ≡ last_ticket_by S B bs (committed_seq ws) j)
      ⊎ ((last_ticket_by S B cs k j ≡ seq_of (announcement_of S ws j))
      × (last_ticket_by S B bs (committed_seq ws) j < seq_of (announcement_of S ws j))
      × (committed_seq ws < S.limit))
  -- a new batch records the announcements that were there when it was committed
  pub snapshot : (k j : ℕ) → committed_seq ws < k → k ≤ committed_seq vs → j < S.callers
      → (batch_at B cs k).announcements j ≡ announcement_of S ws j
  -- a script word or an announcement changes only if its caller is i, and the call that i announced
  -- was run or the limit is reached
  pub script_of : (j x : ℕ) → j < S.callers → x < S.instrs + 1
      → (script_word S vs j x ≡ script_word S ws j x) ⊎ ((j ≡ i) × AnnouncesNothingNew S B ws bs j)
  -- if i's announcement changes, no batch has recorded the new one
  pub announcements : (j : ℕ) → j < S.callers
      → (announcement_of S vs j ≡ announcement_of S ws j)
      ⊎ ((j ≡ i)
      × ((k : ℕ) → B.seq < k → k ≤ committed_seq ws
      → (batch_at B bs k).announcements j ≡ announcement_of S vs j → ⊥))
  -- a new batch is caller i's
  pub newer_owner : (k : ℕ) → committed_seq ws < k → k ≤ committed_seq vs
      → (batch_at B cs k).owner ≡ i
  -- the request of another caller stays, or the step closes it, if it is the open request of the
  -- last batch
  pub requests : (j : ℕ) → j < S.callers → (j ≡ i → ⊥)
      → (request_of vs j ≡ request_of ws j)
      ⊎ ((B.seq < committed_seq ws) × ((batch_at B bs (committed_seq ws)).owner ≡ j)
      × (request_of ws j ≡ pack (committed_seq ws) 0)
      × (request_of vs j ≡ pack (committed_seq ws) 1))
  -- a data cell stays, or its new word is of the last transaction or of a later one
  pub changes : (a : ℕ) → a < S.cells
      → (data_word S vs a ≡ data_word S ws a) ⊎ (committed_seq ws ≤ seq_of (data_word S vs a))
  -- the log words of the other callers stay
  pub logs : (j : ℕ) → j < S.callers → (j ≡ i → ⊥) → (x : ℕ) → x < 2 * most_entries S + 1
      → log_word_of S vs j x ≡ log_word_of S ws j x
  -- A log word stays or gets a higher sequence. If the step commits a batch, no log word of caller
  -- i has a sequence above the batch's.
  pub log_how : (j x : ℕ) → j < S.callers → x < 2 * most_entries S + 1
      → (log_word_of S vs j x ≡ log_word_of S ws j x)
      ⊎ (seq_of (log_word_of S ws j x) < seq_of (log_word_of S vs j x))
  pub newer_logs : (k x : ℕ) → committed_seq ws < k → k ≤ committed_seq vs
      → x < 2 * most_entries S + 1 → seq_of (log_word_of S vs i x) ≤ k
  -- cells and durable words only rise, and no durable word gets above its cell's
  pub rise : (c : ℕ) → c < cell_count S → get_or ws c 0 ≤ get_or vs c 0
  pub durs : (c : ℕ) → c < cell_count S → durable_word S ws c ≤ durable_word S vs c
  pub low : (c : ℕ) → c < cell_count S → durable_word S vs c ≤ get_or vs c 0

-- a step of machine i from w to v keeps the core of the invariant, and guarantees to the other
-- machines what they rely on
pub record KeepsGuarantee (S : Setup) (Lawful : List ℕ → Type 0) (B : TableStart) (i : ℕ)
    (w v : Moment) : Type 0 where
  pub core : MeetsCore S Lawful B v
  pub moves : Guarantees S B i w.words w.batches v.words v.batches
