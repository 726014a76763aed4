-- What the invariant says of a machine's own log and request, and of a transaction that is copied
-- or applied. The words are ws, the history is bs, from the start B, and m is the machine of caller
-- i.
use Rattle.std.specs.Prelude.{ℕ, ◌+◌, ◌*◌, List, length, Bool, true, false, ◌≡◌, ◌≤◌, ◌<◌, ◌⊎◌}
use Rattle.std.proofs.Common.{get_or, take}
use Rattle.of_cell.specs.Words.{pack, seq_of}
use Rattle.of_core.specs.Table.{most_entries, Setup, request_of, data_word, log_word_of, durable_request, durable_cell, durable_log, announcement_of, committed_seq}
use Rattle.of_core.specs.Machine.{CallState, log_entry, log_words}
use Rattle.of_core.specs.TableMoment.{Batch, TableStart}
use Rattle.of_core.specs.History.{batch_at, last_ticket_by, HasCall}
use Rattle.of_core.specs.Rounds.{WasCurrent, MayHelp, IsPastOwnTicket, HasNothingUnderWay}
use Rattle.of_core.specs.Scan.{HasScannedUpTo}

-- the two lists have the same length and the same entries, in any order
pub record IsReorderingOf (es ds : List (ℕ × ℕ)) : Type 0 where
  pub many : length ds ≡ length es
  pub each : (j : ℕ) → j < length ds
      → (k : ℕ) × (k < length es) × (get_or es k (0, 0) ≡ get_or ds j (0, 0))
  pub all : (k : ℕ) → k < length es
      → (j : ℕ) × (j < length ds) × (get_or ds j (0, 0) ≡ get_or es k (0, 0))

-- the data cell a and its durable word are no older than s
pub record IsApplied (S : Setup) (ws : List ℕ) (s a : ℕ) : Type 0 where
  pub cell : s ≤ seq_of (data_word S ws a)
  pub durable : s ≤ seq_of (durable_cell S ws a)

module _ (S : Setup) (B : TableStart) (ws : List ℕ) (bs : List Batch) (i : ℕ) where
  -- m is the machine of caller i, which owns batch m.seq and no later batch. This batch has m's
  -- call, the last call of caller i that was run, which the caller still announces. The caller's
  -- request opens or closes this batch, and its log words are no newer.
  pub record OwnsTransaction (m : CallState) : Type 0 where
    pub caller : m.caller ≡ i
    pub owner : m.owner ≡ i
    pub says : seq_of (announcement_of S ws i) ≡ m.made
    pub upto : last_ticket_by S B bs (committed_seq ws) i ≤ m.made
    pub reached : m.made ≤ last_ticket_by S B bs (committed_seq ws) i
    pub call : HasCall S (batch_at B bs m.seq).calls i m.made m.op m.raw
    pub asks : (request_of ws i ≡ pack m.seq 0) ⊎ (request_of ws i ≡ pack m.seq 1)
    pub unowned : (k : ℕ) → m.seq < k → k ≤ committed_seq ws → (batch_at B bs k).owner ≡ i → ⊥
    pub logs : (y : ℕ) → y < 2 * most_entries S + 1 → seq_of (log_word_of S ws i y) ≤ m.seq

  -- m helps in a round or a try, for which transaction m.seq of m.owner was the last one at some
  -- moment; caller i has no open transaction itself (`HasNothingUnderWay`)
  pub record IsHelping (m : CallState) : Type 0 where
    pub helper : MayHelp S B ws bs i m
    pub current_word : WasCurrent S B ws bs m.seq m.owner
    pub calm : HasNothingUnderWay S B ws bs i m.seq

  -- the machine m applies a transaction: as a helper if the flag is set, and otherwise as the owner
  abbrev pub AppliesAs : CallState → Bool → Type 0
  AppliesAs m true = IsHelping m
  AppliesAs m false = OwnsTransaction m

  -- m applies batch m.seq: m.log has the entries of the batch's log, and those below j are applied
  pub record IsApplying (m : CallState) (j : ℕ) : Type 0 where
    pub mode : AppliesAs m m.helps
    pub after : B.seq < m.seq
    pub upto : m.seq ≤ committed_seq ws
    pub committed : (batch_at B bs m.seq).owner ≡ m.owner
    pub log : IsReorderingOf (batch_at B bs m.seq).log m.log
    pub done : (k : ℕ) → k < j → IsApplied S ws m.seq (log_entry m k).0

  -- The helper m has loaded x words of the log of m.owner. If the owner's request is still open,
  -- these are the first x words of the log of batch m.seq.
  pub record IsCopyingLog (m : CallState) (x : ℕ) : Type 0 where
    pub helping : IsHelping m
    pub helps : m.helps ≡ true
    pub after : B.seq < m.seq
    pub many : length m.copy ≡ x
    pub count : 1 ≤ x → get_or m.copy 0 0 ≤ most_entries S
    pub copied : request_of ws m.owner ≡ pack m.seq 0
        → (x ≤ length (log_words (batch_at B bs m.seq).log))
        × (m.copy ≡ take x (log_words (batch_at B bs m.seq).log))

  -- m has scanned all callers, and its round is past the caller's own ticket. The first x words of
  -- m's log are stored, and the first z of them are durable. The caller's other log words are no
  -- newer than m.seq.
  pub record HasStoredLog (m : CallState) (x z : ℕ) : Type 0 where
    pub past : IsPastOwnTicket S B ws bs i m
    pub over : HasScannedUpTo S B ws bs i m.seq m.made m.op m.raw m.calls m.log S.callers
    pub each : (y : ℕ) → y < x
        → log_word_of S ws i y ≡ pack (m.seq + 1) (get_or (log_words m.log) y 0)
    pub durable : (y : ℕ) → y < z
        → durable_log S ws i y ≡ pack (m.seq + 1) (get_or (log_words m.log) y 0)
    pub rest : (y : ℕ) → x ≤ y → y < 2 * most_entries S + 1 → seq_of (log_word_of S ws i y) ≤ m.seq

  -- the durable request of caller i closes each batch that the caller has committed
  abbrev pub HasClosedDurably : Type 0
  HasClosedDurably = (k : ℕ) → B.seq < k → k ≤ committed_seq ws
      → (batch_at B bs k).owner ≡ i → pack k 0 < durable_request S ws i

  -- m has stored the first x words of its log, of which the first z are durable. Its caller's
  -- request is still the old one, which is durable and closes all batches that the caller has
  -- committed
  pub record IsStoringLog (m : CallState) (x z : ℕ) : Type 0 where
    pub stored : HasStoredLog m x z
    pub own : seq_of (request_of ws i) ≤ m.seq
    pub level : durable_request S ws i ≡ request_of ws i
    pub shut : (k : ℕ) → B.seq < k → k ≤ committed_seq ws → (batch_at B bs k).owner ≡ i
        → pack k 0 < request_of ws i
