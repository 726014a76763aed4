-- The order of one caller's calls: reads that were answered without being announced come between
-- its calls in the batches.
use Rattle.std.specs.Prelude.{◌≡◌, ℕ, ◌+◌, ◌<◌, ◌≤◌, ◌⊎◌, List, [], length, Bool, true, false}
use Rattle.std.specs.List.{All}
use Rattle.std.proofs.Common.{get_or}
use Rattle.of_core.specs.declared.place.Place.{Place}
use Rattle.of_core.specs.declared.place.Place.TheVariants.{TryRequest, TryCell, CopyLog, LookAgain, RaiseCurrent, LoadTarget, ExchangeTarget, ReloadTarget, RaiseTarget, CloseRequest, RaiseClosed}
use Rattle.of_core.specs.Table.{Setup, committed_seq, durable_seq}
use Rattle.of_core.specs.Machine.{Call, CallState, is_idle}
use Rattle.of_core.specs.TableMoment.{Moment, TableStart, Batch, Read}
use Rattle.of_core.specs.History.{batch_at, last_ticket_by, numbers_after}

-- the read is of an operation that only reads, and its reply is what the operation answers on the
-- state at the read's sequence, which is at most d
pub record IsRead (S : Setup) (B : TableStart) (bs : List Batch) (d : ℕ) (r : Read) : Type 0 where
  pub caller : r.caller < S.callers
  pub from : B.seq ≤ r.seq
  pub upto : r.seq ≤ d
  pub only : S.meaning.reads_only r.op ≡ true
  pub reply : S.meaning.reply (numbers_after B bs r.seq) r.op ≡ r.raw

-- the read that `get_or` gives beyond the end of a list of reads
abbrev pub no_read : Read
no_read =
    record { caller = 0; ticket = 0; op = []; raw = record { shape = 0; values = [] }; seq = 0 }

-- if both reads are of one caller, the second has the higher ticket, and its state is no older than
-- that of the first
abbrev pub IsLaterRead : (first second : Read) → Type 0
IsLaterRead r q = r.caller ≡ q.caller → (r.ticket < q.ticket) × (r.seq ≤ q.seq)

-- reads are in the order of their answers
abbrev pub AreInAnswerOrder : List Read → Type 0
AreInAnswerOrder rs =
    (j k : ℕ) → j < k → k < length rs → IsLaterRead (get_or rs j no_read) (get_or rs k no_read)

-- If the call c of batch k and the read r are of one caller, the one that was made first comes
-- first in the history. In the history a batch comes before the reads of its state.
abbrev pub StandInCallOrder : ℕ → Call → Read → Type 0
StandInCallOrder k c r = c.caller ≡ r.caller
    → ((c.ticket < r.ticket) × (k ≤ r.seq)) ⊎ ((r.ticket < c.ticket) × (r.seq < k))

-- each read has the right reply, and the calls of each caller, in batches and read, are in the
-- order in which it made them
pub record AreInCallOrder (S : Setup) (B : TableStart) (ws : List ℕ) (bs : List Batch)
    (rs : List Read) : Type 0 where
  pub reads : All (IsRead S B bs (durable_seq S ws)) rs
  pub successive : AreInAnswerOrder rs
  pub apart : (k : ℕ) → B.seq < k → k ≤ B.seq + length bs
      → All (λ (c : Call). All (StandInCallOrder k c) rs) (batch_at B bs k).calls

-- the machine is in a try, at a place after the load of the current-transaction word
abbrev pub HasBegunTry : CallState → Place → Type 0
HasBegunTry m TryRequest = Unit {0}
HasBegunTry m (TryCell a) = Unit {0}
HasBegunTry m (CopyLog x) = m.rounds ≡ 0
HasBegunTry m LookAgain = m.rounds ≡ 0
HasBegunTry m RaiseCurrent = (m.helps ≡ true) × (m.rounds ≡ 0)
HasBegunTry m (LoadTarget j) = (m.helps ≡ true) × (m.rounds ≡ 0)
HasBegunTry m (ExchangeTarget j f) = (m.helps ≡ true) × (m.rounds ≡ 0)
HasBegunTry m (ReloadTarget j) = (m.helps ≡ true) × (m.rounds ≡ 0)
HasBegunTry m (RaiseTarget j f) = (m.helps ≡ true) × (m.rounds ≡ 0)
HasBegunTry m CloseRequest = (m.helps ≡ true) × (m.rounds ≡ 0)
HasBegunTry m RaiseClosed = (m.helps ≡ true) × (m.rounds ≡ 0)
HasBegunTry m p = ⊥

-- the read was made before the machine's open call or, if the machine is idle, no later than its
-- last call
abbrev pub WasMadeBefore : CallState → Read → (idle : Bool) → Type 0
WasMadeBefore m r true = r.ticket ≤ m.made
WasMadeBefore m r false = r.ticket < m.made

-- the read was made before the machine's open call or, if the place is Idle, no later than the
-- machine's last call
abbrev pub IsOlder : CallState → Place → Read → Type 0
IsOlder m p r = WasMadeBefore m r (is_idle p)

-- The caller's reads were made before its open call. If the machine is in a try, no read of the
-- caller, and no call of the caller in a batch, is newer than the state that the try reads.
pub record HasOnlyOlderCalls (S : Setup) (B : TableStart) (ws : List ℕ) (bs : List Batch)
    (rs : List Read) (i : ℕ) (m : CallState) (p : Place) : Type 0 where
  pub older : All (λ (r : Read). r.caller ≡ i → IsOlder m p r) rs
  pub seen : HasBegunTry m p → All (λ (r : Read). r.caller ≡ i → r.seq ≤ m.seq) rs
  pub still : HasBegunTry m p
      → last_ticket_by S B bs m.seq i ≡ last_ticket_by S B bs (committed_seq ws) i

-- the calls of each caller are in order at this moment, and the answered reads of each machine's
-- caller are older than its open call (`HasOnlyOlderCalls`)
pub record KeepsCallOrder (S : Setup) (B : TableStart) (w : Moment) : Type 0 where
  pub ordered : AreInCallOrder S B w.words w.batches w.reads
  pub behind : (i : ℕ) (m : CallState) → i < S.callers → get_or w.machines i m ≡ m
      → HasOnlyOlderCalls S B w.words w.batches w.reads i m m.place
