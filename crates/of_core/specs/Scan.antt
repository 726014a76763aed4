-- What the invariant says of a scan: which calls it has run, and that its log has what these calls
-- write on the state of the round.
use Rattle.std.specs.Prelude.{ℕ, ◌*◌, List, length, true, false, ◌≡◌, ◌≤◌, ◌<◌, ◌⊎◌}
use Rattle.std.proofs.Common.{get_or}
use Rattle.of_cell.specs.declared.word.TheConstants.{PAYLOADS}
use Rattle.of_cell.specs.declared.shape.TheConstants.{LOG_SHARE}
use Rattle.of_mem.specs.declared.work.TheConstants.{FEW_DATA_CELLS}
use Rattle.of_cell.specs.Words.{pack, seq_of, payload_of}
use Rattle.of_mem.specs.declared.work.RawReply.{RawReply}
use Rattle.of_mem.specs.Meaning.{is_marked, SameFrom, with_writes_in}
use Rattle.std.specs.List.{All}
use Rattle.of_core.specs.Table.{Setup, first_operation_cell, ticket_cell, shape_cell, reply_cell, announcement_of, script_words_of, committed_seq}
use Rattle.of_core.specs.Machine.{Call, no_call, CallState}
use Rattle.of_core.specs.TableMoment.{Batch, TableStart}
use Rattle.of_core.specs.History.{state_after, batch_at, numbers_after, numbers_after_calls, CallsHaveReplies, ticket_in_state, last_ticket_by, IsCellOfCaller, CallersRise}
use Rattle.of_core.specs.WordsMatch.{IsLog}

-- the log has an entry for the cell a, with the number v
pub record LogsCell (es : List (ℕ × ℕ)) (a v : ℕ) : Type 0 where
  pub place : ℕ
  pub among : place < length es
  pub names : get_or es place (0, 0) ≡ (a, v)

-- the log has entries for the own cells of the call's caller, with the call's ticket and reply
pub record LogsOwnCells (S : Setup) (es : List (ℕ × ℕ)) (c : Call) : Type 0 where
  pub ticket : LogsCell es (ticket_cell S c.caller) c.ticket
  pub shape : LogsCell es (shape_cell S c.caller) c.raw.shape
  pub replies : (y : ℕ) → y < S.instrs → is_marked c.raw.shape y ≡ true
      → LogsCell es (reply_cell S c.caller y) (get_or c.raw.values y 0)
  -- a number of the reply that the shape does not mark is 0
  pub rest : (y : ℕ) → y < S.instrs → is_marked c.raw.shape y ≡ false
      → get_or c.raw.values y 0 ≡ 0

-- The log es is a possible log (`IsLog`). It has what the calls write if they are run in order on
-- the numbers xs, and their callers' own cells. Run so, the calls give the replies that they have.
pub record IsOverlayOf (S : Setup) (xs : List ℕ) (cs : List Call) (es : List (ℕ × ℕ)) : Type 0 where
  pub is_log : IsLog S es
  pub effect : SameFrom (first_operation_cell S) (with_writes_in xs es)
      (numbers_after_calls S.meaning xs cs)
  pub replies : CallsHaveReplies S.meaning xs cs
  pub own : All (LogsOwnCells S es) cs
  -- each entry for a cell before the first cell of the operations is for an own cell of the caller
  -- of one of the calls
  pub rows : (j : ℕ) → j < length es → (get_or es j (0, 0)).0 < first_operation_cell S
      → (y : ℕ) × (y < length cs)
      × IsCellOfCaller S (get_or cs y no_call).caller (get_or es j (0, 0)).0

-- the call is the one that its caller announces
pub record IsAnnouncedCall (S : Setup) (ws : List ℕ) (c : Call) : Type 0 where
  pub says : announcement_of S ws c.caller ≡ pack c.ticket (length c.op)
  pub script : script_words_of S ws c.caller (length c.op) ≡ c.op

-- a scan on the state st may have run this call: the ticket is newer than the one in its caller's
-- ticket cell in this state, and the operation has no more words than an operation may have
pub record WasTakenByScan (S : Setup) (st : List ℕ) (c : Call) : Type 0 where
  pub caller : c.caller < S.callers
  pub above : ticket_in_state S st c.caller < c.ticket
  pub words : length c.op ≤ S.instrs

-- a scan at sequence s, for a call of caller i, has passed all callers below n: it has run the
-- calls cs, and es is their log
pub record HasScannedUpTo (S : Setup) (B : TableStart) (ws : List ℕ) (bs : List Batch)
    (i s made : ℕ) (op : List ℕ) (raw : RawReply) (cs : List Call) (es : List (ℕ × ℕ)) (n : ℕ)
    : Type 0 where
  pub over : IsOverlayOf S (numbers_after B bs s) cs es
  pub taken : All (WasTakenByScan S (state_after B bs s)) cs
  pub below : All (λ (c : Call). c.caller < n) cs
  -- with more than FEW_DATA_CELLS data cells, the log has at most LOG_SHARE entries for each of the
  -- n callers
  pub short : (S.cells ≤ FEW_DATA_CELLS) ⊎ (length es ≤ n * LOG_SHARE)
  pub ordered : CallersRise cs
  pub announced : s ≡ committed_seq ws → All (IsAnnouncedCall S ws) cs
  -- if s is still the last sequence, and the scan has passed caller i, the call of caller i is
  -- among those that it has run
  pub own : s ≡ committed_seq ws → i < n
      → (y : ℕ) × (y < length cs)
      × (get_or cs y no_call ≡ record { caller = i; ticket = made; op = op; raw = raw })
  -- if caller c, which the scan has passed, announces the same call as when batch s was committed,
  -- this call was run by batch s or before, or is among those that the scan has run
  pub met : B.seq < s → (c : ℕ) → c < n → c < S.callers
      → (batch_at B bs s).announcements c ≡ announcement_of S ws c
      → (seq_of (announcement_of S ws c) ≤ last_ticket_by S B bs s c)
      ⊎ ((y : ℕ) × (y < length cs) × ((get_or cs y no_call).caller ≡ c)
      × ((get_or cs y no_call).ticket ≡ seq_of (announcement_of S ws c)))

-- What holds of the announcement `heard` that a scan at sequence s has loaded of caller c. Its
-- numbers are in range. It is the present announcement of c in three cases: c is caller i; s is the
-- last sequence, and the call of `heard` has not run; or the present announcement was there at the
-- commit of batch s.
pub record HasLoadedAnnouncement (S : Setup) (B : TableStart) (ws : List ℕ) (bs : List Batch)
    (i s c heard : ℕ) : Type 0 where
  pub own : c ≡ i → announcement_of S ws c ≡ heard
  pub ticket : seq_of heard < PAYLOADS
  pub fresh : s ≡ committed_seq ws → last_ticket_by S B bs s c < seq_of heard
      → announcement_of S ws c ≡ heard
  pub stood : B.seq < s → (batch_at B bs s).announcements c ≡ announcement_of S ws c
      → announcement_of S ws c ≡ heard
  pub small : payload_of heard ≤ S.instrs
  pub some : 0 < seq_of heard → 1 ≤ payload_of heard

-- `script` has j words. If s is still the last sequence, they are the first words of the call that
-- caller c announces. The call of `heard` has at least j words, and in the state st it has not run.
pub record HasLoadedScript (S : Setup) (st ws : List ℕ) (s c heard : ℕ) (script : List ℕ) (j : ℕ)
    : Type 0 where
  pub new : ticket_in_state S st c < seq_of heard
  pub words : s ≡ committed_seq ws → script ≡ script_words_of S ws c j
  pub many : length script ≡ j
  pub within : j ≤ payload_of heard

-- m's scan has passed all callers before the caller that it has come to
abbrev pub IsInScan : Setup → TableStart → List ℕ → List Batch → ℕ → CallState → Type 0
IsInScan S B ws bs i m = HasScannedUpTo S B ws bs i m.seq m.made m.op m.raw m.calls m.log m.scan
