-- What each place says of its machine: m is the machine of caller i, at the place, where the words
-- are ws and the history is bs. A fact has the same field name at every place that has it. The
-- comment of a record says what its place has beyond the facts that many places have, such as
-- `calm`.
use Rattle.std.specs.Prelude.{ℕ, ◌+◌, ◌*◌, List, [], length, Option, Some, None, true, false, ◌≡◌, ◌≤◌, ◌<◌, ◌⊎◌}
use Rattle.std.proofs.Common.{get_or, take}
use Rattle.of_mem.specs.declared.work.RawReply.{RawReply}
use Rattle.of_mem.specs.Meaning.{is_marked}
use Rattle.of_core.specs.declared.machine.trying.TheConstants.{MOST_TRIES}
use Rattle.of_cell.specs.Words.{pack, seq_of, payload_of}
use Rattle.of_core.specs.declared.place.Outcome.{Outcome}
use Rattle.of_core.specs.declared.place.Outcome.TheVariants.{Answered, Spent, Lost}
use Rattle.of_core.specs.Table.{most_entries, Setup, ticket_cell, request_of, data_word, durable_request, announcement_of, script_words_of, committed_seq, durable_seq}
use Rattle.of_core.specs.Machine.{CallState, log_entry, log_words, no_cell_known}
use Rattle.of_core.specs.TableMoment.{Batch, TableStart}
use Rattle.of_core.specs.History.{state_after, batch_at, numbers_after, last_ticket_by, HasCall}
use Rattle.of_core.specs.WordsMatch.{WasHeldByCell}
use Rattle.of_core.specs.Rounds.{KnowsOwnRequest, AnnouncesNothingNew, IsUnannounced, IsAnnounced, IsInRound, WasCurrent, IsInTry, KnowsClosedState, IsBetweenRounds, IsPastRequest, IsPastOwnTicket, HasNothingUnderWay, HasSettledCells, FindsOwnTicket, HasReadReplyUpTo}
use Rattle.of_core.specs.Scan.{HasScannedUpTo, HasLoadedAnnouncement, HasLoadedScript, IsInScan}
use Rattle.of_core.specs.Transaction.{IsApplying, IsCopyingLog, HasStoredLog, HasClosedDurably, IsStoringLog}

module _ (S : Setup) (B : TableStart) (ws : List ℕ) (bs : List Batch) (i : ℕ) (m : CallState) where
  -- the last call of m has read the state at sequence s, and has this reply
  pub record WasReadAt (s : ℕ) (raw : RawReply) : Type 0 where
    pub from : B.seq ≤ s
    pub durable : s ≤ durable_seq S ws
    pub upto : s ≤ committed_seq ws
    pub reply : S.meaning.reply (numbers_after B bs s) m.op ≡ raw
    pub reads : S.meaning.reads_only m.op ≡ true

  -- the last call of m is in batch s, with this reply
  pub record WasRunInBatch (s : ℕ) (raw : RawReply) : Type 0 where
    pub from : B.seq < s
    pub durable : s ≤ durable_seq S ws
    pub upto : s ≤ committed_seq ws
    pub call : HasCall S (batch_at B bs s).calls i m.made m.op raw

  -- the last call of m was not run, and s, the limit, is the last sequence
  pub record WasSpentAt (s : ℕ) : Type 0 where
    pub left : last_ticket_by S B bs (committed_seq ws) i < m.made
    pub limit : s ≡ S.limit
    pub last : committed_seq ws ≡ s
    pub durable : s ≤ durable_seq S ws

  -- what the last outcome of m says of the history
  abbrev pub LastOutcomeStands : Option Outcome → Type 0
  LastOutcomeStands None = Unit {0}
  LastOutcomeStands (Some (Answered s false raw steps)) = WasReadAt s raw
  LastOutcomeStands (Some (Answered s true raw steps)) = WasRunInBatch s raw
  LastOutcomeStands (Some (Spent s)) = WasSpentAt s
  LastOutcomeStands (Some (Lost s)) = ⊥

  -- Idle: the caller has no open transaction, and the last outcome of m stands in the history
  pub record IsAtRest : Type 0 where
    pub caller : m.caller ≡ i
    pub calm : HasNothingUnderWay S B ws bs i (committed_seq ws)
    pub kept : KnowsOwnRequest B ws bs i m.kept
    pub quieted : AnnouncesNothingNew S B ws bs i
    pub settled : HasSettledCells S B ws bs i
    pub upto : last_ticket_by S B bs (committed_seq ws) i ≤ m.made
    pub older : seq_of (announcement_of S ws i) ≤ m.made
    pub told : LastOutcomeStands m.answer

  -- TryCurrent: the call only reads, and one more try of it is allowed
  pub record IsTryingCurrent : Type 0 where
    pub fresh : IsUnannounced S B ws bs i m
    pub calm : HasNothingUnderWay S B ws bs i (committed_seq ws)
    pub reads : S.meaning.reads_only m.op ≡ true
    pub few : m.tries < MOST_TRIES

  -- TryRequest: the try has loaded the current-transaction word
  pub record IsTryingRequest : Type 0 where
    pub trying : IsInTry S B ws bs i m
    pub current_word : WasCurrent S B ws bs m.seq m.owner
    pub calm : HasNothingUnderWay S B ws bs i m.seq

  -- TryCell a: the transaction at which the try began isn't open, and the run of the call needs the
  -- cell a
  pub record IsTryingCell (a : ℕ) : Type 0 where
    pub trying : IsInTry S B ws bs i m
    pub current_word : WasCurrent S B ws bs m.seq m.owner
    pub calm : HasNothingUnderWay S B ws bs i m.seq
    pub state : KnowsClosedState S B ws bs m.seq m.known
    pub in_cells : a < S.cells
    pub unknown : get_or m.known a None ≡ None

  -- StoreScript j: the first j words of the call are stored
  pub record IsStoringScript (j : ℕ) : Type 0 where
    pub fresh : IsUnannounced S B ws bs i m
    pub calm : HasNothingUnderWay S B ws bs i (committed_seq ws)
    pub more : j < length m.op
    pub script : script_words_of S ws i j ≡ take j m.op

  -- StoreAnnouncement: all words of the call are stored
  pub record IsStoringAnnouncement : Type 0 where
    pub fresh : IsUnannounced S B ws bs i m
    pub calm : HasNothingUnderWay S B ws bs i (committed_seq ws)
    pub script : script_words_of S ws i (length m.op) ≡ m.op

  -- LoadCurrent: the call is announced, and one more round is allowed
  pub record IsLoadingCurrent : Type 0 where
    pub begun : IsAnnounced S B ws bs i m
    pub calm : HasNothingUnderWay S B ws bs i (committed_seq ws)
    pub between : IsBetweenRounds ws m

  -- LoadRequest: the round has loaded the current-transaction word
  pub record IsLoadingRequest : Type 0 where
    pub round : IsInRound S B ws bs i m
    pub calm : HasNothingUnderWay S B ws bs i m.seq

  -- CopyLog x: while the transaction is open, its log has a word x
  pub record IsCopyingLogWord (x : ℕ) : Type 0 where
    pub copies : IsCopyingLog S B ws bs i m x
    pub more : request_of ws m.owner ≡ pack m.seq 0
        → x < length (log_words (batch_at B bs m.seq).log)
    pub in_log : x < 2 * most_entries S + 1

  -- LookAgain: if the transaction is still open, the copy has its whole log
  pub record IsLookingAgain : Type 0 where
    pub copies : IsCopyingLog S B ws bs i m (length m.copy)
    pub whole : request_of ws m.owner ≡ pack m.seq 0
        → length m.copy ≡ length (log_words (batch_at B bs m.seq).log)

  -- LoadOwnTicket: the transaction of the round isn't open, and nothing is known or scanned yet
  pub record IsLoadingOwnTicket : Type 0 where
    pub looks : IsPastRequest S B ws bs i m
    pub calm : HasNothingUnderWay S B ws bs i m.seq
    pub no_cell : m.known ≡ no_cell_known S
    pub no_log : m.log ≡ []
    pub no_calls : m.calls ≡ []
    pub no_scan : m.scan ≡ 0

  -- LoadShape: in the round's state, the caller's ticket cell has the ticket of the call
  pub record IsLoadingShape : Type 0 where
    pub looks : IsPastRequest S B ws bs i m
    pub calm : HasNothingUnderWay S B ws bs i m.seq
    pub finds : FindsOwnTicket S (state_after B bs m.seq) i m

  -- LoadReply j: the shape of the reply is loaded, and so are the numbers below j that the shape
  -- marks; the shape marks j too
  pub record IsLoadingReply (j : ℕ) : Type 0 where
    pub looks : IsPastRequest S B ws bs i m
    pub calm : HasNothingUnderWay S B ws bs i m.seq
    pub finds : FindsOwnTicket S (state_after B bs m.seq) i m
    pub reply : HasReadReplyUpTo S (state_after B bs m.seq) i m j
    pub in_reply : j < S.instrs
    pub marked : is_marked m.raw.shape j ≡ true

  -- LoadAnnouncement: the call was not run by the round's state, and the scan has come to a caller
  pub record IsAtCaller : Type 0 where
    pub past : IsPastOwnTicket S B ws bs i m
    pub calm : HasNothingUnderWay S B ws bs i m.seq
    pub scan : IsInScan S B ws bs i m
    pub in_range : m.scan < S.callers

  -- LoadTicket: the announcement of the caller that the scan has come to is loaded, and the ticket
  -- cell of this caller isn't known
  pub record IsLoadingTicket : Type 0 where
    pub scanning : IsAtCaller
    pub heard : HasLoadedAnnouncement S B ws bs i m.seq m.scan m.heard
    pub unknown : get_or m.known (ticket_cell S m.scan) None ≡ None

  -- LoadScript j: the caller that the scan has come to announces a new call, and the first j words
  -- of this call are loaded
  pub record IsLoadingScript (j : ℕ) : Type 0 where
    pub scanning : IsAtCaller
    pub heard : HasLoadedAnnouncement S B ws bs i m.seq m.scan m.heard
    pub loaded : HasLoadedScript S (state_after B bs m.seq) ws m.seq m.scan m.heard m.script j
    pub more : j < payload_of m.heard

  -- LoadCell a: all words of the new call of the caller that the scan has come to are loaded, and
  -- the run of this call needs the cell a
  pub record IsLoadingCell (a : ℕ) : Type 0 where
    pub scanning : IsAtCaller
    pub heard : HasLoadedAnnouncement S B ws bs i m.seq m.scan m.heard
    pub loaded : HasLoadedScript S (state_after B bs m.seq) ws m.seq m.scan m.heard m.script
        (payload_of m.heard)
    pub in_cells : a < S.cells
    pub unknown : get_or m.known a None ≡ None

  -- RaiseOld: the scan has passed all callers, and no word of the log is stored yet
  pub record IsRaisingOld : Type 0 where
    pub past : IsPastOwnTicket S B ws bs i m
    pub calm : HasNothingUnderWay S B ws bs i m.seq
    pub scan : HasScannedUpTo S B ws bs i m.seq m.made m.op m.raw m.calls m.log S.callers

  -- StoreLog and RaiseLog: the first x words of the log are stored, the first z are durable, and
  -- the log has a word z
  pub record IsAtLogWord (x z : ℕ) : Type 0 where
    pub storing : IsStoringLog S B ws bs i m x z
    pub more : z < length (log_words m.log)

  -- RaiseRequest: the request is open with the next sequence, and the durable request closes each
  -- batch of the caller
  pub record IsRaisingRequest : Type 0 where
    pub stored : HasStoredLog S B ws bs i m (length (log_words m.log)) (length (log_words m.log))
    pub asks : request_of ws i ≡ pack (m.seq + 1) 0
    pub shut : HasClosedDurably S B ws bs i

  -- ExchangeCurrent: the request is open with the next sequence, and durable
  pub record IsExchangingCurrent : Type 0 where
    pub stored : HasStoredLog S B ws bs i m (length (log_words m.log)) (length (log_words m.log))
    pub asks : request_of ws i ≡ pack (m.seq + 1) 0
    pub raised : durable_request S ws i ≡ pack (m.seq + 1) 0

  -- LoadTarget j: the entries below j are applied, and the transaction is durable
  pub record IsAtEntry (j : ℕ) : Type 0 where
    pub applies : IsApplying S B ws bs i m j
    pub more : j < length m.log
    pub durable : m.seq ≤ durable_seq S ws

  -- ExchangeTarget j f: the cell of entry j held f, which is older than the transaction. The cell
  -- still holds f, or its word is no older than the transaction now
  pub record IsExchangingTarget (j f : ℕ) : Type 0 where
    pub entry : IsAtEntry j
    pub older : seq_of f < m.seq
    pub found : (data_word S ws (log_entry m j).0 ≡ f)
        ⊎ (m.seq ≤ seq_of (data_word S ws (log_entry m j).0))

  -- ReloadTarget j: the cell of entry j is no older than the transaction
  pub record IsReloadingTarget (j : ℕ) : Type 0 where
    pub entry : IsAtEntry j
    pub newer : m.seq ≤ seq_of (data_word S ws (log_entry m j).0)

  -- RaiseTarget j f: the cell of entry j has held f, and f is no older than the transaction
  pub record IsRaisingTarget (j f : ℕ) : Type 0 where
    pub entry : IsAtEntry j
    pub newer : m.seq ≤ seq_of f
    pub low : f ≤ data_word S ws (log_entry m j).0
    pub held : WasHeldByCell B ws bs (log_entry m j).0 f

  -- CloseRequest: all entries are applied
  pub record IsClosingRequest : Type 0 where
    pub applies : IsApplying S B ws bs i m (length m.log)
    pub durable : m.seq ≤ durable_seq S ws

  -- RaiseClosed: all entries are applied, and the owner's request is closed
  pub record IsRaisingClosed : Type 0 where
    pub applies : IsApplying S B ws bs i m (length m.log)
    pub durable : m.seq ≤ durable_seq S ws
    pub closed : pack m.seq 0 < request_of ws m.owner
