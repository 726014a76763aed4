-- The protocol invariant.
use Rattle.std.specs.Prelude.{ℕ, ◌+◌, ◌*◌, List, length, ◌≡◌, ◌≤◌, ◌<◌}
use Rattle.std.proofs.Common.{get_or}
use Rattle.of_cell.specs.Words.{seq_of, payload_of}
use Rattle.of_core.specs.declared.place.Place.{Place}
use Rattle.of_core.specs.declared.place.Place.TheVariants.{Idle, TryCurrent, TryRequest, TryCell, StoreScript, StoreAnnouncement, LoadCurrent, LoadRequest, CopyLog, LookAgain, LoadOwnTicket, LoadShape, LoadReply, LoadAnnouncement, LoadTicket, LoadScript, LoadCell, RaiseOld, StoreLog, RaiseLog, StoreRequest, RaiseRequest, ExchangeCurrent, RaiseCurrent, LoadTarget, ExchangeTarget, ReloadTarget, RaiseTarget, CloseRequest, RaiseClosed}
use Rattle.std.specs.List.{All}
use Rattle.of_core.specs.Table.{most_entries, Setup, log_at, cell_count, log_word_of}
use Rattle.of_core.specs.Machine.{CallState, log_words}
use Rattle.of_core.specs.TableMoment.{Batch, Moment, TableStart}
use Rattle.of_core.specs.History.{batch_at}
use Rattle.of_core.specs.WordsMatch.{WasHeldByCell, IsRequest, IsLogWord, WordsMatchHistory}
use Rattle.of_core.specs.Transaction.{IsApplying, IsStoringLog}
use Rattle.of_core.specs.Places.{IsAtRest, IsTryingCurrent, IsTryingRequest, IsTryingCell, IsStoringScript, IsStoringAnnouncement, IsLoadingCurrent, IsLoadingRequest, IsCopyingLogWord, IsLookingAgain, IsLoadingOwnTicket, IsLoadingShape, IsLoadingReply, IsAtCaller, IsLoadingTicket, IsLoadingScript, IsLoadingCell, IsRaisingOld, IsAtLogWord, IsRaisingRequest, IsExchangingCurrent, IsAtEntry, IsExchangingTarget, IsReloadingTarget, IsRaisingTarget, IsClosingRequest, IsRaisingClosed}
use Rattle.of_core.specs.Order.{KeepsCallOrder}
use Rattle.of_core.specs.Bound.{MachineIsWithinBound}
use Rattle.of_core.specs.Least.{HasMadeLeastSteps}

-- what the invariant says of a machine at this place
abbrev pub HoldsAtPlace : Setup → TableStart → List ℕ → List Batch → ℕ → CallState → Place → Type 0
HoldsAtPlace S B ws bs i m Idle = IsAtRest S B ws bs i m
HoldsAtPlace S B ws bs i m TryCurrent = IsTryingCurrent S B ws bs i m
HoldsAtPlace S B ws bs i m TryRequest = IsTryingRequest S B ws bs i m
HoldsAtPlace S B ws bs i m (TryCell a) = IsTryingCell S B ws bs i m a
HoldsAtPlace S B ws bs i m (StoreScript j) = IsStoringScript S B ws bs i m j
HoldsAtPlace S B ws bs i m StoreAnnouncement = IsStoringAnnouncement S B ws bs i m
HoldsAtPlace S B ws bs i m LoadCurrent = IsLoadingCurrent S B ws bs i m
HoldsAtPlace S B ws bs i m LoadRequest = IsLoadingRequest S B ws bs i m
HoldsAtPlace S B ws bs i m (CopyLog x) = IsCopyingLogWord S B ws bs i m x
HoldsAtPlace S B ws bs i m LookAgain = IsLookingAgain S B ws bs i m
HoldsAtPlace S B ws bs i m LoadOwnTicket = IsLoadingOwnTicket S B ws bs i m
HoldsAtPlace S B ws bs i m LoadShape = IsLoadingShape S B ws bs i m
HoldsAtPlace S B ws bs i m (LoadReply j) = IsLoadingReply S B ws bs i m j
HoldsAtPlace S B ws bs i m LoadAnnouncement = IsAtCaller S B ws bs i m
HoldsAtPlace S B ws bs i m LoadTicket = IsLoadingTicket S B ws bs i m
HoldsAtPlace S B ws bs i m (LoadScript j) = IsLoadingScript S B ws bs i m j
HoldsAtPlace S B ws bs i m (LoadCell a) = IsLoadingCell S B ws bs i m a
HoldsAtPlace S B ws bs i m RaiseOld = IsRaisingOld S B ws bs i m
HoldsAtPlace S B ws bs i m (StoreLog x) = IsAtLogWord S B ws bs i m x x
HoldsAtPlace S B ws bs i m (RaiseLog x) = IsAtLogWord S B ws bs i m (x + 1) x
HoldsAtPlace S B ws bs i m StoreRequest =
    IsStoringLog S B ws bs i m (length (log_words m.log)) (length (log_words m.log))
HoldsAtPlace S B ws bs i m RaiseRequest = IsRaisingRequest S B ws bs i m
HoldsAtPlace S B ws bs i m ExchangeCurrent = IsExchangingCurrent S B ws bs i m
HoldsAtPlace S B ws bs i m RaiseCurrent = IsApplying S B ws bs i m 0
HoldsAtPlace S B ws bs i m (LoadTarget j) = IsAtEntry S B ws bs i m j
HoldsAtPlace S B ws bs i m (ExchangeTarget j f) = IsExchangingTarget S B ws bs i m j f
HoldsAtPlace S B ws bs i m (ReloadTarget j) = IsReloadingTarget S B ws bs i m j
HoldsAtPlace S B ws bs i m (RaiseTarget j f) = IsRaisingTarget S B ws bs i m j f
HoldsAtPlace S B ws bs i m CloseRequest = IsClosingRequest S B ws bs i m
HoldsAtPlace S B ws bs i m RaiseClosed = IsRaisingClosed S B ws bs i m

-- a word that the current-transaction cell has held
abbrev pub WasHeldByCurrent : TableStart → List ℕ → List Batch → ℕ → Type 0
WasHeldByCurrent B ws bs w =
    (B.seq ≤ seq_of w) × (B.seq < seq_of w → payload_of w ≡ (batch_at B bs (seq_of w)).owner)
    × (seq_of w ≡ B.seq → payload_of w ≡ B.owner)

-- what the invariant says of a word e.1 that was loaded from the cell e.0 for an eviction: the cell
-- has held this word, and its word now is no lower
pub record IsLoaded (S : Setup) (B : TableStart) (ws : List ℕ) (bs : List Batch) (e : ℕ × ℕ)
    : Type 0 where
  pub place : e.0 < cell_count S
  pub low : e.1 ≤ get_or ws e.0 0
  pub was_cur : e.0 ≡ 0 → WasHeldByCurrent B ws bs e.1
  pub held : (a : ℕ) → a < S.cells → e.0 ≡ S.callers + 1 + a → WasHeldByCell B ws bs a e.1
  pub request : (j : ℕ) → j < S.callers → e.0 ≡ j + 1 → IsRequest B ws bs j e.1
  -- a word of a log is a word of its batch's log; and if the loaded word has the sequence that its
  -- log cell has now, it is the word that the cell holds now
  pub log : (j x : ℕ) → j < S.callers → x < 2 * most_entries S + 1 → e.0 ≡ log_at S j x
      → IsLogWord B ws bs j x e.1
      × (seq_of e.1 ≡ seq_of (log_word_of S ws j x) → e.1 ≡ log_word_of S ws j x)

-- the core of the invariant: it is about words and history, the words loaded for evictions, and
-- each machine at its place
pub record MeetsCore (S : Setup) (Lawful : List ℕ → Type 0) (B : TableStart) (w : Moment)
    : Type 0 where
  pub shared : WordsMatchHistory S Lawful B w.words w.batches
  pub members : length w.machines ≡ S.callers
  pub loaded : All (IsLoaded S B w.words w.batches) w.loaded
  pub each : (i : ℕ) (m : CallState) → i < S.callers → get_or w.machines i m ≡ m
      → HoldsAtPlace S B w.words w.batches i m m.place

-- the invariant: its core; that no call makes more steps than the bound or fewer than it must; and
-- that each caller's calls are in the order in which it made them
pub record MeetsInvariant (S : Setup) (Lawful : List ℕ → Type 0) (B : TableStart) (w : Moment)
    : Type 0 where
  pub core : MeetsCore S Lawful B w
  pub order : KeepsCallOrder S B w
  pub within : (i : ℕ) (m : CallState) → i < S.callers → get_or w.machines i m ≡ m
      → MachineIsWithinBound S m m.place
  pub late : (i : ℕ) (m : CallState) → i < S.callers → get_or w.machines i m ≡ m
      → HasMadeLeastSteps S m m.place
