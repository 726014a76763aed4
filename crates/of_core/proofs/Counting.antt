-- What a place says of its machine it says of the machine with one more step counted.
use Rattle.std.proofs.Common.{◌≡◌, ℕ, ◌+◌, ◌<◌, List, Bool, true, false, length, refl}
use Rattle.of_core.specs.declared.place.Place.{Place}
use Rattle.of_core.specs.declared.place.Place.TheVariants.{Idle, TryCurrent, TryRequest, TryCell, StoreScript, StoreAnnouncement, LoadCurrent, LoadRequest, CopyLog, LookAgain, LoadOwnTicket, LoadShape, LoadReply, LoadAnnouncement, LoadTicket, LoadScript, LoadCell, RaiseOld, StoreLog, RaiseLog, StoreRequest, RaiseRequest, ExchangeCurrent, RaiseCurrent, LoadTarget, ExchangeTarget, ReloadTarget, RaiseTarget, CloseRequest, RaiseClosed}
use Rattle.of_core.specs.Table.{Setup}
use Rattle.of_core.specs.Machine.{CallState, log_words}
use Rattle.of_core.specs.Steps.{with_step_counted}
use Rattle.of_core.specs.TableMoment.{Moment, TableStart, one_batch}
use Rattle.of_core.specs.History.{state_after}
use Rattle.of_core.specs.Rounds.{IsInTry, IsUnannounced, IsAnnounced, IsInRound, IsPastRequest, IsPastOwnTicket, FindsOwnTicket, HasReadReplyUpTo}
use Rattle.of_core.specs.Transaction.{IsHelping, AppliesAs, IsApplying, IsCopyingLog, HasStoredLog, IsStoringLog}
use Rattle.of_core.specs.Places.{IsAtCaller, IsAtEntry}
use Rattle.of_core.specs.Invariant.{HoldsAtPlace, MeetsCore}
use Rattle.of_core.proofs.Alike.{begun_as, round_as, looks_as, past_as, fresh_as, trying_as, helping_as}

-- and it commits the same
pub same_batch : (S : Setup) (ws : List ℕ) (m : CallState) (b : Bool) → one_batch S ws (record m { steps = m.steps + 1 }) b ≡ one_batch S ws m b
same_batch S ws m true = refl
same_batch S ws m false = refl

module _ (S : Setup) (Lawful : List ℕ → Type 0) (B : TableStart) (w : Moment) (g : MeetsCore S Lawful B w) (i : ℕ) (m : CallState) (h : i < S.callers) where
  abbrev now : CallState
  now = record m { steps = m.steps + 1 }

  fresh : IsUnannounced S B w.words w.batches i m → IsUnannounced S B w.words w.batches i now
  fresh p = fresh_as p refl refl refl refl refl

  trying : IsInTry S B w.words w.batches i m → IsInTry S B w.words w.batches i now
  trying p = trying_as p refl refl refl refl refl refl

  begun : IsAnnounced S B w.words w.batches i m → IsAnnounced S B w.words w.batches i now
  begun p = begun_as p refl refl refl refl refl refl

  round : IsInRound S B w.words w.batches i m → IsInRound S B w.words w.batches i now
  round p = round_as p refl refl refl refl refl refl refl refl

  helping : IsHelping S B w.words w.batches i m → IsHelping S B w.words w.batches i now
  helping p = helping_as p refl refl refl refl refl refl refl refl refl

  looks : IsPastRequest S B w.words w.batches i m → IsPastRequest S B w.words w.batches i now
  looks p = looks_as p refl refl refl refl refl refl refl refl refl

  past : IsPastOwnTicket S B w.words w.batches i m → IsPastOwnTicket S B w.words w.batches i now
  past p = past_as p refl refl refl refl refl refl refl refl refl

  found : (st : List ℕ) → FindsOwnTicket S st i m → FindsOwnTicket S st i now
  found st p = record { heard = p.heard; there = p.there }

  read : (st : List ℕ) (j : ℕ) → HasReadReplyUpTo S st i m j → HasReadReplyUpTo S st i now j
  read st j p = record { shape = p.shape; replies = p.replies; rest = p.rest; many = p.many }

  copies : (x : ℕ) → IsCopyingLog S B w.words w.batches i m x → IsCopyingLog S B w.words w.batches i now x
  copies x p = record { helping = helping p.helping; helps = p.helps; after = p.after; many = p.many; count = p.count; copied = p.copied }

  stored : (x z : ℕ) → HasStoredLog S B w.words w.batches i m x z → HasStoredLog S B w.words w.batches i now x z
  stored x z p = record { past = past p.past; over = p.over; each = p.each; durable = p.durable; rest = p.rest }

  logs : (x z : ℕ) → IsStoringLog S B w.words w.batches i m x z → IsStoringLog S B w.words w.batches i now x z
  logs x z p = record { stored = stored x z p.stored; own = p.own; level = p.level; shut = p.shut }

  mode : (b : Bool) → AppliesAs S B w.words w.batches i m b → AppliesAs S B w.words w.batches i now b
  mode true p = helping p
  mode false p = record { caller = p.caller; owner = p.owner; says = p.says; upto = p.upto; reached = p.reached; call = p.call; asks = p.asks; unowned = p.unowned; logs = p.logs }

  applies : (j : ℕ) → IsApplying S B w.words w.batches i m j → IsApplying S B w.words w.batches i now j
  applies j p = record { mode = mode m.helps p.mode; after = p.after; upto = p.upto; committed = p.committed; log = p.log; done = p.done }

  scanning : IsAtCaller S B w.words w.batches i m → IsAtCaller S B w.words w.batches i now
  scanning p = record { past = past p.past; calm = p.calm; scan = p.scan; in_range = p.in_range }

  entry : (j : ℕ) → IsAtEntry S B w.words w.batches i m j → IsAtEntry S B w.words w.batches i now j
  entry j p = record { applies = applies j p.applies; more = p.more; durable = p.durable }

  pub counted_stands : (p : Place) → HoldsAtPlace S B w.words w.batches i m p → HoldsAtPlace S B w.words w.batches i (with_step_counted p m) p
  counted_stands Idle a = a
  counted_stands TryCurrent a = record { fresh = fresh a.fresh; calm = a.calm; reads = a.reads; few = a.few }
  counted_stands TryRequest a = record { trying = trying a.trying; current_word = a.current_word; calm = a.calm }
  counted_stands (TryCell x) a = record { trying = trying a.trying; current_word = a.current_word; calm = a.calm; state = a.state; in_cells = a.in_cells; unknown = a.unknown }
  counted_stands (StoreScript j) a = record { fresh = fresh a.fresh; calm = a.calm; more = a.more; script = a.script }
  counted_stands StoreAnnouncement a = record { fresh = fresh a.fresh; calm = a.calm; script = a.script }
  counted_stands LoadCurrent a = record { begun = begun a.begun; calm = a.calm; between = record { few = a.between.few; later = a.between.later } }
  counted_stands LoadRequest a = record { round = round a.round; calm = a.calm }
  counted_stands (CopyLog x) a = record { copies = copies x a.copies; more = a.more; in_log = a.in_log }
  counted_stands LookAgain a = record { copies = copies (length m.copy) a.copies; whole = a.whole }
  counted_stands LoadOwnTicket a = record { looks = looks a.looks; calm = a.calm; no_cell = a.no_cell; no_log = a.no_log; no_calls = a.no_calls; no_scan = a.no_scan }
  counted_stands LoadShape a = record { looks = looks a.looks; calm = a.calm; finds = found (state_after B w.batches m.seq) a.finds }
  counted_stands (LoadReply j) a = record { looks = looks a.looks; calm = a.calm; finds = found (state_after B w.batches m.seq) a.finds; reply = read (state_after B w.batches m.seq) j a.reply; in_reply = a.in_reply; marked = a.marked }
  counted_stands LoadAnnouncement a = scanning a
  counted_stands LoadTicket a = record { scanning = scanning a.scanning; heard = a.heard; unknown = a.unknown }
  counted_stands (LoadScript j) a = record { scanning = scanning a.scanning; heard = a.heard; loaded = a.loaded; more = a.more }
  counted_stands (LoadCell x) a = record { scanning = scanning a.scanning; heard = a.heard; loaded = a.loaded; in_cells = a.in_cells; unknown = a.unknown }
  counted_stands RaiseOld a = record { past = past a.past; calm = a.calm; scan = a.scan }
  counted_stands (StoreLog x) a = record { storing = logs x x a.storing; more = a.more }
  counted_stands (RaiseLog x) a = record { storing = logs (x + 1) x a.storing; more = a.more }
  counted_stands StoreRequest a = logs (length (log_words m.log)) (length (log_words m.log)) a
  counted_stands RaiseRequest a = record { stored = stored (length (log_words m.log)) (length (log_words m.log)) a.stored; asks = a.asks; shut = a.shut }
  counted_stands ExchangeCurrent a = record { stored = stored (length (log_words m.log)) (length (log_words m.log)) a.stored; asks = a.asks; raised = a.raised }
  counted_stands RaiseCurrent a = applies 0 a
  counted_stands (LoadTarget j) a = entry j a
  counted_stands (ExchangeTarget j f) a = record { entry = entry j a.entry; older = a.older; found = a.found }
  counted_stands (ReloadTarget j) a = record { entry = entry j a.entry; newer = a.newer }
  counted_stands (RaiseTarget j f) a = record { entry = entry j a.entry; newer = a.newer; low = a.low; held = a.held }
  counted_stands CloseRequest a = record { applies = applies (length m.log) a.applies; durable = a.durable }
  counted_stands RaiseClosed a = record { applies = applies (length m.log) a.applies; durable = a.durable; closed = a.closed }
