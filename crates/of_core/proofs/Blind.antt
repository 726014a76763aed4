-- A step is on no durable word, or it is a raise, which goes on the same whatever it finds.
use Rattle.std.proofs.Common.{◌≡◌, ℕ, ◌+◌, ◌<◌, ◌≤◌, ◌⊎◌, inl, inr, List, [], get_or, refl, ap, arith}
use Rattle.of_cell.proofs.Places.{row_within}
use Rattle.of_core.specs.declared.place.Place.{Place}
use Rattle.of_core.specs.declared.place.Place.TheVariants.{Idle, TryCurrent, TryRequest, TryCell, StoreScript, StoreAnnouncement, LoadCurrent, LoadRequest, CopyLog, LookAgain, LoadOwnTicket, LoadShape, LoadReply, LoadAnnouncement, LoadTicket, LoadScript, LoadCell, RaiseOld, StoreLog, RaiseLog, StoreRequest, RaiseRequest, ExchangeCurrent, RaiseCurrent, LoadTarget, ExchangeTarget, ReloadTarget, RaiseTarget, CloseRequest, RaiseClosed}
use Rattle.of_core.specs.Table.{Setup, cell_count, durable_at, log_at, ticket_cell}
use Rattle.of_core.specs.Machine.{CallState}
use Rattle.of_core.specs.Steps.{want, want_at, word_of, take_word, take_word_at, with_step_counted}
use Rattle.of_core.specs.TableMoment.{Moment, TableStart, step_batches, step_batches_at}
use Rattle.of_core.specs.Invariant.{HoldsAtPlace, MeetsCore}
use Rattle.of_core.specs.Laws.{IsRaise, GoesBlindly}
use Rattle.of_core.proofs.Logs.{length-log_words}
use Rattle.of_core.proofs.Stability.{log_in}
use Rattle.of_core.proofs.Stability.{owner_in, entry_in}

module _ (S : Setup) (Lawful : List ℕ → Type 0) (B : TableStart) (w : Moment) (g : MeetsCore S Lawful B w) (i : ℕ) (m : CallState) (h : i < S.callers) where
  abbrev Off : Place → Type 0
  Off p = (c : ℕ) → c < cell_count S → word_of (want_at S m p) ≡ durable_at S c → ⊥

  abbrev BlindAt : Place → Type 0
  BlindAt p = IsRaise (want_at S m p) × ((n k : ℕ) → take_word_at S (with_step_counted p m) n p ≡ take_word_at S (with_step_counted p m) k p) × ((ws : List ℕ) (n : ℕ) → step_batches_at S ws m n p ≡ [])

  -- the cells of a caller's own row are data cells
  own_cells : (k : ℕ) → k < S.callers → ticket_cell S k + (S.instrs + 2) ≤ S.cells
  own_cells k l = omega (arith, row_within k S.callers (S.instrs + 2) l, g.shared.own_in)

  blind : (p : Place) → HoldsAtPlace S B w.words w.batches i m p → Off p ⊎ BlindAt p
  blind Idle a = inl (λ c l e. omega (arith, e))
  blind TryCurrent a = inl (λ c l e. omega (arith, e))
  blind LoadCurrent a = inl (λ c l e. omega (arith, e))
  blind ExchangeCurrent a = inl (λ c l e. omega (arith, e))
  blind TryRequest a = inl (λ c l e. omega (arith, e, a.current_word.owner_in))
  blind LoadRequest a = inl (λ c l e. omega (arith, e, a.round.current_word.owner_in))
  blind LookAgain a = inl (λ c l e. omega (arith, e, a.copies.helping.current_word.owner_in))
  blind (CopyLog x) a = inl (λ c l e. omega (arith, e, log_in S m.owner x a.copies.helping.current_word.owner_in a.in_log))
  blind (TryCell x) a = inl (λ c l e. omega (arith, e, a.in_cells))
  blind (LoadCell x) a = inl (λ c l e. omega (arith, e, a.in_cells))
  blind LoadOwnTicket a = inl (λ c l e. omega (arith, e, own_cells i h, ap (ticket_cell S) a.looks.round.begun.caller))
  blind LoadShape a = inl (λ c l e. omega (arith, e, own_cells i h, ap (ticket_cell S) a.looks.round.begun.caller))
  blind (LoadReply j) a = inl (λ c l e. omega (arith, e, own_cells i h, ap (ticket_cell S) a.looks.round.begun.caller, a.in_reply))
  blind LoadTicket a = inl (λ c l e. omega (arith, e, own_cells m.scan a.scanning.in_range))
  blind (StoreScript x) a = inl (λ c l e. omega (arith, e, l))
  blind StoreAnnouncement a = inl (λ c l e. omega (arith, e, l))
  blind LoadAnnouncement a = inl (λ c l e. omega (arith, e, l))
  blind (LoadScript x) a = inl (λ c l e. omega (arith, e, l))
  blind (StoreLog x) a =
      let st = a.storing.stored in
      let ci : m.caller ≡ i = st.past.looks.round.begun.caller in
      inl (λ c l e. omega (arith, e, ap (λ (k : ℕ). log_at S k x) ci, log_in S i x h (omega (arith, length-log_words m.log, st.over.over.is_log.few, a.more))))
  blind StoreRequest a = inl (λ c l e. omega (arith, e, a.stored.past.looks.round.begun.caller, h))
  blind (LoadTarget x) a = inl (λ c l e. omega (arith, e, (entry_in g.shared a.applies x a.more).0))
  blind (ExchangeTarget x f) a = inl (λ c l e. omega (arith, e, (entry_in g.shared a.entry.applies x a.entry.more).0))
  blind (ReloadTarget x) a = inl (λ c l e. omega (arith, e, (entry_in g.shared a.entry.applies x a.entry.more).0))
  blind CloseRequest a = inl (λ c l e. omega (arith, e, owner_in g.shared a.applies))
  blind RaiseOld a = inr (tt, λ n k. refl, λ ws n. refl)
  blind (RaiseLog x) a = inr (tt, λ n k. refl, λ ws n. refl)
  blind RaiseRequest a = inr (tt, λ n k. refl, λ ws n. refl)
  blind RaiseCurrent a = inr (tt, λ n k. refl, λ ws n. refl)
  blind (RaiseTarget x f) a = inr (tt, λ n k. refl, λ ws n. refl)
  blind RaiseClosed a = inr (tt, λ n k. refl, λ ws n. refl)

  pub step_blind : get_or w.machines i m ≡ m → ((c : ℕ) → c < cell_count S → word_of (want S m) ≡ durable_at S c → ⊥) ⊎ GoesBlindly S m
  unfolding want take_word step_batches
  step_blind own = blind m.place (g.each i m h own)
