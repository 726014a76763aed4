-- The count in front of each log stays within the longest log: only a machine that stores its own
-- log changes it.
use Rattle.std.proofs.Common.{◌≡◌, ◌⊎◌, inl, inr, ℕ, ◌+◌, ◌*◌, ◌<◌, ◌≤◌, List, length, get_or, set, ◌∙◌, ap, arith}
use Rattle.std.proofs.lemmas.Bool.{cases_eq}
use Rattle.std.proofs.lemmas.List.{get_or-set_same, get_or-set_other}
use Rattle.of_cell.specs.Words.{pack, payload_of}
use Rattle.of_cell.proofs.Order.{pay_word}
use Rattle.of_cell.proofs.Rooms.{room_upto}
use Rattle.of_core.specs.declared.place.Place.{Place}
use Rattle.of_core.specs.declared.place.Place.TheVariants.{Idle, TryCurrent, TryRequest, TryCell, StoreScript, StoreAnnouncement, LoadCurrent, LoadRequest, CopyLog, LookAgain, LoadOwnTicket, LoadShape, LoadReply, LoadAnnouncement, LoadTicket, LoadScript, LoadCell, RaiseOld, StoreLog, RaiseLog, StoreRequest, RaiseRequest, ExchangeCurrent, RaiseCurrent, LoadTarget, ExchangeTarget, ReloadTarget, RaiseTarget, CloseRequest, RaiseClosed}
use Rattle.of_core.specs.Table.{most_entries, Setup, log_at, log_word_of}
use Rattle.of_core.specs.Machine.{CallState, log_words}
use Rattle.of_core.specs.Steps.{want_at, word_of, word_left}
use Rattle.of_core.specs.TableMoment.{Moment, TableStart}
use Rattle.of_core.specs.Invariant.{HoldsAtPlace, MeetsCore}
use Rattle.of_core.proofs.Assembling.{same_words}
use Rattle.of_core.proofs.Logs.{length-log_words}
use Rattle.of_core.proofs.Stability.{log_in, same_row, entry_in, owner_in as owner_of}

module _ {S : Setup} {Lawful : List ℕ → Type 0} {B : TableStart} {w : Moment} (g : MeetsCore S Lawful B w) {i : ℕ} (h : i < S.callers) (m : CallState) (longest : ℕ) (short : length m.log ≤ longest) (counts : (j : ℕ) → j < S.callers → payload_of (log_word_of S w.words j 0) ≤ longest) where
  module _ (j : ℕ) (l : j < S.callers) where
    j_in : log_at S j 0 < 1 + S.callers + S.cells + S.callers * (2 * most_entries S + 1)
    j_in = log_in S j 0 l (omega arith)

    elsewhere : (c v : ℕ) → (log_at S j 0 ≡ c → ⊥) → payload_of (get_or (set w.words c v) (log_at S j 0) 0) ≤ longest
    elsewhere c v q = rw (get_or-set_other w.words c (log_at S j 0) v 0 q) (counts j l)

    loaded : (c : ℕ) → payload_of (get_or (set w.words c (get_or w.words c 0)) (log_at S j 0) 0) ≤ longest
    loaded c = rw (same_words w c) (counts j l)

    -- the word that the step from the place p leaves there
    pub count_kept : (p : Place) → HoldsAtPlace S B w.words w.batches i m p → payload_of (log_word_of S (set w.words (word_of (want_at S m p)) (word_left (want_at S m p) (get_or w.words (word_of (want_at S m p)) 0))) j 0) ≤ longest
    count_kept Idle a = loaded _
    count_kept TryCurrent a = loaded _
    count_kept TryRequest a = loaded _
    count_kept (TryCell x) a = loaded _
    count_kept (StoreScript x) a = elsewhere _ _ (omega (arith, j_in))
    count_kept StoreAnnouncement a = elsewhere _ _ (omega (arith, j_in))
    count_kept LoadCurrent a = loaded _
    count_kept LoadRequest a = loaded _
    count_kept (CopyLog x) a = loaded _
    count_kept LookAgain a = loaded _
    count_kept LoadOwnTicket a = loaded _
    count_kept LoadShape a = loaded _
    count_kept (LoadReply x) a = loaded _
    count_kept LoadAnnouncement a = loaded _
    count_kept LoadTicket a = loaded _
    count_kept (LoadScript x) a = loaded _
    count_kept (LoadCell x) a = loaded _
    count_kept RaiseOld a = elsewhere _ _ (omega (arith, j_in))
    count_kept (StoreLog x) a = go (cases_eq (log_at S j 0) (log_at S m.caller x))
      where
        new : ℕ
        new = pack (m.seq + 1) (get_or (log_words m.log) x 0)

        ci : m.caller ≡ i
        ci = a.storing.stored.past.looks.round.begun.caller

        x_in : x < 2 * most_entries S + 1
        x_in = omega (arith, length-log_words m.log, a.storing.stored.over.over.is_log.few, a.more)

        fits : log_at S i x < length w.words
        fits = omega (arith, log_in S i x h x_in, g.shared.room)

        here : get_or (set w.words (log_at S m.caller x) new) (log_at S m.caller x) 0 ≡ new
        here = get_or-set_same w.words (log_at S m.caller x) new 0 (rw ci fits)

        go : (log_at S j 0 ≡ log_at S m.caller x) ⊎ (log_at S j 0 ≡ log_at S m.caller x → ⊥) → payload_of (log_word_of S (set w.words (log_at S m.caller x) new) j 0) ≤ longest
        go (inr q) = elsewhere _ _ q
        go (inl q) =
            let e : j ≡ i = same_row j i (2 * most_entries S + 1) 0 x (omega arith) x_in (let r : log_at S j 0 ≡ log_at S i x = q ∙ ap (λ (k : ℕ). log_at S k x) ci in omega arith) in
            let z : x ≡ 0 = omega (arith, q, ci, ap (λ (k : ℕ). k * (2 * most_entries S + 1)) e, ap (λ (k : ℕ). k * (2 * most_entries S + 1)) ci) in
            let v : new ≡ pack (m.seq + 1) (length m.log) = ap (λ (k : ℕ). pack (m.seq + 1) (get_or (log_words m.log) k 0)) z in
            let count : payload_of (get_or (set w.words (log_at S m.caller x) new) (log_at S m.caller x) 0) ≡ length m.log = ap payload_of (here ∙ v) ∙ pay_word (m.seq + 1) (length m.log) (omega (arith, a.storing.stored.over.over.is_log.few, g.shared.little, room_upto S.callers S.cells)) in
            rw q (omega (arith, count, short))
    count_kept (RaiseLog x) a = elsewhere _ _ (omega (arith, j_in))
    count_kept StoreRequest a = elsewhere _ _ (let e : m.caller ≡ i = a.stored.past.looks.round.begun.caller in omega (arith, e, h))
    count_kept RaiseRequest a = elsewhere _ _ (omega (arith, j_in))
    count_kept ExchangeCurrent a = elsewhere _ _ (omega arith)
    count_kept RaiseCurrent a = elsewhere _ _ (omega (arith, j_in))
    count_kept (LoadTarget x) a = loaded _
    count_kept (ExchangeTarget x f) a = elsewhere _ _ (let e = entry_in g.shared a.entry.applies x a.entry.more in omega (arith, e.0))
    count_kept (ReloadTarget x) a = loaded _
    count_kept (RaiseTarget x f) a = elsewhere _ _ (omega (arith, j_in))
    count_kept CloseRequest a = elsewhere _ _ (omega (arith, owner_of g.shared a.applies))
    count_kept RaiseClosed a = elsewhere _ _ (omega (arith, j_in))
