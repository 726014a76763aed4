-- A step leaves each durable word as it was, or makes it the word that its cell holds.
use Rattle.std.proofs.Common.{◌≡◌, ℕ, ◌+◌, ◌*◌, ◌-◌, ◌<◌, ◌≤◌, ◌⊎◌, inl, inr, List, length, get_or, set, max, sym, ◌∙◌, ap, arith, Bool, true, false}
use Rattle.std.proofs.lemmas.Bool.{cases_eq, cases_lt, cases_order}
use Rattle.std.proofs.lemmas.List.{get_or-set_same, get_or-set_other, set-get_or, get_or_default}
use Rattle.of_cell.specs.declared.word.TheConstants.{PAYLOADS}
use Rattle.of_cell.specs.Words.{pack, seq_of, payload_of}
use Rattle.of_cell.proofs.Order.{word_eta, word_later, seq_less, seq_mono, word_next}
use Rattle.of_core.specs.declared.place.Place.{Place}
use Rattle.of_core.specs.declared.place.Place.TheVariants.{Idle, TryCurrent, TryRequest, TryCell, StoreScript, StoreAnnouncement, LoadCurrent, LoadRequest, CopyLog, LookAgain, LoadOwnTicket, LoadShape, LoadReply, LoadAnnouncement, LoadTicket, LoadScript, LoadCell, RaiseOld, StoreLog, RaiseLog, StoreRequest, RaiseRequest, ExchangeCurrent, RaiseCurrent, LoadTarget, ExchangeTarget, ReloadTarget, RaiseTarget, CloseRequest, RaiseClosed}
use Rattle.of_core.specs.Table.{most_entries, Setup, cell_count, durable_at, script_word_at, request_at, data_at, log_at, request_of, data_word, durable_word, durable_request, durable_cell, committed_seq, committed_owner, durable_seq}
use Rattle.of_core.specs.Machine.{CallState, log_entry, no_machine}
use Rattle.of_core.specs.Steps.{want, want_at, word_of, words_after, IsFoundBy}
use Rattle.of_core.specs.TableMoment.{Moment, TableStart, after_step}
use Rattle.of_core.specs.History.{batch_at, data_word_after}
use Rattle.of_core.specs.WordsMatch.{IsLastOpen, WasHeldByCell}
use Rattle.of_core.specs.Transaction.{IsApplying, AppliesAs, OwnsTransaction, HasClosedDurably}
use Rattle.of_core.specs.Invariant.{HoldsAtPlace, MeetsCore}
use Rattle.of_core.specs.Events.{machine_in}
use Rattle.of_core.proofs.States.{later_by, old}
use Rattle.of_core.proofs.Logs.{length-log_words}
use Rattle.of_core.proofs.Stability.{entry_in, owner_in, log_in}
use Rattle.of_core.proofs.Assembling.{logs_of}

-- closed and open requests of an older and a newer batch
above_open : (k s : ℕ) → k < s → pack k 1 ≤ pack s 0
unfolding pack
above_open k s l = omega (arith, l)

open_above : (k s : ℕ) → pack k 1 < pack s 0 → k < s
unfolding pack
open_above k s h = omega (arith, h)

closed_above : (k s : ℕ) → pack k 1 < pack s 1 → k < s
unfolding pack
closed_above k s h = omega (arith, h)

module _ (S : Setup) (Lawful : List ℕ → Type 0) (B : TableStart) (w : Moment) (g : MeetsCore S Lawful B w) where
  -- an own request is durable, or one's batches are closed durably, or one applies one's own batch
  module _ (j : ℕ) (n : CallState) where
    abbrev OwnBatch : Type 0
    OwnBatch = OwnsTransaction S B w.words w.batches j n × (B.seq < n.seq) × (n.seq ≤ committed_seq w.words) × ((batch_at B w.batches n.seq).owner ≡ n.owner)

    abbrev Leveled : Type 0
    Leveled = (durable_request S w.words j ≡ request_of w.words j) ⊎ (HasClosedDurably S B w.words w.batches j ⊎ OwnBatch)

    applying : (x : ℕ) → IsApplying S B w.words w.batches j n x → Leveled
    applying x a = go n.helps a.mode
      where
        go : (b : Bool) → AppliesAs S B w.words w.batches j n b → Leveled
        go true d = inl d.calm.level
        go false d = inr (inr (d, a.after, a.upto, a.committed))

    leveled : (p : Place) → HoldsAtPlace S B w.words w.batches j n p → Leveled
    leveled Idle a = inl a.calm.level
    leveled TryCurrent a = inl a.calm.level
    leveled TryRequest a = inl a.calm.level
    leveled (TryCell x) a = inl a.calm.level
    leveled (StoreScript x) a = inl a.calm.level
    leveled StoreAnnouncement a = inl a.calm.level
    leveled LoadCurrent a = inl a.calm.level
    leveled LoadRequest a = inl a.calm.level
    leveled (CopyLog x) a = inl a.copies.helping.calm.level
    leveled LookAgain a = inl a.copies.helping.calm.level
    leveled LoadOwnTicket a = inl a.calm.level
    leveled LoadShape a = inl a.calm.level
    leveled (LoadReply x) a = inl a.calm.level
    leveled LoadAnnouncement a = inl a.calm.level
    leveled LoadTicket a = inl a.scanning.calm.level
    leveled (LoadScript x) a = inl a.scanning.calm.level
    leveled (LoadCell x) a = inl a.scanning.calm.level
    leveled RaiseOld a = inl a.calm.level
    leveled (StoreLog x) a = inl a.storing.level
    leveled (RaiseLog x) a = inl a.storing.level
    leveled StoreRequest a = inl a.level
    leveled RaiseRequest a = inr (inl a.shut)
    leveled ExchangeCurrent a = inl (a.raised ∙ sym a.asks)
    leveled RaiseCurrent a = applying 0 a
    leveled (LoadTarget x) a = applying x a.applies
    leveled (ExchangeTarget x f) a = applying x a.entry.applies
    leveled (ReloadTarget x) a = applying x a.entry.applies
    leveled (RaiseTarget x f) a = applying x a.entry.applies
    leveled CloseRequest a = applying (length n.log) a.applies
    leveled RaiseClosed a = applying (length n.log) a.applies

  -- a request above the closed one of an own batch has left that one behind it durably too
  closed_low : (j k : ℕ) → j < S.callers → B.seq < k → k ≤ committed_seq w.words → (batch_at B w.batches k).owner ≡ j → pack k 1 < request_of w.words j → pack k 1 ≤ durable_request S w.words j
  closed_low j k h l u o r = go (leveled j n n.place (g.each j n h (get_or_default w.machines j n no_machine (omega (arith, g.members)))))
    where
      n : CallState
      n = machine_in w j

      go : Leveled j n → pack k 1 ≤ durable_request S w.words j
      go (inl q) = omega (arith, q, r)
      go (inr (inl q)) = let z = q k l u o in omega (arith, z, word_next k 0)
      go (inr (inr q)) = own q.0.asks
        where
          floor : pack n.seq 0 ≤ durable_request S w.words j
          floor = rw q.0.owner at (rw q.3 at (g.shared.durable.floor n.seq q.1 q.2))

          own : (request_of w.words j ≡ pack n.seq 0) ⊎ (request_of w.words j ≡ pack n.seq 1) → pack k 1 ≤ durable_request S w.words j
          own (inl e) = omega (arith, floor, above_open k n.seq (open_above k n.seq (omega (arith, r, e))))
          own (inr e) = omega (arith, floor, above_open k n.seq (closed_above k n.seq (omega (arith, r, e))))

  pub upto_last : durable_seq S w.words ≤ committed_seq w.words
  upto_last = go g.shared.durable.step
    where
      go : (committed_seq w.words ≡ durable_seq S w.words) ⊎ ((committed_seq w.words ≡ durable_seq S w.words + 1) × IsLastOpen B w.words) → durable_seq S w.words ≤ committed_seq w.words
      go (inl q) = omega (arith, q)
      go (inr q) = omega (arith, q.0)

  pub count : committed_seq w.words ≡ B.seq + length w.batches
  count = g.shared.counted.count

  -- a cell's words rise from state to state
  pub at_up : (k n a : ℕ) → B.seq ≤ k → k ≤ n → n ≤ committed_seq w.words → a < S.cells → data_word_after B w.batches k a ≤ data_word_after B w.batches n a
  at_up k n a l u t a_in = go (rw e at (later_by S B w.batches g.shared.start (logs_of g) (n - k) k a l (omega (arith, u, t, count)) a_in))
    where
      e : k + (n - k) ≡ n
      e = omega (arith, u)

      go : (data_word_after B w.batches n a ≡ data_word_after B w.batches k a) ⊎ (k < seq_of (data_word_after B w.batches n a)) → data_word_after B w.batches k a ≤ data_word_after B w.batches n a
      go (inl q) = omega (arith, q)
      go (inr q) =
          let z : seq_of (data_word_after B w.batches k a) ≤ k = old S B w.batches g.shared.start (logs_of g) k a l (omega (arith, u, t, count)) a_in in
          let less : data_word_after B w.batches k a < data_word_after B w.batches n a = seq_less (data_word_after B w.batches k a) (data_word_after B w.batches n a) (omega (arith, q, z)) in
          omega (arith, less)

  -- a word that a data cell has held is the cell's or at most durable, where it isn't above the cell's
  held_low : (a f : ℕ) → a < S.cells → f ≤ data_word S w.words a → WasHeldByCell B w.words w.batches a f → (f ≤ durable_cell S w.words a) ⊎ (f ≡ data_word S w.words a)
  held_low a f a_in top held = by_durable (g.shared.durable.cells a a_in)
    where
      k : ℕ
      k = held.0

      is : f ≡ data_word_after B w.batches k a
      is = held.3

      late : durable_seq S w.words < k → (f ≤ data_word_after B w.batches (durable_seq S w.words) a) ⊎ (durable_seq S w.words < seq_of f)
      late l = go (rw e at (later_by S B w.batches g.shared.start (logs_of g) (k - durable_seq S w.words) (durable_seq S w.words) a g.shared.durable.from (omega (arith, l, held.2, count)) a_in))
        where
          e : durable_seq S w.words + (k - durable_seq S w.words) ≡ k
          e = omega (arith, l)

          go : (data_word_after B w.batches k a ≡ data_word_after B w.batches (durable_seq S w.words) a) ⊎ (durable_seq S w.words < seq_of (data_word_after B w.batches k a)) → (f ≤ data_word_after B w.batches (durable_seq S w.words) a) ⊎ (durable_seq S w.words < seq_of f)
          go (inl q) = inl (omega (arith, is, q))
          go (inr q) = inr (omega (arith, ap seq_of is, q))

      by_durable : (durable_cell S w.words a ≡ data_word_after B w.batches (durable_seq S w.words) a) ⊎ (IsLastOpen B w.words × (committed_seq w.words ≡ durable_seq S w.words) × (durable_cell S w.words a ≡ data_word_after B w.batches (durable_seq S w.words - 1) a))
          → (f ≤ durable_cell S w.words a) ⊎ (f ≡ data_word S w.words a)
      by_durable (inl q) = go (cases_lt (durable_seq S w.words) k)
        where
          newer : (f ≤ data_word_after B w.batches (durable_seq S w.words) a) ⊎ (durable_seq S w.words < seq_of f) → (f ≤ durable_cell S w.words a) ⊎ (f ≡ data_word S w.words a)
          newer (inl z) = inl (omega (arith, z, q))
          newer (inr z) = absurd (omega (arith, z, seq_mono f (data_word S w.words a) top, g.shared.durable.fresh a a_in))

          go : (durable_seq S w.words < k) ⊎ (k ≤ durable_seq S w.words) → (f ≤ durable_cell S w.words a) ⊎ (f ≡ data_word S w.words a)
          go (inl l) = newer (late l)
          go (inr l) = inl (omega (arith, is, q, at_up k (durable_seq S w.words) a held.1 l upto_last a_in))
      by_durable (inr q) = go (cases_lt (durable_seq S w.words - 1) k)
        where
          at_last : k ≡ committed_seq w.words → (f ≤ durable_cell S w.words a) ⊎ (f ≡ data_word S w.words a)
          at_last e = by_cell (g.shared.data_cells.each a a_in)
            where
              newest : f ≡ data_word_after B w.batches (committed_seq w.words) a
              newest = is ∙ ap (λ (x : ℕ). data_word_after B w.batches x a) e

              by_cell : (data_word S w.words a ≡ data_word_after B w.batches (committed_seq w.words) a) ⊎ (IsLastOpen B w.words × (data_word S w.words a ≡ data_word_after B w.batches (committed_seq w.words - 1) a)) → (f ≤ durable_cell S w.words a) ⊎ (f ≡ data_word S w.words a)
              by_cell (inl c) = inr (newest ∙ sym c)
              by_cell (inr c) =
                  let before : committed_seq w.words - 1 ≡ durable_seq S w.words - 1 = omega (arith, q.1) in
                  inl (omega (arith, top, c.1, ap (λ (x : ℕ). data_word_after B w.batches x a) before, q.2))

          go : (durable_seq S w.words - 1 < k) ⊎ (k ≤ durable_seq S w.words - 1) → (f ≤ durable_cell S w.words a) ⊎ (f ≡ data_word S w.words a)
          go (inl l) = at_last (omega (arith, l, held.2, q.1))
          go (inr l) = inl (omega (arith, is, q.2, at_up k (durable_seq S w.words - 1) a held.1 l (omega (arith, upto_last)) a_in))

  module _ (i : ℕ) (m : CallState) (h : i < S.callers) where
    -- after these words the durable word of c is as it was, or its cell's
    abbrev Stays : List ℕ → ℕ → Type 0
    Stays vs c = (durable_word S vs c ≡ durable_word S w.words c) ⊎ (durable_word S vs c ≡ get_or w.words c 0)

    -- a word that isn't durable changes
    elsewhere : (x v c : ℕ) → (durable_at S c ≡ x → ⊥) → Stays (set w.words x v) c
    elsewhere x v c away = inl (get_or-set_other w.words x (durable_at S c) v 0 away)

    -- a durable word is raised to its cell's word, or to no more than it was
    raised : (d v c : ℕ) → c < cell_count S → d < cell_count S → (v ≤ durable_word S w.words d) ⊎ (v ≡ get_or w.words d 0) → Stays (set w.words (durable_at S d) (max (get_or w.words (durable_at S d) 0) v)) c
    raised d v c l u how = go (cases_eq c d) how
      where
        now : c ≡ d → durable_word S (set w.words (durable_at S d) (max (get_or w.words (durable_at S d) 0) v)) c ≡ max (durable_word S w.words c) v
        now e = rw e (get_or-set_same w.words (durable_at S d) (max (get_or w.words (durable_at S d) 0) v) 0 (omega (arith, g.shared.room, u)))

        go : (c ≡ d) ⊎ (c ≡ d → ⊥) → (v ≤ durable_word S w.words d) ⊎ (v ≡ get_or w.words d 0) → Stays (set w.words (durable_at S d) (max (get_or w.words (durable_at S d) 0) v)) c
        go (inr away) q = elsewhere (durable_at S d) (max (get_or w.words (durable_at S d) 0) v) c (λ e. away (omega (arith, e)))
        go (inl e) (inl q) = inl (omega (arith, now e, q, ap (durable_word S w.words) e))
        go (inl e) (inr q) = inr (omega (arith, now e, q, g.shared.durable.low c l, ap (λ (x : ℕ). get_or w.words x 0) e))

    -- the current-transaction word of the batch that is applied
    current_held : IsApplying S B w.words w.batches i m 0 → (pack m.seq m.owner ≤ durable_word S w.words 0) ⊎ (pack m.seq m.owner ≡ get_or w.words 0 0)
    current_held a = go (cases_order m.seq (committed_seq w.words))
      where
        small : m.owner < PAYLOADS
        small = omega (arith, owner_in g.shared a, g.shared.few)

        below : m.seq ≤ durable_seq S w.words → (m.seq ≡ durable_seq S w.words) ⊎ ((m.seq < durable_seq S w.words) ⊎ (durable_seq S w.words < m.seq)) → pack m.seq m.owner ≤ durable_word S w.words 0
        below l (inl e) =
            let o : payload_of (durable_word S w.words 0) ≡ m.owner = g.shared.durable.owner (omega (arith, a.after, e)) ∙ ap (λ (k : ℕ). (batch_at B w.batches k).owner) (sym e) ∙ a.committed in
            let z : pack m.seq m.owner ≡ durable_word S w.words 0 = ap (λ (k : ℕ). pack k m.owner) e ∙ ap (pack (durable_seq S w.words)) (sym o) ∙ word_eta (durable_word S w.words 0) in
            omega (arith, z)
        below l (inr (inl e)) = let z : pack m.seq m.owner < durable_word S w.words 0 = word_later m.seq m.owner (durable_word S w.words 0) small e in omega (arith, z)
        below l (inr (inr e)) = absurd (omega (arith, l, e))

        risen_from : m.seq < committed_seq w.words → (committed_seq w.words ≡ durable_seq S w.words) ⊎ ((committed_seq w.words ≡ durable_seq S w.words + 1) × IsLastOpen B w.words) → m.seq ≤ durable_seq S w.words
        risen_from l (inl q) = omega (arith, l, q)
        risen_from l (inr q) = omega (arith, l, q.0)

        go : (m.seq ≡ committed_seq w.words) ⊎ ((m.seq < committed_seq w.words) ⊎ (committed_seq w.words < m.seq)) → (pack m.seq m.owner ≤ durable_word S w.words 0) ⊎ (pack m.seq m.owner ≡ get_or w.words 0 0)
        go (inl e) =
            let o : committed_owner w.words ≡ m.owner = g.shared.counted.owner (omega (arith, a.after, e)) ∙ ap (λ (k : ℕ). (batch_at B w.batches k).owner) (sym e) ∙ a.committed in
            inr (ap (λ (k : ℕ). pack k m.owner) e ∙ ap (pack (committed_seq w.words)) (sym o) ∙ word_eta (get_or w.words 0 0))
        go (inr (inl l)) = inl (below (risen_from l g.shared.durable.step) (cases_order m.seq (durable_seq S w.words)))
        go (inr (inr l)) = absurd (omega (arith, l, a.upto))

    -- the closed request of the batch that is applied
    closed_held : (x : ℕ) → IsApplying S B w.words w.batches i m x → pack m.seq 0 < request_of w.words m.owner → (pack m.seq 1 ≤ durable_request S w.words m.owner) ⊎ (pack m.seq 1 ≡ request_of w.words m.owner)
    closed_held x a l = go (cases_order (pack m.seq 1) (request_of w.words m.owner))
      where
        go : (pack m.seq 1 ≡ request_of w.words m.owner) ⊎ ((pack m.seq 1 < request_of w.words m.owner) ⊎ (request_of w.words m.owner < pack m.seq 1)) → (pack m.seq 1 ≤ durable_request S w.words m.owner) ⊎ (pack m.seq 1 ≡ request_of w.words m.owner)
        go (inl e) = inr e
        go (inr (inl u)) = inl (closed_low m.owner m.seq (owner_in g.shared a) a.after a.upto a.committed u)
        go (inr (inr u)) = absurd (omega (arith, u, l, word_next m.seq 0))

    durables : (p : Place) → HoldsAtPlace S B w.words w.batches i m p → (c : ℕ) → c < cell_count S → Stays (words_after (want_at S m p) w.words) c
    durables (StoreScript x) a c l = elsewhere (script_word_at S m.caller x) _ c (λ e. omega (arith, e, l))
    durables StoreAnnouncement a c l = elsewhere (script_word_at S m.caller S.instrs) _ c (λ e. omega (arith, e, l))
    durables (StoreLog x) a c l =
        let st = a.storing.stored in
        let ci : m.caller ≡ i = st.past.looks.round.begun.caller in
        elsewhere (log_at S m.caller x) _ c (λ e. omega (arith, e, ap (λ (k : ℕ). log_at S k x) ci, log_in S i x h (omega (arith, length-log_words m.log, st.over.over.is_log.few, a.more))))
    durables StoreRequest a c l = elsewhere (request_at m.caller) _ c (λ e. omega (arith, e, a.stored.past.looks.round.begun.caller, h))
    durables ExchangeCurrent a c l = elsewhere 0 _ c (λ e. omega (arith, e))
    durables (ExchangeTarget x f) a c l = elsewhere (data_at S (log_entry m x).0) _ c (λ e. omega (arith, e, (entry_in g.shared a.entry.applies x a.entry.more).0))
    durables CloseRequest a c l = elsewhere (request_at m.owner) _ c (λ e. omega (arith, e, owner_in g.shared a.applies))
    durables RaiseOld a c l =
        let ci : m.caller ≡ i = a.past.looks.round.begun.caller in
        raised (request_at m.caller) m.kept c l (omega (arith, ci, h)) (inl (rw ci (omega (arith, a.past.looks.round.begun.kept.low, a.calm.level))))
    durables (RaiseLog x) a c l =
        let st = a.storing.stored in
        let ci : m.caller ≡ i = st.past.looks.round.begun.caller in
        let x_in : x < 2 * most_entries S + 1 = omega (arith, length-log_words m.log, st.over.over.is_log.few, a.more) in
        raised (log_at S m.caller x) _ c l (rw ci (log_in S i x h x_in)) (inr (rw ci (sym (st.each x (omega arith)))))
    durables RaiseRequest a c l =
        let ci : m.caller ≡ i = a.stored.past.looks.round.begun.caller in
        raised (request_at m.caller) _ c l (omega (arith, ci, h)) (inr (rw ci (sym a.asks)))
    durables RaiseCurrent a c l = raised 0 _ c l (omega arith) (current_held a)
    durables (RaiseTarget x f) a c l =
        let y_in : (log_entry m x).0 < S.cells = (entry_in g.shared a.entry.applies x a.entry.more).0 in
        raised (data_at S (log_entry m x).0) f c l (omega (arith, y_in)) (held_low (log_entry m x).0 f y_in a.low a.held)
    durables RaiseClosed a c l = raised (request_at m.owner) _ c l (omega (arith, owner_in g.shared a.applies)) (closed_held (length m.log) a.applies a.closed)
    durables p a c l = inl (ap (λ (vs : List ℕ). durable_word S vs c) (set-get_or w.words (word_of (want_at S m p)) 0))

    pub step_durables : get_or w.machines i m ≡ m → (n : ℕ) → IsFoundBy (want S m) w.words n → (c : ℕ) → c < cell_count S → Stays (after_step S i m n w).words c
    unfolding want
    step_durables own n f c l = durables m.place (g.each i m h own) c l
