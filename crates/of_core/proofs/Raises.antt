-- A raise of a durable word to a word that its cell has held keeps what all see.
use Rattle.std.proofs.Common.{◌≡◌, ℕ, ◌+◌, ◌-◌, ◌*◌, ◌<◌, ◌≤◌, ◌⊎◌, inl, inr, List, length, get_or, set, max, sym, ◌∙◌, ap, subst, arith, length-set}
use Rattle.std.proofs.lemmas.Bool.{cases_eq, cases_lt}
use Rattle.std.proofs.lemmas.List.{get_or-set_same, get_or-set_other}
use Rattle.of_cell.specs.Words.{pack, seq_of, payload_of}
use Rattle.of_cell.proofs.Order.{word_eta, seq_mono, seq_less}
use Rattle.of_cell.proofs.Places.{row_within}
use Rattle.of_core.specs.Table.{most_entries, Setup, cell_count, durable_at, script_word_at, request_at, log_at, script_word, current_word, request_of, data_word, log_word_of, durable_word, durable_request, durable_cell, durable_log, committed_seq, committed_owner, durable_seq}
use Rattle.of_core.specs.Machine.{log_words}
use Rattle.of_core.specs.TableMoment.{Batch, TableStart}
use Rattle.of_core.specs.History.{batch_at, data_word_after}
use Rattle.of_core.specs.WordsMatch.{WordsHaveTheirKind, IsRequest, IsLogWord, WordsMatchHistory, IsLastOpen, DurableWordsMatch, WasHeldByCell, IsLog}
use Rattle.of_core.specs.Invariant.{WasHeldByCurrent, IsLoaded}
use Rattle.of_core.proofs.States.{later, old}
use Rattle.of_core.proofs.Logs.{length-log_words}
use Rattle.of_core.proofs.Stability.{heard_as}

module _ (S : Setup) (Lawful : List ℕ → Type 0) (B : TableStart) (ws : List ℕ) (bs : List Batch) (g : WordsMatchHistory S Lawful B ws bs) (c w : ℕ) (e : IsLoaded S B ws bs (c, w)) where
  abbrev pub vs : List ℕ
  vs = set ws (durable_at S c) (max (durable_word S ws c) w)

  pub table : (x : ℕ) → x < cell_count S → get_or vs x 0 ≡ get_or ws x 0
  table x l = get_or-set_other ws (durable_at S c) x (max (durable_word S ws c) w) 0 (omega arith)

  pub behind : (j x : ℕ) → script_word S vs j x ≡ script_word S ws j x
  behind j x = get_or-set_other ws (durable_at S c) (script_word_at S j x) (max (durable_word S ws c) w) 0 (omega (arith, e.place))

  pub here : durable_word S vs c ≡ max (durable_word S ws c) w
  here = get_or-set_same ws (durable_at S c) (max (durable_word S ws c) w) 0 (omega (arith, g.room, e.place))

  here_at : (x : ℕ) → x ≡ c → durable_word S vs x ≡ max (durable_word S ws x) w
  here_at x q = ap (durable_word S vs) q ∙ here ∙ ap (λ (k : ℕ). max (durable_word S ws k) w) (sym q)

  other : (x : ℕ) → (x ≡ c → ⊥) → durable_word S vs x ≡ durable_word S ws x
  other x n = get_or-set_other ws (durable_at S c) (durable_at S x) (max (durable_word S ws c) w) 0 (omega arith)

  pub current_same : current_word vs ≡ current_word ws
  current_same = table 0 (omega arith)

  pub req_same : (j : ℕ) → j < S.callers → request_of vs j ≡ request_of ws j
  req_same j l = table (j + 1) (omega arith)

  pub cell_same : (a : ℕ) → a < S.cells → data_word S vs a ≡ data_word S ws a
  cell_same a l = table (S.callers + 1 + a) (omega arith)

  log_in : (j x : ℕ) → j < S.callers → x < 2 * most_entries S + 1 → log_at S j x < cell_count S
  log_in j x l u = let r : j * (2 * most_entries S + 1) + (2 * most_entries S + 1) ≤ S.callers * (2 * most_entries S + 1) = row_within j S.callers (2 * most_entries S + 1) l in omega arith

  pub log_same : (j x : ℕ) → j < S.callers → x < 2 * most_entries S + 1 → log_word_of S vs j x ≡ log_word_of S ws j x
  log_same j x l u = table (log_at S j x) (log_in j x l u)

  -- a durable word rises
  pub rises : (x : ℕ) → durable_word S ws x ≤ durable_word S vs x
  rises x = go (cases_eq x c)
    where
      go : (x ≡ c) ⊎ (x ≡ c → ⊥) → durable_word S ws x ≤ durable_word S vs x
      go (inl q) = rw q (omega (arith, here))
      go (inr q) = omega (arith, other x q)

  pub low : (x : ℕ) → x < cell_count S → durable_word S vs x ≤ get_or vs x 0
  low x l = go (cases_eq x c)
    where
      go : (x ≡ c) ⊎ (x ≡ c → ⊥) → durable_word S vs x ≤ get_or vs x 0
      go (inl q) = rw (table x l, q) (omega (arith, here, g.durable.low c e.place, e.low))
      go (inr q) = rw (table x l) (omega (arith, other x q, g.durable.low x l))

  opened : IsLastOpen B ws → IsLastOpen B vs
  opened o = record { any = rw current_same o.any; asks = rw current_same (req_same (committed_owner ws) g.counted.owner_in ∙ o.asks) }

  was_opened : IsLastOpen B vs → IsLastOpen B ws
  was_opened o = record { any = rw current_same at o.any; asks = sym (req_same (committed_owner ws) g.counted.owner_in) ∙ (rw current_same at o.asks) }

  -- the durable word of CUR stays, or rises from the batch before the last to the last
  risen_how : (durable_word S vs 0 ≡ durable_word S ws 0) ⊎ ((c ≡ 0) × (committed_seq ws ≡ durable_seq S ws + 1) × IsLastOpen B ws × (durable_word S vs 0 ≡ w) × (seq_of w ≡ committed_seq ws) × WasHeldByCurrent B ws bs w)
  risen_how = go (cases_eq c 0) (cases_lt (durable_word S ws 0) w)
    where
      go : (c ≡ 0) ⊎ (c ≡ 0 → ⊥) → (durable_word S ws 0 < w) ⊎ (w ≤ durable_word S ws 0) → (durable_word S vs 0 ≡ durable_word S ws 0) ⊎ ((c ≡ 0) × (committed_seq ws ≡ durable_seq S ws + 1) × IsLastOpen B ws × (durable_word S vs 0 ≡ w) × (seq_of w ≡ committed_seq ws) × WasHeldByCurrent B ws bs w)
      go (inr n) l = inl (other 0 (λ q. n (sym q)))
      go (inl z) (inr l) = inl (let r : durable_word S vs 0 ≡ max (durable_word S ws 0) w = here_at 0 (sym z) in omega arith)
      go (inl z) (inl l) =
          let r : durable_word S vs 0 ≡ max (durable_word S ws 0) w = here_at 0 (sym z) in
          let was = e.was_cur z in
          let u : w ≤ current_word ws = rw z at e.low in
          let top : seq_of w ≤ committed_seq ws = seq_mono w (current_word ws) u in
          let more : durable_seq S ws ≤ seq_of w = seq_mono (durable_word S ws 0) w (omega arith) in
          step_by was r top more (cases_eq (seq_of w) (durable_seq S ws)) (cases_eq (durable_seq S ws) B.seq) g.durable.step
        where
          step_by : WasHeldByCurrent B ws bs w → durable_word S vs 0 ≡ max (durable_word S ws 0) w → seq_of w ≤ committed_seq ws → durable_seq S ws ≤ seq_of w → (seq_of w ≡ durable_seq S ws) ⊎ (seq_of w ≡ durable_seq S ws → ⊥) → (durable_seq S ws ≡ B.seq) ⊎ (durable_seq S ws ≡ B.seq → ⊥)
              → (committed_seq ws ≡ durable_seq S ws) ⊎ ((committed_seq ws ≡ durable_seq S ws + 1) × IsLastOpen B ws) → (durable_word S vs 0 ≡ durable_word S ws 0) ⊎ ((c ≡ 0) × (committed_seq ws ≡ durable_seq S ws + 1) × IsLastOpen B ws × (durable_word S vs 0 ≡ w) × (seq_of w ≡ committed_seq ws) × WasHeldByCurrent B ws bs w)
          step_by was r top more (inl q) (inl s) st =
              let p : payload_of w ≡ payload_of (durable_word S ws 0) = was.2 (q ∙ s) ∙ sym (g.durable.first s) in
              let same : w ≡ durable_word S ws 0 = sym (word_eta w) ∙ ap (λ (k : ℕ). pack k (payload_of w)) q ∙ ap (pack (durable_seq S ws)) p ∙ word_eta (durable_word S ws 0) in
              absurd (omega arith)
          step_by was r top more (inl q) (inr s) st =
              let from = g.durable.from in
              let p : payload_of w ≡ payload_of (durable_word S ws 0) = was.1 (omega arith) ∙ ap (λ (k : ℕ). (batch_at B bs k).owner) q ∙ sym (g.durable.owner (omega arith)) in
              let same : w ≡ durable_word S ws 0 = sym (word_eta w) ∙ ap (λ (k : ℕ). pack k (payload_of w)) q ∙ ap (pack (durable_seq S ws)) p ∙ word_eta (durable_word S ws 0) in
              absurd (omega arith)
          step_by was r top more (inr n) s (inl st) = absurd (omega arith)
          step_by was r top more (inr n) s (inr st) = inr (z, st.0, st.1, omega arith, omega (arith, st.0), was)

  -- a data cell's durable word
  pub data_how : (a : ℕ) → a < S.cells → (durable_cell S vs a ≡ durable_cell S ws a) ⊎ (durable_cell S vs a ≡ data_word_after B bs (durable_seq S ws) a)
  data_how a l = go (cases_eq (S.callers + 1 + a) c) (cases_lt (durable_cell S ws a) w)
    where
      go : (S.callers + 1 + a ≡ c) ⊎ (S.callers + 1 + a ≡ c → ⊥) → (durable_cell S ws a < w) ⊎ (w ≤ durable_cell S ws a) → (durable_cell S vs a ≡ durable_cell S ws a) ⊎ (durable_cell S vs a ≡ data_word_after B bs (durable_seq S ws) a)
      go (inr n) u = inl (other (S.callers + 1 + a) n)
      go (inl q) (inr u) = inl (let r : durable_cell S vs a ≡ max (durable_cell S ws a) w = here_at (S.callers + 1 + a) q in omega arith)
      go (inl q) (inl u) =
          let r : durable_cell S vs a ≡ max (durable_cell S ws a) w = here_at (S.callers + 1 + a) q in
          let held = e.held a l (sym q) in
          let under : w ≤ data_word S ws a = rw (← q) at e.low in
          let new : seq_of w ≤ durable_seq S ws = omega (arith, seq_mono w (data_word S ws a) under, g.durable.fresh a l) in
          inr (omega (arith, which held new u (g.durable.cells a l)))
        where
          logs : (k : ℕ) → B.seq < k → k ≤ B.seq + length bs → IsLog S (batch_at B bs k).log
          logs k v t = g.counted.logs k v (omega (arith, g.counted.count))

          n_is : committed_seq ws ≡ B.seq + length bs
          n_is = g.counted.count

          d_in : durable_seq S ws ≤ committed_seq ws
          d_in = d_of g.durable.step
            where
              d_of : (committed_seq ws ≡ durable_seq S ws) ⊎ ((committed_seq ws ≡ durable_seq S ws + 1) × IsLastOpen B ws) → durable_seq S ws ≤ committed_seq ws
              d_of (inl t) = omega arith
              d_of (inr t) = omega (arith, t.0)

          which : WasHeldByCell B ws bs a w → seq_of w ≤ durable_seq S ws → durable_cell S ws a < w → (durable_cell S ws a ≡ data_word_after B bs (durable_seq S ws) a) ⊎ (IsLastOpen B ws × (committed_seq ws ≡ durable_seq S ws) × (durable_cell S ws a ≡ data_word_after B bs (durable_seq S ws - 1) a)) → w ≡ data_word_after B bs (durable_seq S ws) a
          which held new u d = by (cases_lt (durable_seq S ws) held.0) d
            where
              k : ℕ
              k = held.0

              is_w : w ≡ data_word_after B bs k a
              is_w = held.3

              -- the words of the states rise
              state_up : (x y : ℕ) → B.seq ≤ x → x ≤ y → y ≤ committed_seq ws → data_word_after B bs x a ≤ data_word_after B bs y a
              state_up x y f t v = up_by (cases_lt x (seq_of (data_word_after B bs y a)))
                where
                  up_by : (x < seq_of (data_word_after B bs y a)) ⊎ (seq_of (data_word_after B bs y a) ≤ x) → data_word_after B bs x a ≤ data_word_after B bs y a
                  up_by (inl m) = let o : seq_of (data_word_after B bs x a) ≤ x = old S B bs g.start logs x a f (omega (arith, n_is)) l in omega (arith, seq_less (data_word_after B bs x a) (data_word_after B bs y a) (omega arith))
                  up_by (inr m) = let s : data_word_after B bs y a ≡ data_word_after B bs x a = later S B bs g.start logs x y a f t (omega (arith, n_is)) l m in omega arith

              by : (durable_seq S ws < k) ⊎ (k ≤ durable_seq S ws) → (durable_cell S ws a ≡ data_word_after B bs (durable_seq S ws) a) ⊎ (IsLastOpen B ws × (committed_seq ws ≡ durable_seq S ws) × (durable_cell S ws a ≡ data_word_after B bs (durable_seq S ws - 1) a)) → w ≡ data_word_after B bs (durable_seq S ws) a
              by (inl m) d = is_w ∙ later S B bs g.start logs (durable_seq S ws) k a g.durable.from (omega (arith, m)) (omega (arith, n_is, held.2)) l (rw (← is_w) new)
              by (inr m) (inl d) = absurd (omega (arith, is_w, d, u, state_up k (durable_seq S ws) held.1 m d_in))
              by (inr m) (inr d) = before (cases_eq k (durable_seq S ws))
                where
                  before : (k ≡ durable_seq S ws) ⊎ (k ≡ durable_seq S ws → ⊥) → w ≡ data_word_after B bs (durable_seq S ws) a
                  before (inl s) = is_w ∙ ap (λ (x : ℕ). data_word_after B bs x a) s
                  before (inr s) = absurd (omega (arith, is_w, d.2, u, state_up k (durable_seq S ws - 1) held.1 (omega arith) (omega (arith, d_in))))

  -- the durable facts after the raise
  pub raise_durable : DurableWordsMatch S B vs bs
  raise_durable = record {
    low = low;
    from = from_of risen_how;
    owner = owner_of risen_how;
    first = first_of_ risen_how;
    step = step_of risen_how g.durable.step;
    fresh = λ a l. rw (cell_same a l) (omega (arith, g.durable.fresh a l, seq_mono (durable_word S ws 0) (durable_word S vs 0) (rises 0)));
    cells = λ a l. cells_of a l risen_how (data_how a l) (g.durable.cells a l);
    begun = λ l. omega (arith, g.durable.begun l, rises (request_at B.owner));
    floor = λ k l u. omega (arith, g.durable.floor k l (rw current_same at u), rises (request_at (batch_at B bs k).owner));
    logs = λ k l u i o q x v m z. logs_of k l (rw current_same at u) i o q x v m z;
  }
    where
      from_of : (durable_word S vs 0 ≡ durable_word S ws 0) ⊎ ((c ≡ 0) × (committed_seq ws ≡ durable_seq S ws + 1) × IsLastOpen B ws × (durable_word S vs 0 ≡ w) × (seq_of w ≡ committed_seq ws) × WasHeldByCurrent B ws bs w) → B.seq ≤ durable_seq S vs
      from_of h = omega (arith, g.durable.from, seq_mono (durable_word S ws 0) (durable_word S vs 0) (rises 0))

      owner_of : (durable_word S vs 0 ≡ durable_word S ws 0) ⊎ ((c ≡ 0) × (committed_seq ws ≡ durable_seq S ws + 1) × IsLastOpen B ws × (durable_word S vs 0 ≡ w) × (seq_of w ≡ committed_seq ws) × WasHeldByCurrent B ws bs w) → B.seq < durable_seq S vs → payload_of (durable_word S vs 0) ≡ (batch_at B bs (durable_seq S vs)).owner
      owner_of (inl q) = subst (λ (x : ℕ). B.seq < seq_of x → payload_of x ≡ (batch_at B bs (seq_of x)).owner) (sym q) g.durable.owner
      owner_of (inr q) = subst (λ (x : ℕ). B.seq < seq_of x → payload_of x ≡ (batch_at B bs (seq_of x)).owner) (sym q.3) q.5.1

      first_of_ : (durable_word S vs 0 ≡ durable_word S ws 0) ⊎ ((c ≡ 0) × (committed_seq ws ≡ durable_seq S ws + 1) × IsLastOpen B ws × (durable_word S vs 0 ≡ w) × (seq_of w ≡ committed_seq ws) × WasHeldByCurrent B ws bs w) → durable_seq S vs ≡ B.seq → payload_of (durable_word S vs 0) ≡ B.owner
      first_of_ (inl q) = subst (λ (x : ℕ). seq_of x ≡ B.seq → payload_of x ≡ B.owner) (sym q) g.durable.first
      first_of_ (inr q) = subst (λ (x : ℕ). seq_of x ≡ B.seq → payload_of x ≡ B.owner) (sym q.3) q.5.2

      step_of : (durable_word S vs 0 ≡ durable_word S ws 0) ⊎ ((c ≡ 0) × (committed_seq ws ≡ durable_seq S ws + 1) × IsLastOpen B ws × (durable_word S vs 0 ≡ w) × (seq_of w ≡ committed_seq ws) × WasHeldByCurrent B ws bs w) → (committed_seq ws ≡ durable_seq S ws) ⊎ ((committed_seq ws ≡ durable_seq S ws + 1) × IsLastOpen B ws)
          → (committed_seq vs ≡ durable_seq S vs) ⊎ ((committed_seq vs ≡ durable_seq S vs + 1) × IsLastOpen B vs)
      step_of (inl q) (inl t) = inl (ap seq_of current_same ∙ t ∙ ap seq_of (sym q))
      step_of (inl q) (inr t) = inr (ap seq_of current_same ∙ t.0 ∙ ap (λ (x : ℕ). seq_of x + 1) (sym q), opened t.1)
      step_of (inr q) t = inl (ap seq_of current_same ∙ sym q.4 ∙ ap seq_of (sym q.3))

      cells_of : (a : ℕ) → a < S.cells → (durable_word S vs 0 ≡ durable_word S ws 0) ⊎ ((c ≡ 0) × (committed_seq ws ≡ durable_seq S ws + 1) × IsLastOpen B ws × (durable_word S vs 0 ≡ w) × (seq_of w ≡ committed_seq ws) × WasHeldByCurrent B ws bs w)
          → (durable_cell S vs a ≡ durable_cell S ws a) ⊎ (durable_cell S vs a ≡ data_word_after B bs (durable_seq S ws) a)
          → (durable_cell S ws a ≡ data_word_after B bs (durable_seq S ws) a) ⊎ (IsLastOpen B ws × (committed_seq ws ≡ durable_seq S ws) × (durable_cell S ws a ≡ data_word_after B bs (durable_seq S ws - 1) a))
          → (durable_cell S vs a ≡ data_word_after B bs (durable_seq S vs) a) ⊎ (IsLastOpen B vs × (committed_seq vs ≡ durable_seq S vs) × (durable_cell S vs a ≡ data_word_after B bs (durable_seq S vs - 1) a))
      cells_of a l (inl q) (inr d) old = inl (d ∙ ap (λ (x : ℕ). data_word_after B bs (seq_of x) a) (sym q))
      cells_of a l (inl q) (inl d) (inl old) = inl (d ∙ old ∙ ap (λ (x : ℕ). data_word_after B bs (seq_of x) a) (sym q))
      cells_of a l (inl q) (inl d) (inr old) = inr (opened old.0, ap seq_of current_same ∙ old.1 ∙ ap seq_of (sym q), d ∙ old.2 ∙ ap (λ (x : ℕ). data_word_after B bs (seq_of x - 1) a) (sym q))
      cells_of a l (inr q) d (inr old) = absurd (omega (arith, old.1, q.1))
      cells_of a l (inr q) d (inl old) =
          let r : durable_seq S vs ≡ committed_seq ws = ap seq_of q.3 ∙ q.4 in
          let b : durable_seq S vs - 1 ≡ durable_seq S ws = omega (arith, q.1) in
          inr (opened q.2, ap seq_of current_same ∙ sym r, same d ∙ ap (λ (x : ℕ). data_word_after B bs x a) (sym b))
        where
          same : (durable_cell S vs a ≡ durable_cell S ws a) ⊎ (durable_cell S vs a ≡ data_word_after B bs (durable_seq S ws) a) → durable_cell S vs a ≡ data_word_after B bs (durable_seq S ws) a
          same (inl d) = d ∙ old
          same (inr d) = d

      logs_of : (k : ℕ) → B.seq < k → k ≤ committed_seq ws → (i : ℕ) → (batch_at B bs k).owner ≡ i → durable_request S vs i ≡ pack k 0 → (x v : ℕ) → x < length (log_words (batch_at B bs k).log) → get_or (log_words (batch_at B bs k).log) x 0 ≡ v
          → (log_word_of S vs i x ≡ pack k v) × (durable_log S vs i x ≡ pack k v)
      logs_of k l u i o q x v m z =
          let i_in : i < S.callers = rw (← o) (g.counted.owners k l u) in
          let f : pack k 0 ≤ durable_request S ws i = rw o at (g.durable.floor k l u) in
          let was : durable_request S ws i ≡ pack k 0 = omega (arith, rises (request_at i)) in
          let p = g.durable.logs k l u i o was x v m z in
          let x_in : x < 2 * most_entries S + 1 = omega (arith, length-log_words (batch_at B bs k).log, (g.counted.logs k l u).few) in
          let top : durable_log S vs i x ≤ log_word_of S ws i x = rw (log_same i x i_in x_in) at (low (log_at S i x) (log_in i x i_in x_in)) in
          (log_same i x i_in x_in ∙ p.0, omega (arith, p.0, p.1, top, rises (log_at S i x)))

  -- what is so of a durable word and of the word that it is raised to
  dur_is : (P : ℕ → Type 0) (x : ℕ) → P (durable_word S ws x) → (x ≡ c → P w) → P (durable_word S vs x)
  dur_is P x p q = go (cases_eq x c) (cases_lt (durable_word S ws x) w)
    where
      go : (x ≡ c) ⊎ (x ≡ c → ⊥) → (durable_word S ws x < w) ⊎ (w ≤ durable_word S ws x) → P (durable_word S vs x)
      go (inr n) l = rw (other x n) p
      go (inl z) (inr l) = let e : durable_word S vs x ≡ durable_word S ws x = omega (arith, here_at x z) in rw e p
      go (inl z) (inl l) = let e : durable_word S vs x ≡ w = omega (arith, here_at x z) in rw e (q z)

  raise_kinds : WordsHaveTheirKind S B vs bs
  raise_kinds = record {
    requests = λ j l. request_as j (request_of vs j) (subst (λ (y : ℕ). IsRequest B ws bs j y) (sym (req_same j l)) (g.kinds.requests j l));
    dur_requests = λ j l. request_as j (durable_request S vs j) (dur_is (λ (y : ℕ). IsRequest B ws bs j y) (request_at j) (g.kinds.dur_requests j l) (λ q. e.request j l (sym q)));
    logs = λ j x l u. log_as j x (log_word_of S vs j x) (subst (λ (y : ℕ). IsLogWord B ws bs j x y) (sym (log_same j x l u)) (g.kinds.logs j x l u));
    dur_logs = λ j x l u. log_as j x (durable_log S vs j x) (dur_is (λ (y : ℕ). IsLogWord B ws bs j x y) (log_at S j x) (g.kinds.dur_logs j x l u) (λ q. (e.log j x l u (sym q)).0));
    sized = λ j y l u. rw (log_same j (2 * y + 1) l (omega arith)) (g.kinds.sized j y l u);
  }
    where
      request_as : (j v : ℕ) → IsRequest B ws bs j v → IsRequest B vs bs j v
      request_as j v h l = rw current_same (h l)

      log_as : (j x v : ℕ) → IsLogWord B ws bs j x v → IsLogWord B vs bs j x v
      log_as j x v h a u o = h a (rw current_same at u) o

  pub raise_shared : WordsMatchHistory S Lawful B vs bs
  raise_shared = record {
    start = g.start;
    few = g.few;
    narrow = g.narrow;
    little = g.little;
    own_in = g.own_in;
    room = rw length-set g.room;
    counted = record {
      count = rw current_same g.counted.count;
      limit = rw current_same g.counted.limit;
      owner = rw current_same g.counted.owner;
      first = rw current_same g.counted.first;
      owner_in = rw current_same g.counted.owner_in;
      owners = rw current_same g.counted.owners;
      logs = rw current_same g.counted.logs;
    };
    data_cells = record { each = λ a l. data_of a l (g.data_cells.each a l) };
    requests = record {
      closed = λ k l u. let z : k < committed_seq ws = rw current_same at u in rw (req_same (batch_at B bs k).owner (g.counted.owners k l (omega arith))) (g.requests.closed k l z);
      latest = λ l. let z : pack (committed_seq ws) 0 ≤ request_of ws (committed_owner ws) = g.requests.latest (rw current_same at l) in rw (current_same, req_same (committed_owner ws) g.counted.owner_in) z;
      floor = λ l. rw (req_same B.owner g.start.owner_in) (g.requests.floor l);
    };
    durable = raise_durable;
    stands = g.stands;
    kinds = raise_kinds;
    heard = heard_as S B ws vs bs (λ i l. behind i S.instrs) (ap seq_of current_same) (λ i l. rw (log_same i 0 l (omega arith)) (g.heard.counts i l)) g.heard;
  }
    where
      data_of : (a : ℕ) → a < S.cells → (data_word S ws a ≡ data_word_after B bs (committed_seq ws) a) ⊎ (IsLastOpen B ws × (data_word S ws a ≡ data_word_after B bs (committed_seq ws - 1) a)) → (data_word S vs a ≡ data_word_after B bs (committed_seq vs) a) ⊎ (IsLastOpen B vs × (data_word S vs a ≡ data_word_after B bs (committed_seq vs - 1) a))
      data_of a l (inl q) = inl (rw current_same (cell_same a l ∙ q))
      data_of a l (inr q) = inr (opened q.0, rw current_same (cell_same a l ∙ q.1))
