-- A cell changes only if its durable word is at least its word. So of all words that it has held,
-- only the present one may not be durable.
use Rattle.std.proofs.Common.{◌≡◌, ℕ, suc, ◌+◌, ◌*◌, ◌-◌, ◌<◌, ◌≤◌, ◌⊎◌, ◌==◌, inl, inr, List, [], ◌∷◌, length, get_or, set, max, refl, sym, ◌∙◌, ap, subst, arith, Bool, true, false, if◌then◌else◌}
use Rattle.std.specs.List.{All}
use Rattle.std.proofs.lemmas.Bool.{cases_eq, cases_lt}
use Rattle.std.proofs.lemmas.Bool.Decides.{nat_tests}
use Rattle.std.proofs.lemmas.List.{get_or-set_same, get_or-set_other, set-get_or, get_or_default}
use Rattle.std.proofs.lemmas.List.Elements.{All-push}
use Rattle.of_cell.specs.declared.word.TheConstants.{PAYLOADS}
use Rattle.of_cell.specs.Words.{pack, seq_of, payload_of}
use Rattle.of_cell.proofs.Order.{word_eta, seq_word}
use Rattle.of_mem.specs.declared.work.TheConstants.{MOST_INSTRS}
use Rattle.of_mem.specs.Meaning.{IsSoundMeaning}
use Rattle.of_core.specs.declared.place.Place.{Place}
use Rattle.of_core.specs.declared.place.Place.TheVariants.{StoreScript, StoreAnnouncement, RaiseOld, StoreLog, RaiseLog, StoreRequest, RaiseRequest, ExchangeCurrent, RaiseCurrent, ExchangeTarget, RaiseTarget, CloseRequest, RaiseClosed}
use Rattle.of_core.specs.declared.place.Op.TheVariants.{Raise}
use Rattle.of_core.specs.Table.{most_entries, Setup, first_operation_cell, cell_count, durable_at, script_word_at, request_at, data_at, log_at, request_of, data_word, log_word_of, durable_word, durable_cell, durable_log, current_word, committed_seq, committed_owner, durable_seq}
use Rattle.of_core.specs.Machine.{CallState, log_entry, log_words, no_machine, begin_call}
use Rattle.of_core.specs.Steps.{want, want_at, word_of, words_after, word_found, take_word, take_word_at, with_step_counted}
use Rattle.of_core.specs.TableMoment.{Moment, TableStart}
use Rattle.of_core.specs.History.{batch_at, data_word_after}
use Rattle.of_core.specs.WordsMatch.{IsLastOpen, MayStart}
use Rattle.of_core.specs.Invariant.{HoldsAtPlace, MeetsCore, MeetsInvariant, IsLoaded}
use Rattle.of_core.specs.Guarantees.{Guarantees}
use Rattle.of_core.specs.Events.{Event, Begins, Turns, Loads, Evicts, Raises, Revives, after_raise, machine_in, after_event, MayHappen, after_events, IsSchedule, opening_moment, ReplacesNone, AllReplaceNone}
use Rattle.of_core.specs.Raised.{lower_changes, pending_among, pending}
use Rattle.of_core.proofs.States.{later_by}
use Rattle.of_core.proofs.Logs.{length-log_words}
use Rattle.of_core.proofs.Stability.{entry_in, owner_in, log_in}
use Rattle.of_core.proofs.Assembling.{logs_of}
use Rattle.of_core.proofs.Starts.{words_hold}
use Rattle.of_core.proofs.Openings.{start_good}
use Rattle.of_core.proofs.Found.{found_now}
use Rattle.of_core.proofs.Durables.{step_durables, at_up, upto_last, count}
use Rattle.of_core.proofs.StepKept.{step_moves}
use Rattle.of_core.proofs.Raises.{rises, low}
use Rattle.of_core.proofs.Happenings.{event_good, load_kept}
use Rattle.of_core.proofs.ShortRaises.{changes_few, raise_held, not_pending, stands}

-- at this place the machine is about to raise word x of its log
abbrev RaisesAt : Place → ℕ → Type 0
RaisesAt (RaiseLog y) x = y ≡ x
RaisesAt p x = ⊥

module _ (S : Setup) (Lawful : List ℕ → Type 0) (B : TableStart) (w : Moment) (g : MeetsCore S Lawful B w) (i : ℕ) (m : CallState) (h : i < S.callers) where
  -- after these words the cell c is as it was, or its word was durable
  abbrev Settles : List ℕ → ℕ → Type 0
  Settles vs c = (get_or vs c 0 ≡ get_or w.words c 0) ⊎ (get_or w.words c 0 ≤ durable_word S w.words c)

  -- a word that isn't the cell changes
  elsewhere : (x v c : ℕ) → (c ≡ x → ⊥) → get_or (set w.words x v) c 0 ≡ get_or w.words c 0
  elsewhere x v c away = get_or-set_other w.words x c v 0 away

  -- a cell is changed whose word is durable
  changed : (x v c : ℕ) → get_or w.words x 0 ≤ durable_word S w.words x → Settles (set w.words x v) c
  changed x v c u = go (cases_eq c x)
    where
      go : (c ≡ x) ⊎ (c ≡ x → ⊥) → Settles (set w.words x v) c
      go (inl e) = inr (subst (λ (y : ℕ). get_or w.words y 0 ≤ durable_word S w.words y) (sym e) u)
      go (inr n) = inl (elsewhere x v c n)

  -- an exchange changes it only if it finds the word that it expects
  exchanged : (x old new c : ℕ) → (get_or w.words x 0 ≡ old → get_or w.words x 0 ≤ durable_word S w.words x) → Settles (set w.words x (if get_or w.words x 0 == old then new else get_or w.words x 0)) c
  exchanged x old new c u = go (get_or w.words x 0 == old) refl
    where
      go : (b : Bool) → (get_or w.words x 0 == old) ≡ b → Settles (set w.words x (if b then new else get_or w.words x 0)) c
      go true e = changed x new c (u (let z : get_or w.words x 0 ≡ old = grind (arith, nat_tests) in z))
      go false e = inl (ap (λ (vs : List ℕ). get_or vs c 0) (set-get_or w.words x 0))

  -- the last transaction isn't open where its successor is committed, so its word is durable
  current_level : HoldsAtPlace S B w.words w.batches i m ExchangeCurrent → current_word w.words ≡ pack m.seq m.owner → current_word w.words ≤ durable_word S w.words 0
  current_level a e = go g.shared.durable.step (cases_lt B.seq (committed_seq w.words))
    where
      is : committed_seq w.words ≡ m.seq
      is = ap seq_of e ∙ seq_word m.seq m.owner (omega (arith, a.stored.past.looks.round.current_word.owner_in, g.shared.few))

      same : (committed_seq w.words ≡ durable_seq S w.words) → committed_owner w.words ≡ payload_of (durable_word S w.words 0) → current_word w.words ≤ durable_word S w.words 0
      same q o =
          let z : pack (committed_seq w.words) (committed_owner w.words) ≡ pack (durable_seq S w.words) (payload_of (durable_word S w.words 0)) = ap (λ (k : ℕ). pack k (committed_owner w.words)) q ∙ ap (pack (durable_seq S w.words)) o in
          omega (arith, word_eta (current_word w.words), word_eta (durable_word S w.words 0), z)

      go : (committed_seq w.words ≡ durable_seq S w.words) ⊎ ((committed_seq w.words ≡ durable_seq S w.words + 1) × IsLastOpen B w.words) → (B.seq < committed_seq w.words) ⊎ (committed_seq w.words ≤ B.seq) → current_word w.words ≤ durable_word S w.words 0
      go (inl q) (inl l) =
          same q (g.shared.counted.owner l ∙ ap (λ (k : ℕ). (batch_at B w.batches k).owner) q ∙ sym (g.shared.durable.owner (omega (arith, q, l))))
      go (inl q) (inr l) =
          let f : committed_seq w.words ≡ B.seq = omega (arith, l, q, g.shared.durable.from) in
          same q (g.shared.counted.first f ∙ sym (g.shared.durable.first (omega (arith, q, f))))
      go (inr q) l =
          let z : pack m.seq 0 < request_of w.words (committed_owner w.words) = a.stored.past.looks.state.quiet (sym is) (omega (arith, is, q.1.any)) in
          let o : request_of w.words (committed_owner w.words) ≡ pack m.seq 0 = q.1.asks ∙ ap (λ (k : ℕ). pack k 0) is in
          absurd (omega (arith, z, o))

  -- a cell that is older than a transaction that is applied is durable
  target_level : (a s : ℕ) → a < S.cells → s ≤ durable_seq S w.words → seq_of (data_word S w.words a) < s → data_word S w.words a ≤ durable_cell S w.words a
  target_level a s a_in u old = go (g.shared.data_cells.each a a_in) (g.shared.durable.cells a a_in)
    where
      newest : (k : ℕ) → B.seq ≤ k → k ≤ committed_seq w.words → data_word S w.words a ≡ data_word_after B w.batches (committed_seq w.words) a → seq_of (data_word S w.words a) ≤ k → data_word S w.words a ≡ data_word_after B w.batches k a
      newest k l t e o = by (rw z at (later_by S B w.batches g.shared.start (logs_of g) (committed_seq w.words - k) k a l (omega (arith, t, count S Lawful B w g)) a_in))
        where
          z : k + (committed_seq w.words - k) ≡ committed_seq w.words
          z = omega (arith, t)

          by : (data_word_after B w.batches (committed_seq w.words) a ≡ data_word_after B w.batches k a) ⊎ (k < seq_of (data_word_after B w.batches (committed_seq w.words) a)) → data_word S w.words a ≡ data_word_after B w.batches k a
          by (inl q) = e ∙ q
          by (inr q) = absurd (omega (arith, q, ap seq_of e, o))

      go : (data_word S w.words a ≡ data_word_after B w.batches (committed_seq w.words) a) ⊎ (IsLastOpen B w.words × (data_word S w.words a ≡ data_word_after B w.batches (committed_seq w.words - 1) a))
          → (durable_cell S w.words a ≡ data_word_after B w.batches (durable_seq S w.words) a) ⊎ (IsLastOpen B w.words × (committed_seq w.words ≡ durable_seq S w.words) × (durable_cell S w.words a ≡ data_word_after B w.batches (durable_seq S w.words - 1) a))
          → data_word S w.words a ≤ durable_cell S w.words a
      go (inl c) (inl d) = omega (arith, newest (durable_seq S w.words) g.shared.durable.from (upto_last S Lawful B w g) c (g.shared.durable.fresh a a_in), d)
      go (inl c) (inr d) = omega (arith, newest (durable_seq S w.words - 1) (omega (arith, d.0.any, d.1)) (omega (arith, d.1)) c (omega (arith, old, u)), d.2)
      go (inr c) (inl d) =
          let r : committed_seq w.words - 1 ≤ durable_seq S w.words = before g.shared.durable.step in
          omega (arith, c.1, d, at_up S Lawful B w g (committed_seq w.words - 1) (durable_seq S w.words) a (omega (arith, c.0.any)) r (upto_last S Lawful B w g) a_in)
        where
          before : (committed_seq w.words ≡ durable_seq S w.words) ⊎ ((committed_seq w.words ≡ durable_seq S w.words + 1) × IsLastOpen B w.words) → committed_seq w.words - 1 ≤ durable_seq S w.words
          before (inl q) = omega (arith, q)
          before (inr q) = omega (arith, q.0)
      go (inr c) (inr d) = omega (arith, c.1, d.2, ap (λ (k : ℕ). data_word_after B w.batches (k - 1) a) d.1)

  -- what the log words of a caller are: durable, but where it is about to raise one
  abbrev LevelLog : Place → Type 0
  LevelLog p = (x : ℕ) → x < 2 * most_entries S + 1 → (durable_log S w.words i x ≡ log_word_of S w.words i x) ⊎ RaisesAt p x

  cells : (p : Place) → HoldsAtPlace S B w.words w.batches i m p → LevelLog p → (c : ℕ) → c < cell_count S → Settles (words_after (want_at S m p) w.words) c
  cells (StoreScript x) a f c l = inl (elsewhere (script_word_at S m.caller x) _ c (λ e. omega (arith, e, l)))
  cells StoreAnnouncement a f c l = inl (elsewhere (script_word_at S m.caller S.instrs) _ c (λ e. omega (arith, e, l)))
  cells (StoreLog x) a f c l =
      let ci : m.caller ≡ i = a.storing.stored.past.looks.round.begun.caller in
      changed (log_at S m.caller x) _ c (rw ci (level (f x (omega (arith, length-log_words m.log, a.storing.stored.over.over.is_log.few, a.more)))))
    where
      level : (durable_log S w.words i x ≡ log_word_of S w.words i x) ⊎ ⊥ → log_word_of S w.words i x ≤ durable_log S w.words i x
      level (inl q) = omega (arith, q)
      level (inr q) = absurd q
  cells StoreRequest a f c l =
      let ci : m.caller ≡ i = a.stored.past.looks.round.begun.caller in
      changed (request_at m.caller) _ c (rw ci (omega (arith, a.level)))
  cells ExchangeCurrent a f c l = exchanged 0 (pack m.seq m.owner) (pack (m.seq + 1) m.caller) c (current_level a)
  cells (ExchangeTarget x o) a f c l =
      exchanged (data_at S (log_entry m x).0) o (pack m.seq (log_entry m x).1) c (λ e. target_level (log_entry m x).0 m.seq (entry_in g.shared a.entry.applies x a.entry.more).0 a.entry.durable (omega (arith, ap seq_of e, a.older)))
  cells CloseRequest a f c l =
      exchanged (request_at m.owner) (pack m.seq 0) (pack m.seq 1) c (λ e. omega (arith, e, rw a.applies.committed at (g.shared.durable.floor m.seq a.applies.after a.applies.upto)))
  cells RaiseOld a f c l = inl (elsewhere (durable_at S (request_at m.caller)) _ c (λ e. omega (arith, e, l)))
  cells (RaiseLog x) a f c l = inl (elsewhere (durable_at S (log_at S m.caller x)) _ c (λ e. omega (arith, e, l)))
  cells RaiseRequest a f c l = inl (elsewhere (durable_at S (request_at m.caller)) _ c (λ e. omega (arith, e, l)))
  cells RaiseCurrent a f c l = inl (elsewhere (durable_at S 0) _ c (λ e. omega (arith, e, l)))
  cells (RaiseTarget x o) a f c l = inl (elsewhere (durable_at S (data_at S (log_entry m x).0)) _ c (λ e. omega (arith, e, l)))
  cells RaiseClosed a f c l = inl (elsewhere (durable_at S (request_at m.owner)) _ c (λ e. omega (arith, e, l)))
  cells p a f c l = inl (ap (λ (vs : List ℕ). get_or vs c 0) (set-get_or w.words (word_of (want_at S m p)) 0))

  -- a log word that stays keeps its durable word level
  keeps_level : (vs : List ℕ) (x n : ℕ) (p : Place) → log_word_of S vs i x ≡ log_word_of S w.words i x
      → (durable_log S vs i x ≡ durable_log S w.words i x) ⊎ (durable_log S vs i x ≡ log_word_of S w.words i x)
      → (durable_log S w.words i x ≡ log_word_of S w.words i x) ⊎ ⊥ → (durable_log S vs i x ≡ log_word_of S vs i x) ⊎ RaisesAt (take_word_at S (with_step_counted p m) n p).place x
  keeps_level vs x n p e (inl q) (inl f) = inl (q ∙ f ∙ sym e)
  keeps_level vs x n p e (inl q) (inr f) = absurd f
  keeps_level vs x n p e (inr q) f = inl (q ∙ sym e)

  own_logs : (p : Place) → HoldsAtPlace S B w.words w.batches i m p → LevelLog p
      → ((c : ℕ) → c < cell_count S → (durable_word S (words_after (want_at S m p) w.words) c ≡ durable_word S w.words c) ⊎ (durable_word S (words_after (want_at S m p) w.words) c ≡ get_or w.words c 0))
      → (n x : ℕ) → x < 2 * most_entries S + 1
      → (durable_log S (words_after (want_at S m p) w.words) i x ≡ log_word_of S (words_after (want_at S m p) w.words) i x) ⊎ RaisesAt (take_word_at S (with_step_counted p m) n p).place x
  own_logs (StoreScript y) a f d n x u = keeps_level _ x n (StoreScript y) (elsewhere (script_word_at S m.caller y) _ (log_at S i x) (λ e. omega (arith, e, log_in S i x h u))) (d (log_at S i x) (log_in S i x h u)) (f x u)
  own_logs StoreAnnouncement a f d n x u = keeps_level _ x n StoreAnnouncement (elsewhere (script_word_at S m.caller S.instrs) _ (log_at S i x) (λ e. omega (arith, e, log_in S i x h u))) (d (log_at S i x) (log_in S i x h u)) (f x u)
  own_logs (StoreLog y) a f d n x u = go (cases_eq x y)
    where
      ci : m.caller ≡ i
      ci = a.storing.stored.past.looks.round.begun.caller

      go : (x ≡ y) ⊎ (x ≡ y → ⊥) → (durable_log S (words_after (want_at S m (StoreLog y)) w.words) i x ≡ log_word_of S (words_after (want_at S m (StoreLog y)) w.words) i x) ⊎ RaisesAt (take_word_at S (with_step_counted (StoreLog y) m) n (StoreLog y)).place x
      go (inl e) = inr (sym e)
      go (inr away) = keeps_level _ x n (StoreLog y) (elsewhere (log_at S m.caller y) _ (log_at S i x) (λ e. away (omega (arith, e, ap (λ (k : ℕ). log_at S k y) ci)))) (d (log_at S i x) (log_in S i x h u)) (f x u)
  own_logs StoreRequest a f d n x u =
      keeps_level _ x n StoreRequest (elsewhere (request_at m.caller) _ (log_at S i x) (λ e. omega (arith, e, a.stored.past.looks.round.begun.caller, h))) (d (log_at S i x) (log_in S i x h u)) (f x u)
  own_logs ExchangeCurrent a f d n x u = keeps_level _ x n ExchangeCurrent (elsewhere 0 _ (log_at S i x) (λ e. omega (arith, e))) (d (log_at S i x) (log_in S i x h u)) (f x u)
  own_logs (ExchangeTarget y o) a f d n x u =
      keeps_level _ x n (ExchangeTarget y o) (elsewhere (data_at S (log_entry m y).0) _ (log_at S i x) (λ e. omega (arith, e, (entry_in g.shared a.entry.applies y a.entry.more).0))) (d (log_at S i x) (log_in S i x h u)) (f x u)
  own_logs CloseRequest a f d n x u =
      keeps_level _ x n CloseRequest (elsewhere (request_at m.owner) _ (log_at S i x) (λ e. omega (arith, e, owner_in g.shared a.applies))) (d (log_at S i x) (log_in S i x h u)) (f x u)
  own_logs RaiseOld a f d n x u = keeps_level _ x n RaiseOld (elsewhere (durable_at S (request_at m.caller)) _ (log_at S i x) (λ e. omega (arith, e, log_in S i x h u))) (d (log_at S i x) (log_in S i x h u)) (f x u)
  own_logs (RaiseLog y) a f d n x u = go (cases_eq x y) (f x u)
    where
      ci : m.caller ≡ i
      ci = a.storing.stored.past.looks.round.begun.caller

      vs : List ℕ
      vs = words_after (want_at S m (RaiseLog y)) w.words

      same : log_word_of S vs i x ≡ log_word_of S w.words i x
      same = elsewhere (durable_at S (log_at S m.caller y)) _ (log_at S i x) (λ e. omega (arith, e, log_in S i x h u))

      go : (x ≡ y) ⊎ (x ≡ y → ⊥) → (durable_log S w.words i x ≡ log_word_of S w.words i x) ⊎ (y ≡ x) → (durable_log S vs i x ≡ log_word_of S vs i x) ⊎ RaisesAt (take_word_at S (with_step_counted (RaiseLog y) m) n (RaiseLog y)).place x
      go (inl e) f = inl (subst (λ (k : ℕ). durable_log S vs i k ≡ log_word_of S vs i k) (sym e) (here (subst (λ (k : ℕ). k < 2 * most_entries S + 1) e u)))
        where
          here : y < 2 * most_entries S + 1 → durable_log S vs i y ≡ log_word_of S vs i y
          here y_in =
              let spot : durable_at S (log_at S m.caller y) ≡ durable_at S (log_at S i y) = ap (λ (k : ℕ). durable_at S (log_at S k y)) ci in
              let value : pack (m.seq + 1) (get_or (log_words m.log) y 0) ≡ log_word_of S w.words i y = sym (a.storing.stored.each y (omega arith)) in
              let top : durable_log S vs i y ≡ max (durable_log S w.words i y) (pack (m.seq + 1) (get_or (log_words m.log) y 0)) =
              rw spot (get_or-set_same w.words (durable_at S (log_at S i y)) (max (durable_log S w.words i y) (pack (m.seq + 1) (get_or (log_words m.log) y 0))) 0 (omega (arith, g.shared.room, log_in S i y h y_in))) in
              let stays : log_word_of S vs i y ≡ log_word_of S w.words i y = elsewhere (durable_at S (log_at S m.caller y)) _ (log_at S i y) (λ z. omega (arith, z, log_in S i y h y_in)) in
              omega (arith, top, value, stays, g.shared.durable.low (log_at S i y) (log_in S i y h y_in))
      go (inr away) (inl q) = keeps_level vs x n (RaiseLog y) same (d (log_at S i x) (log_in S i x h u)) (inl q)
      go (inr away) (inr q) = absurd (away (sym q))
  own_logs RaiseRequest a f d n x u = keeps_level _ x n RaiseRequest (elsewhere (durable_at S (request_at m.caller)) _ (log_at S i x) (λ e. omega (arith, e, log_in S i x h u))) (d (log_at S i x) (log_in S i x h u)) (f x u)
  own_logs RaiseCurrent a f d n x u = keeps_level _ x n RaiseCurrent (elsewhere (durable_at S 0) _ (log_at S i x) (λ e. omega (arith, e, log_in S i x h u))) (d (log_at S i x) (log_in S i x h u)) (f x u)
  own_logs (RaiseTarget y o) a f d n x u = keeps_level _ x n (RaiseTarget y o) (elsewhere (durable_at S (data_at S (log_entry m y).0)) _ (log_at S i x) (λ e. omega (arith, e, log_in S i x h u))) (d (log_at S i x) (log_in S i x h u)) (f x u)
  own_logs RaiseClosed a f d n x u = keeps_level _ x n RaiseClosed (elsewhere (durable_at S (request_at m.owner)) _ (log_at S i x) (λ e. omega (arith, e, log_in S i x h u))) (d (log_at S i x) (log_in S i x h u)) (f x u)
  own_logs p a f d n x u = keeps_level _ x n p (ap (λ (vs : List ℕ). get_or vs (log_at S i x) 0) (set-get_or w.words (word_of (want_at S m p)) 0)) (d (log_at S i x) (log_in S i x h u)) (f x u)

module _ (S : Setup) where
  -- What each moment has: log words are level with their durable words, except those that their
  -- caller is about to raise, and of what was loaded only a cell's present word may not be durable.
  pub record Level (w : Moment) : Type 0 where
    pub logs : (j x : ℕ) → j < S.callers → x < 2 * most_entries S + 1 → (durable_log S w.words j x ≡ log_word_of S w.words j x) ⊎ RaisesAt (machine_in w j).place x
    pub loaded : All (λ (e : ℕ × ℕ). (e.1 ≤ durable_word S w.words e.0) ⊎ (e.1 ≡ get_or w.words e.0 0)) w.loaded

  module _ (Lawful : List ℕ → Type 0) (sound : IsSoundMeaning S.meaning Lawful (first_operation_cell S) S.cells) (B : TableStart) where
    module _ (w : Moment) (g : MeetsInvariant S Lawful B w) (v : Level w) where
      -- a turn leaves each cell as it was, or its word was durable
      cells_turn : (i : ℕ) → i < S.callers → (c : ℕ) → c < cell_count S → (get_or (after_event S w (Turns i)).words c 0 ≡ get_or w.words c 0) ⊎ (get_or w.words c 0 ≤ durable_word S w.words c)
      unfolding want
      cells_turn i h c l =
          let m : CallState = machine_in w i in
          let own : get_or w.machines i m ≡ m = get_or_default w.machines i m no_machine (omega (arith, g.core.members, h)) in
          cells S Lawful B w g.core i m h m.place (g.core.each i m h own) (λ x u. v.logs i x h u) c l

      own_turn : (i : ℕ) → i < S.callers → (x : ℕ) → x < 2 * most_entries S + 1
          → (durable_log S (after_event S w (Turns i)).words i x ≡ log_word_of S (after_event S w (Turns i)).words i x) ⊎ RaisesAt (machine_in (after_event S w (Turns i)) i).place x
      unfolding want take_word
      own_turn i h x u =
          let m : CallState = machine_in w i in
          let own : get_or w.machines i m ≡ m = get_or_default w.machines i m no_machine (omega (arith, g.core.members, h)) in
          let n : ℕ = word_found S w.words m in
          let there : machine_in (after_event S w (Turns i)) i ≡ take_word S m n = get_or-set_same w.machines i (take_word S m n) no_machine (omega (arith, g.core.members, h)) in
          subst (λ (d : CallState). (durable_log S (after_event S w (Turns i)).words i x ≡ log_word_of S (after_event S w (Turns i)).words i x) ⊎ RaisesAt d.place x) (sym there)
          (own_logs S Lawful B w g.core i m h m.place (g.core.each i m h own) (λ y l. v.logs i y h l) (λ c l. step_durables S Lawful B w g.core i m h own n (found_now S w.words m) c l) n x u)

      turn_level : (i : ℕ) → i < S.callers → Level (after_event S w (Turns i))
      turn_level i h = record { logs = λ j x l u. logs j x l u (cases_eq j i); loaded = λ k d l. loaded k d l (v.loaded k d l) }
        where
          m : CallState
          m = machine_in w i

          z : Moment
          z = after_event S w (Turns i)

          own : get_or w.machines i m ≡ m
          own = get_or_default w.machines i m no_machine (omega (arith, g.core.members, h))

          moves : Guarantees S B i w.words w.batches z.words z.batches
          moves = step_moves S Lawful sound B w g i m h own (word_found S w.words m) (found_now S w.words m)

          durs : (c : ℕ) → c < cell_count S → (durable_word S z.words c ≡ durable_word S w.words c) ⊎ (durable_word S z.words c ≡ get_or w.words c 0)
          durs c l = step_durables S Lawful B w g.core i m h own (word_found S w.words m) (found_now S w.words m) c l

          logs : (j x : ℕ) → j < S.callers → x < 2 * most_entries S + 1 → (j ≡ i) ⊎ (j ≡ i → ⊥) → (durable_log S z.words j x ≡ log_word_of S z.words j x) ⊎ RaisesAt (machine_in z j).place x
          logs j x l u (inl e) = subst (λ (k : ℕ). (durable_log S z.words k x ≡ log_word_of S z.words k x) ⊎ RaisesAt (machine_in z k).place x) (sym e) (own_turn i h x u)
          logs j x l u (inr away) = go (v.logs j x l u) (durs (log_at S j x) (log_in S j x l u))
            where
              same : machine_in z j ≡ machine_in w j
              same = get_or-set_other w.machines i j _ no_machine (λ e. away (omega (arith, e)))

              stays : log_word_of S z.words j x ≡ log_word_of S w.words j x
              stays = moves.logs j l away x u

              go : (durable_log S w.words j x ≡ log_word_of S w.words j x) ⊎ RaisesAt (machine_in w j).place x
                  → (durable_log S z.words j x ≡ durable_log S w.words j x) ⊎ (durable_log S z.words j x ≡ log_word_of S w.words j x)
                  → (durable_log S z.words j x ≡ log_word_of S z.words j x) ⊎ RaisesAt (machine_in z j).place x
              go (inr q) r = inr (subst (λ (d : CallState). RaisesAt d.place x) (sym same) q)
              go (inl q) (inl r) = inl (r ∙ q ∙ sym stays)
              go (inl q) (inr r) = inl (r ∙ sym stays)

          loaded : (k : ℕ) (d : ℕ × ℕ) → k < length w.loaded → ((get_or w.loaded k d).1 ≤ durable_word S w.words (get_or w.loaded k d).0) ⊎ ((get_or w.loaded k d).1 ≡ get_or w.words (get_or w.loaded k d).0 0)
              → ((get_or w.loaded k d).1 ≤ durable_word S z.words (get_or w.loaded k d).0) ⊎ ((get_or w.loaded k d).1 ≡ get_or z.words (get_or w.loaded k d).0 0)
          loaded k d l q = go q (cells_turn i h c c_in)
            where
              c : ℕ
              c = (get_or w.loaded k d).0

              c_in : c < cell_count S
              c_in = (g.core.loaded k d l).place

              up : durable_word S w.words c ≤ durable_word S z.words c
              up = moves.durs c c_in

              go : ((get_or w.loaded k d).1 ≤ durable_word S w.words c) ⊎ ((get_or w.loaded k d).1 ≡ get_or w.words c 0)
                  → (get_or z.words c 0 ≡ get_or w.words c 0) ⊎ (get_or w.words c 0 ≤ durable_word S w.words c)
                  → ((get_or w.loaded k d).1 ≤ durable_word S z.words c) ⊎ ((get_or w.loaded k d).1 ≡ get_or z.words c 0)
              go (inl a) b = inl (omega (arith, a, up))
              go (inr a) (inl b) = inr (a ∙ sym b)
              go (inr a) (inr b) = inl (omega (arith, a, b, up))

      -- the durable word of its cell is raised to a loaded word
      evicted_level : (d : ℕ × ℕ) → IsLoaded S B w.words w.batches d → Level (after_raise S w d)
      evicted_level d is = record { logs = λ j x l u. logs j x l u (v.logs j x l u); loaded = λ k e l. loaded k e (v.loaded k e l) (g.core.loaded k e l).place }
        where
          z : Moment
          z = after_raise S w d

          cell_stays : (c : ℕ) → c < cell_count S → get_or z.words c 0 ≡ get_or w.words c 0
          cell_stays c l = get_or-set_other w.words (durable_at S d.0) c (max (durable_word S w.words d.0) d.1) 0 (λ e. omega (arith, e, l))

          up : (c : ℕ) → durable_word S w.words c ≤ durable_word S z.words c
          up c = rises S Lawful B w.words w.batches g.core.shared d.0 d.1 is c

          under : (c : ℕ) → c < cell_count S → durable_word S z.words c ≤ get_or z.words c 0
          under c l = low S Lawful B w.words w.batches g.core.shared d.0 d.1 is c l

          logs : (j x : ℕ) → j < S.callers → x < 2 * most_entries S + 1 → (durable_log S w.words j x ≡ log_word_of S w.words j x) ⊎ RaisesAt (machine_in w j).place x → (durable_log S z.words j x ≡ log_word_of S z.words j x) ⊎ RaisesAt (machine_in w j).place x
          logs j x l u (inr q) = inr q
          logs j x l u (inl q) =
              let c_in : log_at S j x < cell_count S = log_in S j x l u in
              let a : log_word_of S z.words j x ≡ log_word_of S w.words j x = cell_stays (log_at S j x) c_in in
              let b : durable_log S w.words j x ≤ durable_log S z.words j x = up (log_at S j x) in
              let t : durable_log S z.words j x ≤ log_word_of S z.words j x = under (log_at S j x) c_in in
              inl (omega (arith, a, b, t, q))

          loaded : (k : ℕ) (e : ℕ × ℕ) → ((get_or w.loaded k e).1 ≤ durable_word S w.words (get_or w.loaded k e).0) ⊎ ((get_or w.loaded k e).1 ≡ get_or w.words (get_or w.loaded k e).0 0) → (get_or w.loaded k e).0 < cell_count S
              → ((get_or w.loaded k e).1 ≤ durable_word S z.words (get_or w.loaded k e).0) ⊎ ((get_or w.loaded k e).1 ≡ get_or z.words (get_or w.loaded k e).0 0)
          loaded k e (inl q) l = inl (omega (arith, q, up (get_or w.loaded k e).0))
          loaded k e (inr q) l = inr (q ∙ sym (cell_stays (get_or w.loaded k e).0 l))

      event_level : (e : Event) → ReplacesNone e → MayHappen S w e → Level (after_event S w e)
      event_level (Revives i made) none may = absurd none
      event_level (Turns i) none may = turn_level i may
      event_level (Evicts k) none may = evicted_level (get_or w.loaded k (0, 0)) (g.core.loaded k (0, 0) may)
      event_level (Raises c) none may = evicted_level (c, get_or w.words c 0) (load_kept S Lawful B w g c may)
      event_level (Loads c) none may = record {
        logs = v.logs;
        loaded = All-push (λ (e : ℕ × ℕ). (e.1 ≤ durable_word S w.words e.0) ⊎ (e.1 ≡ get_or w.words e.0 0)) w.loaded (c, get_or w.words c 0) v.loaded (inr refl);
      }
      event_level (Begins i op) none may = record { logs = λ j x l u. logs j x l u (cases_eq j i); loaded = v.loaded }
        where
          z : Moment
          z = after_event S w (Begins i op)

          logs : (j x : ℕ) → j < S.callers → x < 2 * most_entries S + 1 → (j ≡ i) ⊎ (j ≡ i → ⊥) → (durable_log S w.words j x ≡ log_word_of S w.words j x) ⊎ RaisesAt (machine_in z j).place x
          logs j x l u (inl e) = level (subst (λ (p : Place). (durable_log S w.words j x ≡ log_word_of S w.words j x) ⊎ RaisesAt p x) (ap (λ (k : ℕ). (machine_in w k).place) e ∙ may.1) (v.logs j x l u))
            where
              level : (durable_log S w.words j x ≡ log_word_of S w.words j x) ⊎ ⊥ → (durable_log S w.words j x ≡ log_word_of S w.words j x) ⊎ RaisesAt (machine_in z j).place x
              level (inl q) = inl q
              level (inr q) = absurd q
          logs j x l u (inr away) = subst (λ (d : CallState). (durable_log S w.words j x ≡ log_word_of S w.words j x) ⊎ RaisesAt d.place x) (sym (get_or-set_other w.machines i j (begin_call S (machine_in w i) op) no_machine (λ e. away (omega (arith, e))))) (v.logs j x l u)

      -- an event changes a cell only if its durable word is at least its word
      pub event_settles : (e : Event) → MayHappen S w e → (c : ℕ) → c < cell_count S → (get_or (after_event S w e).words c 0 ≡ get_or w.words c 0) ⊎ (get_or w.words c 0 ≤ durable_word S w.words c)
      event_settles (Turns i) may c l = cells_turn i may c l
      event_settles (Begins i op) may c l = inl refl
      event_settles (Loads x) may c l = inl refl
      event_settles (Revives i made) may c l = inl refl
      event_settles (Evicts k) may c l = inl (get_or-set_other w.words (durable_at S (get_or w.loaded k (0, 0)).0) c _ 0 (λ e. omega (arith, e, l)))
      event_settles (Raises x) may c l = inl (get_or-set_other w.words (durable_at S x) c _ 0 (λ e. omega (arith, e, l)))

      -- so nothing is pending below a word that the cell is at least
      none_pending : (c v : ℕ) → v ≤ get_or w.words c 0 → (es : List (ℕ × ℕ)) → All (λ (e : ℕ × ℕ). (e.1 ≤ durable_word S w.words e.0) ⊎ (e.1 ≡ get_or w.words e.0 0)) es → pending_among (durable_word S w.words c) c v es ≡ 0
      none_pending c v t [] all = refl
      none_pending c v t (e ∷ es) all =
          let a = none_pending c v t es (λ k d l. all (suc k) d (omega (arith, l))) in
          let b = not_pending (durable_word S w.words c) c v e (λ is u l. go is u l (all 0 e (omega arith))) in
          omega (arith, a, b)
        where
          go : e.0 ≡ c → durable_word S w.words c < e.1 → e.1 < v → (e.1 ≤ durable_word S w.words e.0) ⊎ (e.1 ≡ get_or w.words e.0 0) → ⊥
          go is u l (inl q) = omega (arith, u, q, ap (λ (k : ℕ). durable_word S w.words k) is)
          go is u l (inr q) = omega (arith, l, q, t, ap (λ (k : ℕ). get_or w.words k 0) is)

    level_run : (es : List Event) (w : Moment) → MeetsInvariant S Lawful B w → Level w → IsSchedule S w es → AllReplaceNone es → MeetsInvariant S Lawful B (after_events S w es) × Level (after_events S w es)
    level_run [] w g v s n = (g, v)
    level_run (e ∷ es) w g v s n = level_run es (after_event S w e) (event_good S Lawful B w g sound e s.0) (event_level w g v e n.0 s.0) s.1 n.1

    module _ (may : MayStart S Lawful B) (some : 0 < S.callers) (few : S.callers < PAYLOADS) (own_in : first_operation_cell S ≤ S.cells) (total : ℕ) (room : cell_count S + cell_count S + S.callers * (S.instrs + 1) ≤ total) (narrow : S.instrs ≤ MOST_INSTRS) (little : S.cells < PAYLOADS) (es : List Event) (s : IsSchedule S (opening_moment S B total) es) (kept : AllReplaceNone es) where
      first_level : Level (opening_moment S B total)
      first_level = record {
        logs = λ j x l u. inl ((words_hold S B may.start total (omega arith)).durable (log_at S j x) (log_in S j x l u));
        loaded = λ k d l. absurd (omega (arith, l));
      }

      reached : MeetsInvariant S Lawful B (after_events S (opening_moment S B total) es) × Level (after_events S (opening_moment S B total) es)
      reached = level_run es (opening_moment S B total) (start_good S Lawful sound B may some few own_in total room narrow little) first_level s kept

      pub settles : (e : Event) → MayHappen S (after_events S (opening_moment S B total) es) e → (c : ℕ) → c < cell_count S
          → (get_or (after_event S (after_events S (opening_moment S B total) es) e).words c 0 ≡ get_or (after_events S (opening_moment S B total) es).words c 0) ⊎ (get_or (after_events S (opening_moment S B total) es).words c 0 ≤ durable_word S (after_events S (opening_moment S B total) es).words c)
      settles e m c l = event_settles (after_events S (opening_moment S B total) es) reached.0 reached.1 e m c l

      pub undisturbed : (i c v : ℕ) → i < S.callers → c < cell_count S → want S (machine_in (after_events S (opening_moment S B total) es) i) ≡ Raise (durable_at S c) v
          → (ds : List Event) → IsSchedule S (after_events S (opening_moment S B total) es) ds → lower_changes S (after_events S (opening_moment S B total) es) ds c v ≡ 0
      undisturbed i c v h l e ds t =
          let held : v ≤ get_or (after_events S (opening_moment S B total) es).words c 0 = raise_held S Lawful sound B (after_events S (opening_moment S B total) es) reached.0 i c v h l e in
          let few : lower_changes S (after_events S (opening_moment S B total) es) ds c v ≤ pending S (after_events S (opening_moment S B total) es) c v = changes_few S Lawful sound B ds (after_events S (opening_moment S B total) es) reached.0 c v l held t in
          let none : pending S (after_events S (opening_moment S B total) es) c v ≡ 0 = none_pending (after_events S (opening_moment S B total) es) reached.0 reached.1 c v held (after_events S (opening_moment S B total) es).loaded reached.1.loaded in
          omega (arith, few, none)

      pub raises_stand : (i c v : ℕ) → i < S.callers → c < cell_count S → want S (machine_in (after_events S (opening_moment S B total) es) i) ≡ Raise (durable_at S c) v
          → (ds : List Event) → IsSchedule S (after_events S (opening_moment S B total) es) ds
          → (durable_word S (after_events S (after_events S (opening_moment S B total) es) ds).words c ≡ durable_word S (after_events S (opening_moment S B total) es).words c) ⊎ (v ≤ durable_word S (after_events S (after_events S (opening_moment S B total) es) ds).words c)
      raises_stand i c v h l e ds t = stands S ds (after_events S (opening_moment S B total) es) c v (undisturbed i c v h l e ds t)

      pub evicts_undisturbed : (k : ℕ) → k < length (after_events S (opening_moment S B total) es).loaded → (ds : List Event) → IsSchedule S (after_events S (opening_moment S B total) es) ds
          → lower_changes S (after_events S (opening_moment S B total) es) ds (get_or (after_events S (opening_moment S B total) es).loaded k (0, 0)).0 (get_or (after_events S (opening_moment S B total) es).loaded k (0, 0)).1 ≡ 0
      evicts_undisturbed k l ds t =
          let w : Moment = after_events S (opening_moment S B total) es in
          let d : ℕ × ℕ = get_or (after_events S (opening_moment S B total) es).loaded k (0, 0) in
          let is : IsLoaded S B w.words w.batches d = reached.0.core.loaded k (0, 0) l in
          let few : lower_changes S w ds d.0 d.1 ≤ pending S w d.0 d.1 = changes_few S Lawful sound B ds w reached.0 d.0 d.1 is.place is.low t in
          let none : pending S w d.0 d.1 ≡ 0 = none_pending w reached.0 reached.1 d.0 d.1 is.low w.loaded reached.1.loaded in
          omega (arith, few, none)
