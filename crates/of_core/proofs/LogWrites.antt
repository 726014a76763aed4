-- A machine stores its log and its request.
use Rattle.std.proofs.Common.{◌≡◌, ℕ, ◌+◌, ◌*◌, ◌<◌, ◌≤◌, ◌⊎◌, inl, inr, List, length, get_or, set, refl, sym, ◌∙◌, ap, subst, arith, length-set}
use Rattle.std.proofs.lemmas.Bool.{cases_eq}
use Rattle.std.proofs.lemmas.List.{append-nil, get_or-set_same, get_or-set_other}
use Rattle.of_cell.specs.declared.word.TheConstants.{PAYLOADS}
use Rattle.of_cell.specs.Words.{pack, seq_of, payload_of}
use Rattle.of_cell.proofs.Order.{seq_less, seq_word, pay_word, seq_from, word_above}
use Rattle.of_cell.proofs.Rooms.{room_upto}
use Rattle.of_core.specs.declared.place.Place.TheVariants.{StoreLog, StoreRequest}
use Rattle.of_core.specs.Table.{most_entries, Setup, script_word_at, cell_count, durable_at, request_at, log_at, script_word, current_word, request_of, data_word, log_word_of, durable_word, durable_request, committed_seq, committed_owner}
use Rattle.of_core.specs.Machine.{CallState, log_entry, log_words}
use Rattle.of_core.specs.Steps.{take_word_at}
use Rattle.of_core.specs.TableMoment.{Moment, TableStart, after_counted_step}
use Rattle.of_core.specs.History.{batch_at}
use Rattle.of_core.specs.WordsMatch.{WordsHaveTheirKind, IsRequest, IsLogWord, IsLastOpen, DataCellsMatchState, DurableWordsMatch}
use Rattle.of_core.specs.Transaction.{HasStoredLog}
use Rattle.of_core.specs.Invariant.{HoldsAtPlace, MeetsCore}
use Rattle.of_core.specs.Guarantees.{KeepsGuarantee}
use Rattle.of_core.proofs.Logs.{words_at, length-log_words}
use Rattle.of_core.proofs.Assembling.{assemble, small_words}
use Rattle.of_core.proofs.Stability.{log_in, same_row}
use Rattle.of_core.proofs.Touches.{Touches, open_of, data_same, durable_same, heard_of, kinds_of, kinds_same, moves_of, over_of, past_of, request_same, shared_of}

module _ {S : Setup} {Lawful : List ℕ → Type 0} {B : TableStart} where
  -- the machine m of caller i, at its place
  module _ {w : Moment} (g : MeetsCore S Lawful B w) {i : ℕ} (h : i < S.callers) (m : CallState) where
    -- the machine stores a word of its log
    pub store_log_kept : (x : ℕ) → HoldsAtPlace S B w.words w.batches i m (StoreLog x) → KeepsGuarantee S Lawful B i w (after_counted_step S i m (StoreLog x) w)
    store_log_kept x a =
        rw (append-nil w.batches)
        (assemble g h vs w.batches (take_word_at S m (log_word_of S w.words m.caller x) (StoreLog x)) (moves_of touches g.shared)
        (shared_of touches g.shared data_cells durable (heard_of touches g.shared behind counts) kinds) (record {
          storing = record {
            stored = record {
              past = past_of touches g.shared behind m h st.past _ refl refl refl refl refl refl refl refl refl;
              over = over_of touches g.shared behind m.seq m.made m.op m.raw m.calls m.log S.callers st.over;
              each = λ y l. stored y l (cases_eq y x);
              durable = λ y l. dur_same (log_at S i y) (log_in S i y h (omega (arith, x_in, l))) ∙ st.durable y l;
              rest = λ y l u. rw (log_row y u (λ q. omega arith)) (st.rest y (omega arith) u);
            };
            own = rw (req_same i h) a.storing.own;
            level = dur_same (request_at i) (omega arith) ∙ a.storing.level ∙ sym (req_same i h);
            shut = λ k l u o. rw (req_same i h) (a.storing.shut k l (rw current_same at u) o);
          };
          more = a.more;
        }))
      where
        st : HasStoredLog S B w.words w.batches i m x x
        st = a.storing.stored

        new : ℕ
        new = pack (m.seq + 1) (get_or (log_words m.log) x 0)

        vs : List ℕ
        vs = set w.words (log_at S m.caller x) new

        ci : m.caller ≡ i
        ci = st.past.looks.round.begun.caller

        x_in : x < 2 * most_entries S + 1
        x_in = omega (arith, length-log_words m.log, st.over.over.is_log.few, a.more)

        fits : log_at S i x < length w.words
        fits = omega (arith, log_in S i x h x_in, g.shared.room)

        here : log_word_of S vs i x ≡ new
        here = rw ci (get_or-set_same w.words (log_at S i x) new 0 fits)

        elsewhere : (d : ℕ) → (d ≡ log_at S i x → ⊥) → get_or vs d 0 ≡ get_or w.words d 0
        elsewhere d q = rw ci (get_or-set_other w.words (log_at S i x) d new 0 q)

        up_here : log_word_of S w.words i x ≤ new
        up_here = omega (arith, seq_less (log_word_of S w.words i x) new (omega (arith, st.rest x (omega arith) x_in, seq_from (m.seq + 1) (get_or (log_words m.log) x 0) new (omega arith))))

        behind : (j y : ℕ) → script_word S vs j y ≡ script_word S w.words j y
        behind j y = elsewhere (script_word_at S j y) (omega (arith, log_in S i x h x_in))

        counts : (j : ℕ) → j < S.callers → payload_of (log_word_of S vs j 0) ≤ most_entries S
        counts j l = count (cases_eq (log_at S j 0) (log_at S i x))
          where
            count : (log_at S j 0 ≡ log_at S i x) ⊎ (log_at S j 0 ≡ log_at S i x → ⊥) → payload_of (log_word_of S vs j 0) ≤ most_entries S
            count (inr q) = rw (elsewhere (log_at S j 0) q) (g.shared.heard.counts j l)
            count (inl q) =
                let e : j ≡ i = same_row j i (2 * most_entries S + 1) 0 x (omega arith) x_in (omega arith) in
                let z : x ≡ 0 = omega (arith, ap (λ (k : ℕ). k * (2 * most_entries S + 1)) e) in
                let v : new ≡ pack (m.seq + 1) (length m.log) = ap (λ (k : ℕ). pack (m.seq + 1) (get_or (log_words m.log) k 0)) z in
                rw (q, here, v, pay_word (m.seq + 1) (length m.log) (omega (arith, st.over.over.is_log.few, g.shared.little, room_upto S.callers S.cells))) st.over.over.is_log.few

        cell_same : (y : ℕ) → y < S.cells → data_word S vs y ≡ data_word S w.words y
        cell_same y l = elsewhere (S.callers + 1 + y) (omega arith)

        current_same : current_word vs ≡ current_word w.words
        current_same = elsewhere 0 (omega arith)

        req_same : (j : ℕ) → j < S.callers → request_of vs j ≡ request_of w.words j
        req_same j l = elsewhere (j + 1) (omega arith)

        log_other : (j y : ℕ) → y < 2 * most_entries S + 1 → (j ≡ i → ⊥) → log_word_of S vs j y ≡ log_word_of S w.words j y
        log_other j y l q = elsewhere (log_at S j y) (λ e. q (same_row j i (2 * most_entries S + 1) y x l x_in (omega arith)))

        log_row : (y : ℕ) → y < 2 * most_entries S + 1 → (y ≡ x → ⊥) → log_word_of S vs i y ≡ log_word_of S w.words i y
        log_row y l q = elsewhere (log_at S i y) (omega arith)

        dur_same : (c : ℕ) → c < cell_count S → durable_word S vs c ≡ durable_word S w.words c
        dur_same c l = elsewhere (durable_at S c) (omega (arith, log_in S i x h x_in))

        rises : (c : ℕ) → (c ≡ log_at S i x) ⊎ (c ≡ log_at S i x → ⊥) → get_or w.words c 0 ≤ get_or vs c 0
        rises c (inl q) = rw q (omega (arith, here, up_here))
        rises c (inr q) = omega (arith, elsewhere c q)

        log_how : (j y : ℕ) → j < S.callers → y < 2 * most_entries S + 1 → (j ≡ i) ⊎ (j ≡ i → ⊥) → (y ≡ x) ⊎ (y ≡ x → ⊥) → (log_word_of S vs j y ≡ log_word_of S w.words j y) ⊎ (seq_of (log_word_of S w.words j y) < seq_of (log_word_of S vs j y))
        log_how j y l u (inr q) r = inl (log_other j y u q)
        log_how j y l u (inl q) (inr r) = inl (rw q (log_row y u r))
        log_how j y l u (inl q) (inl r) = inr (rw (q, r, here) (omega (arith, st.rest x (omega arith) x_in, seq_from (m.seq + 1) (get_or (log_words m.log) x 0) new (omega arith))))

        fits_word : (y : ℕ) → get_or (log_words m.log) y 0 < PAYLOADS
        fits_word y = small_words m.log g.shared.little st.over.over.is_log y

        touches : Touches S B i w.words vs w.batches
        touches = record {
          room = length-set w.words (log_at S m.caller x) new;
          current_word = current_same;
          requests = λ j l q. inl (req_same j l);
          logs = λ j l q y u. log_other j y u q;
          changes = λ y l. inl (cell_same y l);
          rise = λ c l. rises c (cases_eq c (log_at S i x));
          durs = dur_same;
          log_how = λ j y l u. log_how j y l u (cases_eq j i) (cases_eq y x);
          script_of = λ j y l u. inl (behind j y);
          announcements = λ j l. inl (behind j S.instrs);
        }

        kinds : WordsHaveTheirKind S B vs w.batches
        kinds = kinds_of touches g.shared (λ j l. request_same touches g.shared j l (req_same j l)) (λ j y l u. is_log_word j y l u (cases_eq j i) (cases_eq y x)) (λ j y l u. sized j y l u (cases_eq j i) (cases_eq (2 * y + 1) x))
          where
            is_log_word : (j y : ℕ) → j < S.callers → y < 2 * most_entries S + 1 → (j ≡ i) ⊎ (j ≡ i → ⊥) → (y ≡ x) ⊎ (y ≡ x → ⊥) → IsLogWord B w.words w.batches j y (log_word_of S vs j y)
            is_log_word j y l u (inr q) r = subst (λ (v : ℕ). IsLogWord B w.words w.batches j y v) (sym (log_other j y u q)) (g.shared.kinds.logs j y l u)
            is_log_word j y l u (inl q) (inr r) = subst (λ (v : ℕ). IsLogWord B w.words w.batches j y v) (sym (ap (λ (k : ℕ). log_word_of S vs k y) q ∙ log_row y u r ∙ ap (λ (k : ℕ). log_word_of S w.words k y) (sym q))) (g.shared.kinds.logs j y l u)
            is_log_word j y l u (inl q) (inl r) = λ a b o.
                let e : log_word_of S vs j y ≡ new = ap (λ (k : ℕ). log_word_of S vs k y) q ∙ ap (log_word_of S vs i) r ∙ here in
                let f : seq_of (log_word_of S vs j y) ≡ m.seq + 1 = ap seq_of e ∙ seq_word (m.seq + 1) (get_or (log_words m.log) x 0) (fits_word x) in
                absurd (st.past.looks.round.unowned (seq_of (log_word_of S vs j y)) (omega (arith, f)) b (o ∙ q))

            sized : (j y : ℕ) → j < S.callers → y < most_entries S → (j ≡ i) ⊎ (j ≡ i → ⊥) → (2 * y + 1 ≡ x) ⊎ (2 * y + 1 ≡ x → ⊥) → payload_of (log_word_of S vs j (2 * y + 1)) < S.cells
            sized j y l u (inr q) r = rw (log_other j (2 * y + 1) (omega arith) q) (g.shared.kinds.sized j y l u)
            sized j y l u (inl q) (inr r) = rw (q, log_row (2 * y + 1) (omega arith) r) (g.shared.kinds.sized i y h u)
            sized j y l u (inl q) (inl r) =
                let in_log : y < length m.log = omega (arith, a.more, length-log_words m.log) in
                let e : log_word_of S vs j (2 * y + 1) ≡ new = ap (λ (k : ℕ). log_word_of S vs k (2 * y + 1)) q ∙ ap (log_word_of S vs i) r ∙ here in
                let p : payload_of new ≡ get_or (log_words m.log) x 0 = pay_word (m.seq + 1) (get_or (log_words m.log) x 0) (fits_word x) in
                let n : get_or (log_words m.log) x 0 ≡ (log_entry m y).0 = ap (λ (k : ℕ). get_or (log_words m.log) k 0) (sym r) ∙ (words_at m.log y in_log).0 in
                omega (arith, ap payload_of e, p, n, (st.over.over.is_log.entries y (0, 0) in_log).0)

        open_same : IsLastOpen B w.words → IsLastOpen B vs
        open_same = open_of touches g.shared req_same

        data_cells : DataCellsMatchState S B vs w.batches
        data_cells = data_same touches g.shared cell_same open_same

        durable : DurableWordsMatch S B vs w.batches
        durable = durable_same touches g.shared cell_same open_same logs
          where
            -- an owner whose durable request is its batch's stores no log
            logs : (k : ℕ) → B.seq < k → k ≤ committed_seq w.words → (j : ℕ) → (batch_at B w.batches k).owner ≡ j → durable_request S w.words j ≡ pack k 0 → (y : ℕ) → y < 2 * most_entries S + 1 → log_word_of S vs j y ≡ log_word_of S w.words j y
            logs k l u j o q y v = log_other j y v (λ e. let z : pack k 0 < request_of w.words i = a.storing.shut k l u (o ∙ e) in let r : durable_request S w.words i ≡ pack k 0 = rw e at q in omega (arith, a.storing.level))

        stored : (y : ℕ) → y < x + 1 → (y ≡ x) ⊎ (y ≡ x → ⊥) → log_word_of S vs i y ≡ pack (m.seq + 1) (get_or (log_words m.log) y 0)
        stored y l (inl q) = rw q here
        stored y l (inr q) = log_row y (omega (arith, x_in)) q ∙ st.each y (omega arith)

    -- the machine stores its request
    pub store_request_kept : HoldsAtPlace S B w.words w.batches i m StoreRequest → KeepsGuarantee S Lawful B i w (after_counted_step S i m StoreRequest w)
    store_request_kept a =
        rw (append-nil w.batches)
        (assemble g h vs w.batches (take_word_at S m (request_of w.words m.caller) StoreRequest) (moves_of touches g.shared)
        (shared_of touches g.shared data_cells durable (heard_of touches g.shared behind (λ j l. rw (log_same j 0) (g.shared.heard.counts j l))) (kinds_same touches g.shared (λ j l. request j l (cases_eq j i)) (λ j y l u. log_same j y))) (record {
          stored = record {
            past = past_of touches g.shared behind m h st.past _ refl refl refl refl refl refl refl refl refl;
            over = over_of touches g.shared behind m.seq m.made m.op m.raw m.calls m.log S.callers st.over;
            each = λ y l. log_same i y ∙ st.each y l;
            durable = λ y l. dur_same (log_at S i y) (log_in S i y h (omega (arith, length-log_words m.log, st.over.over.is_log.few, l))) ∙ st.durable y l;
            rest = λ y l u. rw (log_same i y) (st.rest y l u);
          };
          asks = here;
          shut = λ k l u o. rw (dur_same (request_at i) (omega arith)) (let z = a.shut k l (rw current_same at u) o in omega (arith, z, a.level));
        }))
      where
        st : HasStoredLog S B w.words w.batches i m (length (log_words m.log)) (length (log_words m.log))
        st = a.stored

        new : ℕ
        new = pack (m.seq + 1) 0

        vs : List ℕ
        vs = set w.words (m.caller + 1) new

        ci : m.caller ≡ i
        ci = st.past.looks.round.begun.caller

        here : request_of vs i ≡ pack (m.seq + 1) 0
        here = rw ci (get_or-set_same w.words (i + 1) new 0 (omega (arith, g.shared.room)))

        up_here : request_of w.words i < new
        up_here = word_above (m.seq + 1) 0 (request_of w.words i) (omega (arith, a.own))

        elsewhere : (c : ℕ) → (c ≡ i + 1 → ⊥) → get_or vs c 0 ≡ get_or w.words c 0
        elsewhere c q = rw ci (get_or-set_other w.words (i + 1) c new 0 q)

        cell_same : (x : ℕ) → x < S.cells → data_word S vs x ≡ data_word S w.words x
        cell_same x l = elsewhere (S.callers + 1 + x) (omega arith)

        current_same : current_word vs ≡ current_word w.words
        current_same = elsewhere 0 (omega arith)

        req_same : (j : ℕ) → (j ≡ i → ⊥) → request_of vs j ≡ request_of w.words j
        req_same j q = elsewhere (j + 1) (omega arith)

        log_same : (j x : ℕ) → log_word_of S vs j x ≡ log_word_of S w.words j x
        log_same j x = elsewhere (log_at S j x) (omega arith)

        behind : (j y : ℕ) → script_word S vs j y ≡ script_word S w.words j y
        behind j y = elsewhere (script_word_at S j y) (omega arith)

        dur_same : (c : ℕ) → c < cell_count S → durable_word S vs c ≡ durable_word S w.words c
        dur_same c l = elsewhere (durable_at S c) (omega arith)

        rises : (c : ℕ) → (c ≡ i + 1) ⊎ (c ≡ i + 1 → ⊥) → get_or w.words c 0 ≤ get_or vs c 0
        rises c (inl q) = rw q (omega (arith, here, up_here))
        rises c (inr q) = omega (arith, elsewhere c q)

        touches : Touches S B i w.words vs w.batches
        touches = record {
          room = length-set w.words (m.caller + 1) new;
          current_word = current_same;
          requests = λ j l q. inl (req_same j q);
          logs = λ j l q x u. log_same j x;
          changes = λ x l. inl (cell_same x l);
          rise = λ c l. rises c (cases_eq c (i + 1));
          durs = dur_same;
          log_how = λ j y l u. inl (log_same j y);
          script_of = λ j y l u. inl (behind j y);
          announcements = λ j l. inl (behind j S.instrs);
        }

        request : (j : ℕ) → j < S.callers → (j ≡ i) ⊎ (j ≡ i → ⊥) → IsRequest B w.words w.batches j (request_of vs j)
        request j l (inr q) = request_same touches g.shared j l (req_same j q)
        request j l (inl q) = λ a. inl (ap payload_of (ap (request_of vs) q ∙ here) ∙ pay_word (m.seq + 1) 0 (omega arith))

        -- the open transaction isn't this caller's
        open_same : IsLastOpen B w.words → IsLastOpen B vs
        open_same o = go (cases_eq (committed_owner w.words) i)
          where
            go : (committed_owner w.words ≡ i) ⊎ (committed_owner w.words ≡ i → ⊥) → IsLastOpen B vs
            go (inl q) =
                let z : pack (committed_seq w.words) 0 < request_of w.words i = a.shut (committed_seq w.words) o.any (omega arith) (sym (g.shared.counted.owner o.any) ∙ q) in
                let r : request_of w.words i ≡ pack (committed_seq w.words) 0 = rw q at o.asks in
                absurd (omega arith)
            go (inr q) = record { any = rw current_same o.any; asks = rw current_same (req_same (committed_owner w.words) q ∙ o.asks) }

        data_cells : DataCellsMatchState S B vs w.batches
        data_cells = data_same touches g.shared cell_same open_same

        durable : DurableWordsMatch S B vs w.batches
        durable = durable_same touches g.shared cell_same open_same (λ k l u j o q x v. log_same j x)
