-- The current-transaction word is exchanged: a batch is committed, or the round was lost.
use Rattle.std.proofs.Common.{◌≡◌, ℕ, ◌+◌, ◌*◌, ◌-◌, ◌<◌, ◌≤◌, ◌⊎◌, ◌==◌, inl, inr, List, [], ◌∷◌, ◌++◌, length, get_or, set, refl, sym, ◌∙◌, ap, subst, arith, length-set, length-append, Bool, true, false, if◌then◌else◌, max}
use Rattle.std.specs.List.{All}
use Rattle.std.proofs.lemmas.Bool.{cases_eq, cases_lt}
use Rattle.std.proofs.lemmas.List.{append-nil, set-get_or, get_or-set_same, get_or-set_other}
use Rattle.of_cell.specs.declared.word.TheConstants.{PAYLOADS}
use Rattle.of_cell.specs.Words.{pack, seq_of, payload_of}
use Rattle.of_cell.proofs.Order.{seq_mono, seq_less, seq_word, pay_word, word_eta}
use Rattle.of_mem.specs.Meaning.{IsSoundMeaning}
use Rattle.of_core.specs.declared.place.Place.TheVariants.{ExchangeCurrent}
use Rattle.of_core.specs.Table.{most_entries, Setup, script_word_at, cell_count, durable_at, request_at, data_at, first_operation_cell, log_at, ticket_cell, announcement_of, script_word, current_word, request_of, data_word, log_word_of, durable_word, durable_request, durable_cell, durable_log, committed_seq, committed_owner, durable_seq}
use Rattle.of_core.specs.Machine.{CallState, Call, log_words, no_call}
use Rattle.of_core.specs.Steps.{after_commit_exchange, next_round}
use Rattle.of_core.specs.TableMoment.{Read, Moment, Batch, TableStart, after_counted_step, one_batch}
use Rattle.of_core.specs.History.{state_after, batch_at, data_word_after, HasCall, last_ticket_by, ticket_in_state}
use Rattle.of_core.specs.WordsMatch.{AnnouncementsAreServed, IsRequest, IsLogWord, WordsMatchHistory, IsLastOpen, CountsBatches, DataCellsMatchState, RequestsMatchBatches, StatesFollowBatches, IsLog, DurableWordsMatch}
use Rattle.of_core.specs.Rounds.{IsBetweenRounds, IsInRound, HasNothingUnderWay}
use Rattle.of_core.specs.Scan.{IsAnnouncedCall}
use Rattle.of_core.specs.Transaction.{HasStoredLog}
use Rattle.of_core.specs.Invariant.{HoldsAtPlace, MeetsCore}
use Rattle.of_core.specs.Guarantees.{KeepsGuarantee, Guarantees}
use Rattle.of_core.proofs.States.{state_same, state_start, batch_same, batch_new}
use Rattle.of_core.proofs.Logs.{turned_same, length-log_words}
use Rattle.of_core.proofs.Assembling.{assemble, assemble_read, logs_of, small_words}
use Rattle.of_core.proofs.Alike.{begun_as}
use Rattle.of_core.proofs.Rounds.{two_rounds}
use Rattle.of_core.proofs.Stability.{log_in}
use Rattle.of_core.proofs.LongerHistory.{grown, ticket_new}
use Rattle.of_core.proofs.Touches.{differ, equals}

module _ {S : Setup} {Lawful : List ℕ → Type 0} {B : TableStart} where
  -- the machine m of caller i, at its place
  module _ {w : Moment} (g : MeetsCore S Lawful B w) {i : ℕ} (h : i < S.callers) (m : CallState) where
    -- the exchange of the current transaction
    pub exchange_current_kept : IsSoundMeaning S.meaning Lawful (first_operation_cell S) S.cells → HoldsAtPlace S B w.words w.batches i m ExchangeCurrent → KeepsGuarantee S Lawful B i w (after_counted_step S i m ExchangeCurrent w)
    exchange_current_kept sound a = go (current_word w.words == pack m.seq m.owner) refl
      where
        st : HasStoredLog S B w.words w.batches i m (length (log_words m.log)) (length (log_words m.log))
        st = a.stored

        round : IsInRound S B w.words w.batches i m
        round = st.past.looks.round

        log_old : (y : ℕ) → y < 2 * most_entries S + 1 → (y < length (log_words m.log)) ⊎ (length (log_words m.log) ≤ y) → seq_of (log_word_of S w.words i y) ≤ m.seq + 1
        log_old y u (inl l) = omega (arith, ap seq_of (st.each y l), seq_word (m.seq + 1) (get_or (log_words m.log) y 0) (small_words m.log g.shared.little st.over.over.is_log y))
        log_old y u (inr l) = omega (arith, st.rest y l u)

        ci : m.caller ≡ i
        ci = round.begun.caller

        go : {rs : List Read} → (b : Bool) → (current_word w.words == pack m.seq m.owner) ≡ b
            → KeepsGuarantee S Lawful B i w (record { words = set w.words 0 (if b then pack (m.seq + 1) m.caller else current_word w.words); machines = set w.machines i (after_commit_exchange m b); batches = w.batches ++ one_batch S w.words m b; reads = rs; loaded = w.loaded })
        go false q =
            assemble_read g h (after_commit_exchange m false) (set-get_or w.words 0 0) (append-nil w.batches)
            (record {
              begun = begun_as round.begun refl refl refl refl refl refl;
              calm = calm (later_now (cases_lt m.seq (committed_seq w.words)));
              between = between (later_now (cases_lt m.seq (committed_seq w.words)));
            })
          where
            ne : current_word w.words ≡ pack m.seq m.owner → ⊥
            ne = differ (current_word w.words) (pack m.seq m.owner) q

            later_now : (m.seq < committed_seq w.words) ⊎ (committed_seq w.words ≤ m.seq) → m.seq < committed_seq w.words
            later_now (inl l) = l
            later_now (inr l) =
                let e : m.seq ≡ committed_seq w.words = omega (arith, round.current_word.upto) in
                let z : pack m.seq m.owner ≡ current_word w.words = ap (λ (k : ℕ). pack k m.owner) e ∙ ap (pack (committed_seq w.words)) (round.current_word.same e) ∙ word_eta (current_word w.words) in
                absurd (ne (sym z))

            between : m.seq < committed_seq w.words → IsBetweenRounds w.words (next_round m)
            between l = record { few = two_rounds g h m st.past; later = λ z. omega (arith, round.later) }

            calm : m.seq < committed_seq w.words → HasNothingUnderWay S B w.words w.batches i (committed_seq w.words)
            calm l = record {
              own = omega (arith, ap seq_of a.asks, seq_word (m.seq + 1) 0 (omega arith));
              level = a.raised ∙ sym a.asks;
              shut = λ k v u o. shut k u o (cases_lt m.seq k);
              logs = λ y u. omega (arith, log_old y u (cases_lt y (length (log_words m.log))));
            }
              where
                shut : (k : ℕ) → k ≤ committed_seq w.words → (batch_at B w.batches k).owner ≡ i → (m.seq < k) ⊎ (k ≤ m.seq) → pack k 0 < request_of w.words i
                shut k u o (inl v) = absurd (round.unowned k v u o)
                shut k u o (inr v) = omega (arith, a.asks, seq_less (pack k 0) (pack (m.seq + 1) 0) (omega (arith, seq_word k 0 (omega arith), seq_word (m.seq + 1) 0 (omega arith))))
        go true q =
            assemble g h vs cs n moves shared
            (record {
              mode = record {
                caller = ci;
                owner = ci;
                says = own_says;
                upto = own_upto;
                reached = own_reached;
                call = rw new_batch own_call;
                asks = inl (elsewhere (i + 1) (omega arith) ∙ a.asks);
                unowned = λ k l u. absurd (omega (arith, new_last));
                logs = λ y u. rw (elsewhere (log_at S i y) (omega arith)) (log_old y u (cases_lt y (length (log_words m.log))));
              };
              after = omega (arith, round.current_word.from);
              upto = omega (arith, new_last);
              committed = rw new_batch refl;
              log = rw new_batch (turned_same m.log);
              done = λ k l. absurd (omega arith);
            })
          where
            vs : List ℕ
            vs = set w.words 0 (pack (m.seq + 1) m.caller)

            b : Batch
            b = record { owner = m.caller; log = m.log; calls = m.calls; announcements = λ c. announcement_of S w.words c }

            cs : List Batch
            cs = w.batches ++ b ∷ []

            n : CallState
            n = after_commit_exchange m true

            n_is : committed_seq w.words ≡ B.seq + length w.batches
            n_is = g.shared.counted.count

            was : current_word w.words ≡ pack m.seq m.owner
            was = equals (current_word w.words) (pack m.seq m.owner) q

            is_last : m.seq ≡ committed_seq w.words
            is_last = sym (ap seq_of was ∙ seq_word m.seq m.owner (omega (arith, round.current_word.owner_in, g.shared.few)))

            here : current_word vs ≡ pack (m.seq + 1) m.caller
            here = get_or-set_same w.words 0 (pack (m.seq + 1) m.caller) 0 (omega (arith, g.shared.room))

            small : m.caller < PAYLOADS
            small = rw ci (omega (arith, g.shared.few))

            new_last : committed_seq vs ≡ m.seq + 1
            new_last = ap seq_of here ∙ seq_word (m.seq + 1) m.caller small

            new_holder : committed_owner vs ≡ m.caller
            new_holder = ap payload_of here ∙ pay_word (m.seq + 1) m.caller small

            elsewhere : (c : ℕ) → (c ≡ 0 → ⊥) → get_or vs c 0 ≡ get_or w.words c 0
            elsewhere c r = get_or-set_other w.words 0 c (pack (m.seq + 1) m.caller) 0 r

            longer : length cs ≡ length w.batches + 1
            longer = length-append w.batches (b ∷ [])

            states : (k : ℕ) → k ≤ committed_seq w.words → state_after B cs k ≡ state_after B w.batches k
            states k l = state_same B w.batches (b ∷ []) k (omega arith)

            batches : (k : ℕ) → B.seq < k → k ≤ committed_seq w.words → batch_at B cs k ≡ batch_at B w.batches k
            batches k l u = batch_same B w.batches (b ∷ []) k l (omega arith)

            new_batch : batch_at B cs (m.seq + 1) ≡ b
            new_batch = batch_new B w.batches b (m.seq + 1) (omega (arith, is_last))

            n_at : m.seq ≡ B.seq + length w.batches
            n_at = omega (arith, is_last, n_is)

            is_log : IsLog S m.log
            is_log = st.over.over.is_log

            own_is : (y : ℕ) × (y < length m.calls) × (get_or m.calls y no_call ≡ record { caller = i; ticket = m.made; op = m.op; raw = m.raw })
            own_is = st.over.own is_last h

            stands : StatesFollowBatches S Lawful B cs
            stands = grown S Lawful sound B w.batches g.shared.start (logs_of g) g.shared.own_in g.shared.stands b m.seq n_at st.over.over st.over.taken st.over.ordered (omega (arith, own_is.1))

            -- a ticket cell stays, or takes the ticket that its caller announces
            ticket_how : (j : ℕ) → j < S.callers → (last_ticket_by S B cs (m.seq + 1) j ≡ last_ticket_by S B w.batches m.seq j)
                ⊎ ((y : ℕ) × (y < length m.calls) × ((get_or m.calls y no_call).caller ≡ j) × (last_ticket_by S B cs (m.seq + 1) j ≡ (get_or m.calls y no_call).ticket))
            ticket_how j l = ticket_new S Lawful sound B w.batches g.shared.start (logs_of g) g.shared.own_in g.shared.stands b m.seq n_at st.over.over st.over.taken st.over.ordered (omega (arith, own_is.1)) j l

            call_ticket : (y : ℕ) → y < length m.calls → seq_of (announcement_of S w.words (get_or m.calls y no_call).caller) ≡ (get_or m.calls y no_call).ticket
            call_ticket y l = ap seq_of (st.over.announced is_last y no_call l).says ∙ seq_word (get_or m.calls y no_call).ticket (length (get_or m.calls y no_call).op) (omega (arith, (st.over.taken y no_call l).words, g.shared.narrow))

            -- the batch's call of a caller has its ticket in the new state
            call_now : (y : ℕ) → y < length m.calls → last_ticket_by S B cs (m.seq + 1) (get_or m.calls y no_call).caller ≡ (get_or m.calls y no_call).ticket
            call_now y l = ((subst (λ (c : Batch). All (λ (d : Call). (d.caller < S.callers) × (last_ticket_by S B cs (m.seq + 1) d.caller ≡ d.ticket)) c.calls) new_batch (stands.now (m.seq + 1) (omega (arith, round.current_word.from)) (omega (arith, longer, n_at)))) y no_call l).1

            own_says : seq_of (announcement_of S vs i) ≡ m.made
            own_says = ap seq_of (elsewhere (script_word_at S i S.instrs) (omega arith) ∙ round.begun.says) ∙ seq_word m.made (length m.op) (omega (arith, round.begun.words, g.shared.narrow))

            own_now : last_ticket_by S B cs (committed_seq vs) i ≡ m.made
            own_now = ap (λ (k : ℕ). last_ticket_by S B cs k i) new_last ∙ ap (λ (c : Call). last_ticket_by S B cs (m.seq + 1) c.caller) (sym own_is.2) ∙ call_now own_is.0 own_is.1 ∙ ap (λ (c : Call). c.ticket) own_is.2

            own_upto : last_ticket_by S B cs (committed_seq vs) i ≤ m.made
            own_upto = omega (arith, own_now)

            own_reached : m.made ≤ last_ticket_by S B cs (committed_seq vs) i
            own_reached = omega (arith, own_now)

            own_call : HasCall S m.calls i m.made m.op m.raw
            own_call = record {
              place = own_is.0;
              among = own_is.1;
              caller = ap (λ (c : Call). c.caller) own_is.2;
              ticket = ap (λ (c : Call). c.ticket) own_is.2;
              same = ap (λ (c : Call). c.op) own_is.2;
              reply = (ap (λ (c : Call). c.raw.shape) (sym own_is.2), λ y l. ap (λ (c : Call). get_or c.raw.values y 0) (sym own_is.2));
            }

            behind : (j x : ℕ) → script_word S vs j x ≡ script_word S w.words j x
            behind j x = elsewhere (script_word_at S j x) (omega arith)

            which : (k : ℕ) → k ≤ committed_seq vs → (k ≤ committed_seq w.words) ⊎ (k ≡ m.seq + 1)
            which k l = pick (cases_lt (committed_seq w.words) k)
              where
                pick : (committed_seq w.words < k) ⊎ (k ≤ committed_seq w.words) → (k ≤ committed_seq w.words) ⊎ (k ≡ m.seq + 1)
                pick (inl x) = inr (omega (arith, new_last))
                pick (inr x) = inl x

            dur_same : (c : ℕ) → c < cell_count S → durable_word S vs c ≡ durable_word S w.words c
            dur_same c l = elsewhere (durable_at S c) (omega arith)

            rises : (c : ℕ) → (c ≡ 0) ⊎ (c ≡ 0 → ⊥) → get_or w.words c 0 ≤ get_or vs c 0
            rises c (inl r) = rw r (omega (arith, here, seq_less (current_word w.words) (pack (m.seq + 1) m.caller) (omega (arith, is_last, seq_word (m.seq + 1) m.caller small))))
            rises c (inr r) = omega (arith, elsewhere c r)

            low : (c : ℕ) → c < cell_count S → durable_word S vs c ≤ get_or vs c 0
            low c l = omega (arith, dur_same c l, rises c (cases_eq c 0), g.shared.durable.low c l)

            moves : Guarantees S B i w.words w.batches vs cs
            moves = record {
              same = λ e. absurd (omega (arith, new_last, is_last));
              states = λ k l u. states k u;
              batches = batches;
              limit = omega (arith, new_last, st.past.under);
              newer = λ k l u. newest k l (which k u);
              tickets = λ k j l u t. ticket_at k j l t (which k u) (ticket_how j t);
              snapshot = λ k j l u t. snap k j l (which k u);
              log_how = λ j x l u. inl (elsewhere (log_at S j x) (omega arith));
              newer_logs = λ k x l u v. newer_logs k x l v (which k u);
              script_of = λ j x l u. inl (behind j x);
              announcements = λ j l. inl (behind j S.instrs);
              newer_owner = λ k l u. newest_owner k l (which k u);
              logs = λ j l r x u. elsewhere (log_at S j x) (omega arith);
              requests = λ j l r. inl (elsewhere (j + 1) (omega (arith, is_last, longer)));
              rise = λ c l. rises c (cases_eq c 0);
              durs = λ c l. omega (arith, dur_same c l);
              low = low;
              changes = λ x l. inl (elsewhere (S.callers + 1 + x) (omega (arith, is_last, longer)));
            }
              where
                newer_logs : (k x : ℕ) → committed_seq w.words < k → x < 2 * most_entries S + 1 → (k ≤ committed_seq w.words) ⊎ (k ≡ m.seq + 1) → seq_of (log_word_of S vs i x) ≤ k
                newer_logs k x l v (inl u) = absurd (omega arith)
                newer_logs k x l v (inr u) = rw (elsewhere (log_at S i x) (omega arith), u) (log_old x v (cases_lt x (length (log_words m.log))))

                newest_owner : (k : ℕ) → committed_seq w.words < k → (k ≤ committed_seq w.words) ⊎ (k ≡ m.seq + 1) → (batch_at B cs k).owner ≡ i
                newest_owner k l (inl u) = absurd (omega arith)
                newest_owner k l (inr u) = rw (u, new_batch) ci

                newest : (k : ℕ) → committed_seq w.words < k → (k ≤ committed_seq w.words) ⊎ (k ≡ m.seq + 1) → All (λ (c : Call). IsAnnouncedCall S w.words c × (length c.op ≤ S.instrs)) (batch_at B cs k).calls
                newest k l (inl u) = absurd (omega (arith, is_last, longer))
                newest k l (inr u) = rw (u, new_batch) (λ y d t. (st.over.announced is_last y d t, (st.over.taken y d t).words))

                snap : (k j : ℕ) → committed_seq w.words < k → (k ≤ committed_seq w.words) ⊎ (k ≡ m.seq + 1) → (batch_at B cs k).announcements j ≡ announcement_of S w.words j
                snap k j l (inl u) = absurd (omega arith)
                snap k j l (inr u) = rw (u, new_batch) refl

                ticket_at : (k j : ℕ) → committed_seq w.words < k → j < S.callers → (k ≤ committed_seq w.words) ⊎ (k ≡ m.seq + 1)
                    → (last_ticket_by S B cs (m.seq + 1) j ≡ last_ticket_by S B w.batches m.seq j) ⊎ ((y : ℕ) × (y < length m.calls) × ((get_or m.calls y no_call).caller ≡ j) × (last_ticket_by S B cs (m.seq + 1) j ≡ (get_or m.calls y no_call).ticket))
                    → (last_ticket_by S B cs k j ≡ last_ticket_by S B w.batches (committed_seq w.words) j) ⊎ ((last_ticket_by S B cs k j ≡ seq_of (announcement_of S w.words j)) × (last_ticket_by S B w.batches (committed_seq w.words) j < seq_of (announcement_of S w.words j)) × (committed_seq w.words < S.limit))
                ticket_at k j l t (inl u) q = absurd (omega arith)
                ticket_at k j l t (inr u) (inl q) = inl (ap (λ (x : ℕ). last_ticket_by S B cs x j) u ∙ q ∙ ap (λ (x : ℕ). last_ticket_by S B w.batches x j) is_last)
                ticket_at k j l t (inr u) (inr q) =
                    let c : seq_of (announcement_of S w.words j) ≡ (get_or m.calls q.0 no_call).ticket = ap (λ (x : ℕ). seq_of (announcement_of S w.words x)) (sym q.2) ∙ call_ticket q.0 q.1 in
                    let d : last_ticket_by S B w.batches m.seq j < (get_or m.calls q.0 no_call).ticket = rw q.2 at (st.over.taken q.0 no_call q.1).above in
                    inr (ap (λ (x : ℕ). last_ticket_by S B cs x j) u ∙ q.3 ∙ sym c, omega (arith, c, d, ap (λ (x : ℕ). last_ticket_by S B w.batches x j) is_last), omega (arith, is_last, st.past.under))

            asks : request_of vs (committed_owner vs) ≡ pack (committed_seq vs) 0
            asks = ap (request_of vs) (new_holder ∙ ci) ∙ elsewhere (i + 1) (omega arith) ∙ a.asks ∙ ap (λ (k : ℕ). pack k 0) (sym new_last)

            opened : IsLastOpen B vs
            opened = record { any = omega (arith, new_last, round.current_word.from, is_last, longer); asks = asks }

            counted : CountsBatches S B vs cs
            counted = record {
              count = omega (arith, new_last, longer, is_last);
              limit = omega (arith, new_last, st.past.under, is_last, longer);
              owner = λ l. rw (new_last, new_batch) new_holder;
              first = λ l. absurd (omega (arith, new_last, round.current_word.from, l));
              owner_in = rw (new_holder, ci) h;
              owners = λ k l u. owners k l (which k u);
              logs = λ k l u. logs k l (which k u);
            }
              where
                owners : (k : ℕ) → B.seq < k → (k ≤ committed_seq w.words) ⊎ (k ≡ m.seq + 1) → (batch_at B cs k).owner < S.callers
                owners k l (inl u) = rw (batches k l u) (g.shared.counted.owners k l u)
                owners k l (inr u) = rw (u, new_batch, ci) h

                logs : (k : ℕ) → B.seq < k → (k ≤ committed_seq w.words) ⊎ (k ≡ m.seq + 1) → IsLog S (batch_at B cs k).log
                logs k l (inl u) = rw (batches k l u) (g.shared.counted.logs k l u)
                logs k l (inr u) = rw (u, new_batch) is_log

            closed_now : IsLastOpen B w.words → ⊥
            closed_now o = let z : pack m.seq 0 < request_of w.words (committed_owner w.words) = st.past.looks.state.quiet is_last (omega (arith, o.any, is_last)) in omega (arith, o.asks, ap (λ (k : ℕ). pack k 0) is_last)

            d_is : durable_seq S w.words ≡ m.seq
            d_is = d_of g.shared.durable.step
              where
                d_of : (committed_seq w.words ≡ durable_seq S w.words) ⊎ ((committed_seq w.words ≡ durable_seq S w.words + 1) × IsLastOpen B w.words) → durable_seq S w.words ≡ m.seq
                d_of (inl z) = omega (arith, z, is_last)
                d_of (inr z) = absurd (closed_now z.1)

            durable : DurableWordsMatch S B vs cs
            durable = let d = g.shared.durable in let r0 = dur_same 0 (omega arith) in record {
              low = low;
              from = rw r0 d.from;
              owner = λ l. rw (r0, batches (durable_seq S w.words) (rw r0 at l) (omega (arith, d_is, is_last))) (d.owner (rw r0 at l));
              first = rw r0 d.first;
              step = inr (omega (arith, new_last, d_is, ap seq_of r0), opened);
              fresh = λ x l. rw (r0, elsewhere (S.callers + 1 + x) (omega arith)) (d.fresh x l);
              cells = λ x l. inl (cells x l (d.cells x l));
              begun = λ l. rw (dur_same (request_at B.owner) (omega (arith, g.shared.start.owner_in))) (d.begun l);
              floor = λ k l u. floor k l (which k u);
              logs = λ k l u j o q x v lx z. logs k l j o q x v lx z (which k u);
            }
              where
                cells : (x : ℕ) → x < S.cells → (durable_cell S w.words x ≡ data_word_after B w.batches (durable_seq S w.words) x) ⊎ (IsLastOpen B w.words × (committed_seq w.words ≡ durable_seq S w.words) × (durable_cell S w.words x ≡ data_word_after B w.batches (durable_seq S w.words - 1) x)) → durable_cell S vs x ≡ data_word_after B cs (durable_seq S vs) x
                cells x l (inl q) = dur_same (data_at S x) (omega arith) ∙ q ∙ ap (λ (ys : List ℕ). get_or ys x 0) (sym (states (durable_seq S w.words) (omega (arith, d_is, is_last)))) ∙ ap (λ (k : ℕ). data_word_after B cs (seq_of k) x) (sym (dur_same 0 (omega arith)))
                cells x l (inr q) = absurd (closed_now q.0)

                floor : (k : ℕ) → B.seq < k → (k ≤ committed_seq w.words) ⊎ (k ≡ m.seq + 1) → pack k 0 ≤ durable_request S vs (batch_at B cs k).owner
                floor k l (inl u) = rw (batches k l u, dur_same (request_at (batch_at B w.batches k).owner) (omega (arith, g.shared.counted.owners k l u))) (g.shared.durable.floor k l u)
                floor k l (inr u) =
                    let o : (batch_at B cs k).owner ≡ i = ap (λ (q : ℕ). (batch_at B cs q).owner) u ∙ ap (λ (c : Batch). c.owner) new_batch ∙ ci in
                    rw (o, u) (omega (arith, dur_same (request_at i) (omega arith), a.raised))

                logs : (k : ℕ) → B.seq < k → (j : ℕ) → (batch_at B cs k).owner ≡ j → durable_request S vs j ≡ pack k 0 → (x v : ℕ) → x < length (log_words (batch_at B cs k).log) → get_or (log_words (batch_at B cs k).log) x 0 ≡ v → (k ≤ committed_seq w.words) ⊎ (k ≡ m.seq + 1)
                    → (log_word_of S vs j x ≡ pack k v) × (durable_log S vs j x ≡ pack k v)
                logs k l j o q x v lx z (inl u) =
                    let e : batch_at B cs k ≡ batch_at B w.batches k = batches k l u in
                    let o' : (batch_at B w.batches k).owner ≡ j = sym (ap (λ (c : Batch). c.owner) e) ∙ o in
                    let j_in : j < S.callers = rw (← o') (g.shared.counted.owners k l u) in
                    let lx' : x < length (log_words (batch_at B w.batches k).log) = subst (λ (c : Batch). x < length (log_words c.log)) e lx in
                    let z' : get_or (log_words (batch_at B w.batches k).log) x 0 ≡ v = subst (λ (c : Batch). get_or (log_words c.log) x 0 ≡ v) e z in
                    let x_in : x < 2 * most_entries S + 1 = omega (arith, length-log_words (batch_at B w.batches k).log, (g.shared.counted.logs k l u).few) in
                    let p = g.shared.durable.logs k l u j o' (sym (dur_same (request_at j) (omega arith)) ∙ q) x v lx' z' in
                    (elsewhere (log_at S j x) (omega arith) ∙ p.0, dur_same (log_at S j x) (log_in S j x j_in x_in) ∙ p.1)
                logs k l j o q x v lx z (inr u) =
                    let e : batch_at B cs k ≡ b = ap (batch_at B cs) u ∙ new_batch in
                    let o' : i ≡ j = sym ci ∙ sym (ap (λ (c : Batch). c.owner) e) ∙ o in
                    let lx' : x < length (log_words m.log) = subst (λ (c : Batch). x < length (log_words c.log)) e lx in
                    let z' : get_or (log_words m.log) x 0 ≡ v = subst (λ (c : Batch). get_or (log_words c.log) x 0 ≡ v) e z in
                    let x_in : x < 2 * most_entries S + 1 = omega (arith, length-log_words m.log, st.over.over.is_log.few) in
                    let r : pack (m.seq + 1) (get_or (log_words m.log) x 0) ≡ pack k v = ap (pack (m.seq + 1)) z' ∙ ap (λ (n : ℕ). pack n v) (sym u) in
                    subst (λ (p : ℕ). (log_word_of S vs p x ≡ pack k v) × (durable_log S vs p x ≡ pack k v)) o'
                    (elsewhere (log_at S i x) (omega arith) ∙ st.each x lx' ∙ r, dur_same (log_at S i x) (log_in S i x h x_in) ∙ st.durable x lx' ∙ r)

            data_cells : DataCellsMatchState S B vs cs
            data_cells = record { each = λ x l. inr (opened, each x l (g.shared.data_cells.each x l)) }
              where
                back : committed_seq vs - 1 ≡ committed_seq w.words
                back = omega (arith, new_last, is_last, longer)

                each : (x : ℕ) → x < S.cells → (data_word S w.words x ≡ data_word_after B w.batches (committed_seq w.words) x) ⊎ (IsLastOpen B w.words × (data_word S w.words x ≡ data_word_after B w.batches (committed_seq w.words - 1) x)) → data_word S vs x ≡ data_word_after B cs (committed_seq vs - 1) x
                each x l (inl d) = rw (back, states (committed_seq w.words) (omega (arith, is_last, longer, new_last))) (elsewhere (S.callers + 1 + x) (omega (arith, is_last, longer, new_last)) ∙ d)
                each x l (inr d) = let z : pack m.seq 0 < request_of w.words (committed_owner w.words) = st.past.looks.state.quiet is_last (omega (arith, d.0.any, is_last, longer, new_last)) in
                    absurd (omega (arith, d.0.asks, ap (λ (k : ℕ). pack k 0) is_last, longer, new_last))

            requests : RequestsMatchBatches S B vs cs
            requests = record { floor = λ l. rw (elsewhere (B.owner + 1) (omega arith)) (g.shared.requests.floor l); closed = λ k l u. closed k l (cases_lt k (committed_seq w.words)) (omega (arith, new_last, is_last, longer)); latest = λ l. omega (arith, asks, is_last, longer, new_last) }
              where
                closed : (k : ℕ) → B.seq < k → (k < committed_seq w.words) ⊎ (committed_seq w.words ≤ k) → k ≤ committed_seq w.words → pack k 0 < request_of vs (batch_at B cs k).owner
                closed k l (inl u) v = rw (batches k l v, elsewhere ((batch_at B w.batches k).owner + 1) (omega (arith, is_last, longer, new_last))) (g.shared.requests.closed k l u)
                closed k l (inr u) v =
                    let e : k ≡ m.seq = omega (arith, is_last, longer, new_last) in
                    let o : committed_owner w.words ≡ (batch_at B w.batches k).owner = rw (e, is_last) (g.shared.counted.owner (omega (arith, is_last, longer, new_last))) in
                    rw (batches k l v, elsewhere ((batch_at B w.batches k).owner + 1) (omega (arith, is_last, longer, new_last)), ← o, e) (st.past.looks.state.quiet is_last (omega (arith, is_last, longer, new_last)))

            heard : AnnouncementsAreServed S B vs cs
            heard = record {
              small = λ j l. rw (behind j S.instrs) (g.shared.heard.small j l);
              tickets = λ j l. rw (behind j S.instrs) (g.shared.heard.tickets j l);
              some = λ j l. rw (behind j S.instrs) (g.shared.heard.some j l);
              before = λ k j l u t. rw (behind j S.instrs) (before k j l (which k u) t);
              met = λ k j l u t q. rw (behind j S.instrs) (met k j l (cases_lt k (committed_seq w.words)) (omega (arith, new_last, is_last)) t (q ∙ behind j S.instrs));
              reached = λ j l. rw (behind j S.instrs) (reached j l (ticket_how j l));
              counts = λ j l. rw (elsewhere (log_at S j 0) (omega arith)) (g.shared.heard.counts j l);
            }
              where
                reached : (j : ℕ) → j < S.callers → (last_ticket_by S B cs (m.seq + 1) j ≡ last_ticket_by S B w.batches m.seq j) ⊎ ((y : ℕ) × (y < length m.calls) × ((get_or m.calls y no_call).caller ≡ j) × (last_ticket_by S B cs (m.seq + 1) j ≡ (get_or m.calls y no_call).ticket))
                    → last_ticket_by S B cs (committed_seq vs) j ≤ max (last_ticket_by S B cs B.seq j) (seq_of (announcement_of S w.words j))
                reached j l (inl q) =
                    let z : last_ticket_by S B cs B.seq j ≡ last_ticket_by S B w.batches B.seq j = ap (λ (ys : List ℕ). payload_of (get_or ys (ticket_cell S j) 0)) (state_start B cs ∙ sym (state_start B w.batches)) in
                    omega (arith, g.shared.heard.reached j l, q, z, ap (λ (x : ℕ). last_ticket_by S B cs x j) new_last, ap (λ (x : ℕ). last_ticket_by S B w.batches x j) is_last)
                reached j l (inr q) =
                    let c : seq_of (announcement_of S w.words j) ≡ (get_or m.calls q.0 no_call).ticket = ap (λ (x : ℕ). seq_of (announcement_of S w.words x)) (sym q.2) ∙ call_ticket q.0 q.1 in
                    omega (arith, c, q.3, ap (λ (x : ℕ). last_ticket_by S B cs x j) new_last)

                before : (k j : ℕ) → B.seq < k → (k ≤ committed_seq w.words) ⊎ (k ≡ m.seq + 1) → j < S.callers → seq_of ((batch_at B cs k).announcements j) ≤ seq_of (announcement_of S w.words j)
                before k j l (inl u) t = rw (batches k l u) (g.shared.heard.before k j l u t)
                before k j l (inr u) t = rw (u, new_batch) (omega arith)

                met : (k j : ℕ) → B.seq < k → (k < committed_seq w.words) ⊎ (committed_seq w.words ≤ k) → k ≤ committed_seq w.words → j < S.callers → (batch_at B cs k).announcements j ≡ announcement_of S w.words j → seq_of (announcement_of S w.words j) ≤ last_ticket_by S B cs (k + 1) j
                met k j l (inl u) v t q =
                    let e = batches k l v in
                    rw (states (k + 1) (omega arith)) (g.shared.heard.met k j l u t (ap (λ (c : Batch). c.announcements j) (sym e) ∙ q))
                met k j l (inr u) v t q =
                    let e : k ≡ m.seq = omega (arith, is_last) in
                    let q' : (batch_at B w.batches m.seq).announcements j ≡ announcement_of S w.words j = ap (λ (x : ℕ). (batch_at B w.batches x).announcements j) (sym e) ∙ ap (λ (c : Batch). c.announcements j) (sym (batches k l v)) ∙ q in
                    subst (λ (x : ℕ). seq_of (announcement_of S w.words j) ≤ last_ticket_by S B cs (x + 1) j) (sym e) (met_now (st.over.met (omega (arith, l, e)) j t t q'))
                  where
                    met_now : (seq_of (announcement_of S w.words j) ≤ last_ticket_by S B w.batches m.seq j) ⊎ ((y : ℕ) × (y < length m.calls) × ((get_or m.calls y no_call).caller ≡ j) × ((get_or m.calls y no_call).ticket ≡ seq_of (announcement_of S w.words j))) → seq_of (announcement_of S w.words j) ≤ last_ticket_by S B cs (m.seq + 1) j
                    met_now (inl z) = let y : last_ticket_by S B cs m.seq j ≤ last_ticket_by S B cs (m.seq + 1) j = stands.grow m.seq j round.current_word.from (omega (arith, longer, n_at)) t in
                        let x : last_ticket_by S B cs m.seq j ≡ last_ticket_by S B w.batches m.seq j = ap (λ (xs : List ℕ). ticket_in_state S xs j) (states m.seq round.current_word.upto) in
                        omega arith
                    met_now (inr z) = let y : last_ticket_by S B cs (m.seq + 1) j ≡ (get_or m.calls z.0 no_call).ticket = rw z.2 at (call_now z.0 z.1) in omega (arith, z.3)

            shared : WordsMatchHistory S Lawful B vs cs
            shared = record {
              start = g.shared.start;
              few = g.shared.few;
              narrow = g.shared.narrow;
              heard = heard;
              kinds = record {
                requests = λ j l. request_now j (request_of vs j) (subst (λ (y : ℕ). IsRequest B w.words w.batches j y) (sym (elsewhere (j + 1) (omega arith))) (g.shared.kinds.requests j l));
                dur_requests = λ j l. request_now j (durable_request S vs j) (subst (λ (y : ℕ). IsRequest B w.words w.batches j y) (sym (dur_same (request_at j) (omega arith))) (g.shared.kinds.dur_requests j l));
                logs = λ j x l u. log_now j x (log_word_of S vs j x) (subst (λ (y : ℕ). IsLogWord B w.words w.batches j x y) (sym (elsewhere (log_at S j x) (omega arith))) (g.shared.kinds.logs j x l u)) (λ e v. table x u (ap (λ (k : ℕ). log_word_of S vs k x) e ∙ elsewhere (log_at S i x) (omega arith)) v);
                dur_logs = λ j x l u. log_now j x (durable_log S vs j x) (subst (λ (y : ℕ). IsLogWord B w.words w.batches j x y) (sym (dur_same (log_at S j x) (log_in S j x l u))) (g.shared.kinds.dur_logs j x l u)) (λ e v. durably x u (ap (λ (k : ℕ). durable_log S vs k x) e ∙ dur_same (log_at S i x) (log_in S i x h u)) v);
                sized = λ j y l u. rw (elsewhere (log_at S j (2 * y + 1)) (omega arith)) (g.shared.kinds.sized j y l u);
              };
              little = g.shared.little;
              durable = durable;
              own_in = g.shared.own_in;
              room = rw length-set g.shared.room;
              counted = counted;
              data_cells = data_cells;
              requests = requests;
              stands = stands;
            }
              where
                request_now : (j v : ℕ) → IsRequest B w.words w.batches j v → IsRequest B vs cs j v
                request_now j v r l = again_is (r l)
                  where
                    again_is : (payload_of v ≡ 0) ⊎ ((payload_of v ≡ 1) × (seq_of v ≤ committed_seq w.words) × ((batch_at B w.batches (seq_of v)).owner ≡ j)) → (payload_of v ≡ 0) ⊎ ((payload_of v ≡ 1) × (seq_of v ≤ committed_seq vs) × ((batch_at B cs (seq_of v)).owner ≡ j))
                    again_is (inl q) = inl q
                    again_is (inr q) = inr (q.0, omega (arith, q.1, new_last, is_last), ap (λ (c : Batch). c.owner) (batches (seq_of v) l q.1) ∙ q.2)

                -- a log word with the new batch's sequence is stored and durable
                stored_word : (x v : ℕ) → x < length (log_words m.log) → v ≡ pack (m.seq + 1) (get_or (log_words m.log) x 0) → (x < length (log_words m.log)) × (payload_of v ≡ get_or (log_words m.log) x 0)
                stored_word x v l e = (l, ap payload_of e ∙ pay_word (m.seq + 1) (get_or (log_words m.log) x 0) (small_words m.log g.shared.little is_log x))

                table : (x : ℕ) {v : ℕ} → x < 2 * most_entries S + 1 → v ≡ log_word_of S w.words i x → seq_of v ≡ m.seq + 1 → (x < length (log_words m.log)) × (payload_of v ≡ get_or (log_words m.log) x 0)
                table x {v} u e q = pick (cases_lt x (length (log_words m.log)))
                  where
                    pick : (x < length (log_words m.log)) ⊎ (length (log_words m.log) ≤ x) → (x < length (log_words m.log)) × (payload_of v ≡ get_or (log_words m.log) x 0)
                    pick (inl l) = stored_word x v l (e ∙ st.each x l)
                    pick (inr l) = absurd (omega (arith, q, ap seq_of e, st.rest x l u))

                durably : (x : ℕ) {v : ℕ} → x < 2 * most_entries S + 1 → v ≡ durable_log S w.words i x → seq_of v ≡ m.seq + 1 → (x < length (log_words m.log)) × (payload_of v ≡ get_or (log_words m.log) x 0)
                durably x {v} u e q = pick (cases_lt x (length (log_words m.log)))
                  where
                    pick : (x < length (log_words m.log)) ⊎ (length (log_words m.log) ≤ x) → (x < length (log_words m.log)) × (payload_of v ≡ get_or (log_words m.log) x 0)
                    pick (inl l) = stored_word x v l (e ∙ st.durable x l)
                    pick (inr l) = absurd (omega (arith, q, ap seq_of e, st.rest x l u, seq_mono (durable_log S w.words i x) (log_word_of S w.words i x) (g.shared.durable.low (log_at S i x) (log_in S i x h u))))

                log_now : (j x v : ℕ) → IsLogWord B w.words w.batches j x v → (j ≡ i → seq_of v ≡ m.seq + 1 → (x < length (log_words m.log)) × (payload_of v ≡ get_or (log_words m.log) x 0)) → IsLogWord B vs cs j x v
                log_now j x v r new l u o = pick (which (seq_of v) u)
                  where
                    pick : (seq_of v ≤ committed_seq w.words) ⊎ (seq_of v ≡ m.seq + 1) → (x < length (log_words (batch_at B cs (seq_of v)).log)) × (payload_of v ≡ get_or (log_words (batch_at B cs (seq_of v)).log) x 0)
                    pick (inl k) =
                        let e = batches (seq_of v) l k in
                        subst (λ (c : Batch). (x < length (log_words c.log)) × (payload_of v ≡ get_or (log_words c.log) x 0)) (sym e) (r l k (ap (λ (c : Batch). c.owner) (sym e) ∙ o))
                    pick (inr k) =
                        let e : batch_at B cs (seq_of v) ≡ b = ap (batch_at B cs) k ∙ new_batch in
                        subst (λ (c : Batch). (x < length (log_words c.log)) × (payload_of v ≡ get_or (log_words c.log) x 0)) (sym e) (new (sym o ∙ ap (λ (c : Batch). c.owner) e ∙ ci) k)
