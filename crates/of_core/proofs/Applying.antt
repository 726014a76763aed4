-- The entries of a transaction are applied, and its request is closed.
use Rattle.std.proofs.Common.{◌≡◌, ℕ, ◌+◌, ◌-◌, ◌<◌, ◌≤◌, ◌⊎◌, ◌==◌, inl, inr, List, [], ◌++◌, length, get_or, set, refl, sym, ◌∙◌, ap, subst, arith, length-set, Bool, true, false, if◌then◌else◌, nat_lt}
use Rattle.std.proofs.lemmas.Bool.{cases_eq, cases_lt}
use Rattle.std.proofs.lemmas.Bool.Decides.{nat_tests}
use Rattle.std.proofs.lemmas.List.{append-nil, set-get_or, get_or-set_same, get_or-set_other}
use Rattle.of_cell.specs.Words.{pack, seq_of, payload_of}
use Rattle.of_cell.proofs.Order.{seq_less, seq_word, pay_word, word_more}
use Rattle.of_core.specs.declared.place.Place.TheVariants.{LoadTarget, ExchangeTarget, ReloadTarget, CloseRequest}
use Rattle.of_core.specs.Table.{Setup, script_word_at, cell_count, durable_at, log_at, script_word, current_word, request_of, data_word, log_word_of, durable_word, durable_cell, committed_seq, durable_seq}
use Rattle.of_core.specs.Machine.{CallState, log_entry}
use Rattle.of_core.specs.Steps.{after_load_target, take_word_at}
use Rattle.of_core.specs.TableMoment.{Read, Moment, TableStart, after_counted_step}
use Rattle.of_core.specs.History.{batch_at, data_word_after}
use Rattle.of_core.specs.WordsMatch.{WordsHaveTheirKind, IsRequest, IsLastOpen, DataCellsMatchState, IsEntry, DurableWordsMatch}
use Rattle.of_core.specs.Invariant.{HoldsAtPlace, MeetsCore}
use Rattle.of_core.specs.Guarantees.{KeepsGuarantee}
use Rattle.of_core.proofs.States.{old, named_at, named_later, unnamed, cases_named}
use Rattle.of_core.proofs.Alike.{applies_as, entry_as}
use Rattle.of_core.proofs.Assembling.{assemble, assemble_read, logs_of}
use Rattle.of_core.proofs.Stability.{entry_in, owner_in as owner_of, at_stable, floor_of}
use Rattle.of_core.proofs.Touches.{Touches, step_open, cells_open, open_of, durable_of, heard_of, held_now, kinds_same, moves_of, request_same, shared_of}

module _ {S : Setup} {Lawful : List ℕ → Type 0} {B : TableStart} where
  -- the machine m of caller i, at its place
  module _ {w : Moment} (g : MeetsCore S Lawful B w) {i : ℕ} (h : i < S.callers) (m : CallState) where
    pub load_target_kept : (j : ℕ) → HoldsAtPlace S B w.words w.batches i m (LoadTarget j) → KeepsGuarantee S Lawful B i w (after_counted_step S i m (LoadTarget j) w)
    load_target_kept j a = assemble_read g h (take_word_at S m found (LoadTarget j)) (set-get_or w.words (S.callers + 1 + (log_entry m j).0) 0) (append-nil w.batches) (
        go (nat_lt (seq_of found) m.seq) refl)
      where
        found : ℕ
        found = data_word S w.words (log_entry m j).0

        go : (b : Bool) → nat_lt (seq_of found) m.seq ≡ b → HoldsAtPlace S B w.words w.batches i (after_load_target m j found b) (after_load_target m j found b).place
        go true e = record { entry = entry_as a refl refl refl refl refl refl refl refl refl refl refl refl; older = (let x : seq_of found < m.seq = grind (arith, nat_tests) in x); found = inl refl }
        go false e = record {
          entry = entry_as a refl refl refl refl refl refl refl refl refl refl refl refl;
          newer = (let x : m.seq ≤ seq_of found = grind (arith, nat_tests) in x);
          low = omega arith;
          held = held_now g (log_entry m j).0 (entry_in g.shared a.applies j a.more).0;
        }

    pub reload_target_kept : (j : ℕ) → HoldsAtPlace S B w.words w.batches i m (ReloadTarget j) → KeepsGuarantee S Lawful B i w (after_counted_step S i m (ReloadTarget j) w)
    reload_target_kept j a = assemble_read g h (take_word_at S m (data_word S w.words (log_entry m j).0) (ReloadTarget j)) (set-get_or w.words (S.callers + 1 + (log_entry m j).0) 0) (append-nil w.batches)
        (record { entry = entry_as a.entry refl refl refl refl refl refl refl refl refl refl refl refl; newer = a.newer; low = omega arith; held = held_now g (log_entry m j).0 (entry_in g.shared a.entry.applies j a.entry.more).0 })

    pub exchange_target_kept : (j f : ℕ) → HoldsAtPlace S B w.words w.batches i m (ExchangeTarget j f) → KeepsGuarantee S Lawful B i w (after_counted_step S i m (ExchangeTarget j f) w)
    exchange_target_kept j f a = go (found == f) refl
      where
        x : ℕ
        x = (log_entry m j).0

        found : ℕ
        found = data_word S w.words x

        new : ℕ
        new = pack m.seq (log_entry m j).1

        e : IsEntry S (log_entry m j)
        e = entry_in g.shared a.entry.applies j a.entry.more

        n_is : committed_seq w.words ≡ B.seq + length w.batches
        n_is = g.shared.counted.count

        new_seq : seq_of new ≡ m.seq
        new_seq = seq_word m.seq (log_entry m j).1 e.1

        n : CallState
        n = take_word_at S m found (ExchangeTarget j f)

        go : {rs : List Read} → (b : Bool) → (found == f) ≡ b
            → KeepsGuarantee S Lawful B i w (record { words = set w.words (S.callers + 1 + x) (if b then new else found); machines = set w.machines i n; batches = w.batches ++ []; reads = rs; loaded = w.loaded })
        go false q =
            let y : found ≡ f → ⊥ = grind (arith, nat_tests) in
            assemble_read g h n (set-get_or w.words (S.callers + 1 + x) 0) (append-nil w.batches)
            (record { entry = entry_as a.entry refl refl refl refl refl refl refl refl refl refl refl refl; newer = newer y a.found })
          where
            newer : (found ≡ f → ⊥) → (found ≡ f) ⊎ (m.seq ≤ seq_of found) → m.seq ≤ seq_of found
            newer y (inl z) = absurd (y z)
            newer y (inr z) = z
        go true q =
            rw (append-nil w.batches)
            (assemble g h vs w.batches n (moves_of (touches i) g.shared) (shared_of (touches i) g.shared data_cells durable (heard_of (touches i) g.shared behind (λ p l. rw (log_kept_at p) (g.shared.heard.counts p l))) kinds)
            (record { entry = entry_as kept.entry refl refl refl refl refl refl refl refl refl refl refl refl; newer = rw here (omega (arith, new_seq)) }))
          where
            vs : List ℕ
            vs = set w.words (S.callers + 1 + x) new

            same : found ≡ f
            same = grind (arith, nat_tests)

            fits : S.callers + 1 + x < length w.words
            fits = omega (arith, g.shared.room, e.0)

            here : data_word S vs x ≡ new
            here = get_or-set_same w.words (S.callers + 1 + x) new 0 fits

            elsewhere : (c : ℕ) → (c ≡ S.callers + 1 + x → ⊥) → get_or vs c 0 ≡ get_or w.words c 0
            elsewhere c r = get_or-set_other w.words (S.callers + 1 + x) c new 0 r

            current_same : current_word vs ≡ current_word w.words
            current_same = elsewhere 0 (omega arith)

            req_same : (k : ℕ) → k < S.callers → request_of vs k ≡ request_of w.words k
            req_same k l = elsewhere (k + 1) (omega arith)

            log_same : (k y : ℕ) → log_word_of S vs k y ≡ log_word_of S w.words k y
            log_same k y = elsewhere (log_at S k y) (omega (arith, e.0))

            behind : (k y : ℕ) → script_word S vs k y ≡ script_word S w.words k y
            behind k y = elsewhere (script_word_at S k y) (omega (arith, e.0))

            log_kept_at : (k : ℕ) → log_word_of S vs k 0 ≡ log_word_of S w.words k 0
            log_kept_at k = log_same k 0

            dur_same : (c : ℕ) → c < cell_count S → durable_word S vs c ≡ durable_word S w.words c
            dur_same c l = elsewhere (durable_at S c) (omega (arith, e.0))

            older : seq_of found < m.seq
            older = rw same a.older

            cell_same : (y : ℕ) → (y ≡ x → ⊥) → data_word S vs y ≡ data_word S w.words y
            cell_same y r = elsewhere (S.callers + 1 + y) (omega arith)

            -- a cell of an older transaction's entry can't be found older
            is_last : m.seq ≡ committed_seq w.words
            is_last = last_or (g.shared.data_cells.each x e.0) (cases_lt m.seq (committed_seq w.words))
              where
                t : (k : ℕ) × (k < length (batch_at B w.batches m.seq).log) × (get_or (batch_at B w.batches m.seq).log k (0, 0) ≡ log_entry m j)
                t = a.entry.applies.log.each j a.entry.more

                from : (n : ℕ) → m.seq ≤ n → n ≤ B.seq + length w.batches → m.seq ≤ seq_of (data_word_after B w.batches n x)
                from n l k = subst (λ (e : ℕ × ℕ). m.seq ≤ seq_of (data_word_after B w.batches n e.0)) t.2 (named_later S B w.batches g.shared.start (logs_of g) m.seq n t.0 a.entry.applies.after l k t.1)

                last_or : (found ≡ data_word_after B w.batches (committed_seq w.words) x) ⊎ (IsLastOpen B w.words × (found ≡ data_word_after B w.batches (committed_seq w.words - 1) x)) → (m.seq < committed_seq w.words) ⊎ (committed_seq w.words ≤ m.seq) → m.seq ≡ committed_seq w.words
                last_or d (inr l) = omega (arith, a.entry.applies.upto)
                last_or (inl d) (inl l) = absurd (omega (arith, older, from (committed_seq w.words) (omega arith) (omega (arith, n_is)), ap seq_of d))
                last_or (inr d) (inl l) = absurd (omega (arith, older, from (committed_seq w.words - 1) (omega arith) (omega (arith, n_is)), ap seq_of d.1))

            rises : (c : ℕ) → (c ≡ S.callers + 1 + x) ⊎ (c ≡ S.callers + 1 + x → ⊥) → get_or w.words c 0 ≤ get_or vs c 0
            rises c (inl r) = rw r (omega (arith, here, seq_less found new (omega (arith, older, new_seq))))
            rises c (inr r) = omega (arith, elsewhere c r)

            touches : (k : ℕ) → Touches S B k w.words vs w.batches
            touches k = record {
              room = length-set w.words (S.callers + 1 + x) new;
              current_word = current_same;
              requests = λ k l r. inl (req_same k l);
              logs = λ k l r y u. log_same k y;
              changes = λ y l. cells_change y (cases_eq y x);
              rise = λ c l. rises c (cases_eq c (S.callers + 1 + x));
              durs = dur_same;
              log_how = λ k y l u. inl (log_same k y);
              script_of = λ k y l u. inl (behind k y);
              announcements = λ k l. inl (behind k S.instrs);
            }
              where
                cells_change : (y : ℕ) → (y ≡ x) ⊎ (y ≡ x → ⊥) → (data_word S vs y ≡ data_word S w.words y) ⊎ (committed_seq w.words ≤ seq_of (data_word S vs y))
                cells_change y (inl r) = inr (rw (r, here, new_seq) (omega (arith, is_last)))
                cells_change y (inr r) = inl (cell_same y r)

            open_same : IsLastOpen B w.words → IsLastOpen B vs
            open_same = open_of (touches i) g.shared req_same

            kinds : WordsHaveTheirKind S B vs w.batches
            kinds = kinds_same (touches i) g.shared (λ k l. request_same (touches i) g.shared k l (req_same k l)) (λ k y l u. log_same k y)

            kept : HoldsAtPlace S B vs w.batches i m (ExchangeTarget j f)
            kept = at_stable S Lawful B (i + 1) w.words w.batches vs w.batches (moves_of (touches (i + 1)) g.shared) g.shared i h (λ z. omega arith) m (ExchangeTarget j f) a

            in_state : new ≡ data_word_after B w.batches (committed_seq w.words) x
            in_state = let t = a.entry.applies.log.each j a.entry.more in
                let q : data_word_after B w.batches m.seq x ≡ new = subst (λ (e : ℕ × ℕ). data_word_after B w.batches m.seq e.0 ≡ pack m.seq e.1) t.2 (named_at S B w.batches g.shared.start (logs_of g) m.seq t.0 a.entry.applies.after (omega (arith, a.entry.applies.upto, n_is)) t.1) in
                rw (← is_last) (sym q)

            data_cells : DataCellsMatchState S B vs w.batches
            data_cells = record { each = λ y l. each y l (cases_eq y x) (g.shared.data_cells.each y l) }
              where
                each : (y : ℕ) → y < S.cells → (y ≡ x) ⊎ (y ≡ x → ⊥) → (data_word S w.words y ≡ data_word_after B w.batches (committed_seq w.words) y) ⊎ (IsLastOpen B w.words × (data_word S w.words y ≡ data_word_after B w.batches (committed_seq w.words - 1) y))
                    → (data_word S vs y ≡ data_word_after B w.batches (committed_seq vs) y) ⊎ (IsLastOpen B vs × (data_word S vs y ≡ data_word_after B w.batches (committed_seq vs - 1) y))
                each y l (inl r) d = inl (rw (r, current_same) (here ∙ in_state))
                each y l (inr r) (inl d) = inl (rw current_same (cell_same y r ∙ d))
                each y l (inr r) (inr d) = inr (open_same d.0, rw current_same (cell_same y r ∙ d.1))

            durable : DurableWordsMatch S B vs w.batches
            durable = durable_of (touches i) g.shared (λ y l. fresh y l (cases_eq y x)) (step_open open_same) (λ y l. cells_open open_same (g.shared.durable.cells y l)) (λ k l u p o q y v. log_same p y)
              where
                fresh : (y : ℕ) → y < S.cells → (y ≡ x) ⊎ (y ≡ x → ⊥) → seq_of (data_word S vs y) ≤ durable_seq S w.words
                fresh y l (inl r) = rw (r, here, new_seq) a.entry.durable
                fresh y l (inr r) = rw (cell_same y r) (g.shared.durable.fresh y l)

    pub close_request_kept : HoldsAtPlace S B w.words w.batches i m CloseRequest → KeepsGuarantee S Lawful B i w (after_counted_step S i m CloseRequest w)
    close_request_kept a = go (found == pack m.seq 0) refl
      where
        found : ℕ
        found = request_of w.words m.owner

        n : CallState
        n = take_word_at S m found CloseRequest

        n_is : committed_seq w.words ≡ B.seq + length w.batches
        n_is = g.shared.counted.count

        owner_in : m.owner < S.callers
        owner_in = owner_of g.shared a.applies

        go : {rs : List Read} → (b : Bool) → (found == pack m.seq 0) ≡ b
            → KeepsGuarantee S Lawful B i w (record { words = set w.words (m.owner + 1) (if b then pack m.seq 1 else found); machines = set w.machines i n; batches = w.batches ++ []; reads = rs; loaded = w.loaded })
        go false q =
            let z : found ≡ pack m.seq 0 → ⊥ = grind (arith, nat_tests) in
            let f : pack m.seq 0 ≤ found = rw a.applies.committed at (floor_of S Lawful B w.words w.batches g.shared m.seq a.applies.after a.applies.upto) in
            assemble_read g h n (set-get_or w.words (m.owner + 1) 0) (append-nil w.batches)
            (record { applies = applies_as a.applies refl refl refl refl refl refl refl refl refl refl refl refl a.applies.done; durable = a.durable; closed = omega arith })
        go true q =
            rw (append-nil w.batches)
            (assemble g h vs w.batches n (moves_of (touches i) g.shared) (shared_of (touches i) g.shared data_cells durable (heard_of (touches i) g.shared behind (λ p l. rw (log_kept_at p) (g.shared.heard.counts p l))) kinds)
            (record { applies = applies_as kept.applies refl refl refl refl refl refl refl refl refl refl refl refl kept.applies.done; durable = kept.durable; closed = rw here (word_more m.seq 0 1 (omega arith)) }))
          where
            was : found ≡ pack m.seq 0
            was = grind (arith, nat_tests)

            vs : List ℕ
            vs = set w.words (m.owner + 1) (pack m.seq 1)

            here : request_of vs m.owner ≡ pack m.seq 1
            here = get_or-set_same w.words (m.owner + 1) (pack m.seq 1) 0 (omega (arith, g.shared.room, owner_in))

            elsewhere : (c : ℕ) → (c ≡ m.owner + 1 → ⊥) → get_or vs c 0 ≡ get_or w.words c 0
            elsewhere c r = get_or-set_other w.words (m.owner + 1) c (pack m.seq 1) 0 r

            current_same : current_word vs ≡ current_word w.words
            current_same = elsewhere 0 (omega arith)

            cell_same : (x : ℕ) → x < S.cells → data_word S vs x ≡ data_word S w.words x
            cell_same x l = elsewhere (S.callers + 1 + x) (omega (arith, owner_in))

            behind : (k y : ℕ) → script_word S vs k y ≡ script_word S w.words k y
            behind k y = elsewhere (script_word_at S k y) (omega (arith, owner_in))

            log_kept_at : (k : ℕ) → log_word_of S vs k 0 ≡ log_word_of S w.words k 0
            log_kept_at k = elsewhere (log_at S k 0) (omega (arith, owner_in))

            is_last : m.seq ≡ committed_seq w.words
            is_last = last_or (cases_lt m.seq (committed_seq w.words))
              where
                last_or : (m.seq < committed_seq w.words) ⊎ (committed_seq w.words ≤ m.seq) → m.seq ≡ committed_seq w.words
                last_or (inr l) = omega (arith, a.applies.upto)
                last_or (inl l) = let y : pack m.seq 0 < request_of w.words m.owner = rw a.applies.committed at (g.shared.requests.closed m.seq a.applies.after l) in absurd (omega (arith, was))

            request : (j : ℕ) → (j ≡ m.owner) ⊎ (j ≡ m.owner → ⊥) → (request_of vs j ≡ request_of w.words j) ⊎ ((B.seq < committed_seq w.words) × ((batch_at B w.batches (committed_seq w.words)).owner ≡ j) × (request_of w.words j ≡ pack (committed_seq w.words) 0) × (request_of vs j ≡ pack (committed_seq w.words) 1))
            request j (inl r) = inr (
              omega (arith, is_last, a.applies.after),
              subst (λ (k : ℕ). (batch_at B w.batches k).owner ≡ j) is_last (a.applies.committed ∙ sym r),
              ap (request_of w.words) r ∙ was ∙ ap (λ (k : ℕ). pack k 0) is_last,
              ap (request_of vs) r ∙ here ∙ ap (λ (k : ℕ). pack k 1) is_last,
            )
            request j (inr r) = inl (elsewhere (j + 1) (omega arith))

            rises : (c : ℕ) → (c ≡ m.owner + 1) ⊎ (c ≡ m.owner + 1 → ⊥) → get_or w.words c 0 ≤ get_or vs c 0
            rises c (inl r) = rw r (omega (arith, here, was, word_more m.seq 0 1 (omega arith)))
            rises c (inr r) = omega (arith, elsewhere c r)

            touches : (k : ℕ) → Touches S B k w.words vs w.batches
            touches k = record {
              room = length-set w.words (m.owner + 1) (pack m.seq 1);
              current_word = current_same;
              requests = λ j l r. request j (cases_eq j m.owner);
              logs = λ j l r x u. elsewhere (log_at S j x) (omega (arith, owner_in));
              changes = λ x l. inl (cell_same x l);
              rise = λ c l. rises c (cases_eq c (m.owner + 1));
              durs = λ c l. elsewhere (durable_at S c) (omega (arith, owner_in));
              log_how = λ j y l u. inl (elsewhere (log_at S j y) (omega (arith, owner_in)));
              script_of = λ k y l u. inl (behind k y);
              announcements = λ k l. inl (behind k S.instrs);
            }

            is_request : (j : ℕ) → j < S.callers → (j ≡ m.owner) ⊎ (j ≡ m.owner → ⊥) → IsRequest B w.words w.batches j (request_of vs j)
            is_request j l (inr r) = request_same (touches i) g.shared j l (elsewhere (j + 1) (omega arith))
            is_request j l (inl r) = λ b.
                let e : request_of vs j ≡ pack m.seq 1 = ap (request_of vs) r ∙ here in
                let f : seq_of (request_of vs j) ≡ m.seq = ap seq_of e ∙ seq_word m.seq 1 (omega arith) in
                inr (ap payload_of e ∙ pay_word m.seq 1 (omega arith), rw f a.applies.upto, rw f (a.applies.committed ∙ sym r))

            kinds : WordsHaveTheirKind S B vs w.batches
            kinds = kinds_same (touches i) g.shared (λ j l. is_request j l (cases_eq j m.owner)) (λ j y l u. elsewhere (log_at S j y) (omega (arith, owner_in)))

            kept : HoldsAtPlace S B vs w.batches i m CloseRequest
            kept = at_stable S Lawful B (i + 1) w.words w.batches vs w.batches (moves_of (touches (i + 1)) g.shared) g.shared i h (λ z. omega arith) m CloseRequest a

            -- the durable word of CUR has reached the batch
            d_is : durable_seq S w.words ≡ committed_seq w.words
            d_is = d_of g.shared.durable.step
              where
                d_of : (committed_seq w.words ≡ durable_seq S w.words) ⊎ ((committed_seq w.words ≡ durable_seq S w.words + 1) × IsLastOpen B w.words) → durable_seq S w.words ≡ committed_seq w.words
                d_of (inl z) = sym z
                d_of (inr z) = absurd (omega (arith, z.0, a.durable, is_last))

            -- a word of the state before, at least as new as the batch, is no such word
            whole : (x v : ℕ) → x < S.cells → ((k : ℕ) → k < length m.log → (log_entry m k).0 ≡ x → m.seq ≤ seq_of v) → v ≡ data_word_after B w.batches (committed_seq w.words - 1) x → v ≡ data_word_after B w.batches (committed_seq w.words) x
            whole x v l newer q = named (cases_named (batch_at B w.batches m.seq).log x)
              where
                before : seq_of (data_word_after B w.batches (committed_seq w.words - 1) x) ≤ committed_seq w.words - 1
                before = old S B w.batches g.shared.start (logs_of g) (committed_seq w.words - 1) x (omega (arith, is_last, a.applies.after)) (omega (arith, n_is)) l

                named : ((k : ℕ) × (k < length (batch_at B w.batches m.seq).log) × ((get_or (batch_at B w.batches m.seq).log k (0, 0)).0 ≡ x)) ⊎ ((k : ℕ) → k < length (batch_at B w.batches m.seq).log → (get_or (batch_at B w.batches m.seq).log k (0, 0)).0 ≡ x → ⊥)
                    → v ≡ data_word_after B w.batches (committed_seq w.words) x
                named (inl k) =
                    let t = a.applies.log.all k.0 k.1 in
                    let y : m.seq ≤ seq_of v = newer t.0 t.1 (ap (λ (e : ℕ × ℕ). e.0) t.2 ∙ k.2) in
                    absurd (omega (arith, before, ap seq_of q, is_last, a.applies.after))
                named (inr away) = q ∙ sym (rw is_last at (unnamed S B w.batches g.shared.start (logs_of g) m.seq x a.applies.after (omega (arith, a.applies.upto, n_is)) away))

            data_cells : DataCellsMatchState S B vs w.batches
            data_cells = record { each = λ x l. inl (rw current_same (cell_same x l ∙ each x l (g.shared.data_cells.each x l))) }
              where
                each : (x : ℕ) → x < S.cells → (data_word S w.words x ≡ data_word_after B w.batches (committed_seq w.words) x) ⊎ (IsLastOpen B w.words × (data_word S w.words x ≡ data_word_after B w.batches (committed_seq w.words - 1) x)) → data_word S w.words x ≡ data_word_after B w.batches (committed_seq w.words) x
                each x l (inl d) = d
                each x l (inr d) = whole x (data_word S w.words x) l (λ k u z. rw z at (a.applies.done k u).cell) d.1

            durable : DurableWordsMatch S B vs w.batches
            durable = durable_of (touches i) g.shared (λ y l. rw (cell_same y l) (g.shared.durable.fresh y l)) (λ q. inl (sym d_is)) (λ y l. cells y l (g.shared.durable.cells y l)) (λ k l u p o q y v. elsewhere (log_at S p y) (omega (arith, owner_in)))
              where
                cells : (y : ℕ) → y < S.cells → (durable_cell S w.words y ≡ data_word_after B w.batches (durable_seq S w.words) y) ⊎ (IsLastOpen B w.words × (committed_seq w.words ≡ durable_seq S w.words) × (durable_cell S w.words y ≡ data_word_after B w.batches (durable_seq S w.words - 1) y))
                    → (durable_cell S w.words y ≡ data_word_after B w.batches (durable_seq S w.words) y) ⊎ (IsLastOpen B vs × (committed_seq w.words ≡ durable_seq S w.words) × (durable_cell S w.words y ≡ data_word_after B w.batches (durable_seq S w.words - 1) y))
                cells y l (inl d) = inl d
                cells y l (inr d) = inl (whole y (durable_cell S w.words y) l (λ k u z. rw z at (a.applies.done k u).durable) (d.2 ∙ ap (λ (k : ℕ). data_word_after B w.batches (k - 1) y) d_is) ∙ ap (λ (k : ℕ). data_word_after B w.batches k y) (sym d_is))
