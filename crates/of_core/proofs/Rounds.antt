-- A round begins: the current-transaction word and its request are loaded. What a round may rest on: a third one meets its call, no cell of a call that is done is newer, and cells that are not newer are those of its state.
use Rattle.std.proofs.Common.{Option, ◌≡◌, ℕ, ◌+◌, ◌-◌, ◌<◌, ◌≤◌, ◌⊎◌, ◌==◌, inl, inr, List, length, get_or, refl, sym, ◌∙◌, ap, arith, length-set, Some, None, Bool, true, false}
use Rattle.std.proofs.lemmas.Bool.{cases_eq, cases_lt}
use Rattle.std.proofs.lemmas.Bool.Decides.{nat_tests}
use Rattle.std.proofs.lemmas.List.{length-replicate, get_or-set_same, get_or-set_other}
use Rattle.of_cell.specs.Words.{pack, seq_of, payload_of}
use Rattle.of_cell.proofs.Order.{seq_word}
use Rattle.of_cell.proofs.Places.{row_within}
use Rattle.of_core.specs.declared.place.Place.TheVariants.{Idle, LoadCurrent, LoadRequest, LoadOwnTicket}
use Rattle.of_core.specs.Table.{Setup, ticket_cell, announcement_of, current_word, request_of, data_word, committed_seq, committed_owner, durable_seq}
use Rattle.of_core.specs.Machine.{CallState, with_cell_known}
use Rattle.of_core.specs.Steps.{after_load_request, enter, is_request_open, take_word_at, next_round, first_round_seq}
use Rattle.of_core.specs.TableMoment.{Moment, TableStart, after_counted_step}
use Rattle.of_core.specs.History.{batch_at, data_word_after, IsCellOfCaller, last_ticket_by, numbers_after}
use Rattle.of_core.specs.WordsMatch.{IsLastOpen}
use Rattle.of_core.specs.Rounds.{KnowsClosedState, WasCurrent, IsAnnounced, IsInRound, IsPastRequest, IsPastOwnTicket, HasNothingUnderWay, HasSettledCells}
use Rattle.of_core.specs.Invariant.{HoldsAtPlace, MeetsCore}
use Rattle.of_core.specs.Guarantees.{KeepsGuarantee}
use Rattle.of_core.proofs.States.{later, old}
use Rattle.of_core.proofs.Tickets.{tickets_grow, row_old}
use Rattle.of_core.proofs.Stability.{floor_of}
use Rattle.of_core.proofs.Alike.{begun_as, calm_more, round_as}
use Rattle.of_core.proofs.Unknown.{known_not}
use Rattle.of_core.proofs.Assembling.{assemble_read, logs_of, number_at, same_batches, same_words}

module _ {S : Setup} {Lawful : List ℕ → Type 0} {B : TableStart} where
  -- the machine of caller i
  module _ {w : Moment} (g : MeetsCore S Lawful B w) {i : ℕ} (h : i < S.callers) where
    pub idle_kept : (m : CallState) → HoldsAtPlace S B w.words w.batches i m m.place → KeepsGuarantee S Lawful B i w (after_counted_step S i m Idle w)
    idle_kept m a = assemble_read g h m (same_words w 0) (same_batches w) a

    pub load_current_kept : (m : CallState) → HoldsAtPlace S B w.words w.batches i m LoadCurrent → KeepsGuarantee S Lawful B i w (after_counted_step S i m LoadCurrent w)
    load_current_kept m a = assemble_read g h (take_word_at S m (current_word w.words) LoadCurrent) (same_words w 0) (same_batches w) (record { round = go (m.rounds == 0) refl; calm = a.calm })
      where
        go : (b : Bool) → (m.rounds == 0) ≡ b → IsInRound S B w.words w.batches i (record m { place = LoadRequest; seq = committed_seq w.words; owner = committed_owner w.words; rounds = m.rounds + 1; first = first_round_seq m (committed_seq w.words) b })
        go b e = record {
          begun = record {
            caller = a.begun.caller;
            ticket = a.begun.ticket;
            words = a.begun.words;
            some = a.begun.some;
            kept = a.begun.kept;
            says = a.begun.says;
            script = a.begun.script;
            upto = a.begun.upto;
            beyond = a.begun.beyond;
            mine = a.begun.mine;
            known = λ l. known b e;
          };
          current_word = record {
            from = omega (arith, g.shared.counted.count);
            upto = omega arith;
            same = λ e. refl;
            owner_in = g.shared.counted.owner_in;
            committed = λ l. sym (g.shared.counted.owner l);
            first = g.shared.counted.first;
          };
          unowned = λ k l u. absurd (omega arith);
          later = from b e;
          begun_one = omega arith;
          few = omega (arith, a.between.few);
        }
          where
            known : (b : Bool) → (m.rounds == 0) ≡ b → (B.seq ≤ first_round_seq m (committed_seq w.words) b) × ((k : ℕ) → first_round_seq m (committed_seq w.words) b < k → k ≤ committed_seq w.words → (batch_at B w.batches k).announcements i ≡ announcement_of S w.words i)
            known true e = (omega (arith, g.shared.counted.count), λ k l u. absurd (omega arith))
            known false e = let z : 1 ≤ m.rounds = grind (arith, nat_tests) in a.begun.known z

            from : (b : Bool) → (m.rounds == 0) ≡ b → first_round_seq m (committed_seq w.words) b + (m.rounds + 1) ≤ committed_seq w.words + 1
            from true e = let z : m.rounds ≡ 0 = grind (arith, nat_tests) in omega arith
            from false e = let z : 1 ≤ m.rounds = grind (arith, nat_tests) in omega (arith, a.between.later z)

    pub n_is : committed_seq w.words ≡ B.seq + length w.batches
    n_is = g.shared.counted.count

    pub own_seq : (n : CallState) → IsAnnounced S B w.words w.batches i n → seq_of (announcement_of S w.words i) ≡ n.made
    own_seq n p = ap seq_of p.says ∙ seq_word n.made (length n.op) (omega (arith, p.words, g.shared.narrow))

    pub grows_to : (s : ℕ) → B.seq ≤ s → s ≤ committed_seq w.words → last_ticket_by S B w.batches s i ≤ last_ticket_by S B w.batches (committed_seq w.words) i
    grows_to s l u = tickets_grow S Lawful B w.batches g.shared.stands s (committed_seq w.words) i l u (omega (arith, n_is)) h

    -- if the caller has no call after s, and s isn't the open transaction, none of its calls is being applied
    pub settled_by : (s : ℕ) → B.seq ≤ s → s ≤ committed_seq w.words → last_ticket_by S B w.batches (committed_seq w.words) i ≤ last_ticket_by S B w.batches s i → (s ≡ committed_seq w.words → IsLastOpen B w.words → ⊥) → HasSettledCells S B w.words w.batches i
    settled_by s l u t closed o = go (cases_lt s (committed_seq w.words))
      where
        go : (s < committed_seq w.words) ⊎ (committed_seq w.words ≤ s) → (last_ticket_by S B w.batches (committed_seq w.words) i ≤ last_ticket_by S B w.batches (committed_seq w.words - 1) i) ⊎ (committed_seq w.words ≤ seq_of (data_word S w.words (ticket_cell S i)))
        go (inl v) = inl (omega (arith, t, tickets_grow S Lawful B w.batches g.shared.stands s (committed_seq w.words - 1) i l (omega arith) (omega (arith, n_is)) h))
        go (inr v) = absurd (closed (omega arith) o)

    -- what a round knows after its look at the request
    pub not_open_at : (s : ℕ) → (s ≡ committed_seq w.words → B.seq < s → pack s 0 < request_of w.words (committed_owner w.words)) → s ≡ committed_seq w.words → IsLastOpen B w.words → ⊥
    not_open_at s quiet e o = omega (arith, quiet e (omega (arith, o.any)), o.asks, ap (λ (k : ℕ). pack k 0) e)

    -- a third round meets the call in the history
    pub third_done : (n : CallState) → IsInRound S B w.words w.batches i n → n.rounds ≡ 3 → n.made ≤ last_ticket_by S B w.batches n.seq i
    third_done n p q =
        let from : B.seq ≤ n.first = (p.begun.known p.begun_one).0 in
        let met : seq_of (announcement_of S w.words i) ≤ last_ticket_by S B w.batches (n.first + 1 + 1) i =
        g.shared.heard.met (n.first + 1) i (omega arith) (omega (arith, p.later, p.current_word.upto)) h ((p.begun.known p.begun_one).1 (n.first + 1) (omega arith) (omega (arith, p.later, p.current_word.upto))) in
        omega (arith, own_seq n p.begun, met, tickets_grow S Lawful B w.batches g.shared.stands (n.first + 1 + 1) n.seq i (omega arith) (omega (arith, p.later)) (omega (arith, p.current_word.upto, n_is)) h)

    pub two_rounds : (n : CallState) → IsPastOwnTicket S B w.words w.batches i n → n.rounds ≤ 2
    two_rounds n p = go (cases_eq n.rounds 3)
      where
        go : (n.rounds ≡ 3) ⊎ (n.rounds ≡ 3 → ⊥) → n.rounds ≤ 2
        go (inl q) = absurd (omega (arith, third_done n p.looks.round q, p.left))
        go (inr q) = omega (arith, p.looks.round.few)

    -- a data cell is no newer than the last batch
    pub cell_upto : (x : ℕ) → x < S.cells → seq_of (data_word S w.words x) ≤ committed_seq w.words
    cell_upto x l = go (g.shared.data_cells.each x l)
      where
        go : (data_word S w.words x ≡ data_word_after B w.batches (committed_seq w.words) x) ⊎ (IsLastOpen B w.words × (data_word S w.words x ≡ data_word_after B w.batches (committed_seq w.words - 1) x)) → seq_of (data_word S w.words x) ≤ committed_seq w.words
        go (inl q) = rw q (old S B w.batches g.shared.start (logs_of g) (committed_seq w.words) x (omega (arith, n_is)) (omega (arith, n_is)) l)
        go (inr q) = rw q.1 (omega (arith, old S B w.batches g.shared.start (logs_of g) (committed_seq w.words - 1) x (omega (arith, q.0.any)) (omega (arith, n_is)) l))

    pub row_in : (a : ℕ) → IsCellOfCaller S i a → a < S.cells
    row_in a r = omega (arith, r, row_within i S.callers (S.instrs + 2) h, g.shared.own_in)

    -- where the call is in the history up to the round, its own cells are no newer than the round
    pub own_row_old : (n : CallState) → IsPastRequest S B w.words w.batches i n → n.made ≤ last_ticket_by S B w.batches n.seq i → (a : ℕ) → IsCellOfCaller S i a → seq_of (data_word S w.words a) ≤ n.seq
    own_row_old n p t a r = go (g.shared.data_cells.each a (row_in a r))
      where
        at_k : (k : ℕ) → n.seq ≤ k → k ≤ committed_seq w.words → seq_of (data_word_after B w.batches k a) ≤ n.seq
        at_k k l u = row_old S Lawful B w.batches g.shared.stands g.shared.start (logs_of g) g.shared.own_in n.seq k i a p.round.current_word.from l (omega (arith, n_is)) h
            (omega (arith, t, p.round.begun.upto, tickets_grow S Lawful B w.batches g.shared.stands k (committed_seq w.words) i (omega (arith, p.round.current_word.from)) u (omega (arith, n_is)) h)) r

        go : (data_word S w.words a ≡ data_word_after B w.batches (committed_seq w.words) a) ⊎ (IsLastOpen B w.words × (data_word S w.words a ≡ data_word_after B w.batches (committed_seq w.words - 1) a)) → seq_of (data_word S w.words a) ≤ n.seq
        go (inl q) = rw q (at_k (committed_seq w.words) p.round.current_word.upto (omega arith))
        go (inr (op, q)) =
            let ne : n.seq ≡ committed_seq w.words → ⊥ = λ e. let z : pack n.seq 0 < request_of w.words (committed_owner w.words) = p.state.quiet e (omega (arith, op.any)) in omega (arith, op.asks, ap (λ (k : ℕ). pack k 0) e) in
            rw q (at_k (committed_seq w.words - 1) (omega (arith, p.round.current_word.upto)) (omega arith))

    -- a round that met a newer cell begins again
    pub again : (n : CallState) → IsInRound S B w.words w.batches i n → HasNothingUnderWay S B w.words w.batches i n.seq → n.rounds ≤ 2 → (x : ℕ) → x < S.cells → n.seq < seq_of (data_word S w.words x) → HoldsAtPlace S B w.words w.batches i (next_round n) LoadCurrent
    again n p c few x l u = record {
      begun = begun_as p.begun refl refl refl refl refl refl;
      calm = calm_more p.current_word.upto c;
      between = record { few = few; later = λ z. omega (arith, p.later, cell_upto x l) };
    }

    -- a machine in a round, past the help, looks for its call in the history
    pub entered_at : (n : CallState) → IsInRound S B w.words w.batches i n → HasNothingUnderWay S B w.words w.batches i n.seq
        → (n.seq ≡ committed_seq w.words → B.seq < n.seq → pack n.seq 0 < request_of w.words (committed_owner w.words)) → HoldsAtPlace S B w.words w.batches i (enter S n) LoadOwnTicket
    entered_at n p o quiet = record {
      looks = record {
        round = round_as p refl refl refl refl refl refl refl refl;
        state = record { quiet = quiet; agrees = λ x v q. absurd (known_not S.cells x v q); all = length-replicate S.cells None };
      };
      calm = o;
      no_cell = refl;
      no_log = refl;
      no_calls = refl;
      no_scan = refl;
    }

    -- a request that was found not to be open is above
    pub quiet_from : (s o : ℕ) → WasCurrent S B w.words w.batches s o → (B.seq < s → request_of w.words o ≡ pack s 0 → ⊥) → s ≡ committed_seq w.words → B.seq < s → pack s 0 < request_of w.words (committed_owner w.words)
    quiet_from s o p away e l =
        let low : pack s 0 ≤ request_of w.words (batch_at B w.batches s).owner = floor_of S Lawful B w.words w.batches g.shared s l p.upto in
        let q : (batch_at B w.batches s).owner ≡ o = p.committed l in
        let low' : pack s 0 ≤ request_of w.words o = rw q at low in
        rw (← p.same e) (above low' (away l))
      where
        above : pack s 0 ≤ request_of w.words o → (request_of w.words o ≡ pack s 0 → ⊥) → pack s 0 < request_of w.words o
        above x y = omega arith

    pub not_open : (s f : ℕ) → is_request_open s f ≡ false → 0 < s → f ≡ pack s 0 → ⊥
    not_open s f e p q = grind (arith, nat_tests)

    pub opened_is : (s f : ℕ) → is_request_open s f ≡ true → (0 < s) × (f ≡ pack s 0)
    opened_is s f e = (grind (arith, nat_tests), grind (arith, nat_tests))

    -- a transaction that was found open isn't the start
    pub opened_after : (s o : ℕ) → WasCurrent S B w.words w.batches s o → is_request_open s (request_of w.words o) ≡ true → B.seq < s
    opened_after s o p e = go (opened_is s (request_of w.words o) e) (cases_eq s B.seq)
      where
        go : (0 < s) × (request_of w.words o ≡ pack s 0) → (s ≡ B.seq) ⊎ (s ≡ B.seq → ⊥) → B.seq < s
        go q (inl e) =
            let z : pack B.seq 0 < request_of w.words B.owner = g.shared.requests.floor (omega (arith, q.0)) in
            absurd (omega (arith, q.1, ap (λ (k : ℕ). pack k 0) e, ap (request_of w.words) (p.first e)))
        go q (inr e) = omega (arith, p.from)

    pub load_request_kept : (m : CallState) → HoldsAtPlace S B w.words w.batches i m LoadRequest → KeepsGuarantee S Lawful B i w (after_counted_step S i m LoadRequest w)
    load_request_kept m a = assemble_read g h (take_word_at S m (request_of w.words m.owner) LoadRequest) (same_words w (m.owner + 1)) (same_batches w) (
        go (is_request_open m.seq (request_of w.words m.owner)) refl)
      where
        go : (b : Bool) → is_request_open m.seq (request_of w.words m.owner) ≡ b → HoldsAtPlace S B w.words w.batches i (after_load_request S m b) (after_load_request S m b).place
        go true eb = record {
          copies = record {
            helping = record { helper = inl (round_as a.round refl refl refl refl refl refl refl refl); current_word = a.round.current_word; calm = a.calm };
            helps = refl;
            after = opened_after m.seq m.owner a.round.current_word eb;
            many = refl;
            count = λ l. absurd (omega arith);
            copied = λ q. (omega arith, refl);
          };
          more = λ q. omega arith;
          in_log = omega arith;
        }
        go false eb = entered_at m a.round a.calm (quiet_from m.seq m.owner a.round.current_word (λ l. not_open m.seq (request_of w.words m.owner) eb (omega (arith, l))))

    -- a cell that isn't newer than a round or a try is that of its state
    pub cell_seen : (s o : ℕ) (known : List (Option ℕ)) → WasCurrent S B w.words w.batches s o → KnowsClosedState S B w.words w.batches s known → (x : ℕ) → x < S.cells → seq_of (data_word S w.words x) ≤ s → data_word S w.words x ≡ data_word_after B w.batches s x
    cell_seen s o known c p x l fresh = go (g.shared.data_cells.each x l)
      where
        go : (data_word S w.words x ≡ data_word_after B w.batches (committed_seq w.words) x) ⊎ (IsLastOpen B w.words × (data_word S w.words x ≡ data_word_after B w.batches (committed_seq w.words - 1) x)) → data_word S w.words x ≡ data_word_after B w.batches s x
        go (inl q) = q ∙ later S B w.batches g.shared.start (logs_of g) s (committed_seq w.words) x c.from c.upto (omega (arith, n_is)) l (rw (← q) fresh)
        go (inr (op, q)) =
            let ne : s ≡ committed_seq w.words → ⊥ = λ e. let z : pack s 0 < request_of w.words (committed_owner w.words) = p.quiet e (omega (arith, op.any)) in omega (arith, op.asks, ap (λ (k : ℕ). pack k 0) e) in
            q ∙ later S B w.batches g.shared.start (logs_of g) s (committed_seq w.words - 1) x c.from (omega (arith, c.upto)) (omega (arith, n_is)) l (rw (← q) fresh)

    -- a try that has seen a cell of its state knows one more
    pub watch_more : (s o : ℕ) (n : CallState) → WasCurrent S B w.words w.batches s o → KnowsClosedState S B w.words w.batches s n.known → (x : ℕ) → x < S.cells → seq_of (data_word S w.words x) ≤ s
        → KnowsClosedState S B w.words w.batches s (with_cell_known S n x (data_word S w.words x))
    watch_more s o n c p x l fresh = record { quiet = p.quiet; agrees = λ y v q. knows y v q (cases_eq y x); all = length-set n.known x (Some (payload_of (data_word S w.words x))) ∙ p.all }
      where
        this : get_or (numbers_after B w.batches s) x 0 ≡ payload_of (data_word S w.words x)
        this = number_at B w.batches s x ∙ ap payload_of (sym (cell_seen s o n.known c p x l fresh))

        knows : (y v : ℕ) → get_or (with_cell_known S n x (data_word S w.words x)) y None ≡ Some v → (y ≡ x) ⊎ (y ≡ x → ⊥) → get_or (numbers_after B w.batches s) y 0 ≡ v
        knows y v q (inl e) =
            let z : get_or (with_cell_known S n x (data_word S w.words x)) x None ≡ Some (payload_of (data_word S w.words x)) = get_or-set_same n.known x (Some (payload_of (data_word S w.words x))) None (omega (arith, p.all, l)) in
            let t : Some v ≡ Some (payload_of (data_word S w.words x)) = sym (rw e at q) ∙ z in
            let u : v ≡ payload_of (data_word S w.words x) = cc in
            rw e (this ∙ sym u)
        knows y v q (inr e) = p.agrees y v (sym (get_or-set_other n.known x y (Some (payload_of (data_word S w.words x))) None e) ∙ q)

    -- and the durable sequence has reached it
    pub seen_risen : (s o : ℕ) (known : List (Option ℕ)) → WasCurrent S B w.words w.batches s o → KnowsClosedState S B w.words w.batches s known → s ≤ durable_seq S w.words
    seen_risen s o known c p = go g.shared.durable.step
      where
        go : (committed_seq w.words ≡ durable_seq S w.words) ⊎ ((committed_seq w.words ≡ durable_seq S w.words + 1) × IsLastOpen B w.words) → s ≤ durable_seq S w.words
        go (inl q) = omega (arith, c.upto)
        go (inr (q, op)) =
            let ne : s ≡ committed_seq w.words → ⊥ = λ e. let z : pack s 0 < request_of w.words (committed_owner w.words) = p.quiet e (omega (arith, op.any)) in omega (arith, op.asks, ap (λ (k : ℕ). pack k 0) e) in
            omega (arith, c.upto)

    pub cell_of : (n : CallState) → IsPastRequest S B w.words w.batches i n → (x : ℕ) → x < S.cells → seq_of (data_word S w.words x) ≤ n.seq → data_word S w.words x ≡ data_word_after B w.batches n.seq x
    cell_of n p x l o = cell_seen n.seq n.owner n.known p.round.current_word p.state x l o

    -- a machine that has loaded the cell x, no newer than its round, knows it
    pub learn : (n : CallState) → IsPastRequest S B w.words w.batches i n → (x : ℕ) → x < S.cells → seq_of (data_word S w.words x) ≤ n.seq → IsPastRequest S B w.words w.batches i (record n { known = with_cell_known S n x (data_word S w.words x) })
    learn n p x l fresh = record { round = round_as p.round refl refl refl refl refl refl refl refl; state = watch_more n.seq n.owner n p.round.current_word p.state x l fresh }

    pub learn_past : (n : CallState) → IsPastOwnTicket S B w.words w.batches i n → (x : ℕ) → x < S.cells → seq_of (data_word S w.words x) ≤ n.seq → IsPastOwnTicket S B w.words w.batches i (record n { known = with_cell_known S n x (data_word S w.words x) })
    learn_past n p x l fresh = record { looks = learn n p.looks x l fresh; under = p.under; left = p.left }

    pub round_risen : (n : CallState) → IsPastRequest S B w.words w.batches i n → n.seq ≤ durable_seq S w.words
    round_risen n p = seen_risen n.seq n.owner n.known p.round.current_word p.state

    pub at_risen : (n : CallState) → IsPastRequest S B w.words w.batches i n → n.seq ≤ B.seq + length w.batches
    at_risen n p = omega (arith, p.round.current_word.upto, n_is)
