-- One's own ticket is looked for, and where the call is in the history its reply is read.
use Rattle.std.proofs.Common.{◌≡◌, ℕ, ◌+◌, ◌-◌, ◌<◌, ◌≤◌, ◌⊎◌, ◌==◌, inl, inr, List, [], get_or, set, refl, sym, ◌∙◌, ap, arith, length-set, Option, Some, None, Bool, true, false, nat_lt}
use Rattle.std.proofs.lemmas.Bool.{cases_eq, cases_lt, eqb-true}
use Rattle.std.proofs.lemmas.Bool.Decides.{nat_tests}
use Rattle.std.proofs.lemmas.List.{length-replicate, get_or-replicate, get_or-set_same, get_or-set_other}
use Rattle.of_cell.specs.declared.word.TheConstants.{PAYLOADS}
use Rattle.of_cell.specs.Words.{pack, seq_of, payload_of}
use Rattle.of_cell.proofs.Order.{pay_small, seq_word, pay_word}
use Rattle.of_mem.specs.Meaning.{is_marked}
use Rattle.of_mem.specs.declared.work.RawReply.{RawReply}
use Rattle.of_core.specs.declared.place.Place.TheVariants.{Idle, LoadOwnTicket, LoadShape, LoadReply}
use Rattle.of_core.specs.Table.{Setup, data_at, ticket_cell, shape_cell, reply_cell, data_word, committed_seq}
use Rattle.of_core.specs.Machine.{CallState, Call, no_call}
use Rattle.of_core.specs.Steps.{take_word_at, end_from_own_cells, next_reply_place, after_own_ticket, with_shape, after_load_shape, with_reply, after_load_reply, first_marked_place}
use Rattle.of_core.specs.TableMoment.{Moment, TableStart, after_counted_step}
use Rattle.of_core.specs.History.{state_after, batch_at, data_word_after, HasCall, OwnCellsShowLast, IsNewestCall, IsCellOfCaller, last_ticket_by}
use Rattle.of_core.specs.Rounds.{IsPastRequest, FindsOwnTicket, HasReadReplyUpTo, HasNothingUnderWay}
use Rattle.of_core.specs.Scan.{HasScannedUpTo}
use Rattle.of_core.specs.Invariant.{HoldsAtPlace, MeetsCore}
use Rattle.of_core.specs.Guarantees.{KeepsGuarantee}
use Rattle.of_core.proofs.Alike.{calm_more, looks_as}
use Rattle.of_core.proofs.Assembling.{assemble_read, same_batches, same_words}
use Rattle.of_core.proofs.Rounds.{again, at_risen, cell_of, grows_to, learn, own_row_old, own_seq, round_risen, row_in, settled_by, not_open_at, third_done}
use Rattle.of_core.proofs.Tests.{differ, mark_none, mark_some, not_newer}

module _ {S : Setup} {Lawful : List ℕ → Type 0} {B : TableStart} where
  -- the machine of caller i
  module _ {w : Moment} (g : MeetsCore S Lawful B w) {i : ℕ} (h : i < S.callers) where
    -- the last call up to the round is the open one, where one's own ticket cell has its ticket
    found_call : (n : CallState) → IsPastRequest S B w.words w.batches i n → FindsOwnTicket S (state_after B w.batches n.seq) i n → IsNewestCall S B w.batches n.seq i
    found_call n p f = go (g.shared.stands.last n.seq i p.round.current_word.from (at_risen g h n p) h)
      where
        go : OwnCellsShowLast S B w.batches n.seq i → IsNewestCall S B w.batches n.seq i
        go (inl q) =
            let t : last_ticket_by S B w.batches n.seq i ≡ last_ticket_by S B w.batches B.seq i = ap payload_of (q.1 (ticket_cell S i) (omega arith, omega arith)) in
            absurd (omega (arith, t, p.round.begun.beyond, ap payload_of f.heard, f.there))
        go (inr c) = c

    pub done_now : (n : CallState) → FindsOwnTicket S (state_after B w.batches n.seq) i n → n.made ≤ last_ticket_by S B w.batches n.seq i
    done_now n f = omega (arith, ap payload_of f.heard, f.there)

    -- the call is answered from the history, its replies read
    told_at : (n : CallState) → IsPastRequest S B w.words w.batches i n → HasNothingUnderWay S B w.words w.batches i n.seq → FindsOwnTicket S (state_after B w.batches n.seq) i n
        → n.raw.shape ≡ payload_of (data_word_after B w.batches n.seq (shape_cell S i)) → ((y : ℕ) → y < S.instrs → is_marked n.raw.shape y ≡ true → get_or n.raw.values y 0 ≡ payload_of (data_word_after B w.batches n.seq (reply_cell S i y)))
        → ((y : ℕ) → y < S.instrs → is_marked n.raw.shape y ≡ false → get_or n.raw.values y 0 ≡ 0)
        → HoldsAtPlace S B w.words w.batches i (end_from_own_cells n) Idle
    told_at n p o f shape replies rest = record {
      caller = p.round.begun.caller;
      calm = calm_more p.round.current_word.upto o;
      kept = p.round.begun.kept;
      quieted = inl (omega (arith, own_seq g h n p.round.begun, done_now n f, grows_to g h n.seq p.round.current_word.from p.round.current_word.upto));
      settled = settled_by g h n.seq p.round.current_word.from p.round.current_word.upto (omega (arith, p.round.begun.upto, done_now n f)) (not_open_at g h n.seq p.state.quiet);
      upto = p.round.begun.upto;
      older = omega (arith, own_seq g h n p.round.begun);
      told = record {
        from = rw number c.from;
        durable = rw number (omega (arith, c.upto, round_risen g h n p));
        upto = rw number (omega (arith, c.upto, p.round.current_word.upto));
        call = rw number has;
      };
    }
      where
        c : IsNewestCall S B w.batches n.seq i
        c = found_call n p f

        d : Call
        d = get_or (batch_at B w.batches c.number).calls c.place no_call

        is_in : (d.caller < S.callers) × (last_ticket_by S B w.batches c.number d.caller ≡ d.ticket)
        is_in = g.shared.stands.now c.number c.from (omega (arith, c.upto, at_risen g h n p)) c.place no_call c.among

        small : d.ticket < PAYLOADS
        small = rw (← is_in.1) (pay_small (data_word_after B w.batches c.number (ticket_cell S d.caller)))

        word_is : n.heard ≡ pack c.number d.ticket
        word_is = f.heard ∙ ap (λ (x : ℕ). data_word_after B w.batches n.seq (ticket_cell S x)) (sym c.caller) ∙ c.shows.ticket

        number : seq_of n.heard ≡ c.number
        number = ap seq_of word_is ∙ seq_word c.number d.ticket small

        ticket : d.ticket ≡ n.made
        ticket = sym (ap payload_of word_is ∙ pay_word c.number d.ticket small) ∙ f.there

        same_shape : n.raw.shape ≡ d.raw.shape
        same_shape = shape ∙ ap (λ (x : ℕ). payload_of (data_word_after B w.batches n.seq (shape_cell S x))) (sym c.caller) ∙ c.shows.shape

        same_number : (y : ℕ) → y < S.instrs → (b : Bool) → is_marked n.raw.shape y ≡ b → get_or n.raw.values y 0 ≡ get_or d.raw.values y 0
        same_number y l true k = replies y l k ∙ ap (λ (x : ℕ). payload_of (data_word_after B w.batches n.seq (reply_cell S x y))) (sym c.caller) ∙ c.shows.replies y l (sym (ap (λ (x : ℕ). is_marked x y) same_shape) ∙ k)
        same_number y l false k = rest y l k ∙ sym (c.shows.rest y l (sym (ap (λ (x : ℕ). is_marked x y) same_shape) ∙ k))

        has : HasCall S (batch_at B w.batches c.number).calls i n.made n.op n.raw
        has = record {
          place = c.place;
          among = c.among;
          caller = c.caller;
          ticket = ticket;
          same = p.round.begun.mine c.number c.from (omega (arith, c.upto, p.round.current_word.upto)) c.place no_call c.among c.caller ticket;
          reply = (same_shape, λ y l. same_number y l (is_marked n.raw.shape y) refl);
        }

    -- the shape and the marked replies below j are read, and on it goes
    asks_at : (n : CallState) (j : ℕ) → j ≤ S.instrs → IsPastRequest S B w.words w.batches i n → HasNothingUnderWay S B w.words w.batches i n.seq → FindsOwnTicket S (state_after B w.batches n.seq) i n → HasReadReplyUpTo S (state_after B w.batches n.seq) i n j
        → (r : Option ℕ) → first_marked_place n.raw.shape j (S.instrs - j) ≡ r → HoldsAtPlace S B w.words w.batches i (next_reply_place n r) (next_reply_place n r).place
    asks_at n j l p o f u None e = told_at n p o f u.shape (λ y v k. go y v k (cases_lt y j)) u.rest
      where
        go : (y : ℕ) → y < S.instrs → is_marked n.raw.shape y ≡ true → (y < j) ⊎ (j ≤ y) → get_or n.raw.values y 0 ≡ payload_of (data_word_after B w.batches n.seq (reply_cell S i y))
        go y v k (inl z) = u.replies y z k
        go y v k (inr z) = absurd (mark_none n.raw.shape j (S.instrs - j) e y z (omega arith) k)
    asks_at n j l p o f u (Some x) e =
        let s = mark_some n.raw.shape j (S.instrs - j) x e in record {
          looks = looks_as p refl refl refl refl refl refl refl refl refl;
          calm = o;
          finds = record { heard = f.heard; there = f.there };
          reply = record { shape = u.shape; many = u.many; rest = u.rest; replies = λ y v k. go y v k (cases_lt y j) s.2 };
          in_reply = omega (arith, s.1);
          marked = s.3;
        }
      where
        go : (y : ℕ) → y < x → is_marked n.raw.shape y ≡ true → (y < j) ⊎ (j ≤ y) → ((y : ℕ) → j ≤ y → y < x → is_marked n.raw.shape y ≡ true → ⊥) → get_or n.raw.values y 0 ≡ payload_of (data_word_after B w.batches n.seq (reply_cell S i y))
        go y v k (inl z) t = u.replies y z k
        go y v k (inr z) t = absurd (t y z v k)

    pub load_shape_kept : (m : CallState) → HoldsAtPlace S B w.words w.batches i m LoadShape → KeepsGuarantee S Lawful B i w (after_counted_step S i m LoadShape w)
    load_shape_kept m a = assemble_read g h (take_word_at S m (data_word S w.words (shape_cell S m.caller)) LoadShape) (same_words w (data_at S (shape_cell S m.caller))) (same_batches w) (
        go (nat_lt m.seq (seq_of found)) refl)
      where
        found : ℕ
        found = data_word S w.words (shape_cell S m.caller)

        ci : m.caller ≡ i
        ci = a.looks.round.begun.caller

        x_in : shape_cell S i < S.cells
        x_in = row_in g h (shape_cell S i) (omega arith, omega arith)

        fresh : seq_of (data_word S w.words (shape_cell S m.caller)) ≤ m.seq
        fresh = rw ci (own_row_old g h m a.looks (done_now m a.finds) (shape_cell S i) (omega arith, omega arith))

        is : data_word S w.words (shape_cell S m.caller) ≡ data_word_after B w.batches m.seq (shape_cell S i)
        is = rw ci (cell_of g h m a.looks (shape_cell S i) x_in (rw ci at fresh))

        go : (b : Bool) → nat_lt m.seq (seq_of found) ≡ b → HoldsAtPlace S B w.words w.batches i (after_load_shape S m found b) (after_load_shape S m found b).place
        go true e = let z : m.seq < seq_of found = grind (arith, nat_tests) in absurd (omega (arith, fresh))
        go false e =
            asks_at (with_shape S m found) 0 (omega arith) (looks_as a.looks refl refl refl refl refl refl refl refl refl) a.calm (record { heard = a.finds.heard; there = a.finds.there })
            (record { shape = ap payload_of is; replies = λ y l. absurd (omega arith); rest = λ y l k. get_or-replicate S.instrs y 0 0 l; many = length-replicate S.instrs 0 }) (first_marked_place (payload_of found) 0 S.instrs) (ap (first_marked_place (payload_of found) 0) (omega arith))

    pub load_reply_kept : (m : CallState) → (j : ℕ) → HoldsAtPlace S B w.words w.batches i m (LoadReply j) → KeepsGuarantee S Lawful B i w (after_counted_step S i m (LoadReply j) w)
    load_reply_kept m j a = assemble_read g h (take_word_at S m (data_word S w.words (reply_cell S m.caller j)) (LoadReply j)) (same_words w (data_at S (reply_cell S m.caller j))) (same_batches w) (
        go (nat_lt m.seq (seq_of found)) refl)
      where
        found : ℕ
        found = data_word S w.words (reply_cell S m.caller j)

        ci : m.caller ≡ i
        ci = a.looks.round.begun.caller

        in_row : IsCellOfCaller S i (reply_cell S i j)
        in_row = (omega arith, omega (arith, a.in_reply))

        fresh : seq_of (data_word S w.words (reply_cell S m.caller j)) ≤ m.seq
        fresh = rw ci (own_row_old g h m a.looks (done_now m a.finds) (reply_cell S i j) in_row)

        is : data_word S w.words (reply_cell S m.caller j) ≡ data_word_after B w.batches m.seq (reply_cell S i j)
        is = rw ci (cell_of g h m a.looks (reply_cell S i j) (row_in g h (reply_cell S i j) in_row) (rw ci at fresh))

        go : (b : Bool) → nat_lt m.seq (seq_of found) ≡ b → HoldsAtPlace S B w.words w.batches i (after_load_reply S m j found b) (after_load_reply S m j found b).place
        go true e = let z : m.seq < seq_of found = grind (arith, nat_tests) in absurd (omega (arith, fresh))
        go false e =
            asks_at (with_reply m j found) (j + 1) (omega (arith, a.in_reply)) (looks_as a.looks refl refl refl refl refl refl refl refl refl) a.calm (record { heard = a.finds.heard; there = a.finds.there })
            (record { shape = a.reply.shape; replies = λ y l k. read y l k (cases_eq y j); rest = λ y l k. unread y l k (cases_eq y j); many = length-set m.raw.values j (payload_of found) ∙ a.reply.many }) (first_marked_place m.raw.shape (j + 1) (S.instrs - j - 1)) (ap (first_marked_place m.raw.shape (j + 1)) (omega arith))
          where
            read : (y : ℕ) → y < j + 1 → is_marked m.raw.shape y ≡ true → (y ≡ j) ⊎ (y ≡ j → ⊥) → get_or (set m.raw.values j (payload_of found)) y 0 ≡ payload_of (data_word_after B w.batches m.seq (reply_cell S i y))
            read y l k (inl q) = rw q (get_or-set_same m.raw.values j (payload_of found) 0 (omega (arith, a.reply.many, a.in_reply)) ∙ ap payload_of is)
            read y l k (inr q) = get_or-set_other m.raw.values j y (payload_of found) 0 q ∙ a.reply.replies y (omega arith) k

            unread : (y : ℕ) → y < S.instrs → is_marked m.raw.shape y ≡ false → (y ≡ j) ⊎ (y ≡ j → ⊥) → get_or (set m.raw.values j (payload_of found)) y 0 ≡ 0
            unread y l k (inl q) = let z : true ≡ false = sym a.marked ∙ ap (is_marked m.raw.shape) (sym q) ∙ k in cc
            unread y l k (inr q) = get_or-set_other m.raw.values j y (payload_of found) 0 q ∙ a.reply.rest y l k

    -- nothing is scanned yet
    over_none : (made : ℕ) (op : List ℕ) (raw : RawReply) (s : ℕ) (cs : List Call) (es : List (ℕ × ℕ)) (n : ℕ) → cs ≡ [] → es ≡ [] → n ≡ 0 → HasScannedUpTo S B w.words w.batches i s made op raw cs es n
    over_none made op raw s cs es n e f z = rw (e, f, z) (record {
      over = record { is_log = record { entries = λ k d l. absurd (omega arith); once = λ j k l. absurd (omega arith); few = omega arith }; effect = refl; replies = tt; own = λ k d l. absurd (omega arith); rows = λ j l. absurd (omega arith) };
      taken = λ k d l. absurd (omega arith);
      below = λ k d l. absurd (omega arith);
      short = inr (omega arith);
      ordered = λ j k l u. absurd (omega arith);
      announced = λ q k d l. absurd (omega arith);
      own = λ q l. absurd (omega arith);
      met = λ l c u. absurd (omega arith);
    })

    pub own_ticket_kept : (m : CallState) → HoldsAtPlace S B w.words w.batches i m LoadOwnTicket → KeepsGuarantee S Lawful B i w (after_counted_step S i m LoadOwnTicket w)
    own_ticket_kept m a = assemble_read g h (take_word_at S m (data_word S w.words (ticket_cell S m.caller)) LoadOwnTicket) (same_words w (data_at S (ticket_cell S m.caller))) (same_batches w) (
        go (nat_lt m.seq (seq_of found)) (payload_of found == m.made) (m.seq == S.limit) refl refl refl)
      where
        found : ℕ
        found = data_word S w.words (ticket_cell S m.caller)

        ci : m.caller ≡ i
        ci = a.looks.round.begun.caller

        in_row : IsCellOfCaller S i (ticket_cell S i)
        in_row = (omega arith, omega arith)

        x_in : ticket_cell S i < S.cells
        x_in = row_in g h (ticket_cell S i) in_row

        is : seq_of (data_word S w.words (ticket_cell S m.caller)) ≤ m.seq → data_word S w.words (ticket_cell S m.caller) ≡ data_word_after B w.batches m.seq (ticket_cell S i)
        is l = rw ci (cell_of g h m a.looks (ticket_cell S i) x_in (rw ci at l))

        go : (b c d : Bool) → nat_lt m.seq (seq_of found) ≡ b → (payload_of found == m.made) ≡ c → (m.seq == S.limit) ≡ d → HoldsAtPlace S B w.words w.batches i (after_own_ticket S m found b c d) (after_own_ticket S m found b c d).place
        go true c d eb ec ed =
            let z : m.seq < seq_of found = grind (arith, nat_tests) in
            let z' : m.seq < seq_of (data_word S w.words (ticket_cell S i)) = rw ci at z in
            again g h m a.looks.round a.calm (few z' (cases_eq m.rounds 3)) (ticket_cell S i) x_in z'
          where
            few : m.seq < seq_of (data_word S w.words (ticket_cell S i)) → (m.rounds ≡ 3) ⊎ (m.rounds ≡ 3 → ⊥) → m.rounds ≤ 2
            few z (inl q) = absurd (omega (arith, z, own_row_old g h m a.looks (third_done g h m a.looks.round q) (ticket_cell S i) in_row))
            few z (inr q) = omega (arith, a.looks.round.few)
        go false true d eb ec ed =
            let fresh : seq_of found ≤ m.seq = grind (arith, nat_tests) in
            record { looks = looks_as a.looks refl refl refl refl refl refl refl refl refl; calm = a.calm; finds = record { heard = is fresh; there = eqb-true (payload_of found) m.made ec } }
        go false false true eb ec ed = record {
          caller = ci;
          calm = calm_more a.looks.round.current_word.upto a.calm;
          kept = a.looks.round.begun.kept;
          quieted = inr (omega (arith, at_limit, a.looks.round.current_word.upto, g.shared.counted.limit));
          settled = settled_by g h m.seq a.looks.round.current_word.from a.looks.round.current_word.upto (omega (arith, ap (λ (k : ℕ). last_ticket_by S B w.batches k i) at_last)) (not_open_at g h m.seq a.looks.state.quiet);
          upto = a.looks.round.begun.upto;
          older = omega (arith, own_seq g h m a.looks.round.begun);
          told = record {
            left = omega (arith, differ (payload_of found) m.made ec, ap payload_of (is (not_newer m.seq (seq_of found) eb)), ap (λ (k : ℕ). last_ticket_by S B w.batches k i) at_last, a.looks.round.begun.upto);
            limit = at_limit;
            last = sym at_last;
            durable = round_risen g h m a.looks;
          };
        }
          where
            at_limit : m.seq ≡ S.limit
            at_limit = eqb-true m.seq S.limit ed

            at_last : m.seq ≡ committed_seq w.words
            at_last = omega (arith, at_limit, a.looks.round.current_word.upto, g.shared.counted.limit)
        go false false false eb ec ed = record {
          past = record {
            looks = looks_as (learn g h m a.looks (ticket_cell S m.caller) (rw ci x_in) fresh) refl refl refl refl refl refl refl refl refl;
            under = omega (arith, differ m.seq S.limit ed, a.looks.round.current_word.upto, g.shared.counted.limit);
            left = omega (arith, differ (payload_of found) m.made ec, ap payload_of (is fresh), a.looks.round.begun.upto, grows_to g h m.seq a.looks.round.current_word.from a.looks.round.current_word.upto);
          };
          calm = a.calm;
          scan = over_none m.made m.op m.raw m.seq m.calls m.log m.scan a.no_calls a.no_log a.no_scan;
          in_range = rw a.no_scan (omega (arith, h));
        }
          where
            fresh : seq_of (data_word S w.words (ticket_cell S m.caller)) ≤ m.seq
            fresh = not_newer m.seq (seq_of found) eb
