-- Whatever meets the invariant meets what every moment claims.
use Rattle.std.proofs.Common.{◌≡◌, ℕ, ◌+◌, ◌-◌, ◌<◌, ◌≤◌, ◌⊎◌, inl, inr, List, length, get_or, take, refl, sym, ◌∙◌, ap, subst, arith, Option, Some, None, map, true, false}
use Rattle.std.proofs.lemmas.Bool.{cases_lt}
use Rattle.std.proofs.lemmas.List.{take_all, length-map, get_or_default}
use Rattle.of_cell.specs.Words.{seq_of, payload_of}
use Rattle.of_mem.specs.Meaning.{IsSoundMeaning, SameFrom, Agrees}
use Rattle.of_recover.specs.Recovered.{recovered_data}
use Rattle.of_core.specs.declared.place.Place.{Place}
use Rattle.of_core.specs.declared.place.Place.TheVariants.{Idle, TryCell, LoadOwnTicket, LoadShape, LoadReply, LoadAnnouncement, LoadTicket, LoadScript, LoadCell, RaiseOld, StoreLog, RaiseLog, StoreRequest, RaiseRequest, ExchangeCurrent}
use Rattle.of_core.specs.declared.place.Outcome.{Outcome}
use Rattle.of_core.specs.declared.place.Outcome.TheVariants.{Answered, Spent, Lost}
use Rattle.of_core.specs.Table.{Setup, first_operation_cell, durable_word, durable_cell, committed_seq, durable_seq}
use Rattle.of_core.specs.Machine.{CallState, Call, no_machine}
use Rattle.of_core.specs.TableMoment.{Moment, TableStart}
use Rattle.of_core.specs.History.{state_after, batch_at, data_word_after, numbers_after, last_ticket_by, numbers_after_batches}
use Rattle.of_core.specs.WordsMatch.{IsLastOpen, WasHeldByCell, IsRequest, IsLogWord}
use Rattle.of_core.specs.Places.{LastOutcomeStands, IsAtRest}
use Rattle.of_core.specs.Invariant.{MeetsCore, HoldsAtPlace}
use Rattle.of_core.specs.Bound.{bound, MachineIsWithinBound, TellsWithinBound}
use Rattle.of_core.specs.Least.{HasMadeLeastSteps}
use Rattle.of_core.specs.Events.{machine_in}
use Rattle.of_core.specs.TableMoment.{Read}
use Rattle.of_core.specs.Order.{IsRead, KeepsCallOrder}
use Rattle.of_core.specs.Claim.{ReadIsLegal, knows_state, OwnCellsAreOfState, UsesOneState, HasHeld, OutcomeIsInHistory, WasBegunByCaller, IsSound}
use Rattle.of_core.proofs.States.{state_length, old}
use Rattle.of_core.proofs.Assembling.{logs_of}
use Rattle.of_core.proofs.Recovery.{claim}
use Rattle.of_core.proofs.Tickets.{ticket_upto, tickets_grow, tickets_rise}
use Rattle.of_core.proofs.OpenCalls.{upto_at, mine_at}
use Rattle.of_core.proofs.Replays.{upto, replay_length}

module _ (S : Setup) (Lawful : List ℕ → Type 0) (sound : IsSoundMeaning S.meaning Lawful (first_operation_cell S) S.cells) (B : TableStart) where
  module _ (w : Moment) (g : MeetsCore S Lawful B w) where
    -- a read that the state at its sequence meets, meets the replay up to it
    read_meets : (r : Read) → IsRead S B w.batches (durable_seq S w.words) r → durable_seq S w.words ≤ B.seq + length w.batches → ReadIsLegal S B w.batches r
    read_meets r p u = sym (sound.reply_from (numbers_after B w.batches r.seq) (numbers_after_batches S.meaning (map payload_of B.cells) (take (r.seq - B.seq) w.batches)) r.op here there same) ∙ p.reply
      where
        back : B.seq + (r.seq - B.seq) ≡ r.seq
        back = omega (arith, p.from)

        here : length (numbers_after B w.batches r.seq) ≡ S.cells
        here = length-map (state_after B w.batches r.seq) payload_of ∙ state_length S B w.batches g.shared.start (logs_of g) r.seq p.from (omega (arith, p.upto))

        there : length (numbers_after_batches S.meaning (map payload_of B.cells) (take (r.seq - B.seq) w.batches)) ≡ S.cells
        there = replay_length S Lawful sound B (map payload_of B.cells) (take (r.seq - B.seq) w.batches) (length-map B.cells payload_of ∙ g.shared.start.size)

        same : SameFrom (first_operation_cell S) (numbers_after B w.batches r.seq) (numbers_after_batches S.meaning (map payload_of B.cells) (take (r.seq - B.seq) w.batches))
        same = rw back at (upto S Lawful sound B w g (r.seq - B.seq) (omega (arith, p.upto))).0

    pub is_sound : ((i : ℕ) (m : CallState) → i < S.callers → get_or w.machines i m ≡ m → MachineIsWithinBound S m m.place) → ((i : ℕ) (m : CallState) → i < S.callers → get_or w.machines i m ≡ m → HasMadeLeastSteps S m m.place) → KeepsCallOrder S B w → IsSound S B w
    is_sound within late order =
        let t : take (length w.batches) w.batches ≡ w.batches = take_all (length w.batches) w.batches (omega arith) in
        record {
          legal = rw t at (upto S Lawful sound B w g (length w.batches) (omega arith)).1;
          state = λ k l. (upto S Lawful sound B w g k l).0;
          begun = begun;
          recovers = claim S Lawful B w g;
          from = g.shared.durable.from;
          reaches = reach g.shared.durable.step;
          old = old_words;
          owner = owner_in (cases_lt (durable_seq S w.words) (B.seq + 1));
          limit = omega (arith, g.shared.counted.count, g.shared.counted.limit);
          met = λ k i l u q e. g.shared.heard.met k i l (omega (arith, u, g.shared.counted.count)) q e;
          owners = λ k l u. g.shared.counted.owners k l (omega (arith, u, g.shared.counted.count));
          count = g.shared.counted.count;
          data_cells = g.shared.data_cells;
          low = g.shared.durable.low;
          held = λ c l. held c;
          some = g.shared.stands.some;
          rising = g.shared.stands.ordered;
          order = order.ordered;
          reads = λ k d l. read_meets (get_or w.reads k d) (order.ordered.reads k d l) (reach g.shared.durable.step);
          tickets = tickets_rise S Lawful B w.batches g.shared.stands;
          own = λ i h. g.shared.stands.last (durable_seq S w.words) i g.shared.durable.from (reach g.shared.durable.step) h;
          one = λ i h. uses i (machine_in w i) (g.each i (machine_in w i) h (own i h));
          members = g.members;
          at_rest = λ i h q. (late i (machine_in w i) h (own i h)).rests q;
          within = λ i h. let t = within i (machine_in w i) h (own i h) in less (machine_in w i).steps _ (bound S) t.steps;
          answered = λ i h q. told_is i (machine_in w i) h (machine_in w i).answer ((within i (machine_in w i) h (own i h)).told q) (at_idle i h q).told;
        }
      where
        reach : (committed_seq w.words ≡ durable_seq S w.words) ⊎ ((committed_seq w.words ≡ durable_seq S w.words + 1) × IsLastOpen B w.words) → durable_seq S w.words ≤ B.seq + length w.batches
        reach (inl q) = omega (arith, g.shared.counted.count)
        reach (inr q) = omega (arith, g.shared.counted.count, q.0)

        own : (i : ℕ) → i < S.callers → get_or w.machines i (machine_in w i) ≡ machine_in w i
        own i h = get_or_default w.machines i (machine_in w i) no_machine (omega (arith, g.members))

        at_idle : (i : ℕ) (h : i < S.callers) → (machine_in w i).place ≡ Idle → IsAtRest S B w.words w.batches i (machine_in w i)
        at_idle i h q = subst (λ (p : Place). HoldsAtPlace S B w.words w.batches i (machine_in w i) p) q (g.each i (machine_in w i) h (own i h))

        less : (s x l : ℕ) → s + x ≤ l → s ≤ l
        less s x l h = omega arith

        told_is : (i : ℕ) (m : CallState) → i < S.callers → (o : Option Outcome) → TellsWithinBound S o → LastOutcomeStands S B w.words w.batches i m o → OutcomeIsInHistory S B w i m o
        told_is i m h None v t = tt
        told_is i m h (Some (Answered s true raw n)) v t = (v, t.from, t.durable, t.call)
        told_is i m h (Some (Answered s false raw n)) v t = (v, t.from, t.durable, t.reply, t.reads)
        told_is i m h (Some (Lost s)) v0 t = absurd t
        told_is i m h (Some (Spent s)) v0 t = (
          t.limit,
          sym g.shared.counted.count ∙ t.last,
          λ k l u y d v q. let p : (get_or (batch_at B w.batches k).calls y d).ticket ≤ last_ticket_by S B w.batches (committed_seq w.words) (get_or (batch_at B w.batches k).calls y d).caller =
              ticket_upto S Lawful B w.batches g.shared.stands k (committed_seq w.words) l (omega (arith, t.last)) (omega (arith, g.shared.counted.count)) y d v in
              omega (arith, p, t.left, ap (last_ticket_by S B w.batches (committed_seq w.words)) q),
          t.durable,
        )

        -- a call in a batch is no newer than what its caller has begun
        begun : (k : ℕ) → B.seq < k → k ≤ B.seq + length w.batches → (y : ℕ) (d : Call) → y < length (batch_at B w.batches k).calls → WasBegunByCaller S B w (get_or (batch_at B w.batches k).calls y d)
        begun k l u y d v = (
          h,
          omega (arith, before, tickets_grow S Lawful B w.batches g.shared.stands B.seq (k - 1) c.caller (omega arith) (omega arith) (omega arith) h),
          omega (arith, ticket_upto S Lawful B w.batches g.shared.stands k (committed_seq w.words) l (omega (arith, g.shared.counted.count)) (omega (arith, g.shared.counted.count)) y d v, upto_at S Lawful B w g c.caller m h m.place a),
          λ o q. mine_at S Lawful B w g c.caller m h m.place o a k l (omega (arith, g.shared.counted.count)) y d v refl q,
        )
          where
            c : Call
            c = get_or (batch_at B w.batches k).calls y d

            h : c.caller < S.callers
            h = (g.shared.stands.now k l u y d v).0

            m : CallState
            m = machine_in w c.caller

            a : HoldsAtPlace S B w.words w.batches c.caller m m.place
            a = g.each c.caller m h (own c.caller h)

            before : last_ticket_by S B w.batches (k - 1) c.caller < c.ticket
            before = let e : k - 1 + 1 ≡ k = omega arith in (rw e at (g.shared.stands.rises (k - 1) (omega arith) (omega arith))) y d v

        knows : (i : ℕ) (m : CallState) (p : Place) → HoldsAtPlace S B w.words w.batches i m p → knows_state p ≡ true → Agrees m.known (numbers_after B w.batches m.seq)
        knows i m (TryCell x) a q = a.state.agrees
        knows i m LoadOwnTicket a q = a.looks.state.agrees
        knows i m LoadShape a q = a.looks.state.agrees
        knows i m (LoadReply j) a q = a.looks.state.agrees
        knows i m LoadAnnouncement a q = a.past.looks.state.agrees
        knows i m LoadTicket a q = a.scanning.past.looks.state.agrees
        knows i m (LoadScript j) a q = a.scanning.past.looks.state.agrees
        knows i m (LoadCell x) a q = a.scanning.past.looks.state.agrees
        knows i m RaiseOld a q = a.past.looks.state.agrees
        knows i m (StoreLog x) a q = a.storing.stored.past.looks.state.agrees
        knows i m (RaiseLog x) a q = a.storing.stored.past.looks.state.agrees
        knows i m StoreRequest a q = a.stored.past.looks.state.agrees
        knows i m RaiseRequest a q = a.stored.past.looks.state.agrees
        knows i m ExchangeCurrent a q = a.stored.past.looks.state.agrees
        knows i m p a q = cc

        reads_own : (i : ℕ) (m : CallState) (p : Place) → HoldsAtPlace S B w.words w.batches i m p → OwnCellsAreOfState S (state_after B w.batches m.seq) i m p
        reads_own i m LoadShape a = a.finds
        reads_own i m (LoadReply j) a = (a.finds, a.reply)
        reads_own i m p a = tt

        uses : (i : ℕ) (m : CallState) → HoldsAtPlace S B w.words w.batches i m m.place → UsesOneState S B w i m
        uses i m a = record { known = knows i m m.place a; own = reads_own i m m.place a }

        upto_last : durable_seq S w.words ≤ committed_seq w.words
        upto_last = go g.shared.durable.step
          where
            go : (committed_seq w.words ≡ durable_seq S w.words) ⊎ ((committed_seq w.words ≡ durable_seq S w.words + 1) × IsLastOpen B w.words) → durable_seq S w.words ≤ committed_seq w.words
            go (inl q) = omega (arith, q)
            go (inr q) = omega (arith, q.0)

        -- the durable owner is a batch's, or the start's
        owner_in : (durable_seq S w.words < B.seq + 1) ⊎ (B.seq + 1 ≤ durable_seq S w.words) → payload_of (durable_word S w.words 0) < S.callers
        owner_in (inl q) = rw (g.shared.durable.first (omega (arith, q, g.shared.durable.from))) g.shared.start.owner_in
        owner_in (inr q) = rw (g.shared.durable.owner (omega (arith, q))) (g.shared.counted.owners (durable_seq S w.words) (omega (arith, q)) upto_last)

        old_words : (a : ℕ) → a < S.cells → seq_of (recovered_data S.callers S.cells (durable_word S w.words) a) ≤ durable_seq S w.words
        old_words a l = rw (claim S Lawful B w g a l) (old S B w.batches g.shared.start (logs_of g) (durable_seq S w.words) a g.shared.durable.from (reach g.shared.durable.step) l)

        data_held : (a : ℕ) → (durable_cell S w.words a ≡ data_word_after B w.batches (durable_seq S w.words) a) ⊎ (IsLastOpen B w.words × (committed_seq w.words ≡ durable_seq S w.words) × (durable_cell S w.words a ≡ data_word_after B w.batches (durable_seq S w.words - 1) a)) → WasHeldByCell B w.words w.batches a (durable_cell S w.words a)
        data_held a (inl q) = (durable_seq S w.words, g.shared.durable.from, upto_last, q)
        data_held a (inr q) = (durable_seq S w.words - 1, omega (arith, q.0.any, q.1), omega (arith, upto_last), q.2)

        held : (c : ℕ) → HasHeld S B w.words w.batches c (durable_word S w.words c)
        held c = record {
          current = λ q. rw q (g.shared.durable.from, g.shared.durable.owner, g.shared.durable.first);
          request = λ j l q. subst (λ (x : ℕ). IsRequest B w.words w.batches j (durable_word S w.words x)) (sym q) (g.shared.kinds.dur_requests j l);
          data_word = λ a l q. subst (λ (x : ℕ). WasHeldByCell B w.words w.batches a (durable_word S w.words x)) (sym q) (data_held a (g.shared.durable.cells a l));
          log = λ j x l u q. subst (λ (y : ℕ). IsLogWord B w.words w.batches j x (durable_word S w.words y)) (sym q) (g.shared.kinds.dur_logs j x l u);
        }
