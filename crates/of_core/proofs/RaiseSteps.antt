-- The raises keep the invariant.
use Rattle.std.proofs.Common.{◌≡◌, ℕ, ◌+◌, ◌*◌, ◌<◌, ◌≤◌, ◌⊎◌, ◌==◌, inl, inr, List, [], ◌++◌, length, get_or, set, refl, sym, ◌∙◌, ap, subst, arith, Bool, true, false, nat_lt, max}
use Rattle.std.proofs.lemmas.Bool.{cases_eq, cases_lt, cases_order}
use Rattle.std.proofs.lemmas.Bool.Decides.{nat_tests}
use Rattle.std.proofs.lemmas.List.{append-nil}
use Rattle.of_cell.specs.Words.{pack, seq_of, payload_of}
use Rattle.of_cell.proofs.Order.{seq_word, pay_word, seq_mono, word_later, word_next, word_eta}
use Rattle.of_mem.specs.Meaning.{IsSoundMeaning}
use Rattle.of_core.specs.declared.place.Place.{Place}
use Rattle.of_core.specs.declared.place.Place.TheVariants.{RaiseOld, StoreLog, RaiseLog, RaiseRequest, ExchangeCurrent, RaiseCurrent, RaiseTarget, RaiseClosed}
use Rattle.of_core.specs.Table.{most_entries, Setup, request_at, data_at, log_at, first_operation_cell, durable_at, current_word, request_of, data_word, log_word_of, durable_word, durable_request, durable_cell, durable_log, committed_seq, committed_owner, durable_seq}
use Rattle.of_core.specs.Machine.{Call, no_call, CallState, log_entry, log_words}
use Rattle.of_core.specs.Steps.{after_raise_log, next_entry, after_raise_current, after_raise_closed, take_word_at}
use Rattle.of_core.specs.TableMoment.{Read, Moment, Batch, TableStart, after_counted_step}
use Rattle.of_core.specs.History.{batch_at, last_ticket_by}
use Rattle.of_core.specs.WordsMatch.{IsRequest, IsLogWord, WordsMatchHistory, WasHeldByCell, IsLastOpen}
use Rattle.of_core.specs.Rounds.{KnowsOwnRequest, HasNothingUnderWay}
use Rattle.of_core.specs.Transaction.{IsApplied, IsApplying, AppliesAs, IsStoringLog}
use Rattle.of_core.specs.Invariant.{HoldsAtPlace, MeetsCore, IsLoaded}
use Rattle.of_core.specs.Guarantees.{KeepsGuarantee, Guarantees}
use Rattle.of_core.proofs.Logs.{length-log_words}
use Rattle.of_core.proofs.Raises.{vs, behind, table, here, rises, low, current_same, req_same, cell_same, log_same, raise_shared}
use Rattle.of_core.proofs.Alike.{applies_as, past_to}
use Rattle.of_core.proofs.Assembling.{assemble_read}
use Rattle.of_core.proofs.Tries.{resumed_at}
use Rattle.of_core.proofs.Rounds.{quiet_from, settled_by}
use Rattle.of_core.proofs.Tickets.{ticket_upto}
use Rattle.of_core.proofs.Stability.{entry_in, owner_in as owner_of, at_stable, loaded_stable, log_in, same_row}

-- what a raise to a word that the cell has held leaves
abbrev pub raised : Setup → Moment → ℕ → ℕ → Moment
raised S w c v = record { words = set w.words (durable_at S c) (max (durable_word S w.words c) v); machines = w.machines; batches = w.batches; reads = w.reads; loaded = w.loaded }

module _ {S : Setup} {Lawful : List ℕ → Type 0} {B : TableStart} where
  -- a raise is no machine's, so it leaves what is true of each
  pub moves_raise : (ws : List ℕ) (bs : List Batch) (g : WordsMatchHistory S Lawful B ws bs) (c v : ℕ) (e : IsLoaded S B ws bs (c, v)) (i : ℕ) → Guarantees S B i ws bs (vs S Lawful B ws bs g c v e) bs
  moves_raise ws bs g c v e i = record {
    same = λ q. ap payload_of (current_same S Lawful B ws bs g c v e);
    states = λ k l m. refl;
    batches = λ k l m. refl;
    limit = rw (current_same S Lawful B ws bs g c v e) g.counted.limit;
    newer = λ k l m. absurd (omega (arith, ap seq_of (current_same S Lawful B ws bs g c v e)));
    tickets = λ k j l m. absurd (omega (arith, ap seq_of (current_same S Lawful B ws bs g c v e)));
    snapshot = λ k j l m. absurd (omega (arith, ap seq_of (current_same S Lawful B ws bs g c v e)));
    script_of = λ j x l u. inl (behind S Lawful B ws bs g c v e j x);
    announcements = λ j l. inl (behind S Lawful B ws bs g c v e j S.instrs);
    newer_owner = λ k l m. absurd (omega (arith, ap seq_of (current_same S Lawful B ws bs g c v e)));
    requests = λ j l n. inl (req_same S Lawful B ws bs g c v e j l);
    changes = λ a l. inl (cell_same S Lawful B ws bs g c v e a l);
    logs = λ j l n x u. log_same S Lawful B ws bs g c v e j x l u;
    log_how = λ j x l u. inl (log_same S Lawful B ws bs g c v e j x l u);
    newer_logs = λ k x l m. absurd (omega (arith, ap seq_of (current_same S Lawful B ws bs g c v e)));
    rise = λ x l. omega (arith, table S Lawful B ws bs g c v e x l);
    durs = λ x l. rises S Lawful B ws bs g c v e x;
    low = low S Lawful B ws bs g c v e;
  }

  pub loaded_raise : (w : Moment) → (g : MeetsCore S Lawful B w) → (c v : ℕ) → (e : IsLoaded S B w.words w.batches (c, v)) → (d : ℕ × ℕ) → IsLoaded S B w.words w.batches d → IsLoaded S B (raised S w c v).words w.batches d
  loaded_raise w g c v e d l = loaded_stable S Lawful B 0 w.words w.batches (vs S Lawful B w.words w.batches g.shared c v e) w.batches (moves_raise w.words w.batches g.shared c v e 0) g.shared (raise_shared S Lawful B w.words w.batches g.shared c v e).kinds d l

  pub raise_kept : (w : Moment) → MeetsCore S Lawful B w → (c v : ℕ) → IsLoaded S B w.words w.batches (c, v) → MeetsCore S Lawful B (raised S w c v)
  raise_kept w g c v e = record {
    shared = raise_shared S Lawful B w.words w.batches g.shared c v e;
    members = g.members;
    loaded = λ k d l. loaded_raise w g c v e (get_or w.loaded k d) (g.loaded k d l);
    each = λ j n l q. at_stable S Lawful B (j + 1) w.words w.batches (vs S Lawful B w.words w.batches g.shared c v e) w.batches (moves_raise w.words w.batches g.shared c v e (j + 1)) g.shared j l (λ z. omega arith) n n.place (g.each j n l q);
  }

  -- the machine m of caller i raises
  module _ {w : Moment} (g : MeetsCore S Lawful B w) {i : ℕ} (h : i < S.callers) (m : CallState) where
    -- what its place says stays behind the raise
    stays : (p : Place) → HoldsAtPlace S B w.words w.batches i m p → (c v : ℕ) (e : IsLoaded S B w.words w.batches (c, v)) → HoldsAtPlace S B (raised S w c v).words w.batches i m p
    stays p a c v e = at_stable S Lawful B (i + 1) w.words w.batches (vs S Lawful B w.words w.batches g.shared c v e) w.batches (moves_raise w.words w.batches g.shared c v e (i + 1)) g.shared i h (λ z. omega arith) m p a

    -- a word of one's request
    req_loaded : (j v : ℕ) → j < S.callers → KnowsOwnRequest B w.words w.batches j v → IsLoaded S B w.words w.batches (request_at j, v)
    req_loaded j v l u = record {
      place = omega arith;
      low = u.low;
      was_cur = λ q. absurd (omega arith);
      held = λ a k q. absurd (omega arith);
      request = λ y k q. let e : j ≡ y = omega arith in subst (λ (z : ℕ). IsRequest B w.words w.batches z v) e u.held;
      log = λ y x k t q. absurd (omega arith);
    }

    -- behind the raise it goes on as n
    goes_on : {rs : List Read} → (p : Place) → HoldsAtPlace S B w.words w.batches i m p → (c v : ℕ) (e : IsLoaded S B w.words w.batches (c, v)) (n : CallState)
        → (HoldsAtPlace S B (raised S w c v).words w.batches i m p → v ≤ durable_word S (raised S w c v).words c → (durable_word S (raised S w c v).words c ≤ get_or (raised S w c v).words c 0) → HoldsAtPlace S B (raised S w c v).words w.batches i n n.place)
        → KeepsGuarantee S Lawful B i w (record { words = set w.words (durable_at S c) (max (durable_word S w.words c) v); machines = set w.machines i n; batches = w.batches ++ []; reads = rs; loaded = w.loaded })
    goes_on p a c v e n f = record {
      core = (assemble_read (raise_kept w g c v e) h n refl (append-nil w.batches)
          (f (stays p a c v e) (omega (arith, here S Lawful B w.words w.batches g.shared c v e)) (low S Lawful B w.words w.batches g.shared c v e c e.place))).core;
      moves = rw (append-nil w.batches) (moves_raise w.words w.batches g.shared c v e i);
    }

    pub raise_old_kept : HoldsAtPlace S B w.words w.batches i m RaiseOld → KeepsGuarantee S Lawful B i w (after_counted_step S i m RaiseOld w)
    raise_old_kept a =
        goes_on RaiseOld a (request_at m.caller) m.kept (subst (λ (j : ℕ). IsLoaded S B w.words w.batches (request_at j, m.kept)) (sym a.past.looks.round.begun.caller) (req_loaded i m.kept h a.past.looks.round.begun.kept))
        (take_word_at S m (durable_request S w.words m.caller) RaiseOld) (λ b u t. to _ b)
      where
        to : (xs : List ℕ) → HoldsAtPlace S B xs w.batches i m RaiseOld → HoldsAtPlace S B xs w.batches i (take_word_at S m (durable_request S w.words m.caller) RaiseOld) (StoreLog 0)
        to xs b = record {
          storing = record {
            stored = record {
              past = past_to b.past refl refl refl refl refl refl refl refl b.past.looks.round.begun.kept;
              over = b.scan;
              each = λ y l. absurd (omega arith);
              durable = λ y l. absurd (omega arith);
              rest = λ y l u. b.calm.logs y u;
            };
            own = b.calm.own;
            level = b.calm.level;
            shut = b.calm.shut;
          };
          more = omega arith;
        }

    pub raise_log_kept : (x : ℕ) → HoldsAtPlace S B w.words w.batches i m (RaiseLog x) → KeepsGuarantee S Lawful B i w (after_counted_step S i m (RaiseLog x) w)
    raise_log_kept x a =
        goes_on (RaiseLog x) a (log_at S m.caller x) new loads
        (take_word_at S m (durable_log S w.words m.caller x) (RaiseLog x)) (λ b u t. to (raised S w (log_at S m.caller x) new).words (nat_lt (x + 1) (length (log_words m.log))) refl b u t)
      where
        new : ℕ
        new = pack (m.seq + 1) (get_or (log_words m.log) x 0)

        ci : m.caller ≡ i
        ci = a.storing.stored.past.looks.round.begun.caller

        x_in : x < 2 * most_entries S + 1
        x_in = omega (arith, length-log_words m.log, a.storing.stored.over.over.is_log.few, a.more)

        loads : IsLoaded S B w.words w.batches (log_at S m.caller x, new)
        loads = subst (λ (j : ℕ). IsLoaded S B w.words w.batches (log_at S j x, new)) (sym ci)
            (record { place = log_in S i x h x_in; low = omega (arith, a.storing.stored.each x (omega arith)); was_cur = λ q. absurd (omega arith); held = λ y l q. absurd (omega arith); request = λ y l q. absurd (omega arith); log = λ y z l u q. word_at y z (same_place y z u q) })
          where
            now : log_word_of S w.words i x ≡ new
            now = a.storing.stored.each x (omega arith)

            same_place : (y z : ℕ) → z < 2 * most_entries S + 1 → log_at S i x ≡ log_at S y z → (i ≡ y) × (x ≡ z)
            same_place y z u q = let r : i ≡ y = same_row i y (2 * most_entries S + 1) x z x_in u (omega arith) in (r, omega (arith, ap (λ (k : ℕ). k * (2 * most_entries S + 1)) r))

            word_at : (y z : ℕ) → (i ≡ y) × (x ≡ z) → IsLogWord B w.words w.batches y z new × (seq_of new ≡ seq_of (log_word_of S w.words y z) → new ≡ log_word_of S w.words y z)
            word_at y z r = subst (λ (k : ℕ). IsLogWord B w.words w.batches k z new × (seq_of new ≡ seq_of (log_word_of S w.words k z) → new ≡ log_word_of S w.words k z)) r.0
                (subst (λ (k : ℕ). IsLogWord B w.words w.batches i k new × (seq_of new ≡ seq_of (log_word_of S w.words i k) → new ≡ log_word_of S w.words i k)) r.1
                (subst (λ (k : ℕ). IsLogWord B w.words w.batches i x k) now (g.shared.kinds.logs i x h x_in), λ q. sym now))

        to : (xs : List ℕ) (b : Bool) → nat_lt (x + 1) (length (log_words m.log)) ≡ b → HoldsAtPlace S B xs w.batches i m (RaiseLog x) → new ≤ durable_word S xs (log_at S m.caller x) → durable_word S xs (log_at S m.caller x) ≤ get_or xs (log_at S m.caller x) 0
            → HoldsAtPlace S B xs w.batches i (after_raise_log m x b) (after_raise_log m x b).place
        to xs b e k u t = by b e
          where
            now : durable_log S xs i x ≡ new
            now = let z : log_word_of S xs i x ≡ new = k.storing.stored.each x (omega arith) in
                let u' : new ≤ durable_log S xs i x = rw ci at u in
                let t' : durable_log S xs i x ≤ log_word_of S xs i x = rw ci at t in
                omega (arith, z, u', t')

            upto : (y : ℕ) → y < x + 1 → (y ≡ x) ⊎ (y ≡ x → ⊥) → durable_log S xs i y ≡ pack (m.seq + 1) (get_or (log_words m.log) y 0)
            upto y l (inl q) = rw q now
            upto y l (inr q) = k.storing.stored.durable y (omega arith)

            logs : (n : CallState) (z : ℕ) → z ≡ x + 1 → n.caller ≡ m.caller → n.made ≡ m.made → n.op ≡ m.op → n.seq ≡ m.seq → n.owner ≡ m.owner → n.known ≡ m.known → n.kept ≡ m.kept → n.log ≡ m.log → n.raw ≡ m.raw → n.rounds ≡ m.rounds → n.first ≡ m.first → n.calls ≡ m.calls → IsStoringLog S B xs w.batches i n z z
            logs n z zx a1 b1 c1 d1 e1 f1 k1 g1 h1 r1 s1 t1 = record {
              stored = record {
                past = past_to k.storing.stored.past a1 b1 c1 d1 e1 r1 s1 f1 (rw k1 k.storing.stored.past.looks.round.begun.kept);
                over = rw (d1, b1, c1, h1, t1, g1) k.storing.stored.over;
                each = λ y l. k.storing.stored.each y (omega arith) ∙ sym (same_word y);
                durable = λ y l. upto y (omega arith) (cases_eq y x) ∙ sym (same_word y);
                rest = λ y l v. rw d1 (k.storing.stored.rest y (omega arith) v);
              };
              own = rw d1 k.storing.own;
              level = k.storing.level;
              shut = k.storing.shut;
            }
              where
                same_word : (y : ℕ) → pack (n.seq + 1) (get_or (log_words n.log) y 0) ≡ pack (m.seq + 1) (get_or (log_words m.log) y 0)
                same_word y = ap (λ (q : ℕ). pack (q + 1) (get_or (log_words n.log) y 0)) d1 ∙ ap (λ (es : List (ℕ × ℕ)). pack (m.seq + 1) (get_or (log_words es) y 0)) g1

            by : (b : Bool) → nat_lt (x + 1) (length (log_words m.log)) ≡ b → HoldsAtPlace S B xs w.batches i (after_raise_log m x b) (after_raise_log m x b).place
            by true e = record { storing = logs (after_raise_log m x true) (x + 1) refl refl refl refl refl refl refl refl refl refl refl refl refl; more = (let z : x + 1 < length (log_words m.log) = grind (arith, nat_tests) in z) }
            by false e = logs (after_raise_log m x false) (length (log_words m.log)) (whole (let z : length (log_words m.log) ≤ x + 1 = grind (arith, nat_tests) in z)) refl refl refl refl refl refl refl refl refl refl refl refl
              where
                whole : length (log_words m.log) ≤ x + 1 → length (log_words m.log) ≡ x + 1
                whole v = omega (arith, k.more)

    pub raise_request_kept : HoldsAtPlace S B w.words w.batches i m RaiseRequest → KeepsGuarantee S Lawful B i w (after_counted_step S i m RaiseRequest w)
    raise_request_kept a =
        goes_on RaiseRequest a (request_at m.caller) new (subst (λ (j : ℕ). IsLoaded S B w.words w.batches (request_at j, new)) (sym ci) (req_loaded i new h (record { low = omega (arith, a.asks); held = is_open_word })))
        (take_word_at S m (durable_request S w.words m.caller) RaiseRequest) (λ b u t. to (raised S w (request_at m.caller) new).words b u t)
      where
        new : ℕ
        new = pack (m.seq + 1) 0

        ci : m.caller ≡ i
        ci = a.stored.past.looks.round.begun.caller

        is_open_word : IsRequest B w.words w.batches i new
        is_open_word l = inl (pay_word (m.seq + 1) 0 (omega arith))

        to : (xs : List ℕ) → HoldsAtPlace S B xs w.batches i m RaiseRequest → new ≤ durable_word S xs (request_at m.caller) → durable_word S xs (request_at m.caller) ≤ get_or xs (request_at m.caller) 0 → HoldsAtPlace S B xs w.batches i (take_word_at S m (durable_request S w.words m.caller) RaiseRequest) ExchangeCurrent
        to xs b u t =
            let u' : new ≤ durable_request S xs i = rw ci at u in
            let t' : durable_request S xs i ≤ request_of xs i = rw ci at t in record {
              stored = record {
                past = past_to b.stored.past refl refl refl refl refl refl refl refl (record { low = omega (arith, b.asks); held = λ l. inl (pay_word (m.seq + 1) 0 (omega arith)) });
                over = b.stored.over;
                each = b.stored.each;
                durable = b.stored.durable;
                rest = b.stored.rest;
              };
              asks = b.asks;
              raised = omega (arith, u', t', b.asks);
            }

    pub raise_current_kept : HoldsAtPlace S B w.words w.batches i m RaiseCurrent → KeepsGuarantee S Lawful B i w (after_counted_step S i m RaiseCurrent w)
    raise_current_kept a =
        goes_on RaiseCurrent a 0 new loads (take_word_at S m (durable_word S w.words 0) RaiseCurrent) (λ b u t. to (raised S w 0 new).words (nat_lt 0 (length m.log)) refl b u)
      where
        new : ℕ
        new = pack m.seq m.owner

        owner_in : m.owner < S.callers
        owner_in = owner_of g.shared a

        new_seq : seq_of new ≡ m.seq
        new_seq = seq_word m.seq m.owner (omega (arith, owner_in, g.shared.few))

        new_pay : payload_of new ≡ m.owner
        new_pay = pay_word m.seq m.owner (omega (arith, owner_in, g.shared.few))

        under : (m.seq < committed_seq w.words) ⊎ (committed_seq w.words ≤ m.seq) → new ≤ current_word w.words
        under (inl l) = omega (arith, word_later m.seq m.owner (current_word w.words) (omega (arith, owner_in, g.shared.few)) l)
        under (inr l) =
            let e : m.seq ≡ committed_seq w.words = omega (arith, a.upto) in
            let o : m.owner ≡ committed_owner w.words = sym (g.shared.counted.owner (omega (arith, a.after, e)) ∙ subst (λ (k : ℕ). (batch_at B w.batches k).owner ≡ m.owner) e a.committed) in
            let z : new ≡ current_word w.words = ap (λ (k : ℕ). pack k m.owner) e ∙ ap (pack (committed_seq w.words)) o ∙ word_eta (current_word w.words) in
            omega arith

        loads : IsLoaded S B w.words w.batches (0, new)
        loads = record {
          place = omega arith;
          low = under (cases_lt m.seq (committed_seq w.words));
          was_cur = λ q. (omega (arith, new_seq, a.after), λ l. new_pay ∙ sym a.committed ∙ ap (λ (k : ℕ). (batch_at B w.batches k).owner) (sym new_seq), λ q. absurd (omega (arith, new_seq, a.after)));
          held = λ y l q. absurd (omega arith);
          request = λ y l q. absurd (omega arith);
          log = λ y z l u q. absurd (omega arith);
        }

        to : (xs : List ℕ) (b : Bool) → nat_lt 0 (length m.log) ≡ b → IsApplying S B xs w.batches i m 0 → new ≤ durable_word S xs 0 → HoldsAtPlace S B xs w.batches i (after_raise_current m b) (after_raise_current m b).place
        to xs true e k u = record { applies = applies_as k refl refl refl refl refl refl refl refl refl refl refl refl k.done; more = (let z : 0 < length m.log = grind (arith, nat_tests) in z); durable = omega (arith, new_seq, seq_mono new (durable_word S xs 0) u) }
        to xs false e k u =
            let z : length m.log ≡ 0 = grind (arith, nat_tests) in
            record { applies = applies_as k refl refl refl refl refl refl refl refl refl refl refl refl (λ y l. absurd (omega arith)); durable = omega (arith, new_seq, seq_mono new (durable_word S xs 0) u) }

    pub raise_target_kept : (j f : ℕ) → HoldsAtPlace S B w.words w.batches i m (RaiseTarget j f) → KeepsGuarantee S Lawful B i w (after_counted_step S i m (RaiseTarget j f) w)
    raise_target_kept j f a =
        goes_on (RaiseTarget j f) a (data_at S x) f loads (take_word_at S m (durable_cell S w.words x) (RaiseTarget j f)) (λ b u t. to (raised S w (data_at S x) f).words (nat_lt (j + 1) (length m.log)) refl b u)
      where
        x : ℕ
        x = (log_entry m j).0

        x_in : x < S.cells
        x_in = (entry_in g.shared a.entry.applies j a.entry.more).0

        loads : IsLoaded S B w.words w.batches (data_at S x, f)
        loads = record {
          place = omega (arith, x_in);
          low = a.low;
          was_cur = λ q. absurd (omega arith);
          held = λ y l q. let e : x ≡ y = omega arith in subst (λ (k : ℕ). WasHeldByCell B w.words w.batches k f) e a.held;
          request = λ y l q. absurd (omega arith);
          log = λ y z l u q. absurd (omega (arith, x_in));
        }

        to : (xs : List ℕ) (b : Bool) → nat_lt (j + 1) (length m.log) ≡ b → HoldsAtPlace S B xs w.batches i m (RaiseTarget j f) → f ≤ durable_word S xs (data_at S x) → HoldsAtPlace S B xs w.batches i (next_entry m j b) (next_entry m j b).place
        to xs b e k u = by b e
          where
            done : (y : ℕ) → y < j + 1 → (y ≡ j) ⊎ (y ≡ j → ⊥) → IsApplied S xs m.seq (log_entry m y).0
            done y l (inl q) = rw q (record { cell = omega (arith, k.newer, seq_mono f (data_word S xs x) k.low); durable = omega (arith, k.newer, seq_mono f (durable_cell S xs x) u) })
            done y l (inr q) = k.entry.applies.done y (omega arith)

            by : (b : Bool) → nat_lt (j + 1) (length m.log) ≡ b → HoldsAtPlace S B xs w.batches i (next_entry m j b) (next_entry m j b).place
            by true e = record { applies = applies_as k.entry.applies refl refl refl refl refl refl refl refl refl refl refl refl (λ y l. done y l (cases_eq y j)); more = (let z : j + 1 < length m.log = grind (arith, nat_tests) in z); durable = k.entry.durable }
            by false e = let z : length m.log ≡ j + 1 = whole (let z : length m.log ≤ j + 1 = grind (arith, nat_tests) in z) in
                record { applies = applies_as k.entry.applies refl refl refl refl refl refl refl refl refl refl refl refl (λ y l. done y (omega arith) (cases_eq y j)); durable = k.entry.durable }
              where
                whole : length m.log ≤ j + 1 → length m.log ≡ j + 1
                whole v = omega (arith, k.entry.more)

  -- behind the last raise of an apply a helper goes on with its round, and an owner's call is answered
  left_close : {w : Moment} (g : MeetsCore S Lawful B w) {i : ℕ} (h : i < S.callers) (m : CallState) → IsSoundMeaning S.meaning Lawful (first_operation_cell S) S.cells → IsApplying S B w.words w.batches i m (length m.log) → m.seq ≤ durable_seq S w.words → pack m.seq 0 < request_of w.words m.owner → pack m.seq 1 ≤ durable_request S w.words m.owner
      → (b d : Bool) → m.helps ≡ b → (m.rounds == 0) ≡ d → HoldsAtPlace S B w.words w.batches i (after_raise_closed S m b d) (after_raise_closed S m b d).place
  left_close {w} g {i} h m sound a top above high b d eb ed = go b eb (subst (λ (x : Bool). AppliesAs S B w.words w.batches i m x) eb a.mode)
    where
      go : (b : Bool) → m.helps ≡ b → AppliesAs S B w.words w.batches i m b → HoldsAtPlace S B w.words w.batches i (after_raise_closed S m b d) (after_raise_closed S m b d).place
      go true e q = resumed_at g h m sound q.helper q.current_word q.calm (quiet_from g h m.seq m.owner q.current_word (λ l z. omega arith)) d ed
      go false e q = record {
        caller = q.caller;
        calm = calm;
        kept = record { low = omega (arith, closed); held = λ l. inr (pay_word m.seq 1 (omega arith), rw (seq_word m.seq 1 (omega arith)) a.upto, rw (seq_word m.seq 1 (omega arith)) (a.committed ∙ q.owner)) };
        quieted = inl (omega (arith, q.says, q.reached));
        settled = settled_by g h m.seq (omega (arith, a.after)) a.upto (omega (arith, q.upto, has)) (λ z o. omega (arith, above, o.asks, ap (λ (k : ℕ). pack k 0) z, ap (request_of w.words) (owner z o)));
        upto = q.upto;
        older = omega (arith, q.says);
        told = record { from = a.after; durable = top; upto = a.upto; call = q.call };
      }
        where
          -- its call is in the batch
          has : m.made ≤ last_ticket_by S B w.batches m.seq i
          has =
              let c : Call = get_or (batch_at B w.batches m.seq).calls q.call.place no_call in
              let t : c.ticket ≤ last_ticket_by S B w.batches m.seq c.caller = ticket_upto S Lawful B w.batches g.shared.stands m.seq m.seq a.after (omega arith) (omega (arith, a.upto, g.shared.counted.count)) q.call.place no_call q.call.among in
              omega (arith, t, q.call.ticket, ap (last_ticket_by S B w.batches m.seq) q.call.caller)

          owner : m.seq ≡ committed_seq w.words → IsLastOpen B w.words → committed_owner w.words ≡ m.owner
          owner z o = g.shared.counted.owner o.any ∙ ap (λ (k : ℕ). (batch_at B w.batches k).owner) (sym z) ∙ a.committed

          above' : pack m.seq 0 < request_of w.words i
          above' = rw q.owner at above

          closed : request_of w.words i ≡ pack m.seq 1
          closed = which q.asks
            where
              which : (request_of w.words i ≡ pack m.seq 0) ⊎ (request_of w.words i ≡ pack m.seq 1) → request_of w.words i ≡ pack m.seq 1
              which (inl z) = absurd (omega (arith, above'))
              which (inr z) = z

          level : durable_request S w.words i ≡ request_of w.words i
          level = let t : durable_request S w.words i ≤ request_of w.words i = g.shared.durable.low (request_at i) (omega arith) in let u : pack m.seq 1 ≤ durable_request S w.words i = rw q.owner at high in omega (arith, closed)

          calm : HasNothingUnderWay S B w.words w.batches i (committed_seq w.words)
          calm = record {
            own = omega (arith, ap seq_of closed, seq_word m.seq 1 (omega arith), a.upto);
            level = level;
            shut = λ k l u o. shut k l u o (cases_order k m.seq);
            logs = λ y u. omega (arith, q.logs y u, a.upto);
          }
            where
              shut : (k : ℕ) → B.seq < k → k ≤ committed_seq w.words → (batch_at B w.batches k).owner ≡ i → (k ≡ m.seq) ⊎ ((k < m.seq) ⊎ (m.seq < k)) → pack k 0 < request_of w.words i
              shut k l u o (inl z) = rw z above'
              shut k l u o (inr (inl z)) = omega (arith, closed, word_later k 0 (pack m.seq 1) (omega arith) (omega (arith, seq_word m.seq 1 (omega arith))))
              shut k l u o (inr (inr z)) = absurd (q.unowned k z u o)

  pub raise_closed_kept : {w : Moment} (g : MeetsCore S Lawful B w) {i : ℕ} (h : i < S.callers) (m : CallState) → IsSoundMeaning S.meaning Lawful (first_operation_cell S) S.cells → HoldsAtPlace S B w.words w.batches i m RaiseClosed → KeepsGuarantee S Lawful B i w (after_counted_step S i m RaiseClosed w)
  raise_closed_kept {w} g {i} h m sound a =
      let g1 : MeetsCore S Lawful B (raised S w (request_at m.owner) new) = raise_kept w g (request_at m.owner) new loads in
      let b : HoldsAtPlace S B (raised S w (request_at m.owner) new).words w.batches i m RaiseClosed = stays g h m RaiseClosed a (request_at m.owner) new loads in
      record {
        core = (assemble_read g1 h (after_raise_closed S m m.helps (m.rounds == 0)) refl (append-nil w.batches)
            (left_close g1 h m sound b.applies b.durable b.closed (omega (arith, here S Lawful B w.words w.batches g.shared (request_at m.owner) new loads)) m.helps (m.rounds == 0) refl refl)).core;
        moves = rw (append-nil w.batches) (moves_raise w.words w.batches g.shared (request_at m.owner) new loads i);
      }
    where
      new : ℕ
      new = pack m.seq 1

      owner_in : m.owner < S.callers
      owner_in = owner_of g.shared a.applies

      loads : IsLoaded S B w.words w.batches (request_at m.owner, new)
      loads = record {
        place = omega (arith, owner_in);
        low = omega (arith, a.closed, word_next m.seq 0);
        was_cur = λ q. absurd (omega arith);
        held = λ y l q. absurd (omega (arith, owner_in));
        request = λ y l q. let e : m.owner ≡ y = omega arith in λ b. inr (pay_word m.seq 1 (omega arith), rw (seq_word m.seq 1 (omega arith)) a.applies.upto, rw (seq_word m.seq 1 (omega arith)) (a.applies.committed ∙ e));
        log = λ y z l u q. absurd (omega (arith, owner_in));
      }
