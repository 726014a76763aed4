-- A table at its start, with idle machines, meets the invariant.
use Rattle.std.proofs.Common.{◌≡◌, ℕ, zero, suc, ◌+◌, ◌*◌, ◌<◌, ◌≤◌, inl, List, [], ◌∷◌, length, get_or, refl, sym, ◌∙◌, ap, subst, arith}
use Rattle.of_mem.specs.declared.work.TheConstants.{MOST_INSTRS}
use Rattle.of_cell.specs.declared.word.TheConstants.{PAYLOADS}
use Rattle.of_cell.specs.Words.{seq_of, payload_of}
use Rattle.of_cell.proofs.Order.{seq_word, pay_word, seq_zero, pay_zero}
use Rattle.of_mem.specs.Meaning.{IsSoundMeaning}
use Rattle.of_core.specs.Table.{most_entries, Setup, first_operation_cell, cell_count, durable_at, request_at, data_at, log_at, script_word_at, ticket_cell, request_of, announcement_of, committed_seq, durable_seq}
use Rattle.of_core.specs.Machine.{CallState, idle_machine}
use Rattle.of_core.specs.TableMoment.{TableStart}
use Rattle.of_core.specs.History.{data_word_after, last_ticket_by}
use Rattle.of_core.specs.WordsMatch.{MayStart}
use Rattle.of_core.specs.Order.{KeepsCallOrder, HasOnlyOlderCalls}
use Rattle.of_core.specs.Facts.{rests_on_seq}
use Rattle.of_core.specs.Invariant.{MeetsInvariant, MeetsCore, HoldsAtPlace}
use Rattle.of_core.specs.Bound.{MachineIsWithinBound}
use Rattle.of_core.specs.Least.{HasMadeLeastSteps}
use Rattle.of_core.specs.Events.{idle_machines, start_ticket, opening_moment}
use Rattle.of_core.specs.Starts.{first_cells, first_words}
use Rattle.of_core.proofs.States.{state_start}
use Rattle.of_core.proofs.Stability.{log_in}
use Rattle.of_core.proofs.Starts.{closed_above, first_is, request_old, owner_is, cell_is, log_is, word_is, durable_is, behind_is, words_long}
use Rattle.of_core.proofs.Least.{idle_late}

pub idle_rests : (S : Setup) (i made : ℕ) → rests_on_seq (idle_machine S i made) ≡ 0
unfolding rests_on_seq
idle_rests S i made = refl

module _ (S : Setup) (made : ℕ → ℕ) where
  pub idles_length : (i n : ℕ) → length (idle_machines S made i n) ≡ n
  idles_length i zero = refl
  idles_length i (suc n) = ap suc (idles_length (suc i) n)

  idles_at : (j n i : ℕ) (d : CallState) → i < n → get_or (idle_machines S made j n) i d ≡ idle_machine S (j + i) (made (j + i))
  idles_at j zero i d h = absurd (omega arith)
  idles_at j (suc n) zero d h = ap (λ (k : ℕ). idle_machine S k (made k)) (let e : j ≡ j + 0 = omega arith in e)
  idles_at j (suc n) (suc i) d h = idles_at (suc j) n i d (omega arith) ∙ ap (λ (k : ℕ). idle_machine S k (made k)) (let e : suc j + i ≡ j + suc i = omega arith in e)

  -- the machine of caller i
  pub idle_at : (i : ℕ) (d : CallState) → i < S.callers → get_or (idle_machines S made 0 S.callers) i d ≡ idle_machine S i (made i)
  idle_at i d h = idles_at 0 S.callers i d h ∙ ap (λ (k : ℕ). idle_machine S k (made k)) (let e : 0 + i ≡ i = omega arith in e)

-- machines with as many calls behind them are the same
pub idles_same : (S : Setup) (f g : ℕ → ℕ) → ((i : ℕ) → f i ≡ g i) → (i n : ℕ) → idle_machines S f i n ≡ idle_machines S g i n
idles_same S f g same i zero = refl
idles_same S f g same i (suc n) = ap (λ (k : ℕ). idle_machine S i k ∷ idle_machines S f (suc i) n) (same i) ∙ ap (λ (ms : List CallState). idle_machine S i (g i) ∷ ms) (idles_same S f g same (suc i) n)

module _ (S : Setup) (Lawful : List ℕ → Type 0) (sound : IsSoundMeaning S.meaning Lawful (first_operation_cell S) S.cells) (B : TableStart) (may : MayStart S Lawful B) (some : 0 < S.callers) (few : S.callers < PAYLOADS) (own_in : first_operation_cell S ≤ S.cells) (total : ℕ) (room : cell_count S + cell_count S + S.callers * (S.instrs + 1) ≤ total) (narrow : S.instrs ≤ MOST_INSTRS) (little : S.cells < PAYLOADS) where
  abbrev ws : List ℕ
  ws = first_words S.callers S.cells B total

  -- a cell, and the same durably
  word_at : (c : ℕ) → c < cell_count S → get_or ws c 0 ≡ get_or (first_cells S.callers S.cells B) c 0
  word_at c l = word_is S B may.start total c l

  durable_word_at : (c : ℕ) → c < cell_count S → get_or ws (durable_at S c) 0 ≡ get_or (first_cells S.callers S.cells B) c 0
  durable_word_at c l = durable_is S B may.start total c l

  level : (c : ℕ) → c < cell_count S → get_or ws (durable_at S c) 0 ≡ get_or ws c 0
  level c l = durable_word_at c l ∙ sym (word_at c l)

  small : B.owner < PAYLOADS
  small = omega (arith, may.start.owner_in)

  last_is : committed_seq ws ≡ B.seq
  last_is = ap seq_of (word_at 0 (omega arith) ∙ first_is S B may.start) ∙ seq_word B.seq B.owner small

  holder_is : payload_of (get_or ws 0 0) ≡ B.owner
  holder_is = ap payload_of (word_at 0 (omega arith) ∙ first_is S B may.start) ∙ pay_word B.seq B.owner small

  risen_is : durable_seq S ws ≡ B.seq
  risen_is = ap seq_of (level 0 (omega arith)) ∙ last_is

  at_start : (k a : ℕ) → k ≡ B.seq → data_word_after B [] k a ≡ get_or B.cells a 0
  at_start k a e = rw e (ap (λ (xs : List ℕ). get_or xs a 0) (state_start B []))

  cell_at : (a : ℕ) → a < S.cells → get_or ws (S.callers + 1 + a) 0 ≡ get_or B.cells a 0
  cell_at a l = word_at (S.callers + 1 + a) (omega arith) ∙ cell_is S B may.start a l

  request_seq : (i : ℕ) → i < S.callers → seq_of (request_of ws i) ≤ B.seq
  request_seq i l = rw (word_at (i + 1) (omega arith)) (request_old S B may.start i l)

  pub log_zero : (j x : ℕ) → j < S.callers → x < 2 * most_entries S + 1 → get_or ws (log_at S j x) 0 ≡ 0
  log_zero j x l u = word_at (log_at S j x) (log_in S j x l u) ∙ log_is S B may.start (log_at S j x) (omega arith)

  said_zero : (i : ℕ) → announcement_of S ws i ≡ 0
  said_zero i = behind_is S B may.start total (script_word_at S i S.instrs) (omega arith)

  seq_said : (i : ℕ) → seq_of (announcement_of S ws i) ≡ 0
  seq_said i = ap seq_of (said_zero i) ∙ seq_zero

  ticket_is : (i : ℕ) → last_ticket_by S B [] (committed_seq ws) i ≡ start_ticket S B i
  ticket_is i = ap payload_of (at_start (committed_seq ws) (ticket_cell S i) last_is)

  good_start : MeetsCore S Lawful B (opening_moment S B total)
  good_start = record {
    shared = record {
      start = may.start;
      few = few;
      narrow = narrow;
      little = little;
      durable = record {
        low = λ c l. omega (arith, level c l);
        from = omega (arith, risen_is);
        owner = λ l. absurd (omega (arith, risen_is));
        first = λ q. ap payload_of (level 0 (omega arith)) ∙ holder_is;
        step = inl (last_is ∙ sym risen_is);
        fresh = λ a l. rw (cell_at a l, risen_is) (may.start.old a);
        cells = λ a l. inl (durable_word_at (data_at S a) (omega arith) ∙ cell_is S B may.start a l ∙ sym (at_start (durable_seq S ws) a risen_is));
        begun = λ l. rw (durable_word_at (request_at B.owner) (omega (arith, may.start.owner_in)), owner_is S B may.start) (closed_above B.seq l);
        floor = λ k l u. absurd (omega (arith, l, u, last_is));
        logs = λ k l u. absurd (omega (arith, l, u, last_is));
      };
      own_in = own_in;
      room = rw (words_long S B may.start total (omega arith)) room;
      counted = record {
        count = omega (arith, last_is);
        limit = omega (arith, last_is, may.limit);
        owner = λ l. absurd (omega (arith, l, last_is));
        first = λ l. holder_is;
        owner_in = rw holder_is may.start.owner_in;
        owners = λ k l u. absurd (omega (arith, l, u, last_is));
        logs = λ k l u. absurd (omega (arith, l, u, last_is));
      };
      data_cells = record { each = λ a l. inl (cell_at a l ∙ sym (at_start (committed_seq ws) a last_is)) };
      requests = record {
        floor = λ l. rw (word_at (B.owner + 1) (omega (arith, may.start.owner_in)), owner_is S B may.start) (closed_above B.seq l);
        closed = λ k l u. absurd (omega (arith, l, u, last_is));
        latest = λ l. absurd (omega (arith, l, last_is));
      };
      stands = record {
        lawful = λ k l u. let e : k ≡ B.seq = omega (arith, l, u) in rw (e, state_start B []) may.lawful;
        leads = λ k l u. absurd (omega (arith, l, u));
        replies = λ k l u. absurd (omega (arith, l, u));
        last = λ k i l u m. let e : k ≡ B.seq = omega (arith, l, u) in rw e (inl (λ j v x. absurd (omega (arith, v, x)), λ a r. refl));
        rises = λ k l u. absurd (omega (arith, l, u));
        now = λ k l u. absurd (omega (arith, l, u));
        grow = λ k i l u. absurd (omega (arith, l, u));
        ordered = λ k l u. absurd (omega (arith, l, u));
        some = λ k l u. absurd (omega (arith, l, u));
      };
      kinds = record {
        requests = λ j l u. absurd (omega (arith, u, request_seq j l));
        dur_requests = λ j l u. absurd (omega (arith, u, request_seq j l, ap seq_of (level (request_at j) (omega arith))));
        logs = λ j x l u v. absurd (omega (arith, v, ap seq_of (log_zero j x l u), seq_zero));
        dur_logs = λ j x l u v. absurd (omega (arith, v, ap seq_of (level (log_at S j x) (log_in S j x l u) ∙ log_zero j x l u), seq_zero));
        sized = λ j y l u. rw (log_zero j (2 * y + 1) l (omega arith), pay_zero) (omega arith);
      };
      heard = record {
        small = λ i l. rw (said_zero i, pay_zero) (omega arith);
        tickets = λ i l. rw (said_zero i, seq_zero) (omega arith);
        some = λ i l u. absurd (omega (arith, u, seq_said i));
        before = λ k i l u. absurd (omega (arith, l, u, last_is));
        met = λ k i l u. absurd (omega (arith, l, u, last_is));
        reached = λ i l. omega (arith, ticket_is i, ap payload_of (at_start B.seq (ticket_cell S i) refl));
        counts = λ i l. rw (log_zero i 0 l (omega arith), pay_zero) (omega arith);
      };
    };
    members = idles_length S (start_ticket S B) 0 S.callers;
    loaded = λ k d l. absurd (omega arith);
    each = λ i m h e. subst (λ (x : CallState). HoldsAtPlace S B ws [] i x x.place) (sym (idle_at S (start_ticket S B) i m h) ∙ e) (record {
      caller = refl;
      kept = record { low = omega arith; held = λ l. absurd (omega (arith, l, seq_zero)) };
      calm = record {
        own = omega (arith, request_seq i h, last_is);
        level = level (request_at i) (omega arith);
        shut = λ k l u o. absurd (omega (arith, l, u, last_is));
        logs = λ y u. rw (log_zero i y h u, seq_zero) (omega arith);
      };
      quieted = inl (omega (arith, seq_said i));
      settled = λ o. absurd (omega (arith, o.any, last_is));
      upto = omega (arith, ticket_is i);
      older = omega (arith, seq_said i);
      told = tt;
    });
  }

  start_order : KeepsCallOrder S B (opening_moment S B total)
  start_order = record {
    ordered = record { reads = λ k d l. absurd (omega arith); successive = λ j k l u. absurd (omega arith); apart = λ k l u. absurd (omega (arith, l, u)) };
    behind = λ i m h e. subst (λ (x : CallState). HasOnlyOlderCalls S B ws [] [] i x x.place) (sym (idle_at S (start_ticket S B) i m h) ∙ e) (record { older = λ k d l. absurd (omega arith); seen = λ t. absurd t; still = λ t. absurd t });
  }

  pub start_good : MeetsInvariant S Lawful B (opening_moment S B total)
  start_good = record {
    core = good_start;
    order = start_order;
    within = λ i m h e. subst (λ (x : CallState). MachineIsWithinBound S x x.place) (sym (idle_at S (start_ticket S B) i m h) ∙ e) (record { steps = omega arith; told = λ r. tt });
    late = λ i m h e. subst (λ (x : CallState). HasMadeLeastSteps S x x.place) (sym (idle_at S (start_ticket S B) i m h) ∙ e) (idle_late S i (start_ticket S B i));
  }
