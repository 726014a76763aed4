-- The recovered cells are those of the state after the batches up to the durable sequence.
use Rattle.std.proofs.Common.{◌≡◌, ℕ, zero, suc, ◌+◌, ◌*◌, ◌-◌, ◌<◌, ◌≤◌, ◌⊎◌, ◌==◌, ◌&&◌, inl, inr, List, length, get_or, refl, sym, ◌∙◌, ap, arith, Bool, true, false, nat_lt, nat_le, if◌then◌else◌, Option, Some, None, unwrap_or}
use Rattle.std.specs.Option.{option_map}
use Rattle.std.specs.List.{find, range_with_len}
use Rattle.std.proofs.lemmas.Bool.{cases_eq, and_parts, eq-eqb, ne_eqb, lt-ltb, le-leb, ltb-true, ltb-false, eqb-true}
use Rattle.of_cell.specs.Words.{pack, seq_of, payload_of}
use Rattle.of_cell.proofs.Order.{seq_word, pay_word}
use Rattle.of_recover.specs.Row.{current_owner, is_open}
use Rattle.of_recover.specs.Log.{owner_log_word, entry_count, log_entry_value, entry_names, first_naming}
use Rattle.of_recover.specs.Recovered.{replayed_data, recovered_data}
use Rattle.of_cell.proofs.Rooms.{room_upto}
use Rattle.of_core.specs.Table.{most_entries, Setup, request_at, request_of, durable_word, durable_request, durable_cell, committed_seq, committed_owner, durable_seq}
use Rattle.of_core.specs.Machine.{log_words}
use Rattle.of_core.specs.TableMoment.{Moment, TableStart}
use Rattle.of_core.specs.History.{batch_at, data_word_after}
use Rattle.of_core.specs.WordsMatch.{IsLastOpen, IsLog}
use Rattle.of_core.specs.Invariant.{MeetsCore}
use Rattle.of_core.proofs.States.{old, named_at, unnamed}
use Rattle.of_core.proofs.Logs.{length-log_words, words_at}
use Rattle.of_core.proofs.Assembling.{logs_of}

-- an entry whose two words are the transaction's and that is for a data cell names that cell alone
one_name : (d m A V a : ℕ) → seq_of A ≡ d → payload_of A < m → seq_of V ≡ d → (((seq_of A == d) && (nat_lt (payload_of A) m && (seq_of V == d))) && (payload_of A == a)) ≡ (payload_of A == a)
one_name d m A V a s l t = rw (eq-eqb (seq_of A) d s, lt-ltb (payload_of A) m l, eq-eqb (seq_of V) d t) refl

-- a count that is the transaction's and not above the number of data cells is read
one_count : (d m C : ℕ) → seq_of C ≡ d → payload_of C ≤ m → (if (seq_of C == d) && nat_le (payload_of C) m then payload_of C else 0) ≡ payload_of C
one_count d m C s l = rw (eq-eqb (seq_of C) d s, le-leb (payload_of C) m l) refl

-- a transaction whose owner is a caller that asks for it is open
opens : (d n o r : ℕ) → 0 < d → o < n → r ≡ pack d 0 → (nat_le 1 d && (nat_lt o n && (r == pack d 0))) ≡ true
opens d n o r s i e = rw (lt-ltb 0 d s, lt-ltb o n i, eq-eqb r (pack d 0) e) refl

module _ (S : Setup) (Lawful : List ℕ → Type 0) (B : TableStart) (w : Moment) (g : MeetsCore S Lawful B w) where
  -- the durable words, the transaction that they name, and that one's log
  abbrev row : ℕ → ℕ
  row = durable_word S w.words

  abbrev d : ℕ
  d = durable_seq S w.words

  abbrev owner : ℕ
  owner = current_owner row

  abbrev es : List (ℕ × ℕ)
  es = (batch_at B w.batches d).log

  d_in : d ≤ committed_seq w.words
  d_in = go g.shared.durable.step
    where
      go : (committed_seq w.words ≡ d) ⊎ ((committed_seq w.words ≡ d + 1) × IsLastOpen B w.words) → d ≤ committed_seq w.words
      go (inl t) = omega arith
      go (inr t) = omega (arith, t.0)

  n_is : committed_seq w.words ≡ B.seq + length w.batches
  n_is = g.shared.counted.count

  -- the durable word of a data cell is of the transaction's state or, where it is open, of the one before
  abbrev IsOf : ℕ → Type 0
  IsOf a = (durable_cell S w.words a ≡ data_word_after B w.batches d a) ⊎ (IsLastOpen B w.words × (committed_seq w.words ≡ d) × (durable_cell S w.words a ≡ data_word_after B w.batches (d - 1) a))

  -- Where the durable log holds the entries,
  module _ (log : IsLog S es) (here : (x : ℕ) → x < length (log_words es) → owner_log_word S.callers S.cells row x ≡ pack d (get_or (log_words es) x 0)) where
    addr_is : (j : ℕ) → j < length es → owner_log_word S.callers S.cells row (2 * j + 1) ≡ pack d (get_or es j (0, 0)).0
    addr_is j l = here (2 * j + 1) (omega (arith, length-log_words es)) ∙ ap (pack d) (words_at es j l).0

    value_is : (j : ℕ) → j < length es → owner_log_word S.callers S.cells row (2 * j + 2) ≡ pack d (get_or es j (0, 0)).1
    value_is j l = here (2 * j + 2) (omega (arith, length-log_words es)) ∙ ap (pack d) (words_at es j l).1

    -- as many are read,
    count_is : entry_count S.callers S.cells row ≡ length es
    count_is =
        let c : owner_log_word S.callers S.cells row 0 ≡ pack d (length es) = here 0 (omega arith) in
        let p : payload_of (owner_log_word S.callers S.cells row 0) ≡ length es = ap payload_of c ∙ pay_word d (length es) (omega (arith, log.few, g.shared.little, room_upto S.callers S.cells)) in
        one_count d (most_entries S) (owner_log_word S.callers S.cells row 0) (ap seq_of c ∙ seq_word d (length es) (omega (arith, log.few, g.shared.little, room_upto S.callers S.cells))) (omega (arith, p, log.few)) ∙ p

    -- each is for its own cell alone,
    named : (a j : ℕ) → j < length es → entry_names S.callers S.cells row a j ≡ ((get_or es j (0, 0)).0 == a)
    named a j l =
        let e = log.entries j (0, 0) l in
        let p : payload_of (owner_log_word S.callers S.cells row (2 * j + 1)) ≡ (get_or es j (0, 0)).0 = ap payload_of (addr_is j l) ∙ pay_word d (get_or es j (0, 0)).0 (omega (arith, e.0, g.shared.little)) in
        one_name d S.cells (owner_log_word S.callers S.cells row (2 * j + 1)) (owner_log_word S.callers S.cells row (2 * j + 2)) a
        (ap seq_of (addr_is j l) ∙ seq_word d (get_or es j (0, 0)).0 (omega (arith, e.0, g.shared.little))) (omega (arith, p, e.0)) (ap seq_of (value_is j l) ∙ seq_word d (get_or es j (0, 0)).1 e.1)
        ∙ ap (λ (x : ℕ). x == a) p

    -- and has its own value
    valued : (j : ℕ) → j < length es → log_entry_value S.callers S.cells row j ≡ (get_or es j (0, 0)).1
    valued j l = ap payload_of (value_is j l) ∙ pay_word d (get_or es j (0, 0)).1 (log.entries j (0, 0) l).1

    -- an entry for the cell, or none from j on
    abbrev Found : (a j : ℕ) → Option ℕ → Type 0
    Found a j o = ((k : ℕ) × (k < length es) × ((get_or es k (0, 0)).0 ≡ a) × (o ≡ Some k)) ⊎ ((o ≡ None) × ((k : ℕ) → j ≤ k → k < length es → (get_or es k (0, 0)).0 ≡ a → ⊥))

    found : (a n j : ℕ) → j + n ≡ length es → Found a j (find (entry_names S.callers S.cells row a) (range_with_len j n))
    found a zero j e = inr (refl, λ k l m q. omega arith)
    found a (suc n) j e = go (cases_eq (get_or es j (0, 0)).0 a) (found a n (j + 1) (omega arith))
      where
        l : j < length es
        l = omega arith

        go : ((get_or es j (0, 0)).0 ≡ a) ⊎ ((get_or es j (0, 0)).0 ≡ a → ⊥) → Found a (j + 1) (find (entry_names S.callers S.cells row a) (range_with_len (j + 1) n))
            → Found a j (if entry_names S.callers S.cells row a j then Some j else find (entry_names S.callers S.cells row a) (range_with_len (j + 1) n))
        go (inl q) r = inl (j, l, q, rw (named a j l ∙ eq-eqb (get_or es j (0, 0)).0 a q) refl)
        go (inr n) (inl r) = rw (named a j l ∙ ne_eqb (get_or es j (0, 0)).0 a n) (inl r)
        go (inr n) (inr r) = rw (named a j l ∙ ne_eqb (get_or es j (0, 0)).0 a n) (inr (r.0, λ k m u q. which k m u q (cases_eq k j)))
          where
            which : (k : ℕ) → j ≤ k → k < length es → (get_or es k (0, 0)).0 ≡ a → (k ≡ j) ⊎ (k ≡ j → ⊥) → ⊥
            which k m u q (inl z) = n (rw z at q)
            which k m u q (inr z) = r.1 k (omega arith) u q

  -- Where the transaction is open, it is one of the history's, and its log is there.
  module _ (open_is : is_open S.callers row ≡ true) where
    parts : (nat_le 1 d ≡ true) × ((nat_lt owner S.callers && (durable_request S w.words owner == pack d 0)) ≡ true)
    parts = and_parts (nat_le 1 d) (nat_lt owner S.callers && (durable_request S w.words owner == pack d 0)) open_is

    asks : durable_request S w.words owner ≡ pack d 0
    asks = eqb-true (durable_request S w.words owner) (pack d 0) (and_parts (nat_lt owner S.callers) (durable_request S w.words owner == pack d 0) parts.1).1

    after : B.seq < d
    after = go (cases_eq d B.seq)
      where
        go : (d ≡ B.seq) ⊎ (d ≡ B.seq → ⊥) → B.seq < d
        go (inl e) =
            let z : pack B.seq 0 < durable_request S w.words B.owner = g.shared.durable.begun (omega (arith, ltb-true 0 d parts.0)) in
            absurd (omega (arith, asks, ap (λ (k : ℕ). pack k 0) e, ap (durable_request S w.words) (g.shared.durable.first e)))
        go (inr e) = omega (arith, g.shared.durable.from)

    log : IsLog S es
    log = g.shared.counted.logs d after d_in

    here : (x : ℕ) → x < length (log_words es) → owner_log_word S.callers S.cells row x ≡ pack d (get_or (log_words es) x 0)
    here x u = (g.shared.durable.logs d after d_in owner (sym (g.shared.durable.owner after)) asks x _ u refl).1

    module _ (a : ℕ) (l : a < S.cells) where
      -- a cell that isn't older is of the transaction's state
      newer : d ≤ seq_of (durable_cell S w.words a) → durable_cell S w.words a ≡ data_word_after B w.batches d a
      newer m = go (g.shared.durable.cells a l)
        where
          go : IsOf a → durable_cell S w.words a ≡ data_word_after B w.batches d a
          go (inl q) = q
          go (inr q) =
              let o : seq_of (data_word_after B w.batches (d - 1) a) ≤ d - 1 = old S B w.batches g.shared.start (logs_of g) (d - 1) a (omega (arith, after)) (omega (arith, d_in, n_is)) l in
              absurd (omega (arith, m, o, ap seq_of q.2, after))

      -- so is one that the log doesn't name
      other : ((k : ℕ) → 0 ≤ k → k < length es → (get_or es k (0, 0)).0 ≡ a → ⊥) → durable_cell S w.words a ≡ data_word_after B w.batches d a
      other n = go (g.shared.durable.cells a l)
        where
          go : IsOf a → durable_cell S w.words a ≡ data_word_after B w.batches d a
          go (inl q) = q
          go (inr q) = q.2 ∙ sym (unnamed S B w.batches g.shared.start (logs_of g) d a after (omega (arith, d_in, n_is)) (λ j u e. n j (omega arith) u e))

      -- and each other one takes the value of its entry
      abbrev given : Option ℕ → ℕ
      given o = unwrap_or (option_map (λ j. pack d (log_entry_value S.callers S.cells row j)) o) (durable_cell S w.words a)

      entry_given : (o : Option ℕ) → Found log here a 0 o → given o ≡ data_word_after B w.batches d a
      entry_given o (inl k) =
          ap given k.3 ∙ ap (pack d) (valued log here k.0 k.1) ∙ sym (named_at S B w.batches g.shared.start (logs_of g) d k.0 after (omega (arith, d_in, n_is)) k.1) ∙ ap (data_word_after B w.batches d) k.2
      entry_given o (inr n) = ap given n.0 ∙ other n.1

      replayed : replayed_data S.callers S.cells row (entry_count S.callers S.cells row) a ≡ data_word_after B w.batches d a
      replayed = go (nat_lt (seq_of (durable_cell S w.words a)) d) refl
        where
          go : (c : Bool) → nat_lt (seq_of (durable_cell S w.words a)) d ≡ c → (if c then given (first_naming S.callers S.cells row (entry_count S.callers S.cells row) a) else durable_cell S w.words a) ≡ data_word_after B w.batches d a
          go true e = rw (count_is log here) (entry_given (first_naming S.callers S.cells row (length es) a) (found log here a (length es) 0 (omega arith)))
          go false e = newer (ltb-false (seq_of (durable_cell S w.words a)) d e)

  -- Where it isn't, no cell is of the state before: the last transaction would be open.
  shut : is_open S.callers row ≡ false → (a : ℕ) → a < S.cells → durable_cell S w.words a ≡ data_word_after B w.batches d a
  shut closed a l = go (g.shared.durable.cells a l)
    where
      go : IsOf a → durable_cell S w.words a ≡ data_word_after B w.batches d a
      go (inl q) = q
      go (inr q) =
          let own : committed_owner w.words ≡ (batch_at B w.batches (committed_seq w.words)).owner = g.shared.counted.owner q.0.any in
          let p_is : owner ≡ committed_owner w.words = g.shared.durable.owner (omega (arith, q.0.any, q.1)) ∙ ap (λ (k : ℕ). (batch_at B w.batches k).owner) (sym q.1) ∙ sym own in
          let f : pack (committed_seq w.words) 0 ≤ durable_request S w.words (committed_owner w.words) = rw (← own) at (g.shared.durable.floor (committed_seq w.words) q.0.any (omega arith)) in
          let t : durable_request S w.words (committed_owner w.words) ≤ request_of w.words (committed_owner w.words) = g.shared.durable.low (request_at (committed_owner w.words)) (omega (arith, g.shared.counted.owner_in)) in
          let r : durable_request S w.words (committed_owner w.words) ≡ pack (committed_seq w.words) 0 = omega (arith, q.0.asks) in
          let e : durable_request S w.words owner ≡ pack d 0 = ap (durable_request S w.words) p_is ∙ r ∙ ap (λ (k : ℕ). pack k 0) q.1 in
          let yes : is_open S.callers row ≡ true = opens d S.callers owner (durable_request S w.words owner) (omega (arith, q.0.any, q.1)) (omega (arith, p_is, g.shared.counted.owner_in)) e in
          cc

  -- recovery gives each data cell's word in the state of the durable sequence
  pub claim : (a : ℕ) → a < S.cells → recovered_data S.callers S.cells (durable_word S w.words) a ≡ data_word_after B w.batches (durable_seq S w.words) a
  claim a l = go (is_open S.callers row) refl
    where
      go : (b : Bool) → is_open S.callers row ≡ b → (if b then replayed_data S.callers S.cells row (entry_count S.callers S.cells row) a else durable_cell S w.words a) ≡ data_word_after B w.batches d a
      go true e = replayed e a l
      go false e = shut e a l
