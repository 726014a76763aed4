-- The order of each caller's calls is kept by every step.
use Rattle.std.proofs.Common.{◌≡◌, ℕ, zero, suc, ◌+◌, ◌-◌, ◌<◌, ◌≤◌, ◌⊎◌, inl, inr, List, [], ◌∷◌, ◌++◌, length, get_or, set, refl, sym, ◌∙◌, ap, subst, arith, length-append, Option, Some, None, Bool, true, false, map}
use Rattle.std.specs.List.{All}
use Rattle.std.proofs.lemmas.Bool.{cases_eq, cases_lt}
use Rattle.std.proofs.lemmas.List.{append-nil, get_or-set_same, get_or-set_other, get_or_append_left, get_or_push, get_or_default}
use Rattle.std.proofs.lemmas.List.Elements.{All-append}
use Rattle.of_cell.specs.Words.{seq_of, payload_of}
use Rattle.of_cell.proofs.Order.{seq_word, seq_mono}
use Rattle.of_core.specs.declared.place.Place.{Place}
use Rattle.of_core.specs.declared.place.Place.TheVariants.{Idle, TryCurrent, TryRequest, TryCell, StoreScript, StoreAnnouncement, LoadCurrent, LoadRequest, CopyLog, LookAgain, LoadOwnTicket, LoadShape, LoadReply, LoadAnnouncement, LoadTicket, LoadScript, LoadCell, RaiseOld, StoreLog, RaiseLog, StoreRequest, RaiseRequest, ExchangeCurrent, RaiseCurrent, LoadTarget, ExchangeTarget, ReloadTarget, RaiseTarget, CloseRequest, RaiseClosed}
use Rattle.of_core.specs.declared.place.Outcome.{Outcome}
use Rattle.of_core.specs.declared.place.Outcome.TheVariants.{Answered, Spent, Lost}
use Rattle.of_core.specs.Table.{Setup, committed_seq, durable_seq, announcement_of}
use Rattle.of_core.specs.Machine.{Call, CallState, IsOpen, is_idle}
use Rattle.of_core.specs.TableMoment.{Moment, Batch, TableStart, Read, read_of, step_reads_if, step_reads_at}
use Rattle.of_core.specs.History.{batch_at, last_ticket_by}
use Rattle.of_core.specs.WordsMatch.{WordsMatchHistory, IsLastOpen}
use Rattle.of_core.specs.Rounds.{IsAnnounced, WasCurrent, MayHelp, IsInTry, AnnouncesNothingNew}
use Rattle.of_core.specs.Transaction.{AppliesAs}
use Rattle.of_core.specs.Order.{IsRead, AreInAnswerOrder, StandInCallOrder, AreInCallOrder, HasBegunTry, WasMadeBefore, IsOlder, HasOnlyOlderCalls, KeepsCallOrder, no_read}
use Rattle.of_core.specs.Facts.{IsStepAtPlace, LastStepTells, CountsStepOrEnds}
use Rattle.of_core.specs.Places.{LastOutcomeStands, IsAtRest}
use Rattle.of_core.specs.Invariant.{HoldsAtPlace, MeetsCore}
use Rattle.of_core.specs.Guarantees.{Guarantees}
use Rattle.of_core.proofs.Stability.{tick_how, tick_same}
use Rattle.of_core.proofs.Tickets.{tickets_grow, ticket_upto}

pub idle_is : (p : Place) → is_idle p ≡ true → p ≡ Idle
idle_is Idle e = refl
idle_is TryCurrent e = cc
idle_is TryRequest e = cc
idle_is (TryCell a) e = cc
idle_is (StoreScript j) e = cc
idle_is StoreAnnouncement e = cc
idle_is LoadCurrent e = cc
idle_is LoadRequest e = cc
idle_is (CopyLog x) e = cc
idle_is LookAgain e = cc
idle_is LoadOwnTicket e = cc
idle_is LoadShape e = cc
idle_is (LoadReply j) e = cc
idle_is LoadAnnouncement e = cc
idle_is LoadTicket e = cc
idle_is (LoadScript j) e = cc
idle_is (LoadCell a) e = cc
idle_is RaiseOld e = cc
idle_is (StoreLog x) e = cc
idle_is (RaiseLog x) e = cc
idle_is StoreRequest e = cc
idle_is RaiseRequest e = cc
idle_is ExchangeCurrent e = cc
idle_is RaiseCurrent e = cc
idle_is (LoadTarget j) e = cc
idle_is (ExchangeTarget j f) e = cc
idle_is (ReloadTarget j) e = cc
idle_is (RaiseTarget j f) e = cc
idle_is CloseRequest e = cc
idle_is RaiseClosed e = cc

pub older_upto : (m : CallState) (r : Read) (b : Bool) → WasMadeBefore m r b → r.ticket ≤ m.made
older_upto m r true h = h
older_upto m r false h = omega arith

-- what is below the open call is at most the last
as_older : (m : CallState) (r : Read) (b : Bool) → r.ticket < m.made → WasMadeBefore m r b
as_older m r true h = omega arith
as_older m r false h = h

module _ (S : Setup) (Lawful : List ℕ → Type 0) (B : TableStart) (ws : List ℕ) (bs : List Batch) (shared : WordsMatchHistory S Lawful B ws bs) where
  upto_last : durable_seq S ws ≤ committed_seq ws
  upto_last = go shared.durable.step
    where
      go : (committed_seq ws ≡ durable_seq S ws) ⊎ ((committed_seq ws ≡ durable_seq S ws + 1) × IsLastOpen B ws) → durable_seq S ws ≤ committed_seq ws
      go (inl q) = omega arith
      go (inr q) = omega (arith, q.0)

  -- a machine in a try is about a call that isn't announced, at a sequence that the current-transaction word has had
  module _ (j : ℕ) (m : CallState) where
    helper_tries : m.rounds ≡ 0 → MayHelp S B ws bs j m → IsInTry S B ws bs j m
    helper_tries z (inl r) = absurd (omega (arith, z, r.begun_one))
    helper_tries z (inr t) = t

    mode_tries : (b : Bool) → m.helps ≡ b → (m.helps ≡ true) × (m.rounds ≡ 0) → AppliesAs S B ws bs j m b → IsInTry S B ws bs j m × WasCurrent S B ws bs m.seq m.owner
    mode_tries true e q a = (helper_tries q.1 a.helper, a.current_word)
    mode_tries false e q a = let z : false ≡ true = sym e ∙ q.0 in cc

    pub tries_at : (p : Place) → HoldsAtPlace S B ws bs j m p → HasBegunTry m p → IsInTry S B ws bs j m × WasCurrent S B ws bs m.seq m.owner
    tries_at TryRequest a q = (a.trying, a.current_word)
    tries_at (TryCell x) a q = (a.trying, a.current_word)
    tries_at (CopyLog x) a q = (helper_tries q a.copies.helping.helper, a.copies.helping.current_word)
    tries_at LookAgain a q = (helper_tries q a.copies.helping.helper, a.copies.helping.current_word)
    tries_at RaiseCurrent a q = mode_tries m.helps refl q a.mode
    tries_at (LoadTarget k) a q = mode_tries m.helps refl q a.applies.mode
    tries_at (ExchangeTarget k f) a q = mode_tries m.helps refl q a.entry.applies.mode
    tries_at (ReloadTarget k) a q = mode_tries m.helps refl q a.entry.applies.mode
    tries_at (RaiseTarget k f) a q = mode_tries m.helps refl q a.entry.applies.mode
    tries_at CloseRequest a q = mode_tries m.helps refl q a.applies.mode
    tries_at RaiseClosed a q = mode_tries m.helps refl q a.applies.mode
    tries_at Idle a q = absurd q
    tries_at TryCurrent a q = absurd q
    tries_at (StoreScript k) a q = absurd q
    tries_at StoreAnnouncement a q = absurd q
    tries_at LoadCurrent a q = absurd q
    tries_at LoadRequest a q = absurd q
    tries_at LoadOwnTicket a q = absurd q
    tries_at LoadShape a q = absurd q
    tries_at (LoadReply k) a q = absurd q
    tries_at LoadAnnouncement a q = absurd q
    tries_at LoadTicket a q = absurd q
    tries_at (LoadScript k) a q = absurd q
    tries_at (LoadCell x) a q = absurd q
    tries_at RaiseOld a q = absurd q
    tries_at (StoreLog x) a q = absurd q
    tries_at (RaiseLog x) a q = absurd q
    tries_at StoreRequest a q = absurd q
    tries_at RaiseRequest a q = absurd q
    tries_at ExchangeCurrent a q = absurd q

    -- a caller that announces something to be run has that call open
    Announces : Place → Type 0
    Announces p = IsOpen p × (seq_of (announcement_of S ws j) ≡ m.made)

    begun_says : IsAnnounced S B ws bs j m → seq_of (announcement_of S ws j) ≡ m.made
    begun_says b = ap seq_of b.says ∙ seq_word m.made (length m.op) (omega (arith, b.words, shared.narrow))

    helper_says : (AnnouncesNothingNew S B ws bs j → ⊥) → MayHelp S B ws bs j m → seq_of (announcement_of S ws j) ≡ m.made
    helper_says n (inl r) = begun_says r.begun
    helper_says n (inr t) = absurd (n t.fresh.quieted)

    mode_says : (b : Bool) → (AnnouncesNothingNew S B ws bs j → ⊥) → AppliesAs S B ws bs j m b → seq_of (announcement_of S ws j) ≡ m.made
    mode_says true n a = helper_says n a.helper
    mode_says false n a = a.says

    pub announces_at : (p : Place) → HoldsAtPlace S B ws bs j m p → (AnnouncesNothingNew S B ws bs j → ⊥) → IsOpen p × (seq_of (announcement_of S ws j) ≡ m.made)
    announces_at Idle a n = absurd (n a.quieted)
    announces_at TryCurrent a n = absurd (n a.fresh.quieted)
    announces_at TryRequest a n = absurd (n a.trying.fresh.quieted)
    announces_at (TryCell x) a n = absurd (n a.trying.fresh.quieted)
    announces_at (StoreScript k) a n = absurd (n a.fresh.quieted)
    announces_at StoreAnnouncement a n = absurd (n a.fresh.quieted)
    announces_at LoadCurrent a n = (refl, begun_says a.begun)
    announces_at LoadRequest a n = (refl, begun_says a.round.begun)
    announces_at (CopyLog x) a n = (refl, helper_says n a.copies.helping.helper)
    announces_at LookAgain a n = (refl, helper_says n a.copies.helping.helper)
    announces_at LoadOwnTicket a n = (refl, begun_says a.looks.round.begun)
    announces_at LoadShape a n = (refl, begun_says a.looks.round.begun)
    announces_at (LoadReply k) a n = (refl, begun_says a.looks.round.begun)
    announces_at LoadAnnouncement a n = (refl, begun_says a.past.looks.round.begun)
    announces_at LoadTicket a n = (refl, begun_says a.scanning.past.looks.round.begun)
    announces_at (LoadScript k) a n = (refl, begun_says a.scanning.past.looks.round.begun)
    announces_at (LoadCell x) a n = (refl, begun_says a.scanning.past.looks.round.begun)
    announces_at RaiseOld a n = (refl, begun_says a.past.looks.round.begun)
    announces_at (StoreLog x) a n = (refl, begun_says a.storing.stored.past.looks.round.begun)
    announces_at (RaiseLog x) a n = (refl, begun_says a.storing.stored.past.looks.round.begun)
    announces_at StoreRequest a n = (refl, begun_says a.stored.past.looks.round.begun)
    announces_at RaiseRequest a n = (refl, begun_says a.stored.past.looks.round.begun)
    announces_at ExchangeCurrent a n = (refl, begun_says a.stored.past.looks.round.begun)
    announces_at RaiseCurrent a n = (refl, mode_says m.helps n a.mode)
    announces_at (LoadTarget k) a n = (refl, mode_says m.helps n a.applies.mode)
    announces_at (ExchangeTarget k f) a n = (refl, mode_says m.helps n a.entry.applies.mode)
    announces_at (ReloadTarget k) a n = (refl, mode_says m.helps n a.entry.applies.mode)
    announces_at (RaiseTarget k f) a n = (refl, mode_says m.helps n a.entry.applies.mode)
    announces_at CloseRequest a n = (refl, mode_says m.helps n a.applies.mode)
    announces_at RaiseClosed a n = (refl, mode_says m.helps n a.applies.mode)

successive_push : (xs : List Read) (r : Read) → AreInAnswerOrder xs → All (λ (x : Read). x.caller ≡ r.caller → (x.ticket < r.ticket) × (x.seq ≤ r.seq)) xs → AreInAnswerOrder (xs ++ r ∷ [])
successive_push xs r s f j k l u = go (cases_lt k (length xs))
  where
    k_in : k < length xs + 1
    k_in = rw length-append at u

    go : (k < length xs) ⊎ (length xs ≤ k) → (get_or (xs ++ r ∷ []) j no_read).caller ≡ (get_or (xs ++ r ∷ []) k no_read).caller
        → ((get_or (xs ++ r ∷ []) j no_read).ticket < (get_or (xs ++ r ∷ []) k no_read).ticket) × ((get_or (xs ++ r ∷ []) j no_read).seq ≤ (get_or (xs ++ r ∷ []) k no_read).seq)
    go (inl v) = rw (get_or_append_left xs (r ∷ []) no_read j (omega arith), get_or_append_left xs (r ∷ []) no_read k v) (s j k l v)
    go (inr v) =
        let e : length xs ≡ k = omega (arith, k_in) in
        rw (get_or_append_left xs (r ∷ []) no_read j (omega arith), get_or_push xs r no_read k e) (f j no_read (omega arith))

-- the read that the step of machine m of caller i answers, where it leads to d
pub record Answer (S : Setup) (B : TableStart) (i : ℕ) (ws : List ℕ) (m d : CallState) (vs : List ℕ) (cs : List Batch) (r : Read) : Type 0 where
  pub caller : r.caller ≡ i
  pub ticket : r.ticket ≡ m.made
  pub seq : r.seq ≡ m.seq
  pub trying : HasBegunTry m m.place
  pub was_open : IsOpen m.place
  pub is_read : IsRead S B cs (durable_seq S vs) r
  pub older : IsOlder d d.place r
  pub still : committed_seq vs ≡ committed_seq ws

-- what the step has to do with the order, where it answers the reads rs
pub record Orderly (S : Setup) (B : TableStart) (i : ℕ) (ws : List ℕ) (m d : CallState) (vs : List ℕ) (cs : List Batch) (rs : List Read) : Type 0 where
  pub older : (r : Read) → IsOlder m m.place r → IsOlder d d.place r
  pub trying : HasBegunTry d d.place → (HasBegunTry m m.place × (d.seq ≡ m.seq)) ⊎ ((m.place ≡ TryCurrent) × (d.seq ≡ committed_seq ws))
  pub answers : (rs ≡ []) ⊎ ((r : Read) × (rs ≡ r ∷ []) × Answer S B i ws m d vs cs r)

module _ (S : Setup) (Lawful : List ℕ → Type 0) (B : TableStart) (w : Moment) (g : MeetsCore S Lawful B w) (o : KeepsCallOrder S B w) (i : ℕ) (m d : CallState) (h : i < S.callers) (own : get_or w.machines i m ≡ m)
    (vs : List ℕ) (cs : List Batch) (rs : List Read) (v : Guarantees S B i w.words w.batches vs cs) (shared : WordsMatchHistory S Lawful B vs cs) (k : Orderly S B i w.words m d vs cs rs) where
  a : HoldsAtPlace S B w.words w.batches i m m.place
  a = g.each i m h own

  b : HasOnlyOlderCalls S B w.words w.batches w.reads i m m.place
  b = o.behind i m h own

  n_is : committed_seq w.words ≡ B.seq + length w.batches
  n_is = g.shared.counted.count

  grows : committed_seq w.words ≤ committed_seq vs
  grows = seq_up (v.rise 0 (omega arith))
    where
      seq_up : get_or w.words 0 0 ≤ get_or vs 0 0 → committed_seq w.words ≤ committed_seq vs
      seq_up l = seq_mono (get_or w.words 0 0) (get_or vs 0 0) l

  risen_up : durable_seq S w.words ≤ durable_seq S vs
  risen_up = seq_mono _ _ (v.durs 0 (omega arith))

  from_start : B.seq ≤ committed_seq w.words
  from_start = omega (arith, n_is)

  -- a quiet caller's ticket cell stays
  quiet_still : (j : ℕ) → j < S.callers → AnnouncesNothingNew S B w.words w.batches j → last_ticket_by S B cs (committed_seq vs) j ≡ last_ticket_by S B w.batches (committed_seq w.words) j
  quiet_still j l q = go (tick_how S Lawful B i w.words w.batches vs cs v g.shared j l) q
    where
      go : (last_ticket_by S B cs (committed_seq vs) j ≡ last_ticket_by S B w.batches (committed_seq w.words) j) ⊎ ((last_ticket_by S B cs (committed_seq vs) j ≡ seq_of (announcement_of S w.words j)) × (last_ticket_by S B w.batches (committed_seq w.words) j < seq_of (announcement_of S w.words j)) × (committed_seq w.words < S.limit))
          → AnnouncesNothingNew S B w.words w.batches j → last_ticket_by S B cs (committed_seq vs) j ≡ last_ticket_by S B w.batches (committed_seq w.words) j
      go (inl e) q = e
      go (inr e) (inl z) = absurd (omega (arith, e.1))
      go (inr e) (inr z) = absurd (omega (arith, e.2))

  still_stable : (j : ℕ) (n : CallState) → j < S.callers → IsInTry S B w.words w.batches j n × WasCurrent S B w.words w.batches n.seq n.owner → last_ticket_by S B w.batches n.seq j ≡ last_ticket_by S B w.batches (committed_seq w.words) j → last_ticket_by S B cs n.seq j ≡ last_ticket_by S B cs (committed_seq vs) j
  still_stable j n l t e = tick_same S Lawful B i w.words w.batches vs cs v g.shared n.seq j t.1.from t.1.upto ∙ e ∙ sym (quiet_still j l t.0.fresh.quieted)

  read_stable : (r : Read) → IsRead S B w.batches (durable_seq S w.words) r → IsRead S B cs (durable_seq S vs) r
  read_stable r p = record {
    caller = p.caller;
    from = p.from;
    upto = omega (arith, p.upto, risen_up);
    only = p.only;
    reply = ap (λ (xs : List ℕ). S.meaning.reply (map payload_of xs) r.op) (v.states r.seq p.from (omega (arith, p.upto, upto_last S Lawful B w.words w.batches g.shared))) ∙ p.reply;
  }

  -- the reads after the step
  all_reads : (P : Read → Type 0) → All P w.reads → ((r : Read) → Answer S B i w.words m d vs cs r → P r) → All P (w.reads ++ rs)
  all_reads P f new = All-append P w.reads rs f (go rs k.answers)
    where
      go : (xs : List Read) → (xs ≡ []) ⊎ ((r : Read) × (xs ≡ r ∷ []) × Answer S B i w.words m d vs cs r) → All P xs
      go xs (inl e) = rw e (λ k d l. absurd (omega arith))
      go xs (inr e) = rw e.1 (one e.0 (new e.0 e.2))
        where
          one : (r : Read) → P r → All P (r ∷ [])
          one r p zero d l = p
          one r p (suc k) d l = absurd (omega arith)

  -- a read that is answered comes behind its caller's reads
  behind_old : (r : Read) → Answer S B i w.words m d vs cs r → All (λ (x : Read). x.caller ≡ r.caller → (x.ticket < r.ticket) × (x.seq ≤ r.seq)) w.reads
  behind_old r n k x l e =
      let mine : (get_or w.reads k x).caller ≡ i = e ∙ n.caller in
      let p : WasMadeBefore m (get_or w.reads k x) false = subst (λ (q : Bool). WasMadeBefore m (get_or w.reads k x) q) n.was_open (b.older k x l mine) in
      (omega (arith, p, n.ticket), omega (arith, b.seen n.trying k x l mine, n.seq))

  reads_successive : AreInAnswerOrder (w.reads ++ rs)
  reads_successive = go rs k.answers
    where
      go : (xs : List Read) → (xs ≡ []) ⊎ ((r : Read) × (xs ≡ r ∷ []) × Answer S B i w.words m d vs cs r) → AreInAnswerOrder (w.reads ++ xs)
      go xs (inl e) = rw (e, append-nil w.reads) o.ordered.successive
      go xs (inr e) = rw e.1 (successive_push w.reads e.0 o.ordered.successive (behind_old e.0 e.2))

  -- a call of a batch that stood comes before a read that is answered
  before_answer : (r : Read) → Answer S B i w.words m d vs cs r → (k : ℕ) → B.seq < k → k ≤ committed_seq w.words → (x : ℕ) (c : Call) → x < length (batch_at B w.batches k).calls → StandInCallOrder k (get_or (batch_at B w.batches k).calls x c) r
  before_answer r n k l u x c z e = inl (omega (arith, p, t.0.fresh.above, n.ticket, ap (last_ticket_by S B w.batches (committed_seq w.words)) mine), go (cases_lt m.seq k))
    where
      t : IsInTry S B w.words w.batches i m × WasCurrent S B w.words w.batches m.seq m.owner
      t = tries_at S Lawful B w.words w.batches g.shared i m m.place a n.trying

      this : Call
      this = get_or (batch_at B w.batches k).calls x c

      mine : (get_or (batch_at B w.batches k).calls x c).caller ≡ i
      mine = e ∙ n.caller

      p : (get_or (batch_at B w.batches k).calls x c).ticket ≤ last_ticket_by S B w.batches (committed_seq w.words) (get_or (batch_at B w.batches k).calls x c).caller
      p = ticket_upto S Lawful B w.batches g.shared.stands k (committed_seq w.words) l u (omega (arith, n_is)) x c z

      go : (m.seq < k) ⊎ (k ≤ m.seq) → k ≤ r.seq
      go (inr q) = omega (arith, n.seq)
      go (inl q) =
          let same : k - 1 + 1 ≡ k = omega arith in
          let up : last_ticket_by S B w.batches (k - 1) (get_or (batch_at B w.batches k).calls x c).caller < (get_or (batch_at B w.batches k).calls x c).ticket = (rw same at (g.shared.stands.rises (k - 1) (omega arith) (omega (arith, n_is)))) x c z in
          let low : last_ticket_by S B w.batches m.seq i ≤ last_ticket_by S B w.batches (k - 1) i = tickets_grow S Lawful B w.batches g.shared.stands m.seq (k - 1) i t.1.from (omega arith) (omega (arith, n_is)) h in
          absurd (omega (arith, p, up, low, b.still n.trying, ap (last_ticket_by S B w.batches (k - 1)) mine, ap (last_ticket_by S B w.batches (committed_seq w.words)) mine))

  -- a call of a new batch comes behind its caller's reads
  behind_reads : (k : ℕ) → committed_seq w.words < k → k ≤ committed_seq vs → (x : ℕ) (c : Call) → x < length (batch_at B cs k).calls → All (StandInCallOrder k (get_or (batch_at B cs k).calls x c)) w.reads
  behind_reads k l u x c z y r q e = inr (older, omega (arith, (o.ordered.reads y r q).upto, upto_last S Lawful B w.words w.batches g.shared))
    where
      this : Call
      this = get_or (batch_at B cs k).calls x c

      in_range : (get_or (batch_at B cs k).calls x c).caller < S.callers
      in_range = (shared.stands.now k (omega (arith, from_start)) (omega (arith, shared.counted.count)) x c z).0

      ticket : last_ticket_by S B cs k (get_or (batch_at B cs k).calls x c).caller ≡ (get_or (batch_at B cs k).calls x c).ticket
      ticket = (shared.stands.now k (omega (arith, from_start)) (omega (arith, shared.counted.count)) x c z).1

      up : last_ticket_by S B w.batches (committed_seq w.words) (get_or (batch_at B cs k).calls x c).caller < (get_or (batch_at B cs k).calls x c).ticket
      up =
          let same : k - 1 + 1 ≡ k = omega arith in
          let p : last_ticket_by S B cs (k - 1) (get_or (batch_at B cs k).calls x c).caller < (get_or (batch_at B cs k).calls x c).ticket = (rw same at (shared.stands.rises (k - 1) (omega (arith, from_start)) (omega (arith, shared.counted.count)))) x c z in
          omega (
            arith,
            p,
            tickets_grow S Lawful B cs shared.stands (committed_seq w.words) (k - 1) (get_or (batch_at B cs k).calls x c).caller from_start (omega arith) (omega (arith, shared.counted.count)) in_range,
            tick_same S Lawful B i w.words w.batches vs cs v g.shared (committed_seq w.words) (get_or (batch_at B cs k).calls x c).caller from_start (omega arith),
          )

      loud : ((get_or (batch_at B cs k).calls x c).ticket ≡ seq_of (announcement_of S w.words (get_or (batch_at B cs k).calls x c).caller)) × (committed_seq w.words < S.limit)
      loud = go (v.tickets k (get_or (batch_at B cs k).calls x c).caller l u in_range)
        where
          go : (last_ticket_by S B cs k (get_or (batch_at B cs k).calls x c).caller ≡ last_ticket_by S B w.batches (committed_seq w.words) (get_or (batch_at B cs k).calls x c).caller)
              ⊎ ((last_ticket_by S B cs k (get_or (batch_at B cs k).calls x c).caller ≡ seq_of (announcement_of S w.words (get_or (batch_at B cs k).calls x c).caller)) × (last_ticket_by S B w.batches (committed_seq w.words) (get_or (batch_at B cs k).calls x c).caller < seq_of (announcement_of S w.words (get_or (batch_at B cs k).calls x c).caller)) × (committed_seq w.words < S.limit))
              → ((get_or (batch_at B cs k).calls x c).ticket ≡ seq_of (announcement_of S w.words (get_or (batch_at B cs k).calls x c).caller)) × (committed_seq w.words < S.limit)
          go (inl f) = absurd (omega (arith, up, ticket))
          go (inr f) = (omega (arith, ticket, f.0), f.2)

      not_quiet : AnnouncesNothingNew S B w.words w.batches (get_or (batch_at B cs k).calls x c).caller → ⊥
      not_quiet (inl f) = omega (arith, up, loud.0)
      not_quiet (inr f) = omega (arith, loud.1)

      n : CallState
      n = get_or w.machines (get_or (batch_at B cs k).calls x c).caller m

      n_own : get_or w.machines (get_or (batch_at B cs k).calls x c).caller (get_or w.machines (get_or (batch_at B cs k).calls x c).caller m) ≡ get_or w.machines (get_or (batch_at B cs k).calls x c).caller m
      n_own = get_or_default w.machines (get_or (batch_at B cs k).calls x c).caller (get_or w.machines (get_or (batch_at B cs k).calls x c).caller m) m (omega (arith, g.members, in_range))

      older : (get_or w.reads y r).ticket < (get_or (batch_at B cs k).calls x c).ticket
      older =
          let s = announces_at S Lawful B w.words w.batches g.shared (get_or (batch_at B cs k).calls x c).caller n n.place (g.each (get_or (batch_at B cs k).calls x c).caller n in_range n_own) not_quiet in
          let p : WasMadeBefore n (get_or w.reads y r) false = subst (λ (q : Bool). WasMadeBefore n (get_or w.reads y r) q) s.0 ((o.behind (get_or (batch_at B cs k).calls x c).caller n in_range n_own).older y r q (sym e)) in
          omega (arith, p, s.1, loud.0)

  ordered : AreInCallOrder S B vs cs (w.reads ++ rs)
  ordered = record {
    reads = all_reads (IsRead S B cs (durable_seq S vs)) (λ y r l. read_stable (get_or w.reads y r) (o.ordered.reads y r l)) (λ r n. n.is_read);
    successive = reads_successive;
    apart = λ k l u. go k l u (cases_lt (committed_seq w.words) k);
  }
    where
      go : (k : ℕ) → B.seq < k → k ≤ B.seq + length cs → (committed_seq w.words < k) ⊎ (k ≤ committed_seq w.words) → All (λ (c : Call). All (StandInCallOrder k c) (w.reads ++ rs)) (batch_at B cs k).calls
      go k l u (inl q) = λ x c z. all_reads (StandInCallOrder k (get_or (batch_at B cs k).calls x c)) (behind_reads k q (omega (arith, shared.counted.count)) x c z) (λ r n. absurd (omega (arith, shared.counted.count, n.still)))
      go k l u (inr q) = rw (v.batches k l q) (λ x c z. all_reads (StandInCallOrder k (get_or (batch_at B w.batches k).calls x c)) (o.ordered.apart k l (omega (arith, n_is)) x c z) (λ r n. before_answer r n k l q x c z))

  others_behind : (j : ℕ) (n : CallState) → j < S.callers → (j ≡ i → ⊥) → get_or w.machines j n ≡ n → HasOnlyOlderCalls S B vs cs (w.reads ++ rs) j n n.place
  others_behind j n l ne e =
      let f = o.behind j n l e in
      record {
        older = all_reads (λ (r : Read). r.caller ≡ j → IsOlder n n.place r) f.older (λ r x q. absurd (ne (sym q ∙ x.caller)));
        seen = λ t. all_reads (λ (r : Read). r.caller ≡ j → r.seq ≤ n.seq) (f.seen t) (λ r x q. absurd (ne (sym q ∙ x.caller)));
        still = λ t. still_stable j n l (tries_at S Lawful B w.words w.batches g.shared j n n.place (g.each j n l e) t) (f.still t);
      }

  own_behind : HasOnlyOlderCalls S B vs cs (w.reads ++ rs) i d d.place
  own_behind = record {
    older = all_reads (λ (r : Read). r.caller ≡ i → IsOlder d d.place r) (λ y r l q. k.older (get_or w.reads y r) (b.older y r l q)) (λ r x q. x.older);
    seen = λ t. seen (k.trying t);
    still = λ t. still (k.trying t);
  }
    where
      seen : (HasBegunTry m m.place × (d.seq ≡ m.seq)) ⊎ ((m.place ≡ TryCurrent) × (d.seq ≡ committed_seq w.words)) → All (λ (r : Read). r.caller ≡ i → r.seq ≤ d.seq) (w.reads ++ rs)
      seen (inl t) = all_reads (λ (r : Read). r.caller ≡ i → r.seq ≤ d.seq) (λ y r l q. omega (arith, b.seen t.0 y r l q, t.1)) (λ r x q. omega (arith, x.seq, t.1))
      seen (inr t) = all_reads (λ (r : Read). r.caller ≡ i → r.seq ≤ d.seq) (λ y r l q. omega (arith, (o.ordered.reads y r l).upto, upto_last S Lawful B w.words w.batches g.shared, t.1))
          (λ r x q. absurd (subst (λ (p : Place). HasBegunTry m p) t.0 x.trying))

      still : (HasBegunTry m m.place × (d.seq ≡ m.seq)) ⊎ ((m.place ≡ TryCurrent) × (d.seq ≡ committed_seq w.words)) → last_ticket_by S B cs d.seq i ≡ last_ticket_by S B cs (committed_seq vs) i
      still (inl t) = ap (λ (s : ℕ). last_ticket_by S B cs s i) t.1 ∙ still_stable i m h (tries_at S Lawful B w.words w.batches g.shared i m m.place a t.0) (b.still t.0)
      still (inr t) =
          let f = subst (λ (p : Place). HoldsAtPlace S B w.words w.batches i m p) t.0 a in
          ap (λ (s : ℕ). last_ticket_by S B cs s i) t.1 ∙ tick_same S Lawful B i w.words w.batches vs cs v g.shared (committed_seq w.words) i from_start (omega arith) ∙ sym (quiet_still i h f.fresh.quieted)

  pub order_after : KeepsCallOrder S B (record { words = vs; machines = set w.machines i d; batches = cs; reads = w.reads ++ rs; loaded = w.loaded })
  order_after = record { ordered = ordered; behind = λ j n l e. go j n l e (cases_eq j i) }
    where
      go : (j : ℕ) (n : CallState) → j < S.callers → get_or (set w.machines i d) j n ≡ n → (j ≡ i) ⊎ (j ≡ i → ⊥) → HasOnlyOlderCalls S B vs cs (w.reads ++ rs) j n n.place
      go j n l e (inl q) =
          let i_in : i < length w.machines = omega (arith, g.members) in
          let same : d ≡ n = sym (get_or-set_same w.machines i d n i_in) ∙ (rw q at e) in
          subst (λ (x : CallState). HasOnlyOlderCalls S B vs cs (w.reads ++ rs) j x x.place) same (rw q own_behind)
      go j n l e (inr q) = others_behind j n l q (sym (get_or-set_other w.machines i j d n q) ∙ e)

-- a step of an open call keeps the order
module _ (S : Setup) (Lawful : List ℕ → Type 0) (B : TableStart) (w : Moment) (g : MeetsCore S Lawful B w) (i : ℕ) (m : CallState) (h : i < S.callers) (n : ℕ) (d : CallState) (added : List Batch) (f : IsStepAtPlace S m n m.place d added) (was_open : IsOpen m.place)
    (found : m.place ≡ TryCurrent → seq_of n ≡ committed_seq w.words) (vs : List ℕ) (shared : WordsMatchHistory S Lawful B vs (w.batches ++ added)) (a : HoldsAtPlace S B vs (w.batches ++ added) i d d.place) where
  older_open : (r : Read) → IsOlder m m.place r → IsOlder d d.place r
  older_open r q =
      let p : WasMadeBefore m r false = subst (λ (b : Bool). WasMadeBefore m r b) was_open q in
      as_older d r (is_idle d.place) (omega (arith, p, f.made))

  answered : (b : Bool) → is_idle d.place ≡ b → CountsStepOrEnds S m m.place d b → (step_reads_if d false b ≡ []) ⊎ ((r : Read) × (step_reads_if d false b ≡ r ∷ []) × Answer S B i w.words m d vs (w.batches ++ added) r)
  answered false e c = inl refl
  answered true e c = ended d.answer c.0 at_rest.told
    where
      at_rest : IsAtRest S B vs (w.batches ++ added) i d
      at_rest = subst (λ (p : Place). HoldsAtPlace S B vs (w.batches ++ added) i d p) (idle_is d.place e) a

      ended : (x : Option Outcome) → LastStepTells S m m.place x → LastOutcomeStands S B vs (w.batches ++ added) i d x → (read_of d x ≡ []) ⊎ ((r : Read) × (read_of d x ≡ r ∷ []) × Answer S B i w.words m d vs (w.batches ++ added) r)
      ended None c t = absurd c
      ended (Some (Spent s)) c t = inl refl
      ended (Some (Lost s)) c t = absurd t
      ended (Some (Answered s true raw k)) c t = inl refl
      ended (Some (Answered s false raw k)) c t = inr (
        record { caller = d.caller; ticket = d.made; op = d.op; raw = raw; seq = s },
        refl,
        record {
          caller = at_rest.caller;
          ticket = f.made;
          seq = c.1;
          trying = c.0;
          was_open = was_open;
          is_read = record { caller = rw at_rest.caller h; from = t.from; upto = t.durable; only = t.reads; reply = t.reply };
          older = subst (λ (b : Bool). WasMadeBefore d (record { caller = d.caller; ticket = d.made; op = d.op; raw = raw; seq = s }) b) (sym e) (omega arith);
          still = same_last (f.tries c.0) shared.counted.count;
        },
      )
        where
          same_last : added ≡ [] → committed_seq vs ≡ B.seq + length (w.batches ++ added) → committed_seq vs ≡ committed_seq w.words
          same_last q c = c ∙ ap (λ (xs : List Batch). B.seq + length (w.batches ++ xs)) q ∙ ap (λ (xs : List Batch). B.seq + length xs) (append-nil w.batches) ∙ sym g.shared.counted.count

  pub orderly : Orderly S B i w.words m d vs (w.batches ++ added) (step_reads_at d m.place)
  orderly = record {
    older = older_open;
    trying = λ t. go (f.trying t);
    answers = subst (λ (q : Bool). (step_reads_if d q (is_idle d.place) ≡ []) ⊎ ((r : Read) × (step_reads_if d q (is_idle d.place) ≡ r ∷ []) × Answer S B i w.words m d vs (w.batches ++ added) r)) (sym was_open) (answered (is_idle d.place) refl f.counts);
  }
    where
      go : (HasBegunTry m m.place × (d.seq ≡ m.seq)) ⊎ ((m.place ≡ TryCurrent) × (d.seq ≡ seq_of n)) → (HasBegunTry m m.place × (d.seq ≡ m.seq)) ⊎ ((m.place ≡ TryCurrent) × (d.seq ≡ committed_seq w.words))
      go (inl q) = inl q
      go (inr q) = inr (q.0, q.1 ∙ found q.0)

-- a turn of an idle machine changes nothing of it
pub orderly_idle : (S : Setup) (B : TableStart) (i : ℕ) (ws : List ℕ) (m d : CallState) (vs : List ℕ) (cs : List Batch) → d ≡ m → is_idle m.place ≡ true → Orderly S B i ws m d vs cs (step_reads_at d m.place)
orderly_idle S B i ws m d vs cs e q = rw e (record {
  older = λ r x. x;
  trying = λ t. inl (t, refl);
  answers = subst (λ (b : Bool). (step_reads_if m b (is_idle m.place) ≡ []) ⊎ ((r : Read) × (step_reads_if m b (is_idle m.place) ≡ r ∷ []) × Answer S B i ws m m vs cs r)) (sym q) (inl refl);
})

-- the order speaks of no word but the last sequence and the durable one
pub order_same : (S : Setup) (B : TableStart) (w : Moment) (vs : List ℕ) → KeepsCallOrder S B w → committed_seq vs ≡ committed_seq w.words → durable_seq S w.words ≤ durable_seq S vs → KeepsCallOrder S B (record w { words = vs })
order_same S B w vs o e l = record {
  ordered = record {
    reads = λ k d u. let p = o.ordered.reads k d u in record { caller = p.caller; from = p.from; upto = omega (arith, p.upto); only = p.only; reply = p.reply };
    successive = o.ordered.successive;
    apart = o.ordered.apart;
  };
  behind = λ i m h q. let b = o.behind i m h q in record { older = b.older; seen = b.seen; still = λ t. b.still t ∙ ap (λ (k : ℕ). last_ticket_by S B w.batches k i) (sym e) };
}
