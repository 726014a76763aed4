-- A batch's log is what its calls write, and its owner's call is among them. A try or a round loads
-- only cells that a run needs.
use Rattle.std.proofs.Common.{◌≡◌, ◌⊎◌, inl, inr, ℕ, zero, suc, ◌+◌, ◌*◌, ◌-◌, ◌<◌, ◌≤◌, ◌==◌, List, [], ◌∷◌, ◌++◌, length, get_or, refl, sym, ◌∙◌, ap, subst, arith, Option, Some, None, Bool, true, false, nat_lt, map, length-append}
use Rattle.std.proofs.lemmas.Bool.{cases_eq, cases_lt}
use Rattle.std.proofs.lemmas.Bool.Decides.{nat_tests}
use Rattle.std.proofs.lemmas.List.{append-nil, get_or-set_same, get_or-set_other, get_or_default}
use Rattle.of_cell.specs.declared.word.TheConstants.{PAYLOADS}
use Rattle.of_cell.specs.Words.{pack, seq_of, payload_of}
use Rattle.of_cell.proofs.Order.{seq_word}
use Rattle.of_mem.specs.declared.work.TheConstants.{MOST_INSTRS}
use Rattle.of_mem.specs.Meaning.{WalkEnd, Needs, Gives, IsSoundMeaning, Agrees}
use Rattle.of_mem.specs.Part.{overlaid}
use Rattle.of_core.specs.declared.place.Place.{Place}
use Rattle.of_core.specs.declared.place.Place.TheVariants.{Idle, TryCurrent, TryRequest, TryCell, StoreScript, StoreAnnouncement, LoadCurrent, LoadRequest, CopyLog, LookAgain, LoadOwnTicket, LoadShape, LoadReply, LoadAnnouncement, LoadTicket, LoadScript, LoadCell, RaiseOld, StoreLog, RaiseLog, StoreRequest, RaiseRequest, ExchangeCurrent, RaiseCurrent, LoadTarget, ExchangeTarget, ReloadTarget, RaiseTarget, CloseRequest, RaiseClosed}
use Rattle.of_core.specs.declared.machine.trying.TheConstants.{MOST_TRIES}
use Rattle.of_core.specs.Table.{Setup, first_operation_cell, cell_count, ticket_cell, committed_seq}
use Rattle.of_core.specs.Machine.{Call, CallState, IsOpen, is_idle, no_machine, no_call, begin_call, first_place, no_cell_known, with_cell_known, log_words}
use Rattle.of_core.specs.Steps.{after_read_run, begin_reading, resume, after_try_request, end_try, after_try_cell, want, want_at, word_found, take_word, take_word_at, with_step_counted, IsFoundBy, after_store_script, after_load_request, after_copy_log, after_look_again, after_own_ticket, after_load_shape, with_shape, after_load_reply, with_reply, next_reply_place, first_marked_place, after_announcement, weigh, after_load_ticket, after_load_script, with_script_word, call_as_run, after_script_run, next_scanned_caller, with_call_run, after_load_cell, after_raise_log, after_commit_exchange, after_raise_current, after_load_target, next_entry, after_raise_closed, is_request_open, with_log_word_copied}
use Rattle.of_core.specs.TableMoment.{Moment, TableStart, Batch, step_batches, step_batches_at, one_batch}
use Rattle.of_core.specs.History.{batch_at, numbers_after}
use Rattle.of_core.specs.WordsMatch.{MayStart}
use Rattle.of_core.specs.Invariant.{HoldsAtPlace, MeetsCore, MeetsInvariant}
use Rattle.of_core.specs.Claim.{knows_state, IsSound}
use Rattle.of_core.specs.Remains.{remains_of, announces_open_call, revived_if, revived_machine}
use Rattle.of_core.specs.Events.{Event, Begins, Turns, Loads, Evicts, Raises, Revives, after_event, MayHappen, machine_in, after_events, IsSchedule, opening_moment, idle_machines, start_ticket}
use Rattle.of_core.specs.Needed.{NeedsCell}
use Rattle.of_core.specs.Written.{RunOf, with_call, LeadTo, IsLogOf, HasOwnCall}
use Rattle.of_core.proofs.States.{state_same, batch_same, batch_new}
use Rattle.of_core.proofs.Claims.{is_sound}
use Rattle.of_core.proofs.Found.{found_now}
use Rattle.of_core.proofs.Happenings.{event_good}
use Rattle.of_core.proofs.Openings.{start_good}

-- one call more
leads_more : (S : Setup) (xs : List ℕ) (before : List (ℕ × ℕ)) (cs : List Call) (log : List (ℕ × ℕ)) → LeadTo S xs before cs log → (c : Call) (r : RunOf S xs log c) → LeadTo S xs before (cs ++ c ∷ []) (with_call S log r.writes c)
leads_more S xs before [] log e c r = subst (λ (b : List (ℕ × ℕ)). LeadTo S xs b (c ∷ []) (with_call S log r.writes c)) (sym e) (r, refl)
leads_more S xs before (d ∷ ds) log p c r = (p.0, leads_more S xs (with_call S before p.0.writes d) ds log p.1 c r)

-- the machine's write-set is what the calls that it has run write
abbrev Logged : Setup → TableStart → List Batch → CallState → Type 0
Logged S B bs m = LeadTo S (numbers_after B bs m.seq) [] m.calls m.log

-- from the scan to the commit; and what a try or a round loads next, its run needs
abbrev Collects : Setup → TableStart → List Batch → CallState → Place → Type 0
Collects S B bs m (TryCell a) = S.meaning.walk m.known m.op ≡ Needs a
Collects S B bs m LoadOwnTicket = Logged S B bs m
Collects S B bs m LoadAnnouncement = Logged S B bs m
Collects S B bs m LoadTicket = Logged S B bs m
Collects S B bs m (LoadScript j) = Logged S B bs m
Collects S B bs m (LoadCell a) = Logged S B bs m × (S.meaning.walk (overlaid m.known m.log) m.script ≡ Needs a)
Collects S B bs m RaiseOld = Logged S B bs m
Collects S B bs m (StoreLog x) = Logged S B bs m
Collects S B bs m (RaiseLog x) = Logged S B bs m
Collects S B bs m StoreRequest = Logged S B bs m
Collects S B bs m RaiseRequest = Logged S B bs m
Collects S B bs m ExchangeCurrent = Logged S B bs m
Collects S B bs m p = Unit {0}

-- A step of the machine.
module _ (S : Setup) (B : TableStart) (cs : List Batch) (m : CallState) (n : ℕ) where
  abbrev now : CallState
  now = record m { steps = m.steps + 1 }

  -- what a machine knows is of its state
  abbrev Knows : CallState → Type 0
  Knows d = knows_state d.place ≡ true → Agrees d.known (numbers_after B cs d.seq)

  abbrev Kept : CallState → Type 0
  Kept d = Knows d → Collects S B cs d d.place

  read_on_kept : (x : CallState) (r : WalkEnd) → S.meaning.walk x.known x.op ≡ r → Kept (after_read_run x r)
  read_on_kept x (Needs a) e k = e
  read_on_kept x (Gives es r) e k = tt

  tried_kept : Kept (begin_reading S now)
  tried_kept k = read_on_kept (record now { known = no_cell_known S; helps = false }) (S.meaning.walk (no_cell_known S) m.op) refl k

  resumed_kept : (b : Bool) → Kept (resume S now b)
  resumed_kept true k = tried_kept k
  resumed_kept false k = refl

  next_kept : (x : CallState) → Logged S B cs x → (b : Bool) → Kept (next_scanned_caller x b)
  next_kept x t true k = t
  next_kept x t false k = t

  weighed_kept : (x : CallState) → Logged S B cs x → (b : Bool) → Kept (weigh S x b)
  weighed_kept x t true k = t
  weighed_kept x t false k = next_kept x t (nat_lt (x.scan + 1) S.callers) k

  ran_kept : (x : CallState) → Logged S B cs x → (r : WalkEnd) → S.meaning.walk (overlaid x.known x.log) x.script ≡ r → Kept (after_script_run S x r)
  ran_kept x t (Needs a) e k = (t, e)
  ran_kept x t (Gives es r) e k = go (nat_lt (x.scan + 1) S.callers) k
    where
      more : Agrees x.known (numbers_after B cs x.seq) → Logged S B cs (with_call_run S x es r)
      more a = leads_more S (numbers_after B cs x.seq) [] x.calls x.log t (call_as_run x r) (record { known = x.known; agrees = a; writes = es; gives = e })

      go : (b : Bool) → Kept (next_scanned_caller (with_call_run S x es r) b)
      go true k = more (k refl)
      go false k = more (k refl)

  asks_kept : (x : CallState) (r : Option ℕ) → Kept (next_reply_place x r)
  asks_kept x None k = tt
  asks_kept x (Some j) k = tt

  collects : (p : Place) → IsOpen p → Collects S B cs m p → Kept (take_word_at S (with_step_counted p m) n p)
  collects Idle o t k = cc
  collects TryCurrent o t k = tt
  collects TryRequest o t k = go (is_request_open m.seq n) k
    where
      go : (b : Bool) → Kept (after_try_request S now b)
      go true k = tt
      go false k = tried_kept k
  collects (TryCell x) o t k = go (nat_lt m.seq (seq_of n)) k
    where
      over_kept : (b : Bool) → Kept (end_try now b)
      over_kept true k = tt
      over_kept false k = tt

      go : (b : Bool) → Kept (after_try_cell S now x n b)
      go true k = over_kept (nat_lt m.tries MOST_TRIES) k
      go false k = read_on_kept (record now { known = with_cell_known S m x n }) (S.meaning.walk (with_cell_known S m x n) m.op) refl k
  collects (StoreScript j) o t k = go (nat_lt (j + 1) (length m.op)) k
    where
      go : (b : Bool) → Kept (after_store_script now j b)
      go true k = tt
      go false k = tt
  collects StoreAnnouncement o t k = tt
  collects LoadCurrent o t k = tt
  collects LoadRequest o t k = go (is_request_open m.seq n) k
    where
      go : (b : Bool) → Kept (after_load_request S now b)
      go true k = tt
      go false k = refl
  collects (CopyLog x) o t k = go (nat_lt (x + 1) (2 * get_or (with_log_word_copied m n) 0 0 + 1)) k
    where
      go : (b : Bool) → Kept (after_copy_log now x n b)
      go true k = tt
      go false k = tt
  collects LookAgain o t k = go (n == pack m.seq 0) (m.rounds == 0) k
    where
      go : (b c : Bool) → Kept (after_look_again S now b c)
      go true c k = tt
      go false c k = resumed_kept c k
  collects LoadOwnTicket o t k = go (nat_lt m.seq (seq_of n)) (payload_of n == m.made) (m.seq == S.limit) k
    where
      go : (b c d : Bool) → Kept (after_own_ticket S now n b c d)
      go true c d k = tt
      go false true d k = tt
      go false false true k = tt
      go false false false k = t
  collects LoadShape o t k = go (nat_lt m.seq (seq_of n)) k
    where
      go : (b : Bool) → Kept (after_load_shape S now n b)
      go true k = tt
      go false k = asks_kept (with_shape S now n) (first_marked_place (payload_of n) 0 S.instrs) k
  collects (LoadReply j) o t k = go (nat_lt m.seq (seq_of n)) k
    where
      go : (b : Bool) → Kept (after_load_reply S now j n b)
      go true k = tt
      go false k = asks_kept (with_reply now j n) (first_marked_place m.raw.shape (j + 1) (S.instrs - j - 1)) k
  collects LoadAnnouncement o t k = go (get_or m.known (ticket_cell S m.scan) None) k
    where
      go : (r : Option ℕ) → Kept (after_announcement S now n r)
      go None k = t
      go (Some v) k = weighed_kept (record now { heard = n }) t (nat_lt v (seq_of n)) k
  collects LoadTicket o t k = go (nat_lt m.seq (seq_of n)) k
    where
      go : (b : Bool) → Kept (after_load_ticket S now n b)
      go true k = tt
      go false k = weighed_kept (record now { known = with_cell_known S m (ticket_cell S m.scan) n }) t (nat_lt (payload_of n) (seq_of m.heard)) k
  collects (LoadScript j) o t k = go (nat_lt (j + 1) (payload_of m.heard)) k
    where
      go : (b : Bool) → Kept (after_load_script S now j n b)
      go true k = t
      go false k = ran_kept (record now { script = with_script_word m n }) t (S.meaning.walk (overlaid m.known m.log) (with_script_word m n)) refl k
  collects (LoadCell x) o t k = go (nat_lt m.seq (seq_of n)) k
    where
      go : (b : Bool) → Kept (after_load_cell S now x n b)
      go true k = tt
      go false k = ran_kept (record now { known = with_cell_known S m x n }) t.0 (S.meaning.walk (overlaid (with_cell_known S m x n) m.log) m.script) refl k
  collects RaiseOld o t k = t
  collects (StoreLog x) o t k = t
  collects (RaiseLog x) o t k = go (nat_lt (x + 1) (length (log_words m.log))) k
    where
      go : (b : Bool) → Kept (after_raise_log now x b)
      go true k = t
      go false k = t
  collects StoreRequest o t k = t
  collects RaiseRequest o t k = t
  collects ExchangeCurrent o t k = go (n == pack m.seq m.owner) k
    where
      go : (b : Bool) → Kept (after_commit_exchange now b)
      go true k = tt
      go false k = tt
  collects RaiseCurrent o t k = go (nat_lt 0 (length m.log)) k
    where
      go : (b : Bool) → Kept (after_raise_current now b)
      go true k = tt
      go false k = tt
  collects (LoadTarget j) o t k = go (nat_lt (seq_of n) m.seq) k
    where
      go : (b : Bool) → Kept (after_load_target now j n b)
      go true k = tt
      go false k = tt
  collects (ExchangeTarget j f) o t k = tt
  collects (ReloadTarget j) o t k = tt
  collects (RaiseTarget j f) o t k = go (nat_lt (j + 1) (length m.log)) k
    where
      go : (b : Bool) → Kept (next_entry now j b)
      go true k = tt
      go false k = tt
  collects CloseRequest o t k = tt
  collects RaiseClosed o t k = go m.helps (m.rounds == 0) k
    where
      go : (b c : Bool) → Kept (after_raise_closed S now b c)
      go true c k = resumed_kept c k
      go false c k = tt

-- A longer history.
module _ (S : Setup) (Lawful : List ℕ → Type 0) (B : TableStart) (w : Moment) (g : MeetsCore S Lawful B w) where
  -- the states that stood stand
  same_numbers : (more : List Batch) (k : ℕ) → k ≤ committed_seq w.words → numbers_after B (w.batches ++ more) k ≡ numbers_after B w.batches k
  same_numbers more k l = ap (map payload_of) (state_same B w.batches more k (omega (arith, l, g.shared.counted.count)))

  -- what a machine has collected stands
  still : (i : ℕ) (m : CallState) (more : List Batch) (p : Place) → HoldsAtPlace S B w.words w.batches i m p → Collects S B w.batches m p → Collects S B (w.batches ++ more) m p
  still i m more p a t = go p a t
    where
      by : m.seq ≤ committed_seq w.words → Logged S B w.batches m → Logged S B (w.batches ++ more) m
      by l t = subst (λ (xs : List ℕ). LeadTo S xs [] m.calls m.log) (sym (same_numbers more m.seq l)) t

      go : (p : Place) → HoldsAtPlace S B w.words w.batches i m p → Collects S B w.batches m p → Collects S B (w.batches ++ more) m p
      go LoadOwnTicket a t = by a.looks.round.current_word.upto t
      go LoadAnnouncement a t = by a.past.looks.round.current_word.upto t
      go LoadTicket a t = by a.scanning.past.looks.round.current_word.upto t
      go (LoadScript j) a t = by a.scanning.past.looks.round.current_word.upto t
      go (LoadCell x) a t = (by a.scanning.past.looks.round.current_word.upto t.0, t.1)
      go (TryCell x) a t = t
      go RaiseOld a t = by a.past.looks.round.current_word.upto t
      go (StoreLog x) a t = by a.storing.stored.past.looks.round.current_word.upto t
      go (RaiseLog x) a t = by a.storing.stored.past.looks.round.current_word.upto t
      go StoreRequest a t = by a.stored.past.looks.round.current_word.upto t
      go RaiseRequest a t = by a.stored.past.looks.round.current_word.upto t
      go ExchangeCurrent a t = by a.stored.past.looks.round.current_word.upto t
      go p a t = tt

  -- what a batch is that is committed behind these
  abbrev IsNext : Batch → Type 0
  IsNext b = LeadTo S (numbers_after B w.batches (B.seq + length w.batches)) [] b.calls b.log × HasOwnCall b

  abbrev AreNext : List Batch → Type 0
  AreNext [] = Unit {0}
  AreNext (b ∷ []) = IsNext b
  AreNext (b ∷ c ∷ bs) = ⊥

  next_are : (i : ℕ) (m : CallState) (n : ℕ) → i < S.callers → (p : Place) → HoldsAtPlace S B w.words w.batches i m p → Collects S B w.batches m p → IsFoundBy (want_at S m p) w.words n → AreNext (step_batches_at S w.words m n p)
  next_are i m n h ExchangeCurrent a t f = go (n == pack m.seq m.owner) refl
    where
      go : (b : Bool) → (n == pack m.seq m.owner) ≡ b → AreNext (one_batch S w.words m b)
      go false e = tt
      go true e = (
        subst (λ (k : ℕ). LeadTo S (numbers_after B w.batches k) [] m.calls m.log) (is ∙ g.shared.counted.count) t,
        (own.0, own.1, ap (λ (c : Call). c.caller) own.2 ∙ sym a.stored.past.looks.round.begun.caller),
      )
        where
          found : n ≡ pack m.seq m.owner
          found = grind (arith, nat_tests)

          is : m.seq ≡ committed_seq w.words
          is = sym (ap seq_of (sym f ∙ found) ∙ seq_word m.seq m.owner (omega (arith, a.stored.past.looks.round.current_word.owner_in, g.shared.few)))

          own : (y : ℕ) × (y < length m.calls) × (get_or m.calls y no_call ≡ record { caller = i; ticket = m.made; op = m.op; raw = m.raw })
          own = a.stored.over.own is h
  next_are i m n h p a t f = tt

  -- what each batch of a history has
  abbrev Has : List Batch → ℕ → Type 0
  Has bs k = LeadTo S (numbers_after B bs (k - 1)) [] (batch_at B bs k).calls (batch_at B bs k).log × HasOwnCall (batch_at B bs k)

  older : (more : List Batch) (k : ℕ) → B.seq < k → k ≤ B.seq + length w.batches → Has w.batches k → Has (w.batches ++ more) k
  older more k l u t =
      subst (λ (b : Batch). LeadTo S (numbers_after B (w.batches ++ more) (k - 1)) [] b.calls b.log × HasOwnCall b) (sym (batch_same B w.batches more k l u))
      (subst (λ (xs : List ℕ). LeadTo S xs [] (batch_at B w.batches k).calls (batch_at B w.batches k).log) (sym (same_numbers more (k - 1) (omega (arith, l, u, g.shared.counted.count)))) t.0, t.1)

  grown : (more : List Batch) → AreNext more → ((k : ℕ) → B.seq < k → k ≤ B.seq + length w.batches → Has w.batches k) → (k : ℕ) → B.seq < k → k ≤ B.seq + length (w.batches ++ more) → Has (w.batches ++ more) k
  grown [] a t k l u = let v : k ≤ B.seq + length w.batches = omega (arith, u, ap (λ (bs : List Batch). length bs) (append-nil w.batches)) in older [] k l v (t k l v)
  grown (b ∷ []) a t k l u = go (cases_lt (B.seq + length w.batches) k)
    where
      go : (B.seq + length w.batches < k) ⊎ (k ≤ B.seq + length w.batches) → Has (w.batches ++ b ∷ []) k
      go (inr v) = older (b ∷ []) k l v (t k l v)
      go (inl v) =
          let e : k ≡ B.seq + length w.batches + 1 = omega (arith, u, v, length-append w.batches (b ∷ [])) in
          let d : k - 1 ≡ B.seq + length w.batches = omega arith in
          subst (λ (x : Batch). LeadTo S (numbers_after B (w.batches ++ b ∷ []) (k - 1)) [] x.calls x.log × HasOwnCall x) (sym (batch_new B w.batches b k e))
          (subst (λ (xs : List ℕ). LeadTo S xs [] b.calls b.log) (sym (same_numbers (b ∷ []) (k - 1) (omega (arith, d, g.shared.counted.count)) ∙ ap (numbers_after B w.batches) d)) a.0, a.1)
  grown (b ∷ c ∷ bs) a t k l u = absurd a

-- what each moment of a schedule has
record Collected (S : Setup) (B : TableStart) (w : Moment) : Type 0 where
  pub machines : (i : ℕ) → i < S.callers → Collects S B w.batches (machine_in w i) (machine_in w i).place
  pub history : (k : ℕ) → B.seq < k → k ≤ B.seq + length w.batches
      → LeadTo S (numbers_after B w.batches (k - 1)) [] (batch_at B w.batches k).calls (batch_at B w.batches k).log × HasOwnCall (batch_at B w.batches k)

module _ (S : Setup) (Lawful : List ℕ → Type 0) (sound : IsSoundMeaning S.meaning Lawful (first_operation_cell S) S.cells) (B : TableStart) where
  -- a call that opens has collected nothing
  opens : (bs : List Batch) (d : CallState) (op : List ℕ) → Collects S B bs (begin_call S d op) (begin_call S d op).place
  opens bs d op = go (S.meaning.reads_only op)
    where
      go : (b : Bool) → Collects S B bs (record (begin_call S d op) { place = first_place b }) (first_place b)
      go true = tt
      go false = tt

  own : (w : Moment) → MeetsInvariant S Lawful B w → (i : ℕ) → i < S.callers → get_or w.machines i (machine_in w i) ≡ machine_in w i
  own w g i h = get_or_default w.machines i (machine_in w i) no_machine (omega (arith, g.core.members))

  -- the machine that has made its step
  stepped_on : (w : Moment) (g : MeetsInvariant S Lawful B w) (i : ℕ) (h : i < S.callers) (m : CallState) → get_or w.machines i m ≡ m → Collects S B w.batches m m.place
      → (knows_state (take_word S m (word_found S w.words m)).place ≡ true → Agrees (take_word S m (word_found S w.words m)).known (numbers_after B (w.batches ++ step_batches S w.words m (word_found S w.words m)) (take_word S m (word_found S w.words m)).seq))
      → Collects S B (w.batches ++ step_batches S w.words m (word_found S w.words m)) (take_word S m (word_found S w.words m)) (take_word S m (word_found S w.words m)).place
  unfolding take_word want
  stepped_on w g i h m e t k = go (is_idle m.place) refl
    where
      cs : List Batch
      cs = w.batches ++ step_batches S w.words m (word_found S w.words m)

      on : Collects S B cs m m.place
      on = still S Lawful B w g.core i m (step_batches S w.words m (word_found S w.words m)) m.place (g.core.each i m h e) t

      at_rest : (p : Place) → is_idle p ≡ true → take_word_at S (with_step_counted p m) (word_found S w.words m) p ≡ m
      at_rest Idle q = refl
      at_rest p q = cc

      go : (b : Bool) → is_idle m.place ≡ b → Collects S B cs (take_word S m (word_found S w.words m)) (take_word S m (word_found S w.words m)).place
      go true q = subst (λ (d : CallState). Collects S B cs d d.place) (sym (at_rest m.place q)) on
      go false q = collects S B cs m (word_found S w.words m) m.place q on k

  new_batches : (w : Moment) (g : MeetsInvariant S Lawful B w) (i : ℕ) (h : i < S.callers) (m : CallState) → get_or w.machines i m ≡ m → Collects S B w.batches m m.place → AreNext S Lawful B w g.core (step_batches S w.words m (word_found S w.words m))
  unfolding step_batches want
  new_batches w g i h m e t = next_are S Lawful B w g.core i m (word_found S w.words m) h m.place (g.core.each i m h e) t (found_now S w.words m)

  turn : (w : Moment) → MeetsInvariant S Lawful B w → Collected S B w → (i : ℕ) → i < S.callers → Collected S B (after_event S w (Turns i))
  turn w g c i h = record {
    machines = λ j l. machines j l (cases_eq j i);
    history = grown S Lawful B w g.core (step_batches S w.words m n) (new_batches w g i h m (own w g i h) (c.machines i h)) c.history;
  }
    where
      m : CallState
      m = machine_in w i

      n : ℕ
      n = word_found S w.words m

      v : Moment
      v = after_event S w (Turns i)

      good : MeetsInvariant S Lawful B v
      good = event_good S Lawful B w g sound (Turns i) h

      claim : IsSound S B v
      claim = is_sound S Lawful sound B v good.core good.within good.late good.order

      here : machine_in v i ≡ take_word S m n
      here = get_or-set_same w.machines i (take_word S m n) no_machine (omega (arith, g.core.members))

      machines : (j : ℕ) → j < S.callers → (j ≡ i) ⊎ (j ≡ i → ⊥) → Collects S B v.batches (machine_in v j) (machine_in v j).place
      machines j l (inr away) =
          subst (λ (d : CallState). Collects S B v.batches d d.place) (sym (get_or-set_other w.machines i j _ no_machine away))
          (still S Lawful B w g.core j (machine_in w j) (step_batches S w.words m n) (machine_in w j).place (g.core.each j (machine_in w j) l (own w g j l)) (c.machines j l))
      machines j l (inl e) =
          subst (λ (k : ℕ). Collects S B v.batches (machine_in v k) (machine_in v k).place) (sym e)
          (subst (λ (d : CallState). Collects S B v.batches d d.place) (sym here)
          (stepped_on w g i h m (own w g i h) (c.machines i h) (subst (λ (d : CallState). knows_state d.place ≡ true → Agrees d.known (numbers_after B v.batches d.seq)) here (claim.one i h).known)))

  event : (w : Moment) → MeetsInvariant S Lawful B w → Collected S B w → (e : Event) → MayHappen S w e → Collected S B (after_event S w e)
  event w g c (Turns i) may = turn w g c i may
  event w g c (Loads x) may = record { machines = c.machines; history = c.history }
  event w g c (Evicts k) may = record { machines = c.machines; history = c.history }
  event w g c (Raises x) may = record { machines = c.machines; history = c.history }
  event w g c (Revives i made) may = record { machines = λ j l. machines j l (cases_eq j i); history = c.history }
    where
      v : Moment
      v = after_event S w (Revives i made)

      next : CallState
      next = revived_machine S (remains_of S w.words i) i made

      at_if : (b : Bool) → Collects S B w.batches (revived_if S (remains_of S w.words i) i made b) (revived_if S (remains_of S w.words i) i made b).place
      at_if true = tt
      at_if false = tt

      machines : (j : ℕ) → j < S.callers → (j ≡ i) ⊎ (j ≡ i → ⊥) → Collects S B w.batches (machine_in v j) (machine_in v j).place
      machines j l (inr away) = subst (λ (d : CallState). Collects S B w.batches d d.place) (sym (get_or-set_other w.machines i j next no_machine away)) (c.machines j l)
      machines j l (inl e) =
          subst (λ (k : ℕ). Collects S B w.batches (machine_in v k) (machine_in v k).place) (sym e)
          (subst (λ (d : CallState). Collects S B w.batches d d.place) (sym (get_or-set_same w.machines i next no_machine (omega (arith, g.core.members, may.0)))) (at_if (announces_open_call (remains_of S w.words i))))
  event w g c (Begins i op) may = record { machines = λ j l. machines j l (cases_eq j i); history = c.history }
    where
      v : Moment
      v = after_event S w (Begins i op)

      machines : (j : ℕ) → j < S.callers → (j ≡ i) ⊎ (j ≡ i → ⊥) → Collects S B w.batches (machine_in v j) (machine_in v j).place
      machines j l (inr away) = subst (λ (d : CallState). Collects S B w.batches d d.place) (sym (get_or-set_other w.machines i j _ no_machine away)) (c.machines j l)
      machines j l (inl e) =
          subst (λ (k : ℕ). Collects S B w.batches (machine_in v k) (machine_in v k).place) (sym e)
          (subst (λ (d : CallState). Collects S B w.batches d d.place) (sym (get_or-set_same w.machines i (begin_call S (machine_in w i) op) no_machine (omega (arith, g.core.members, may.0)))) (opens w.batches (machine_in w i) op))

  collected_run : (es : List Event) (w : Moment) → MeetsInvariant S Lawful B w → Collected S B w → IsSchedule S w es → MeetsInvariant S Lawful B (after_events S w es) × Collected S B (after_events S w es)
  collected_run [] w g c s = (g, c)
  collected_run (e ∷ es) w g c s = collected_run es (after_event S w e) (event_good S Lawful B w g sound e s.0) (event w g c e s.0) s.1

  -- at a start nothing is committed, and every machine is idle
  first : (n : ℕ) → Collected S B (opening_moment S B n)
  first n = record { machines = λ i l. at_rest S.callers i 0 l; history = λ k l u. absurd (omega (arith, l, u)) }
    where
      at_rest : (c i f : ℕ) → i < c → Collects S B [] (get_or (idle_machines S (start_ticket S B) f c) i no_machine) (get_or (idle_machines S (start_ticket S B) f c) i no_machine).place
      at_rest zero i f l = absurd (omega arith)
      at_rest (suc c) zero f l = tt
      at_rest (suc c) (suc i) f l = at_rest c i (suc f) (omega arith)

  module _ (may : MayStart S Lawful B) (some : 0 < S.callers) (few : S.callers < PAYLOADS) (own_in : first_operation_cell S ≤ S.cells) (total : ℕ) (room : cell_count S + cell_count S + S.callers * (S.instrs + 1) ≤ total) (narrow : S.instrs ≤ MOST_INSTRS) (little : S.cells < PAYLOADS) (es : List Event) (s : IsSchedule S (opening_moment S B total) es) where
    reached : MeetsInvariant S Lawful B (after_events S (opening_moment S B total) es) × Collected S B (after_events S (opening_moment S B total) es)
    reached = collected_run es (opening_moment S B total) (start_good S Lawful sound B may some few own_in total room narrow little) (first total) s

    pub logs_are_writes : (k : ℕ) → B.seq < k → k ≤ B.seq + length (after_events S (opening_moment S B total) es).batches
        → IsLogOf S (numbers_after B (after_events S (opening_moment S B total) es).batches (k - 1)) (batch_at B (after_events S (opening_moment S B total) es).batches k).calls (batch_at B (after_events S (opening_moment S B total) es).batches k).log
    logs_are_writes k l u = record { writes = (reached.1.history k l u).0; is_log = reached.0.core.shared.counted.logs k l (omega (arith, u, reached.0.core.shared.counted.count)) }

    pub loads_needed : (i : ℕ) → i < S.callers → NeedsCell S (machine_in (after_events S (opening_moment S B total) es) i) (machine_in (after_events S (opening_moment S B total) es) i).place
    loads_needed i h = go (machine_in (after_events S (opening_moment S B total) es) i).place (reached.1.machines i h)
      where
        m : CallState
        m = machine_in (after_events S (opening_moment S B total) es) i

        go : (p : Place) → Collects S B (after_events S (opening_moment S B total) es).batches m p → NeedsCell S m p
        go (TryCell a) t = t
        go (LoadCell a) t = t.1
        go p t = tt

    pub owners_take_part : (k : ℕ) → B.seq < k → k ≤ B.seq + length (after_events S (opening_moment S B total) es).batches → HasOwnCall (batch_at B (after_events S (opening_moment S B total) es).batches k)
    owners_take_part k l u = (reached.1.history k l u).1
