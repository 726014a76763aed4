-- What one step does to the tries and rounds that its call has begun, by the place that it is made
-- from: a try is begun by the load of TryCurrent, a round by that of LoadCurrent, and a try ends
-- with an answer, goes on, or is lost.
use Rattle.std.proofs.Common.{◌≡◌, ℕ, ◌+◌, ◌-◌, ◌*◌, ◌≤◌, ◌⊎◌, ◌==◌, inl, inr, length, get_or, refl, sym, ◌∙◌, arith, Option, Some, None, Bool, true, false, nat_lt}
use Rattle.std.proofs.lemmas.Bool.Decides.{nat_tests}
use Rattle.of_core.specs.declared.machine.trying.TheConstants.{MOST_TRIES}
use Rattle.of_cell.specs.Words.{pack, seq_of, payload_of}
use Rattle.of_mem.specs.Meaning.{WalkEnd, Needs, Gives}
use Rattle.of_mem.specs.Part.{overlaid}
use Rattle.of_core.specs.declared.place.Place.{Place}
use Rattle.of_core.specs.declared.place.Place.TheVariants.{Idle, TryCurrent, TryRequest, TryCell, StoreScript, StoreAnnouncement, LoadCurrent, LoadRequest, CopyLog, LookAgain, LoadOwnTicket, LoadShape, LoadReply, LoadAnnouncement, LoadTicket, LoadScript, LoadCell, RaiseOld, StoreLog, RaiseLog, StoreRequest, RaiseRequest, ExchangeCurrent, RaiseCurrent, LoadTarget, ExchangeTarget, ReloadTarget, RaiseTarget, CloseRequest, RaiseClosed}
use Rattle.of_core.specs.declared.place.Outcome.{Outcome}
use Rattle.of_core.specs.declared.place.Outcome.TheVariants.{Answered, Spent, Lost}
use Rattle.of_core.specs.Table.{Setup, ticket_cell}
use Rattle.of_core.specs.Machine.{CallState, no_cell_known, with_cell_known, log_words}
use Rattle.of_core.specs.Steps.{take_word_at, with_step_counted, after_read_run, resume, first_round_seq, after_try_request, end_try, after_try_cell, after_store_script, after_load_request, after_copy_log, after_look_again, after_own_ticket, after_load_shape, after_load_reply, after_announcement, after_load_ticket, after_load_script, after_load_cell, after_raise_log, after_commit_exchange, after_raise_current, after_load_target, next_entry, after_raise_closed, after_script_run, weigh, next_scanned_caller, with_call_run, next_reply_place, with_shape, with_reply, with_log_word_copied, with_script_word, first_marked_place, is_request_open}
use Rattle.of_core.specs.TableMoment.{Moment, TableStart}
use Rattle.of_core.specs.Order.{HasBegunTry}
use Rattle.of_core.specs.Facts.{loads_current_at}
use Rattle.of_core.specs.Invariant.{HoldsAtPlace}
use Rattle.of_core.specs.Commits.{begins_at, announces_at}
use Rattle.of_core.proofs.Tests.{not_newer}

-- a read was answered without being announced
abbrev pub IsReadAnswer : Option Outcome → Type 0
IsReadAnswer None = ⊥
IsReadAnswer (Some (Answered s true raw steps)) = ⊥
IsReadAnswer (Some (Answered s false raw steps)) = Unit {0}
IsReadAnswer (Some (Spent s)) = ⊥
IsReadAnswer (Some (Lost s)) = ⊥

module _ (S : Setup) (B : TableStart) (w : Moment) (i : ℕ) (m : CallState) (n : ℕ) where
  -- with the step counted
  abbrev now : CallState
  now = record m { steps = m.steps + 1 }

  -- a try is lost: the next one begins, or the call is announced after the last
  abbrev pub IsLostTry : CallState → Type 0
  IsLostTry d = (begins_at d.place ≡ true) × ((d.place ≡ TryCurrent) ⊎ (MOST_TRIES ≤ m.tries))

  -- a step of a try reads the answer, or goes on, or loses the try
  abbrev pub Tries : CallState → Type 0
  Tries d = (IsReadAnswer d.answer × (d.place ≡ Idle)) ⊎ ((HasBegunTry d d.place × (d.seq ≡ m.seq)) ⊎ IsLostTry d)

  -- the step begins neither a try nor a round
  pub record BeginsNone (p : Place) (d : CallState) : Type 0 where
    pub loads : loads_current_at p ≡ false
    pub tries : d.tries ≡ m.tries
    pub rounds : d.rounds ≡ m.rounds
    pub first : d.first ≡ m.first
    pub tried : m.rounds ≡ 0 → HasBegunTry m p → (announces_at p ≡ false) × Tries d

  abbrev pub after_try_current : CallState
  after_try_current = record now { place = TryRequest; seq = seq_of n; owner = payload_of n; tries = m.tries + 1 }

  abbrev pub after_load_current : CallState
  after_load_current = record now { place = LoadRequest; seq = seq_of n; owner = payload_of n; rounds = m.rounds + 1; first = first_round_seq m (seq_of n) (m.rounds == 0) }

  -- what a step from the place p leaves: a try that begins, or a round, or neither
  abbrev pub Leaves : Place → CallState → Type 0
  Leaves p d = ((p ≡ TryCurrent) × (d ≡ after_try_current)) ⊎ (((p ≡ LoadCurrent) × (d ≡ after_load_current)) ⊎ BeginsNone p d)

  -- a step outside of a try
  away : (p : Place) (d : CallState) → loads_current_at p ≡ false → d.tries ≡ m.tries → d.rounds ≡ m.rounds → d.first ≡ m.first → (m.rounds ≡ 0 → HasBegunTry m p → ⊥) → BeginsNone p d
  away p d l t r f none = record { loads = l; tries = t; rounds = r; first = f; tried = λ z q. absurd (none z q) }

  -- a step of a try
  within : (p : Place) (d : CallState) → loads_current_at p ≡ false → d.tries ≡ m.tries → d.rounds ≡ m.rounds → d.first ≡ m.first → announces_at p ≡ false → (m.rounds ≡ 0 → HasBegunTry m p → Tries d) → BeginsNone p d
  within p d l t r f a h = record { loads = l; tries = t; rounds = r; first = f; tried = λ z q. (a, h z q) }

  next_away : (p : Place) (x : CallState) → loads_current_at p ≡ false → x.tries ≡ m.tries → x.rounds ≡ m.rounds → x.first ≡ m.first → (m.rounds ≡ 0 → HasBegunTry m p → ⊥) → (b : Bool) → BeginsNone p (next_scanned_caller x b)
  next_away p x l t r f none b = away p (next_scanned_caller x b) l t r f none

  weighed_away : (p : Place) (x : CallState) → loads_current_at p ≡ false → x.tries ≡ m.tries → x.rounds ≡ m.rounds → x.first ≡ m.first → (m.rounds ≡ 0 → HasBegunTry m p → ⊥) → (b : Bool) → BeginsNone p (weigh S x b)
  weighed_away p x l t r f none true = away p (weigh S x true) l t r f none
  weighed_away p x l t r f none false = next_away p x l t r f none (nat_lt (x.scan + 1) S.callers)

  ran_away : (p : Place) (x : CallState) → loads_current_at p ≡ false → x.tries ≡ m.tries → x.rounds ≡ m.rounds → x.first ≡ m.first → (m.rounds ≡ 0 → HasBegunTry m p → ⊥) → (r : WalkEnd) → BeginsNone p (after_script_run S x r)
  ran_away p x l t r f none (Needs z) = away p (after_script_run S x (Needs z)) l t r f none
  ran_away p x l t r f none (Gives es z) = next_away p (with_call_run S x es z) l t r f none (nat_lt (x.scan + 1) S.callers)

  asks_away : (p : Place) (x : CallState) → loads_current_at p ≡ false → x.tries ≡ m.tries → x.rounds ≡ m.rounds → x.first ≡ m.first → (m.rounds ≡ 0 → HasBegunTry m p → ⊥) → (r : Option ℕ) → BeginsNone p (next_reply_place x r)
  asks_away p x l t r f none None = away p (next_reply_place x None) l t r f none
  asks_away p x l t r f none (Some j) = away p (next_reply_place x (Some j)) l t r f none

  -- a run of a try goes on, or gives its answer
  read_tried : (x : CallState) → x.seq ≡ m.seq → (r : WalkEnd) → Tries (after_read_run x r)
  read_tried x e (Needs z) = inr (inl (tt, e))
  read_tried x e (Gives es z) = inl (tt, refl)

  read_within : (p : Place) (x : CallState) → loads_current_at p ≡ false → x.tries ≡ m.tries → x.rounds ≡ m.rounds → x.first ≡ m.first → x.seq ≡ m.seq → announces_at p ≡ false → (r : WalkEnd) → BeginsNone p (after_read_run x r)
  read_within p x l t r f e a (Needs z) = within p (after_read_run x (Needs z)) l t r f a (λ y q. read_tried x e (Needs z))
  read_within p x l t r f e a (Gives es z) = within p (after_read_run x (Gives es z)) l t r f a (λ y q. read_tried x e (Gives es z))

  -- after a look at the request, or a help, a try or a round goes on
  resumed_step : (p : Place) → loads_current_at p ≡ false → announces_at p ≡ false → (b : Bool) → (m.rounds ≡ 0 → b ≡ true) → BeginsNone p (resume S now b)
  resumed_step p l a true e = read_within p (record now { known = no_cell_known S; helps = false }) l refl refl refl refl a (S.meaning.walk (no_cell_known S) m.op)
  resumed_step p l a false e = away p (resume S now false) l refl refl refl (λ z q. let k : false ≡ true = e z in cc)

  no_rounds : (b : Bool) → (m.rounds == 0) ≡ b → m.rounds ≡ 0 → b ≡ true
  no_rounds true e z = refl
  no_rounds false e z = absurd (let k : m.rounds ≡ 0 → ⊥ = λ q. grind (arith, nat_tests) in k z)

  pub losing : (p : Place) → HoldsAtPlace S B w.words w.batches i m p → Leaves p (take_word_at S (with_step_counted p m) n p)
  losing Idle a = inr (inr (away Idle m refl refl refl refl (λ z q. q)))
  losing TryCurrent a = inl (refl, refl)
  losing TryRequest a = inr (inr (go (is_request_open m.seq n)))
    where
      go : (b : Bool) → BeginsNone TryRequest (after_try_request S now b)
      go true = within TryRequest (after_try_request S now true) refl refl refl refl refl (λ z q. inr (inl (z, refl)))
      go false = resumed_step TryRequest refl refl true (λ z. refl)
  losing (TryCell x) a = inr (inr (go (nat_lt m.seq (seq_of n))))
    where
      over : (b : Bool) → nat_lt m.tries MOST_TRIES ≡ b → BeginsNone (TryCell x) (end_try now b)
      over true e = within (TryCell x) (end_try now true) refl refl refl refl refl (λ z q. inr (inr (refl, inl refl)))
      over false e = within (TryCell x) (end_try now false) refl refl refl refl refl (λ z q. inr (inr (refl, inr (not_newer m.tries MOST_TRIES e))))

      go : (b : Bool) → BeginsNone (TryCell x) (after_try_cell S now x n b)
      go true = over (nat_lt m.tries MOST_TRIES) refl
      go false = read_within (TryCell x) (record now { known = with_cell_known S m x n }) refl refl refl refl refl refl (S.meaning.walk (with_cell_known S m x n) m.op)
  losing (StoreScript j) a = inr (inr (go (nat_lt (j + 1) (length m.op))))
    where
      go : (b : Bool) → BeginsNone (StoreScript j) (after_store_script now j b)
      go true = away (StoreScript j) (after_store_script now j true) refl refl refl refl (λ z q. q)
      go false = away (StoreScript j) (after_store_script now j false) refl refl refl refl (λ z q. q)
  losing StoreAnnouncement a = inr (inr (away StoreAnnouncement (take_word_at S now n StoreAnnouncement) refl refl refl refl (λ z q. q)))
  losing LoadCurrent a = inr (inl (refl, refl))
  losing LoadRequest a = inr (inr (go (is_request_open m.seq n)))
    where
      go : (b : Bool) → BeginsNone LoadRequest (after_load_request S now b)
      go true = away LoadRequest (after_load_request S now true) refl refl refl refl (λ z q. q)
      go false = away LoadRequest (after_load_request S now false) refl refl refl refl (λ z q. q)
  losing (CopyLog x) a = inr (inr (go (nat_lt (x + 1) (2 * get_or (with_log_word_copied m n) 0 0 + 1))))
    where
      go : (b : Bool) → BeginsNone (CopyLog x) (after_copy_log now x n b)
      go true = within (CopyLog x) (after_copy_log now x n true) refl refl refl refl refl (λ z q. inr (inl (q, refl)))
      go false = within (CopyLog x) (after_copy_log now x n false) refl refl refl refl refl (λ z q. inr (inl (q, refl)))
  losing LookAgain a = inr (inr (go (n == pack m.seq 0) (m.rounds == 0) refl))
    where
      go : (b c : Bool) → (m.rounds == 0) ≡ c → BeginsNone LookAgain (after_look_again S now b c)
      go true c e = within LookAgain (after_look_again S now true c) refl refl refl refl refl (λ z q. inr (inl ((a.copies.helps, q), refl)))
      go false c e = resumed_step LookAgain refl refl c (no_rounds c e)
  losing LoadOwnTicket a = inr (inr (go (nat_lt m.seq (seq_of n)) (payload_of n == m.made) (m.seq == S.limit)))
    where
      go : (b c d : Bool) → BeginsNone LoadOwnTicket (after_own_ticket S now n b c d)
      go true c d = away LoadOwnTicket (after_own_ticket S now n true c d) refl refl refl refl (λ z q. q)
      go false true d = away LoadOwnTicket (after_own_ticket S now n false true d) refl refl refl refl (λ z q. q)
      go false false true = away LoadOwnTicket (after_own_ticket S now n false false true) refl refl refl refl (λ z q. q)
      go false false false = away LoadOwnTicket (after_own_ticket S now n false false false) refl refl refl refl (λ z q. q)
  losing LoadShape a = inr (inr (go (nat_lt m.seq (seq_of n))))
    where
      go : (b : Bool) → BeginsNone LoadShape (after_load_shape S now n b)
      go true = away LoadShape (after_load_shape S now n true) refl refl refl refl (λ z q. q)
      go false = asks_away LoadShape (with_shape S now n) refl refl refl refl (λ z q. q) (first_marked_place (payload_of n) 0 S.instrs)
  losing (LoadReply j) a = inr (inr (go (nat_lt m.seq (seq_of n))))
    where
      go : (b : Bool) → BeginsNone (LoadReply j) (after_load_reply S now j n b)
      go true = away (LoadReply j) (after_load_reply S now j n true) refl refl refl refl (λ z q. q)
      go false = asks_away (LoadReply j) (with_reply now j n) refl refl refl refl (λ z q. q) (first_marked_place m.raw.shape (j + 1) (S.instrs - j - 1))
  losing LoadAnnouncement a = inr (inr (go (get_or m.known (ticket_cell S m.scan) None)))
    where
      go : (r : Option ℕ) → BeginsNone LoadAnnouncement (after_announcement S now n r)
      go None = away LoadAnnouncement (after_announcement S now n None) refl refl refl refl (λ z q. q)
      go (Some v) = weighed_away LoadAnnouncement (record now { heard = n }) refl refl refl refl (λ z q. q) (nat_lt v (seq_of n))
  losing LoadTicket a = inr (inr (go (nat_lt m.seq (seq_of n))))
    where
      go : (b : Bool) → BeginsNone LoadTicket (after_load_ticket S now n b)
      go true = away LoadTicket (after_load_ticket S now n true) refl refl refl refl (λ z q. q)
      go false = weighed_away LoadTicket (record now { known = with_cell_known S m (ticket_cell S m.scan) n }) refl refl refl refl (λ z q. q) (nat_lt (payload_of n) (seq_of m.heard))
  losing (LoadScript j) a = inr (inr (go (nat_lt (j + 1) (payload_of m.heard))))
    where
      go : (b : Bool) → BeginsNone (LoadScript j) (after_load_script S now j n b)
      go true = away (LoadScript j) (after_load_script S now j n true) refl refl refl refl (λ z q. q)
      go false = ran_away (LoadScript j) (record now { script = with_script_word m n }) refl refl refl refl (λ z q. q) (S.meaning.walk (overlaid m.known m.log) (with_script_word m n))
  losing (LoadCell x) a = inr (inr (go (nat_lt m.seq (seq_of n))))
    where
      go : (b : Bool) → BeginsNone (LoadCell x) (after_load_cell S now x n b)
      go true = away (LoadCell x) (after_load_cell S now x n true) refl refl refl refl (λ z q. q)
      go false = ran_away (LoadCell x) (record now { known = with_cell_known S m x n }) refl refl refl refl (λ z q. q) (S.meaning.walk (overlaid (with_cell_known S m x n) m.log) m.script)
  losing RaiseOld a = inr (inr (away RaiseOld (take_word_at S now n RaiseOld) refl refl refl refl (λ z q. q)))
  losing (StoreLog x) a = inr (inr (away (StoreLog x) (take_word_at S now n (StoreLog x)) refl refl refl refl (λ z q. q)))
  losing (RaiseLog x) a = inr (inr (go (nat_lt (x + 1) (length (log_words m.log)))))
    where
      go : (b : Bool) → BeginsNone (RaiseLog x) (after_raise_log now x b)
      go true = away (RaiseLog x) (after_raise_log now x true) refl refl refl refl (λ z q. q)
      go false = away (RaiseLog x) (after_raise_log now x false) refl refl refl refl (λ z q. q)
  losing StoreRequest a = inr (inr (away StoreRequest (take_word_at S now n StoreRequest) refl refl refl refl (λ z q. q)))
  losing RaiseRequest a = inr (inr (away RaiseRequest (take_word_at S now n RaiseRequest) refl refl refl refl (λ z q. q)))
  losing ExchangeCurrent a = inr (inr (go (n == pack m.seq m.owner)))
    where
      go : (b : Bool) → BeginsNone ExchangeCurrent (after_commit_exchange now b)
      go true = away ExchangeCurrent (after_commit_exchange now true) refl refl refl refl (λ z q. q)
      go false = away ExchangeCurrent (after_commit_exchange now false) refl refl refl refl (λ z q. q)
  losing RaiseCurrent a = inr (inr (go (nat_lt 0 (length m.log))))
    where
      go : (b : Bool) → BeginsNone RaiseCurrent (after_raise_current now b)
      go true = within RaiseCurrent (after_raise_current now true) refl refl refl refl refl (λ z q. inr (inl (q, refl)))
      go false = within RaiseCurrent (after_raise_current now false) refl refl refl refl refl (λ z q. inr (inl (q, refl)))
  losing (LoadTarget j) a = inr (inr (go (nat_lt (seq_of n) m.seq)))
    where
      go : (b : Bool) → BeginsNone (LoadTarget j) (after_load_target now j n b)
      go true = within (LoadTarget j) (after_load_target now j n true) refl refl refl refl refl (λ z q. inr (inl (q, refl)))
      go false = within (LoadTarget j) (after_load_target now j n false) refl refl refl refl refl (λ z q. inr (inl (q, refl)))
  losing (ExchangeTarget j f) a = inr (inr (within (ExchangeTarget j f) (take_word_at S now n (ExchangeTarget j f)) refl refl refl refl refl (λ z q. inr (inl (q, refl)))))
  losing (ReloadTarget j) a = inr (inr (within (ReloadTarget j) (take_word_at S now n (ReloadTarget j)) refl refl refl refl refl (λ z q. inr (inl (q, refl)))))
  losing (RaiseTarget j f) a = inr (inr (go (nat_lt (j + 1) (length m.log))))
    where
      go : (b : Bool) → BeginsNone (RaiseTarget j f) (next_entry now j b)
      go true = within (RaiseTarget j f) (next_entry now j true) refl refl refl refl refl (λ z q. inr (inl (q, refl)))
      go false = within (RaiseTarget j f) (next_entry now j false) refl refl refl refl refl (λ z q. inr (inl (q, refl)))
  losing CloseRequest a = inr (inr (within CloseRequest (take_word_at S now n CloseRequest) refl refl refl refl refl (λ z q. inr (inl (q, refl)))))
  losing RaiseClosed a = inr (inr (go m.helps (m.rounds == 0) refl refl))
    where
      go : (b c : Bool) → m.helps ≡ b → (m.rounds == 0) ≡ c → BeginsNone RaiseClosed (after_raise_closed S now b c)
      go true c u e = resumed_step RaiseClosed refl refl c (no_rounds c e)
      go false c u e = away RaiseClosed (after_raise_closed S now false c) refl refl refl refl (λ z q. let k : false ≡ true = sym u ∙ q.0 in cc)
