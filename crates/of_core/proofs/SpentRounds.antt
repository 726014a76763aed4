-- A call is spent only where it looks for its own ticket, in a round.
use Rattle.std.proofs.Common.{◌≡◌, ℕ, ◌+◌, ◌*◌, ◌-◌, ◌<◌, ◌==◌, List, length, get_or, refl, subst, Option, Some, None, Bool, true, false, nat_lt}
use Rattle.of_cell.specs.Words.{pack, seq_of, payload_of}
use Rattle.of_mem.specs.Meaning.{WalkEnd, Needs, Gives}
use Rattle.of_mem.specs.Part.{overlaid}
use Rattle.of_core.specs.declared.place.Place.{Place}
use Rattle.of_core.specs.declared.place.Place.TheVariants.{Idle, TryCurrent, TryRequest, TryCell, StoreScript, StoreAnnouncement, LoadCurrent, LoadRequest, CopyLog, LookAgain, LoadOwnTicket, LoadShape, LoadReply, LoadAnnouncement, LoadTicket, LoadScript, LoadCell, RaiseOld, StoreLog, RaiseLog, StoreRequest, RaiseRequest, ExchangeCurrent, RaiseCurrent, LoadTarget, ExchangeTarget, ReloadTarget, RaiseTarget, CloseRequest, RaiseClosed}
use Rattle.of_core.specs.declared.place.Outcome.TheVariants.{Spent}
use Rattle.of_core.specs.declared.machine.trying.TheConstants.{MOST_TRIES}
use Rattle.of_core.specs.Table.{Setup, ticket_cell}
use Rattle.of_core.specs.Machine.{CallState, IsOpen, no_cell_known, with_cell_known, log_words}
use Rattle.of_core.specs.Steps.{take_word, take_word_at, with_step_counted, after_read_run, resume, after_try_request, end_try, after_try_cell, after_store_script, after_load_request, after_copy_log, after_look_again, after_own_ticket, after_load_shape, with_shape, after_load_reply, with_reply, next_reply_place, first_marked_place, after_announcement, weigh, after_load_ticket, after_load_script, with_script_word, after_script_run, next_scanned_caller, with_call_run, after_load_cell, after_raise_log, after_commit_exchange, after_raise_current, after_load_target, next_entry, after_raise_closed, is_request_open, with_log_word_copied}
use Rattle.of_core.specs.TableMoment.{Moment, TableStart}
use Rattle.of_core.specs.Invariant.{HoldsAtPlace, MeetsInvariant}
use Rattle.of_core.specs.SpentRound.{IsSpentInRound}

module _ (S : Setup) (m : CallState) (n s : ℕ) where
  abbrev now : CallState
  now = record m { steps = m.steps + 1 }

  -- the machine's call is not spent
  abbrev Unspent : CallState → Type 0
  Unspent d = d.place ≡ Idle → d.answer ≡ Some (Spent s) → ⊥

  read_on : (x : CallState) (r : WalkEnd) → Unspent (after_read_run x r)
  read_on x (Needs a) e q = cc
  read_on x (Gives es r) e q = cc

  resumed_on : (b : Bool) → Unspent (resume S now b)
  resumed_on true e q = read_on (record now { known = no_cell_known S; helps = false }) (S.meaning.walk (no_cell_known S) m.op) e q
  resumed_on false e q = cc

  next_on : (x : CallState) (b : Bool) → Unspent (next_scanned_caller x b)
  next_on x true e q = cc
  next_on x false e q = cc

  weighed_on : (x : CallState) (b : Bool) → Unspent (weigh S x b)
  weighed_on x true e q = cc
  weighed_on x false e q = next_on x (nat_lt (x.scan + 1) S.callers) e q

  ran_on : (x : CallState) (r : WalkEnd) → Unspent (after_script_run S x r)
  ran_on x (Needs a) e q = cc
  ran_on x (Gives es r) e q = next_on (with_call_run S x es r) (nat_lt (x.scan + 1) S.callers) e q

  asks_on : (x : CallState) (r : Option ℕ) → Unspent (next_reply_place x r)
  asks_on x None e q = cc
  asks_on x (Some j) e q = cc

  spent_at : (p : Place) → IsOpen p → (take_word_at S (with_step_counted p m) n p).place ≡ Idle → (take_word_at S (with_step_counted p m) n p).answer ≡ Some (Spent s)
      → (p ≡ LoadOwnTicket) × ((after_own_ticket S now n (nat_lt m.seq (seq_of n)) (payload_of n == m.made) (m.seq == S.limit)).answer ≡ Some (Spent s) → (after_own_ticket S now n (nat_lt m.seq (seq_of n)) (payload_of n == m.made) (m.seq == S.limit)).place ≡ Idle → m.seq ≡ s)
  spent_at p o e q = (is p o e q, λ a b. go (nat_lt m.seq (seq_of n)) (payload_of n == m.made) (m.seq == S.limit) a b)
    where
      go : (b c d : Bool) → (after_own_ticket S now n b c d).answer ≡ Some (Spent s) → (after_own_ticket S now n b c d).place ≡ Idle → m.seq ≡ s
      go true c d a e = cc
      go false true d a e = cc
      go false false true a e = cc
      go false false false a e = cc

      is : (p : Place) → IsOpen p → (take_word_at S (with_step_counted p m) n p).place ≡ Idle → (take_word_at S (with_step_counted p m) n p).answer ≡ Some (Spent s) → p ≡ LoadOwnTicket
      is LoadOwnTicket o e q = refl
      is Idle o e q = cc
      is TryCurrent o e q = cc
      is TryRequest o e q = absurd (by (is_request_open m.seq n) e q)
        where
          by : (b : Bool) → Unspent (after_try_request S now b)
          by true e q = cc
          by false e q = resumed_on true e q
      is (TryCell x) o e q = absurd (by (nat_lt m.seq (seq_of n)) e q)
        where
          over_on : (b : Bool) → Unspent (end_try now b)
          over_on true e q = cc
          over_on false e q = cc

          by : (b : Bool) → Unspent (after_try_cell S now x n b)
          by true e q = over_on (nat_lt m.tries MOST_TRIES) e q
          by false e q = read_on (record now { known = with_cell_known S m x n }) (S.meaning.walk (with_cell_known S m x n) m.op) e q
      is (StoreScript j) o e q = absurd (by (nat_lt (j + 1) (length m.op)) e q)
        where
          by : (b : Bool) → Unspent (after_store_script now j b)
          by true e q = cc
          by false e q = cc
      is StoreAnnouncement o e q = cc
      is LoadCurrent o e q = cc
      is LoadRequest o e q = absurd (by (is_request_open m.seq n) e q)
        where
          by : (b : Bool) → Unspent (after_load_request S now b)
          by true e q = cc
          by false e q = cc
      is (CopyLog x) o e q = absurd (by (nat_lt (x + 1) (2 * get_or (with_log_word_copied m n) 0 0 + 1)) e q)
        where
          by : (b : Bool) → Unspent (after_copy_log now x n b)
          by true e q = cc
          by false e q = cc
      is LookAgain o e q = absurd (by (n == pack m.seq 0) (m.rounds == 0) e q)
        where
          by : (b c : Bool) → Unspent (after_look_again S now b c)
          by true c e q = cc
          by false c e q = resumed_on c e q
      is LoadShape o e q = absurd (by (nat_lt m.seq (seq_of n)) e q)
        where
          by : (b : Bool) → Unspent (after_load_shape S now n b)
          by true e q = cc
          by false e q = asks_on (with_shape S now n) (first_marked_place (payload_of n) 0 S.instrs) e q
      is (LoadReply j) o e q = absurd (by (nat_lt m.seq (seq_of n)) e q)
        where
          by : (b : Bool) → Unspent (after_load_reply S now j n b)
          by true e q = cc
          by false e q = asks_on (with_reply now j n) (first_marked_place m.raw.shape (j + 1) (S.instrs - j - 1)) e q
      is LoadAnnouncement o e q = absurd (by (get_or m.known (ticket_cell S m.scan) None) e q)
        where
          by : (r : Option ℕ) → Unspent (after_announcement S now n r)
          by None e q = cc
          by (Some v) e q = weighed_on (record now { heard = n }) (nat_lt v (seq_of n)) e q
      is LoadTicket o e q = absurd (by (nat_lt m.seq (seq_of n)) e q)
        where
          by : (b : Bool) → Unspent (after_load_ticket S now n b)
          by true e q = cc
          by false e q = weighed_on (record now { known = with_cell_known S m (ticket_cell S m.scan) n }) (nat_lt (payload_of n) (seq_of m.heard)) e q
      is (LoadScript j) o e q = absurd (by (nat_lt (j + 1) (payload_of m.heard)) e q)
        where
          by : (b : Bool) → Unspent (after_load_script S now j n b)
          by true e q = cc
          by false e q = ran_on (record now { script = with_script_word m n }) (S.meaning.walk (overlaid m.known m.log) (with_script_word m n)) e q
      is (LoadCell x) o e q = absurd (by (nat_lt m.seq (seq_of n)) e q)
        where
          by : (b : Bool) → Unspent (after_load_cell S now x n b)
          by true e q = cc
          by false e q = ran_on (record now { known = with_cell_known S m x n }) (S.meaning.walk (overlaid (with_cell_known S m x n) m.log) m.script) e q
      is RaiseOld o e q = cc
      is (StoreLog x) o e q = cc
      is (RaiseLog x) o e q = absurd (by (nat_lt (x + 1) (length (log_words m.log))) e q)
        where
          by : (b : Bool) → Unspent (after_raise_log now x b)
          by true e q = cc
          by false e q = cc
      is StoreRequest o e q = cc
      is RaiseRequest o e q = cc
      is ExchangeCurrent o e q = absurd (by (n == pack m.seq m.owner) e q)
        where
          by : (b : Bool) → Unspent (after_commit_exchange now b)
          by true e q = cc
          by false e q = cc
      is RaiseCurrent o e q = absurd (by (nat_lt 0 (length m.log)) e q)
        where
          by : (b : Bool) → Unspent (after_raise_current now b)
          by true e q = cc
          by false e q = cc
      is (LoadTarget j) o e q = absurd (by (nat_lt (seq_of n) m.seq) e q)
        where
          by : (b : Bool) → Unspent (after_load_target now j n b)
          by true e q = cc
          by false e q = cc
      is (ExchangeTarget j f) o e q = cc
      is (ReloadTarget j) o e q = cc
      is (RaiseTarget j f) o e q = absurd (by (nat_lt (j + 1) (length m.log)) e q)
        where
          by : (b : Bool) → Unspent (next_entry now j b)
          by true e q = cc
          by false e q = cc
      is CloseRequest o e q = cc
      is RaiseClosed o e q = absurd (by m.helps (m.rounds == 0) e q)
        where
          by : (b c : Bool) → Unspent (after_raise_closed S now b c)
          by true c e q = resumed_on c e q
          by false c e q = cc

-- so it is of each step
pub spent_in_round : (S : Setup) (Lawful : List ℕ → Type 0) (B : TableStart) (w : Moment) → MeetsInvariant S Lawful B w → (i : ℕ) (m : CallState) → i < S.callers → get_or w.machines i m ≡ m → (n s : ℕ)
    → IsOpen m.place → (take_word S m n).place ≡ Idle → (take_word S m n).answer ≡ Some (Spent s) → IsSpentInRound S w i m s
unfolding take_word
spent_in_round S Lawful B w g i m h at n s o e q = go (spent_at S m n s m.place o e q)
  where
    go : (m.place ≡ LoadOwnTicket) × ((after_own_ticket S (record m { steps = m.steps + 1 }) n (nat_lt m.seq (seq_of n)) (payload_of n == m.made) (m.seq == S.limit)).answer ≡ Some (Spent s) → (after_own_ticket S (record m { steps = m.steps + 1 }) n (nat_lt m.seq (seq_of n)) (payload_of n == m.made) (m.seq == S.limit)).place ≡ Idle → m.seq ≡ s)
        → IsSpentInRound S w i m s
    go (is, same) =
        let a : HoldsAtPlace S B w.words w.batches i m LoadOwnTicket = subst (λ (p : Place). HoldsAtPlace S B w.words w.batches i m p) is (g.core.each i m h at) in
        record {
          place = is;
          begun = a.looks.round.begun_one;
          few = a.looks.round.few;
          seq = same (subst (λ (p : Place). (take_word_at S (with_step_counted p m) n p).answer ≡ Some (Spent s)) is q) (subst (λ (p : Place). (take_word_at S (with_step_counted p m) n p).place ≡ Idle) is e);
          says = a.looks.round.begun.says;
        }
