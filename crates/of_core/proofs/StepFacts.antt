-- What one step of an open call does, by the place that it is made from.
use Rattle.std.proofs.Common.{◌≡◌, ℕ, ◌+◌, ◌-◌, ◌<◌, ◌≤◌, zero, suc, ◌*◌, ◌==◌, inl, inr, List, [], length, get_or, refl, ap, arith, Option, Some, None, Bool, true, false, nat_lt}
use Rattle.std.proofs.lemmas.Bool.Decides.{nat_tests}
use Rattle.of_core.specs.declared.machine.trying.TheConstants.{MOST_TRIES}
use Rattle.of_cell.specs.Words.{pack, seq_of, payload_of}
use Rattle.of_mem.specs.Meaning.{WalkEnd, Needs, Gives}
use Rattle.of_mem.specs.Part.{overlaid}
use Rattle.of_core.specs.declared.place.Place.{Place}
use Rattle.of_core.specs.declared.place.Place.TheVariants.{Idle, TryCurrent, TryRequest, TryCell, StoreScript, StoreAnnouncement, LoadCurrent, LoadRequest, CopyLog, LookAgain, LoadOwnTicket, LoadShape, LoadReply, LoadAnnouncement, LoadTicket, LoadScript, LoadCell, RaiseOld, StoreLog, RaiseLog, StoreRequest, RaiseRequest, ExchangeCurrent, RaiseCurrent, LoadTarget, ExchangeTarget, ReloadTarget, RaiseTarget, CloseRequest, RaiseClosed}
use Rattle.of_core.specs.Table.{Setup, ticket_cell}
use Rattle.of_core.specs.Machine.{CallState, IsOpen, no_cell_known, with_cell_known, log_words}
use Rattle.of_core.specs.Steps.{after_read_run, resume, after_try_request, end_try, after_try_cell, after_load_request, after_copy_log, after_look_again, after_own_ticket, after_load_shape, after_load_reply, after_announcement, after_load_ticket, after_load_script, after_load_cell, after_raise_log, after_commit_exchange, after_raise_current, after_load_target, next_entry, after_raise_closed, after_store_script, after_script_run, weigh, next_scanned_caller, with_call_run, next_reply_place, with_shape, with_reply, with_log_word_copied, with_script_word, first_marked_place, is_request_open, take_word_at, with_step_counted}
use Rattle.of_core.specs.TableMoment.{Moment, Batch, TableStart, step_batches_at, one_batch}
use Rattle.of_core.specs.History.{state_after}
use Rattle.of_core.specs.Rounds.{FindsOwnTicket, IsPastRequest}
use Rattle.of_core.specs.Order.{HasBegunTry}
use Rattle.of_core.specs.Facts.{IsStepAtPlace, CountsStep, loads_current_at, rests_on_seq_at}
use Rattle.of_core.specs.Invariant.{HoldsAtPlace, MeetsCore}
use Rattle.of_core.proofs.States.{old}
use Rattle.of_core.proofs.Assembling.{logs_of}
use Rattle.of_core.proofs.Rounds.{at_risen}
use Rattle.of_core.proofs.Scans.{ticket_in_cells}

no_clash : (b : Bool) → b ≡ false → b ≡ true → ⊥
no_clash true e q = cc
no_clash false e q = cc

zero_tested : (x : ℕ) (b : Bool) → (x == 0) ≡ b → b ≡ true → x ≡ 0
zero_tested x true e q = grind (arith, nat_tests)
zero_tested x false e q = cc

module _ (S : Setup) (Lawful : List ℕ → Type 0) (B : TableStart) (w : Moment) (g : MeetsCore S Lawful B w) (i : ℕ) (m : CallState) (h : i < S.callers) (n : ℕ) where
  -- with the step counted
  abbrev now : CallState
  now = record m { steps = m.steps + 1 }

  -- a step that neither loads the current-transaction word nor commits
  on : (p : Place) (d : CallState) → d.caller ≡ m.caller → d.made ≡ m.made → d.op ≡ m.op → loads_current_at p ≡ false → rests_on_seq_at d d.place ≤ rests_on_seq_at m p → (HasBegunTry d d.place → HasBegunTry m p × (d.seq ≡ m.seq)) → CountsStep S m p d → IsStepAtPlace S m n p d []
  on p d a b c e r t k = record {
    caller = a;
    made = b;
    op = c;
    loads = λ q. absurd (no_clash (loads_current_at p) e q);
    rests = λ q. omega (arith, r);
    owner = λ j x l. absurd (omega arith);
    few = omega arith;
    commits = λ q. absurd (omega arith);
    tries = λ q. refl;
    trying = λ q. inl (t q);
    counts = k;
  }

  -- a try's run goes on as far as its cells are known
  read_facts : (p : Place) → loads_current_at p ≡ false → m.seq ≤ rests_on_seq_at m p → HasBegunTry m p → (x : CallState) → x.caller ≡ m.caller → x.made ≡ m.made → x.op ≡ m.op → x.seq ≡ m.seq → x.steps ≡ m.steps + 1 → x.answer ≡ m.answer → (r : WalkEnd) → IsStepAtPlace S m n p (after_read_run x r) []
  read_facts p e r t x a b c s k y (Needs z) = on p (after_read_run x (Needs z)) a b c e (omega (arith, r, s)) (λ q. (t, s)) (omega (arith, k), y)
  read_facts p e r t x a b c s k y (Gives es z) = on p (after_read_run x (Gives es z)) a b c e (omega arith) (λ q. absurd q) ((t, s, omega (arith, k)), r)

  resumed_facts : (p : Place) → loads_current_at p ≡ false → m.seq ≤ rests_on_seq_at m p → (b : Bool) → (b ≡ true → HasBegunTry m p) → IsStepAtPlace S m n p (resume S now b) []
  resumed_facts p e r true t = read_facts p e r (t refl) (record now { known = no_cell_known S; helps = false }) refl refl refl refl refl refl (S.meaning.walk (no_cell_known S) m.op)
  resumed_facts p e r false t = on p (resume S now false) refl refl refl e r (λ q. absurd q) (refl, refl)

  -- a scan goes on to the next caller
  next_facts : (p : Place) → loads_current_at p ≡ false → m.seq ≤ rests_on_seq_at m p → (x : CallState) → x.caller ≡ m.caller → x.made ≡ m.made → x.op ≡ m.op → x.seq ≡ m.seq → x.steps ≡ m.steps + 1 → x.answer ≡ m.answer → (b : Bool) → IsStepAtPlace S m n p (next_scanned_caller x b) []
  next_facts p e r x a b c s k y true = on p (next_scanned_caller x true) a b c e (omega (arith, r, s)) (λ q. absurd q) (omega (arith, k), y)
  next_facts p e r x a b c s k y false = on p (next_scanned_caller x false) a b c e (omega (arith, r, s)) (λ q. absurd q) (omega (arith, k), y)

  weighed_facts : (p : Place) → loads_current_at p ≡ false → m.seq ≤ rests_on_seq_at m p → (x : CallState) → x.caller ≡ m.caller → x.made ≡ m.made → x.op ≡ m.op → x.seq ≡ m.seq → x.steps ≡ m.steps + 1 → x.answer ≡ m.answer → (b : Bool) → IsStepAtPlace S m n p (weigh S x b) []
  weighed_facts p e r x a b c s k y true = on p (weigh S x true) a b c e (omega (arith, r, s)) (λ q. absurd q) (omega (arith, k), y)
  weighed_facts p e r x a b c s k y false = next_facts p e r x a b c s k y (nat_lt (x.scan + 1) S.callers)

  ran_facts : (p : Place) → loads_current_at p ≡ false → m.seq ≤ rests_on_seq_at m p → (x : CallState) → x.caller ≡ m.caller → x.made ≡ m.made → x.op ≡ m.op → x.seq ≡ m.seq → x.steps ≡ m.steps + 1 → x.answer ≡ m.answer → (r : WalkEnd) → IsStepAtPlace S m n p (after_script_run S x r) []
  ran_facts p e r x a b c s k y (Needs z) = on p (after_script_run S x (Needs z)) a b c e (omega (arith, r, s)) (λ q. absurd q) (omega (arith, k), y)
  ran_facts p e r x a b c s k y (Gives es z) = next_facts p e r (with_call_run S x es z) a b c s k y (nat_lt (x.scan + 1) S.callers)

  -- an answer from the history has the sequence of a ticket word of the round's state
  asks_facts : (p : Place) → loads_current_at p ≡ false → m.seq ≤ rests_on_seq_at m p → seq_of m.heard ≤ m.seq → (x : CallState) → x.caller ≡ m.caller → x.made ≡ m.made → x.op ≡ m.op → x.seq ≡ m.seq → x.heard ≡ m.heard → x.steps ≡ m.steps + 1 → x.answer ≡ m.answer → (r : Option ℕ) → IsStepAtPlace S m n p (next_reply_place x r) []
  asks_facts p e r u x a b c s v k y None = on p (next_reply_place x None) a b c e (omega arith) (λ q. absurd q) ((omega (arith, u, ap seq_of v), omega (arith, k)), r)
  asks_facts p e r u x a b c s v k y (Some j) = on p (next_reply_place x (Some j)) a b c e (omega (arith, r, s)) (λ q. absurd q) (omega (arith, k), y)

  heard_old : IsPastRequest S B w.words w.batches i m → FindsOwnTicket S (state_after B w.batches m.seq) i m → seq_of m.heard ≤ m.seq
  heard_old p f = omega (arith, ap seq_of f.heard, old S B w.batches g.shared.start (logs_of g) m.seq (ticket_cell S i) p.round.current_word.from (at_risen g h m p) (ticket_in_cells g h i h))

  pub step_facts : (p : Place) → IsOpen p → HoldsAtPlace S B w.words w.batches i m p → IsStepAtPlace S m n p (take_word_at S (with_step_counted p m) n p) (step_batches_at S w.words m n p)
  step_facts Idle o a = cc
  step_facts TryCurrent o a = record {
    caller = refl;
    made = refl;
    op = refl;
    loads = λ q. (refl, omega arith);
    rests = λ q. cc;
    owner = λ j x l. absurd (omega arith);
    few = omega arith;
    commits = λ q. absurd (omega arith);
    tries = λ q. refl;
    trying = λ q. inr (refl, refl);
    counts = (refl, refl);
  }
  step_facts TryRequest o a = go (is_request_open m.seq n)
    where
      go : (b : Bool) → IsStepAtPlace S m n TryRequest (after_try_request S now b) []
      go true = on TryRequest (after_try_request S now true) refl refl refl refl (omega arith) (λ q. (tt, refl)) (refl, refl)
      go false = resumed_facts TryRequest refl (omega arith) true (λ q. tt)
  step_facts (TryCell x) o a = go (nat_lt m.seq (seq_of n))
    where
      over : (b : Bool) → IsStepAtPlace S m n (TryCell x) (end_try now b) []
      over true = on (TryCell x) (end_try now true) refl refl refl refl (omega arith) (λ q. absurd q) (refl, refl)
      over false = on (TryCell x) (end_try now false) refl refl refl refl (omega arith) (λ q. absurd q) (refl, refl)

      go : (b : Bool) → IsStepAtPlace S m n (TryCell x) (after_try_cell S now x n b) []
      go true = over (nat_lt m.tries MOST_TRIES)
      go false = read_facts (TryCell x) refl (omega arith) tt (record now { known = with_cell_known S m x n }) refl refl refl refl refl refl (S.meaning.walk (with_cell_known S m x n) m.op)
  step_facts (StoreScript j) o a = go (nat_lt (j + 1) (length m.op))
    where
      go : (b : Bool) → IsStepAtPlace S m n (StoreScript j) (after_store_script now j b) []
      go true = on (StoreScript j) (after_store_script now j true) refl refl refl refl (omega arith) (λ q. absurd q) (refl, refl)
      go false = on (StoreScript j) (after_store_script now j false) refl refl refl refl (omega arith) (λ q. absurd q) (refl, refl)
  step_facts StoreAnnouncement o a = on StoreAnnouncement (take_word_at S now n StoreAnnouncement) refl refl refl refl (omega arith) (λ q. absurd q) (refl, refl)
  step_facts LoadCurrent o a = record {
    caller = refl;
    made = refl;
    op = refl;
    loads = λ q. (refl, omega arith);
    rests = λ q. cc;
    owner = λ j x l. absurd (omega arith);
    few = omega arith;
    commits = λ q. absurd (omega arith);
    tries = λ q. refl;
    trying = λ q. absurd q;
    counts = (refl, refl);
  }
  step_facts LoadRequest o a = go (is_request_open m.seq n)
    where
      go : (b : Bool) → IsStepAtPlace S m n LoadRequest (after_load_request S now b) []
      go true = on LoadRequest (after_load_request S now true) refl refl refl refl (omega arith) (λ q. absurd (omega (arith, q, a.round.begun_one))) (refl, refl)
      go false = resumed_facts LoadRequest refl (omega arith) false (λ q. cc)
  step_facts (CopyLog x) o a = go (nat_lt (x + 1) (2 * get_or (with_log_word_copied m n) 0 0 + 1))
    where
      go : (b : Bool) → IsStepAtPlace S m n (CopyLog x) (after_copy_log now x n b) []
      go true = on (CopyLog x) (after_copy_log now x n true) refl refl refl refl (omega arith) (λ q. (q, refl)) (refl, refl)
      go false = on (CopyLog x) (after_copy_log now x n false) refl refl refl refl (omega arith) (λ q. (q, refl)) (refl, refl)
  step_facts LookAgain o a = go (n == pack m.seq 0) (m.rounds == 0) refl
    where
      go : (b c : Bool) → (m.rounds == 0) ≡ c → IsStepAtPlace S m n LookAgain (after_look_again S now b c) []
      go true c e = on LookAgain (after_look_again S now true c) refl refl refl refl (omega arith) (λ q. (q.1, refl)) (refl, refl)
      go false c e = resumed_facts LookAgain refl (omega arith) c (zero_tested m.rounds c e)
  step_facts LoadOwnTicket o a = go (nat_lt m.seq (seq_of n)) (payload_of n == m.made) (m.seq == S.limit) refl
    where
      go : (b c d : Bool) → (m.seq == S.limit) ≡ d → IsStepAtPlace S m n LoadOwnTicket (after_own_ticket S now n b c d) []
      go true c d e = on LoadOwnTicket (after_own_ticket S now n true c d) refl refl refl refl (omega arith) (λ q. absurd q) (refl, refl)
      go false true d e = on LoadOwnTicket (after_own_ticket S now n false true d) refl refl refl refl (omega arith) (λ q. absurd q) (refl, refl)
      go false false true e = on LoadOwnTicket (after_own_ticket S now n false false true) refl refl refl refl (omega arith) (λ q. absurd q) ((refl, (let z : m.seq ≡ S.limit = grind (arith, nat_tests) in z)), omega arith)
      go false false false e = on LoadOwnTicket (after_own_ticket S now n false false false) refl refl refl refl (omega arith) (λ q. absurd q) (refl, refl)
  step_facts LoadShape o a = go (nat_lt m.seq (seq_of n))
    where
      go : (b : Bool) → IsStepAtPlace S m n LoadShape (after_load_shape S now n b) []
      go true = on LoadShape (after_load_shape S now n true) refl refl refl refl (omega arith) (λ q. absurd q) (refl, refl)
      go false = asks_facts LoadShape refl (omega arith) (heard_old a.looks a.finds) (with_shape S now n) refl refl refl refl refl refl refl (first_marked_place (payload_of n) 0 S.instrs)
  step_facts (LoadReply j) o a = go (nat_lt m.seq (seq_of n))
    where
      go : (b : Bool) → IsStepAtPlace S m n (LoadReply j) (after_load_reply S now j n b) []
      go true = on (LoadReply j) (after_load_reply S now j n true) refl refl refl refl (omega arith) (λ q. absurd q) (refl, refl)
      go false = asks_facts (LoadReply j) refl (omega arith) (heard_old a.looks a.finds) (with_reply now j n) refl refl refl refl refl refl refl (first_marked_place m.raw.shape (j + 1) (S.instrs - j - 1))
  step_facts LoadAnnouncement o a = go (get_or m.known (ticket_cell S m.scan) None)
    where
      go : (r : Option ℕ) → IsStepAtPlace S m n LoadAnnouncement (after_announcement S now n r) []
      go None = on LoadAnnouncement (after_announcement S now n None) refl refl refl refl (omega arith) (λ q. absurd q) (refl, refl)
      go (Some v) = weighed_facts LoadAnnouncement refl (omega arith) (record now { heard = n }) refl refl refl refl refl refl (nat_lt v (seq_of n))
  step_facts LoadTicket o a = go (nat_lt m.seq (seq_of n))
    where
      go : (b : Bool) → IsStepAtPlace S m n LoadTicket (after_load_ticket S now n b) []
      go true = on LoadTicket (after_load_ticket S now n true) refl refl refl refl (omega arith) (λ q. absurd q) (refl, refl)
      go false = weighed_facts LoadTicket refl (omega arith) (record now { known = with_cell_known S m (ticket_cell S m.scan) n }) refl refl refl refl refl refl (nat_lt (payload_of n) (seq_of m.heard))
  step_facts (LoadScript j) o a = go (nat_lt (j + 1) (payload_of m.heard))
    where
      go : (b : Bool) → IsStepAtPlace S m n (LoadScript j) (after_load_script S now j n b) []
      go true = on (LoadScript j) (after_load_script S now j n true) refl refl refl refl (omega arith) (λ q. absurd q) (refl, refl)
      go false = ran_facts (LoadScript j) refl (omega arith) (record now { script = with_script_word m n }) refl refl refl refl refl refl (S.meaning.walk (overlaid m.known m.log) (with_script_word m n))
  step_facts (LoadCell x) o a = go (nat_lt m.seq (seq_of n))
    where
      go : (b : Bool) → IsStepAtPlace S m n (LoadCell x) (after_load_cell S now x n b) []
      go true = on (LoadCell x) (after_load_cell S now x n true) refl refl refl refl (omega arith) (λ q. absurd q) (refl, refl)
      go false = ran_facts (LoadCell x) refl (omega arith) (record now { known = with_cell_known S m x n }) refl refl refl refl refl refl (S.meaning.walk (overlaid (with_cell_known S m x n) m.log) m.script)
  step_facts RaiseOld o a = on RaiseOld (take_word_at S now n RaiseOld) refl refl refl refl (omega arith) (λ q. absurd q) (refl, refl)
  step_facts (StoreLog x) o a = on (StoreLog x) (take_word_at S now n (StoreLog x)) refl refl refl refl (omega arith) (λ q. absurd q) (refl, refl)
  step_facts (RaiseLog x) o a = go (nat_lt (x + 1) (length (log_words m.log)))
    where
      go : (b : Bool) → IsStepAtPlace S m n (RaiseLog x) (after_raise_log now x b) []
      go true = on (RaiseLog x) (after_raise_log now x true) refl refl refl refl (omega arith) (λ q. absurd q) (refl, refl)
      go false = on (RaiseLog x) (after_raise_log now x false) refl refl refl refl (omega arith) (λ q. absurd q) (refl, refl)
  step_facts StoreRequest o a = on StoreRequest (take_word_at S now n StoreRequest) refl refl refl refl (omega arith) (λ q. absurd q) (refl, refl)
  step_facts RaiseRequest o a = on RaiseRequest (take_word_at S now n RaiseRequest) refl refl refl refl (omega arith) (λ q. absurd q) (refl, refl)
  step_facts ExchangeCurrent o a = go (n == pack m.seq m.owner) refl
    where
      go : (b : Bool) → (n == pack m.seq m.owner) ≡ b → IsStepAtPlace S m n ExchangeCurrent (after_commit_exchange now b) (one_batch S w.words m b)
      go true e = record {
        caller = refl;
        made = refl;
        op = refl;
        loads = λ q. cc;
        rests = λ q. omega arith;
        owner = λ j x l. one j x l;
        few = omega arith;
        commits = λ q. (refl, (let z : n ≡ pack m.seq m.owner = grind (arith, nat_tests) in z));
        tries = λ q. absurd q;
        trying = λ q. let z : false ≡ true = q.0 in cc;
        counts = (refl, refl);
      }
        where
          one : (j : ℕ) (x : Batch) → j < 1 → (get_or (one_batch S w.words m true) j x).owner ≡ m.caller
          one zero x l = refl
          one (suc j) x l = absurd (omega arith)
      go false e = on ExchangeCurrent (after_commit_exchange now false) refl refl refl refl (omega arith) (λ q. absurd q) (refl, refl)
  step_facts RaiseCurrent o a = go (nat_lt 0 (length m.log))
    where
      go : (b : Bool) → IsStepAtPlace S m n RaiseCurrent (after_raise_current now b) []
      go true = on RaiseCurrent (after_raise_current now true) refl refl refl refl (omega arith) (λ q. (q, refl)) (refl, refl)
      go false = on RaiseCurrent (after_raise_current now false) refl refl refl refl (omega arith) (λ q. (q, refl)) (refl, refl)
  step_facts (LoadTarget j) o a = go (nat_lt (seq_of n) m.seq)
    where
      go : (b : Bool) → IsStepAtPlace S m n (LoadTarget j) (after_load_target now j n b) []
      go true = on (LoadTarget j) (after_load_target now j n true) refl refl refl refl (omega arith) (λ q. (q, refl)) (refl, refl)
      go false = on (LoadTarget j) (after_load_target now j n false) refl refl refl refl (omega arith) (λ q. (q, refl)) (refl, refl)
  step_facts (ExchangeTarget j f) o a = on (ExchangeTarget j f) (take_word_at S now n (ExchangeTarget j f)) refl refl refl refl (omega arith) (λ q. (q, refl)) (refl, refl)
  step_facts (ReloadTarget j) o a = on (ReloadTarget j) (take_word_at S now n (ReloadTarget j)) refl refl refl refl (omega arith) (λ q. (q, refl)) (refl, refl)
  step_facts (RaiseTarget j f) o a = go (nat_lt (j + 1) (length m.log))
    where
      go : (b : Bool) → IsStepAtPlace S m n (RaiseTarget j f) (next_entry now j b) []
      go true = on (RaiseTarget j f) (next_entry now j true) refl refl refl refl (omega arith) (λ q. (q, refl)) (refl, refl)
      go false = on (RaiseTarget j f) (next_entry now j false) refl refl refl refl (omega arith) (λ q. (q, refl)) (refl, refl)
  step_facts CloseRequest o a = on CloseRequest (take_word_at S now n CloseRequest) refl refl refl refl (omega arith) (λ q. (q, refl)) (refl, refl)
  step_facts RaiseClosed o a = go m.helps (m.rounds == 0) refl refl
    where
      go : (b c : Bool) → m.helps ≡ b → (m.rounds == 0) ≡ c → IsStepAtPlace S m n RaiseClosed (after_raise_closed S now b c) []
      go true c u e = resumed_facts RaiseClosed refl (omega arith) c (λ q. (u, zero_tested m.rounds c e q))
      go false c u e = on RaiseClosed (after_raise_closed S now false c) refl refl refl refl (omega arith) (λ q. absurd q) ((omega arith, refl), omega arith)
