-- A log is copied only if the request of its owner is open.
use Rattle.std.proofs.Common.{◌≡◌, ℕ, ◌+◌, ◌*◌, ◌-◌, ◌<◌, ◌==◌, List, length, get_or, refl, sym, ◌∙◌, arith, Option, Some, None, Bool, true, false, nat_lt, ◌&&◌}
use Rattle.std.proofs.lemmas.Bool.Decides.{nat_tests}
use Rattle.of_cell.specs.Words.{pack, seq_of, payload_of}
use Rattle.of_mem.specs.Meaning.{WalkEnd, Needs, Gives}
use Rattle.of_mem.specs.Part.{overlaid}
use Rattle.of_core.specs.declared.place.Place.{Place}
use Rattle.of_core.specs.declared.place.Place.TheVariants.{Idle, TryCurrent, TryRequest, TryCell, StoreScript, StoreAnnouncement, LoadCurrent, LoadRequest, CopyLog, LookAgain, LoadOwnTicket, LoadShape, LoadReply, LoadAnnouncement, LoadTicket, LoadScript, LoadCell, RaiseOld, StoreLog, RaiseLog, StoreRequest, RaiseRequest, ExchangeCurrent, RaiseCurrent, LoadTarget, ExchangeTarget, ReloadTarget, RaiseTarget, CloseRequest, RaiseClosed}
use Rattle.of_core.specs.declared.machine.trying.TheConstants.{MOST_TRIES}
use Rattle.of_core.specs.Table.{Setup, ticket_cell, request_of}
use Rattle.of_core.specs.Machine.{CallState, IsOpen, no_cell_known, with_cell_known, log_words}
use Rattle.of_core.specs.Steps.{want, want_at, IsFoundBy, take_word, take_word_at, with_step_counted, after_read_run, resume, after_try_request, end_try, after_try_cell, after_store_script, after_load_request, after_copy_log, after_look_again, after_own_ticket, after_load_shape, with_shape, after_load_reply, with_reply, next_reply_place, first_marked_place, after_announcement, weigh, after_load_ticket, after_load_script, with_script_word, after_script_run, next_scanned_caller, with_call_run, after_load_cell, after_raise_log, after_commit_exchange, after_raise_current, after_load_target, next_entry, after_raise_closed, is_request_open, with_log_word_copied}
use Rattle.of_core.specs.TableMoment.{Moment}
use Rattle.of_core.proofs.Tests.{is_newer}

module _ (S : Setup) (ws : List ℕ) (m : CallState) (n : ℕ) where
  abbrev now : CallState
  now = record m { steps = m.steps + 1 }

  -- the machine doesn't come to the first word of a log
  abbrev Elsewhere : CallState → Type 0
  Elsewhere d = d.place ≡ CopyLog 0 → ⊥

  read_on : (x : CallState) (r : WalkEnd) → Elsewhere (after_read_run x r)
  read_on x (Needs a) e = cc
  read_on x (Gives es r) e = cc

  resumed_on : (b : Bool) → Elsewhere (resume S now b)
  resumed_on true e = read_on (record now { known = no_cell_known S; helps = false }) (S.meaning.walk (no_cell_known S) m.op) e
  resumed_on false e = cc

  next_on : (x : CallState) (b : Bool) → Elsewhere (next_scanned_caller x b)
  next_on x true e = cc
  next_on x false e = cc

  weighed_on : (x : CallState) (b : Bool) → Elsewhere (weigh S x b)
  weighed_on x true e = cc
  weighed_on x false e = next_on x (nat_lt (x.scan + 1) S.callers) e

  ran_on : (x : CallState) (r : WalkEnd) → Elsewhere (after_script_run S x r)
  ran_on x (Needs a) e = cc
  ran_on x (Gives es r) e = next_on (with_call_run S x es r) (nat_lt (x.scan + 1) S.callers) e

  asks_on : (x : CallState) (r : Option ℕ) → Elsewhere (next_reply_place x r)
  asks_on x None e = cc
  asks_on x (Some j) e = cc

  -- only a look at the request leads there, and it has found the request open
  opens_at : (p : Place) → IsOpen p → IsFoundBy (want_at S m p) ws n → (take_word_at S (with_step_counted p m) n p).place ≡ CopyLog 0 → (n ≡ request_of ws m.owner) × (is_request_open m.seq n ≡ true)
  opens_at LoadOwnTicket o f e = absurd (by (nat_lt m.seq (seq_of n)) (payload_of n == m.made) (m.seq == S.limit) e)
    where
      by : (b c d : Bool) → Elsewhere (after_own_ticket S now n b c d)
      by true c d e = cc
      by false true d e = cc
      by false false true e = cc
      by false false false e = cc
  opens_at Idle o f e = cc
  opens_at TryCurrent o f e = cc
  opens_at TryRequest o f e = (f, by (is_request_open m.seq n) e)
    where
      by : (b : Bool) → (after_try_request S now b).place ≡ CopyLog 0 → b ≡ true
      by true e = refl
      by false e = absurd (resumed_on true e)
  opens_at (TryCell x) o f e = absurd (by (nat_lt m.seq (seq_of n)) e)
    where
      over_on : (b : Bool) → Elsewhere (end_try now b)
      over_on true e = cc
      over_on false e = cc

      by : (b : Bool) → Elsewhere (after_try_cell S now x n b)
      by true e = over_on (nat_lt m.tries MOST_TRIES) e
      by false e = read_on (record now { known = with_cell_known S m x n }) (S.meaning.walk (with_cell_known S m x n) m.op) e
  opens_at (StoreScript j) o f e = absurd (by (nat_lt (j + 1) (length m.op)) e)
    where
      by : (b : Bool) → Elsewhere (after_store_script now j b)
      by true e = cc
      by false e = cc
  opens_at StoreAnnouncement o f e = cc
  opens_at LoadCurrent o f e = cc
  opens_at LoadRequest o f e = (f, by (is_request_open m.seq n) e)
    where
      by : (b : Bool) → (after_load_request S now b).place ≡ CopyLog 0 → b ≡ true
      by true e = refl
      by false e = cc
  opens_at (CopyLog x) o f e = absurd (by (nat_lt (x + 1) (2 * get_or (with_log_word_copied m n) 0 0 + 1)) e)
    where
      by : (b : Bool) → Elsewhere (after_copy_log now x n b)
      by true e = let z : x + 1 ≡ 0 = cc in omega arith
      by false e = cc
  opens_at LookAgain o f e = absurd (by (n == pack m.seq 0) (m.rounds == 0) e)
    where
      by : (b c : Bool) → Elsewhere (after_look_again S now b c)
      by true c e = cc
      by false c e = resumed_on c e
  opens_at LoadShape o f e = absurd (by (nat_lt m.seq (seq_of n)) e)
    where
      by : (b : Bool) → Elsewhere (after_load_shape S now n b)
      by true e = cc
      by false e = asks_on (with_shape S now n) (first_marked_place (payload_of n) 0 S.instrs) e
  opens_at (LoadReply j) o f e = absurd (by (nat_lt m.seq (seq_of n)) e)
    where
      by : (b : Bool) → Elsewhere (after_load_reply S now j n b)
      by true e = cc
      by false e = asks_on (with_reply now j n) (first_marked_place m.raw.shape (j + 1) (S.instrs - j - 1)) e
  opens_at LoadAnnouncement o f e = absurd (by (get_or m.known (ticket_cell S m.scan) None) e)
    where
      by : (r : Option ℕ) → Elsewhere (after_announcement S now n r)
      by None e = cc
      by (Some v) e = weighed_on (record now { heard = n }) (nat_lt v (seq_of n)) e
  opens_at LoadTicket o f e = absurd (by (nat_lt m.seq (seq_of n)) e)
    where
      by : (b : Bool) → Elsewhere (after_load_ticket S now n b)
      by true e = cc
      by false e = weighed_on (record now { known = with_cell_known S m (ticket_cell S m.scan) n }) (nat_lt (payload_of n) (seq_of m.heard)) e
  opens_at (LoadScript j) o f e = absurd (by (nat_lt (j + 1) (payload_of m.heard)) e)
    where
      by : (b : Bool) → Elsewhere (after_load_script S now j n b)
      by true e = cc
      by false e = ran_on (record now { script = with_script_word m n }) (S.meaning.walk (overlaid m.known m.log) (with_script_word m n)) e
  opens_at (LoadCell x) o f e = absurd (by (nat_lt m.seq (seq_of n)) e)
    where
      by : (b : Bool) → Elsewhere (after_load_cell S now x n b)
      by true e = cc
      by false e = ran_on (record now { known = with_cell_known S m x n }) (S.meaning.walk (overlaid (with_cell_known S m x n) m.log) m.script) e
  opens_at RaiseOld o f e = cc
  opens_at (StoreLog x) o f e = cc
  opens_at (RaiseLog x) o f e = absurd (by (nat_lt (x + 1) (length (log_words m.log))) e)
    where
      by : (b : Bool) → Elsewhere (after_raise_log now x b)
      by true e = cc
      by false e = cc
  opens_at StoreRequest o f e = cc
  opens_at RaiseRequest o f e = cc
  opens_at ExchangeCurrent o f e = absurd (by (n == pack m.seq m.owner) e)
    where
      by : (b : Bool) → Elsewhere (after_commit_exchange now b)
      by true e = cc
      by false e = cc
  opens_at RaiseCurrent o f e = absurd (by (nat_lt 0 (length m.log)) e)
    where
      by : (b : Bool) → Elsewhere (after_raise_current now b)
      by true e = cc
      by false e = cc
  opens_at (LoadTarget j) o f e = absurd (by (nat_lt (seq_of n) m.seq) e)
    where
      by : (b : Bool) → Elsewhere (after_load_target now j n b)
      by true e = cc
      by false e = cc
  opens_at (ExchangeTarget j x) o f e = cc
  opens_at (ReloadTarget j) o f e = cc
  opens_at (RaiseTarget j x) o f e = absurd (by (nat_lt (j + 1) (length m.log)) e)
    where
      by : (b : Bool) → Elsewhere (next_entry now j b)
      by true e = cc
      by false e = cc
  opens_at CloseRequest o f e = cc
  opens_at RaiseClosed o f e = absurd (by m.helps (m.rounds == 0) e)
    where
      by : (b c : Bool) → Elsewhere (after_raise_closed S now b c)
      by true c e = resumed_on c e
      by false c e = cc

-- what the test of a request says
opened : (s n : ℕ) → is_request_open s n ≡ true → (0 < s) × (n ≡ pack s 0)
opened s n e = go (nat_lt 0 s) refl (n == pack s 0) refl e
  where
    go : (b : Bool) → nat_lt 0 s ≡ b → (c : Bool) → (n == pack s 0) ≡ c → (b && c) ≡ true → (0 < s) × (n ≡ pack s 0)
    go true p true q r = (is_newer 0 s p, grind (arith, nat_tests))
    go true p false q r = cc
    go false p c q r = cc

-- so it is of each step
pub copies_open : (S : Setup) (w : Moment) (m : CallState) (n : ℕ) → IsFoundBy (want S m) w.words n → IsOpen m.place → (take_word S m n).place ≡ CopyLog 0 → (0 < m.seq) × (request_of w.words m.owner ≡ pack m.seq 0)
unfolding want take_word
copies_open S w m n f o e =
    let t = opens_at S w.words m n m.place o f e in
    let z = opened m.seq n t.1 in
    (z.0, sym t.0 ∙ z.1)
