-- Each call has made as many steps as its place says at least.
use Rattle.std.proofs.Common.{◌≡◌, ℕ, ◌+◌, ◌-◌, ◌*◌, ◌≤◌, ◌==◌, List, length, get_or, refl, sym, ap, subst, arith, Option, Some, None, Bool, true, false, nat_lt}
use Rattle.of_core.specs.declared.machine.trying.TheConstants.{MOST_TRIES}
use Rattle.of_cell.specs.Words.{pack, seq_of, payload_of}
use Rattle.of_mem.specs.Meaning.{WalkEnd, Needs, Gives}
use Rattle.of_mem.specs.Part.{overlaid}
use Rattle.of_core.specs.declared.place.Place.{Place}
use Rattle.of_core.specs.declared.place.Place.TheVariants.{Idle, TryCurrent, TryRequest, TryCell, StoreScript, StoreAnnouncement, LoadCurrent, LoadRequest, CopyLog, LookAgain, LoadOwnTicket, LoadShape, LoadReply, LoadAnnouncement, LoadTicket, LoadScript, LoadCell, RaiseOld, StoreLog, RaiseLog, StoreRequest, RaiseRequest, ExchangeCurrent, RaiseCurrent, LoadTarget, ExchangeTarget, ReloadTarget, RaiseTarget, CloseRequest, RaiseClosed}
use Rattle.of_core.specs.Table.{Setup, ticket_cell}
use Rattle.of_core.specs.Machine.{CallState, no_cell_known, with_cell_known, log_words, begin_call, first_place, idle_machine}
use Rattle.of_core.specs.Steps.{after_read_run, begin_reading, resume, after_try_request, end_try, after_try_cell, take_word_at, with_step_counted, after_store_script, after_load_request, after_copy_log, after_look_again, after_own_ticket, after_load_shape, with_shape, after_load_reply, with_reply, next_reply_place, first_marked_place, after_announcement, weigh, after_load_ticket, after_load_script, with_script_word, after_script_run, next_scanned_caller, with_call_run, after_load_cell, after_raise_log, after_commit_exchange, after_raise_current, after_load_target, next_entry, after_raise_closed, is_request_open, with_log_word_copied}
use Rattle.of_core.specs.TableMoment.{Batch, TableStart}
use Rattle.of_core.specs.Invariant.{HoldsAtPlace}
use Rattle.of_core.specs.Least.{least_of, least_read, made_helping, made_applying, HasMadeLeastSteps}
use Rattle.of_core.proofs.Tests.{differ, not_newer}

least_upto : (r : WalkEnd) → least_of r ≤ 3
least_upto (Needs a) = omega arith
least_upto (Gives es r) = omega arith

module _ (S : Setup) where
  -- a call that opens has made none
  pub opened_late : (m : CallState) (op : List ℕ) → HasMadeLeastSteps S (begin_call S m op) (begin_call S m op).place
  opened_late m op = go (S.meaning.reads_only op)
    where
      go : (b : Bool) → HasMadeLeastSteps S (record (begin_call S m op) { place = first_place b }) (first_place b)
      go true = record { steps = omega arith; rests = λ q. cc; told = λ q. cc }
      go false = record { steps = omega arith; rests = λ q. cc; told = λ q. cc }

  pub idle_late : (i made : ℕ) → HasMadeLeastSteps S (idle_machine S i made) Idle
  idle_late i made = record { steps = omega arith; rests = λ q. refl; told = λ q. tt }

  -- a read's run ends behind its least steps
  read_late : (n : CallState) (r : WalkEnd) → 2 ≤ n.steps → least_read S n.op ≤ n.steps → HasMadeLeastSteps S (after_read_run n r) (after_read_run n r).place
  read_late n (Needs a) h l = record { steps = omega arith; rests = λ q. cc; told = λ q. cc }
  read_late n (Gives es z) h l = record { steps = omega arith; rests = λ q. refl; told = λ q. l }

  -- with nothing known it ends behind two loads, or needs a cell
  tried_late : (n : CallState) → 2 ≤ n.steps → HasMadeLeastSteps S (begin_reading S n) (begin_reading S n).place
  tried_late n h = go (S.meaning.walk (no_cell_known S) n.op) refl
    where
      go : (r : WalkEnd) → S.meaning.walk (no_cell_known S) n.op ≡ r → HasMadeLeastSteps S (after_read_run (record n { known = no_cell_known S; helps = false }) r) (after_read_run (record n { known = no_cell_known S; helps = false }) r).place
      go (Needs a) e = record { steps = omega arith; rests = λ q. cc; told = λ q. cc }
      go (Gives es z) e = record { steps = omega arith; rests = λ q. refl; told = λ q. omega (arith, ap least_of e) }

  resumed_late : (n : CallState) (b : Bool) → made_helping n.op b ≤ n.steps → HasMadeLeastSteps S (resume S n b) (resume S n b).place
  resumed_late n true h = tried_late n (omega arith)
  resumed_late n false h = record { steps = omega arith; rests = λ q. cc; told = λ q. cc }

  asks_late : (n : CallState) → length n.op + 5 ≤ n.steps → (r : Option ℕ) → HasMadeLeastSteps S (next_reply_place n r) (next_reply_place n r).place
  asks_late n h None = record { steps = omega arith; rests = λ q. refl; told = λ q. omega arith }
  asks_late n h (Some j) = record { steps = omega arith; rests = λ q. cc; told = λ q. cc }

  next_late : (n : CallState) → length n.op + 4 ≤ n.steps → (b : Bool) → HasMadeLeastSteps S (next_scanned_caller n b) (next_scanned_caller n b).place
  next_late n h true = record { steps = omega arith; rests = λ q. cc; told = λ q. cc }
  next_late n h false = record { steps = omega arith; rests = λ q. cc; told = λ q. cc }

  weighed_late : (n : CallState) → length n.op + 4 ≤ n.steps → (b : Bool) → HasMadeLeastSteps S (weigh S n b) (weigh S n b).place
  weighed_late n h true = record { steps = omega arith; rests = λ q. cc; told = λ q. cc }
  weighed_late n h false = next_late n h (nat_lt (n.scan + 1) S.callers)

  ran_late : (n : CallState) → length n.op + 4 ≤ n.steps → (r : WalkEnd) → HasMadeLeastSteps S (after_script_run S n r) (after_script_run S n r).place
  ran_late n h (Needs a) = record { steps = omega arith; rests = λ q. cc; told = λ q. cc }
  ran_late n h (Gives es z) = next_late (with_call_run S n es z) h (nat_lt (n.scan + 1) S.callers)

  module _ (B : TableStart) (ws : List ℕ) (bs : List Batch) (i : ℕ) (m : CallState) (n : ℕ) where
    -- with the step counted
    abbrev now : CallState
    now = record m { steps = m.steps + 1 }

    more : (x : ℕ) → x ≤ m.steps → x ≤ m.steps + 1
    more x h = omega arith

    -- each step makes one more
    pub late : (p : Place) → HoldsAtPlace S B ws bs i m p → HasMadeLeastSteps S m p → m.place ≡ p → HasMadeLeastSteps S (take_word_at S (with_step_counted p m) n p) (take_word_at S (with_step_counted p m) n p).place
    late Idle a t e = subst (λ (q : Place). HasMadeLeastSteps S m q) (sym e) t
    late TryCurrent a t e = record { steps = omega arith; rests = λ q. cc; told = λ q. cc }
    late TryRequest a t e = go (is_request_open m.seq n)
      where
        trying : (b : Bool) → (m.rounds == 0) ≡ b → made_helping m.op b ≤ m.steps + 1
        trying true q = omega (arith, t.steps)
        trying false q = absurd (differ m.rounds 0 q a.trying.fresh.rounds)

        go : (b : Bool) → HasMadeLeastSteps S (after_try_request S now b) (after_try_request S now b).place
        go true = record { steps = trying (m.rounds == 0) refl; rests = λ q. cc; told = λ q. cc }
        go false = tried_late now (omega (arith, t.steps))
    late (TryCell x) a t e = go (nat_lt m.seq (seq_of n))
      where
        over : (b : Bool) → HasMadeLeastSteps S (end_try now b) (end_try now b).place
        over true = record { steps = omega arith; rests = λ q. cc; told = λ q. cc }
        over false = record { steps = omega arith; rests = λ q. cc; told = λ q. cc }

        go : (b : Bool) → HasMadeLeastSteps S (after_try_cell S now x n b) (after_try_cell S now x n b).place
        go true = over (nat_lt m.tries MOST_TRIES)
        go false = read_late (record now { known = with_cell_known S m x n }) (S.meaning.walk (with_cell_known S m x n) m.op) (omega (arith, t.steps)) (omega (arith, t.steps, least_upto (S.meaning.walk (no_cell_known S) m.op)))
    late (StoreScript j) a t e = go (nat_lt (j + 1) (length m.op)) refl
      where
        go : (b : Bool) → nat_lt (j + 1) (length m.op) ≡ b → HasMadeLeastSteps S (after_store_script now j b) (after_store_script now j b).place
        go true q = record { steps = omega (arith, t.steps); rests = λ q. cc; told = λ q. cc }
        go false q = record { steps = omega (arith, t.steps, not_newer (j + 1) (length m.op) q); rests = λ q. cc; told = λ q. cc }
    late StoreAnnouncement a t e = record { steps = omega (arith, t.steps); rests = λ q. cc; told = λ q. cc }
    late LoadCurrent a t e = record { steps = omega (arith, t.steps); rests = λ q. cc; told = λ q. cc }
    late LoadRequest a t e = go (is_request_open m.seq n)
      where
        helping : (b : Bool) → made_helping m.op b ≤ m.steps + 1
        helping true = omega (arith, t.steps)
        helping false = omega (arith, t.steps)

        go : (b : Bool) → HasMadeLeastSteps S (after_load_request S now b) (after_load_request S now b).place
        go true = record { steps = helping (m.rounds == 0); rests = λ q. cc; told = λ q. cc }
        go false = record { steps = omega (arith, t.steps); rests = λ q. cc; told = λ q. cc }
    late (CopyLog x) a t e = go (nat_lt (x + 1) (2 * get_or (with_log_word_copied m n) 0 0 + 1))
      where
        go : (b : Bool) → HasMadeLeastSteps S (after_copy_log now x n b) (after_copy_log now x n b).place
        go true = record { steps = more (made_helping m.op (m.rounds == 0)) t.steps; rests = λ q. cc; told = λ q. cc }
        go false = record { steps = more (made_helping m.op (m.rounds == 0)) t.steps; rests = λ q. cc; told = λ q. cc }
    late LookAgain a t e = go (n == pack m.seq 0) (m.rounds == 0) t.steps
      where
        applying : (b : Bool) → b ≡ true → made_applying m.op (m.rounds == 0) b ≤ m.steps + 1
        applying true q = more (made_helping m.op (m.rounds == 0)) t.steps
        applying false q = cc

        go : (b d : Bool) → made_helping m.op d ≤ m.steps → HasMadeLeastSteps S (after_look_again S now b d) (after_look_again S now b d).place
        go true d h = record { steps = applying m.helps a.copies.helps; rests = λ q. cc; told = λ q. cc }
        go false d h = resumed_late now d (more (made_helping m.op d) h)
    late LoadOwnTicket a t e = go (nat_lt m.seq (seq_of n)) (payload_of n == m.made) (m.seq == S.limit)
      where
        go : (b c d : Bool) → HasMadeLeastSteps S (after_own_ticket S now n b c d) (after_own_ticket S now n b c d).place
        go true c d = record { steps = omega (arith, t.steps); rests = λ q. cc; told = λ q. cc }
        go false true d = record { steps = omega (arith, t.steps); rests = λ q. cc; told = λ q. cc }
        go false false true = record { steps = omega arith; rests = λ q. refl; told = λ q. tt }
        go false false false = record { steps = omega (arith, t.steps); rests = λ q. cc; told = λ q. cc }
    late LoadShape a t e = go (nat_lt m.seq (seq_of n))
      where
        go : (b : Bool) → HasMadeLeastSteps S (after_load_shape S now n b) (after_load_shape S now n b).place
        go true = record { steps = omega (arith, t.steps); rests = λ q. cc; told = λ q. cc }
        go false = asks_late (with_shape S now n) (omega (arith, t.steps)) (first_marked_place (payload_of n) 0 S.instrs)
    late (LoadReply j) a t e = go (nat_lt m.seq (seq_of n))
      where
        go : (b : Bool) → HasMadeLeastSteps S (after_load_reply S now j n b) (after_load_reply S now j n b).place
        go true = record { steps = omega (arith, t.steps); rests = λ q. cc; told = λ q. cc }
        go false = asks_late (with_reply now j n) (omega (arith, t.steps)) (first_marked_place m.raw.shape (j + 1) (S.instrs - j - 1))
    late LoadAnnouncement a t e = go (get_or m.known (ticket_cell S m.scan) None)
      where
        go : (r : Option ℕ) → HasMadeLeastSteps S (after_announcement S now n r) (after_announcement S now n r).place
        go None = record { steps = omega (arith, t.steps); rests = λ q. cc; told = λ q. cc }
        go (Some v) = weighed_late (record now { heard = n }) (omega (arith, t.steps)) (nat_lt v (seq_of n))
    late LoadTicket a t e = go (nat_lt m.seq (seq_of n))
      where
        go : (b : Bool) → HasMadeLeastSteps S (after_load_ticket S now n b) (after_load_ticket S now n b).place
        go true = record { steps = omega (arith, t.steps); rests = λ q. cc; told = λ q. cc }
        go false = weighed_late (record now { known = with_cell_known S m (ticket_cell S m.scan) n }) (omega (arith, t.steps)) (nat_lt (payload_of n) (seq_of m.heard))
    late (LoadScript j) a t e = go (nat_lt (j + 1) (payload_of m.heard))
      where
        go : (b : Bool) → HasMadeLeastSteps S (after_load_script S now j n b) (after_load_script S now j n b).place
        go true = record { steps = omega (arith, t.steps); rests = λ q. cc; told = λ q. cc }
        go false = ran_late (record now { script = with_script_word m n }) (omega (arith, t.steps)) (S.meaning.walk (overlaid m.known m.log) (with_script_word m n))
    late (LoadCell x) a t e = go (nat_lt m.seq (seq_of n))
      where
        go : (b : Bool) → HasMadeLeastSteps S (after_load_cell S now x n b) (after_load_cell S now x n b).place
        go true = record { steps = omega (arith, t.steps); rests = λ q. cc; told = λ q. cc }
        go false = ran_late (record now { known = with_cell_known S m x n }) (omega (arith, t.steps)) (S.meaning.walk (overlaid (with_cell_known S m x n) m.log) m.script)
    late RaiseOld a t e = record { steps = omega (arith, t.steps); rests = λ q. cc; told = λ q. cc }
    late (StoreLog x) a t e = record { steps = omega (arith, t.steps); rests = λ q. cc; told = λ q. cc }
    late (RaiseLog x) a t e = go (nat_lt (x + 1) (length (log_words m.log)))
      where
        go : (b : Bool) → HasMadeLeastSteps S (after_raise_log now x b) (after_raise_log now x b).place
        go true = record { steps = omega (arith, t.steps); rests = λ q. cc; told = λ q. cc }
        go false = record { steps = omega (arith, t.steps); rests = λ q. cc; told = λ q. cc }
    late StoreRequest a t e = record { steps = omega (arith, t.steps); rests = λ q. cc; told = λ q. cc }
    late RaiseRequest a t e = record { steps = omega (arith, t.steps); rests = λ q. cc; told = λ q. cc }
    late ExchangeCurrent a t e = go (n == pack m.seq m.owner)
      where
        go : (b : Bool) → HasMadeLeastSteps S (after_commit_exchange now b) (after_commit_exchange now b).place
        go true = record { steps = omega (arith, t.steps); rests = λ q. cc; told = λ q. cc }
        go false = record { steps = omega (arith, t.steps); rests = λ q. cc; told = λ q. cc }
    late RaiseCurrent a t e = go (nat_lt 0 (length m.log))
      where
        go : (b : Bool) → HasMadeLeastSteps S (after_raise_current now b) (after_raise_current now b).place
        go true = record { steps = more (made_applying m.op (m.rounds == 0) m.helps) t.steps; rests = λ q. cc; told = λ q. cc }
        go false = record { steps = more (made_applying m.op (m.rounds == 0) m.helps) t.steps; rests = λ q. cc; told = λ q. cc }
    late (LoadTarget j) a t e = go (nat_lt (seq_of n) m.seq)
      where
        go : (b : Bool) → HasMadeLeastSteps S (after_load_target now j n b) (after_load_target now j n b).place
        go true = record { steps = more (made_applying m.op (m.rounds == 0) m.helps) t.steps; rests = λ q. cc; told = λ q. cc }
        go false = record { steps = more (made_applying m.op (m.rounds == 0) m.helps) t.steps; rests = λ q. cc; told = λ q. cc }
    late (ExchangeTarget j f) a t e = record { steps = more (made_applying m.op (m.rounds == 0) m.helps) t.steps; rests = λ q. cc; told = λ q. cc }
    late (ReloadTarget j) a t e = record { steps = more (made_applying m.op (m.rounds == 0) m.helps) t.steps; rests = λ q. cc; told = λ q. cc }
    late (RaiseTarget j f) a t e = go (nat_lt (j + 1) (length m.log))
      where
        go : (b : Bool) → HasMadeLeastSteps S (next_entry now j b) (next_entry now j b).place
        go true = record { steps = more (made_applying m.op (m.rounds == 0) m.helps) t.steps; rests = λ q. cc; told = λ q. cc }
        go false = record { steps = more (made_applying m.op (m.rounds == 0) m.helps) t.steps; rests = λ q. cc; told = λ q. cc }
    late CloseRequest a t e = record { steps = more (made_applying m.op (m.rounds == 0) m.helps) t.steps; rests = λ q. cc; told = λ q. cc }
    late RaiseClosed a t e = go m.helps (m.rounds == 0) t.steps
      where
        go : (b d : Bool) → made_applying m.op d b ≤ m.steps → HasMadeLeastSteps S (after_raise_closed S now b d) (after_raise_closed S now b d).place
        go true d h = resumed_late now d (more (made_helping m.op d) h)
        go false d h = record { steps = omega arith; rests = λ q. refl; told = λ q. omega arith }
