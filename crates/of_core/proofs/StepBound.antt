-- No call makes more steps than the bound.
use Rattle.std.proofs.Common.{◌≡◌, ℕ, zero, suc, ◌+◌, ◌*◌, ◌-◌, ◌<◌, ◌≤◌, ◌==◌, List, [], ◌∷◌, length, get_or, set, replicate, refl, sym, ◌∙◌, ap, subst, arith, Option, Some, None, Bool, true, false, nat_lt}
use Rattle.std.proofs.Math.Nat.{mul_comm}
use Rattle.std.proofs.lemmas.Bool.Decides.{nat_tests}
use Rattle.of_cell.proofs.Rooms.{room_upto}
use Rattle.of_core.specs.declared.machine.trying.TheConstants.{MOST_TRIES}
use Rattle.of_cell.specs.Words.{pack, seq_of, payload_of}
use Rattle.of_cell.proofs.Places.{row_within}
use Rattle.of_mem.specs.Meaning.{WalkEnd, Needs, Gives}
use Rattle.of_mem.specs.Part.{overlaid}
use Rattle.of_core.specs.declared.place.Place.{Place}
use Rattle.of_core.specs.declared.place.Place.TheVariants.{Idle, TryCurrent, TryRequest, TryCell, StoreScript, StoreAnnouncement, LoadCurrent, LoadRequest, CopyLog, LookAgain, LoadOwnTicket, LoadShape, LoadReply, LoadAnnouncement, LoadTicket, LoadScript, LoadCell, RaiseOld, StoreLog, RaiseLog, StoreRequest, RaiseRequest, ExchangeCurrent, RaiseCurrent, LoadTarget, ExchangeTarget, ReloadTarget, RaiseTarget, CloseRequest, RaiseClosed}
use Rattle.of_core.specs.Table.{Setup, ticket_cell, shape_cell, reply_cell, data_word}
use Rattle.of_core.specs.Machine.{CallState, no_cell_known, with_cell_known, log_words, begin_call, first_place}
use Rattle.of_core.specs.Steps.{read_on, after_read_run, begin_reading, resume, after_try_request, end_try, after_try_cell, want_at, word_of, take_word_at, with_step_counted, after_store_script, after_load_request, after_copy_log, after_look_again, after_own_ticket, after_load_shape, with_shape, after_load_reply, with_reply, next_reply_place, first_marked_place, after_announcement, weigh, after_load_ticket, after_load_script, with_script_word, after_script_run, next_scanned_caller, with_call_run, after_load_cell, after_raise_log, after_commit_exchange, after_raise_current, after_load_target, next_entry, after_raise_closed, is_request_open, with_log_word_copied}
use Rattle.of_core.specs.TableMoment.{Moment, TableStart}
use Rattle.of_core.specs.Transaction.{IsApplying}
use Rattle.of_core.specs.Invariant.{HoldsAtPlace, MeetsCore}
use Rattle.of_core.specs.Bound.{bound, unknown_cell_count, steps_to_apply, round_steps_after_help, lost_round_steps, steps_left_in_rounds, steps_left_after_apply, steps_left_after_help, steps_left_in_tries, steps_left_announced, steps_left_in_scan, MachineIsWithinBound}
use Rattle.of_core.proofs.Logs.{length-log_words}
use Rattle.of_core.proofs.Tests.{differ, mark_some}
use Rattle.of_core.proofs.Rounds.{own_row_old}
use Rattle.of_core.proofs.OwnReply.{done_now}
use Rattle.of_core.proofs.Scans.{ticket_in_cells}
use Rattle.of_mem.proofs.Lists.{none_at}
use Rattle.of_core.proofs.StepSums.{fewer, row_cost, first_row, next_sum, done_sum, known_sum, known_sum0, again_sum, again_sum0, try_lost, cell_learnt, word_stored, words_stored, word_copied, words_copied, still_open, now_closed, round_lost, shape_read, reply_read, replies_skipped, row_heard, row_begun, row_skipped, word_loaded, words_loaded, log_word_stored, log_word_raised, log_raised, older_found, newer_found, entry_exchanged, entry_raised, entries_raised, request_closed, apply_ended}

unknowns_all : (n : ℕ) → unknown_cell_count (replicate n None) ≡ n
unknowns_all zero = refl
unknowns_all (suc n) = ap suc (unknowns_all n)

-- one more cell is known
unknowns_set : (ks : List (Option ℕ)) (a v : ℕ) → a < length ks → get_or ks a None ≡ None → unknown_cell_count (set ks a (Some v)) + 1 ≡ unknown_cell_count ks
unknowns_set [] a v l e = absurd (omega arith)
unknowns_set (None ∷ ks) zero v l e = omega arith
unknowns_set (Some x ∷ ks) zero v l e = cc
unknowns_set (None ∷ ks) (suc a) v l e = omega (arith, unknowns_set ks a v (omega arith) e)
unknowns_set (Some x ∷ ks) (suc a) v l e = unknowns_set ks a v (omega arith) e

try_cost : (r q : ℕ) → r < MOST_TRIES → (MOST_TRIES - (r + 1)) * q + q ≡ (MOST_TRIES - r) * q
try_cost zero q l = omega arith
try_cost (suc zero) q l = omega arith
try_cost (suc (suc zero)) q l = omega arith
try_cost (suc (suc (suc zero))) q l = omega arith
try_cost (suc (suc (suc (suc r)))) q l = absurd (omega arith)

round_cost : (r q : ℕ) → r ≤ 2 → (3 - (r + 1)) * q + q ≡ (3 - r) * q
round_cost zero q l = omega arith
round_cost (suc zero) q l = omega arith
round_cost (suc (suc zero)) q l = omega arith
round_cost (suc (suc (suc r))) q l = absurd (omega arith)

-- a whole round
round_sum : (st m p x q l : ℕ) → x + (11 * m + p + 13) ≡ q → st + (q + (4 * m + 3)) ≤ l → st + 1 + (6 * m + 6 + (5 * m + p + 6 + (x + (4 * m + 3)))) ≤ l
round_sum st m p x q l e h = omega arith

-- a call that opens
pub opened_within : (S : Setup) (m : CallState) (op : List ℕ) → MachineIsWithinBound S (begin_call S m op) (begin_call S m op).place
opened_within S m op = go (S.meaning.reads_only op)
  where
    sum : (i m p : ℕ) → 0 + (i - 0 + 1 + (3 * (11 * m + p + 13) + (4 * m + 3))) ≤ i + 1 + 3 * (15 * m + p + 15) + 4 * (7 * m + 7)
    sum i m p = omega arith

    first : (i m p : ℕ) → 0 + ((4 - 0) * (7 * m + 7) + (i + 1 + (3 * (11 * m + p + 13) + (4 * m + 3)))) ≤ i + 1 + 3 * (15 * m + p + 15) + 4 * (7 * m + 7)
    first i m p = omega arith

    go : (b : Bool) → MachineIsWithinBound S (record (begin_call S m op) { place = first_place b }) (first_place b)
    go true = record { told = λ q. cc; steps = rw (mul_comm (S.instrs + 1) S.callers) (first S.instrs S.cells (S.callers * (S.instrs + 1))) }
    go false = record { told = λ q. cc; steps = rw (mul_comm (S.instrs + 1) S.callers) (sum S.instrs S.cells (S.callers * (S.instrs + 1))) }

module _ (S : Setup) where
  -- the scan goes on behind the caller that it has come to
  next_within : (n : CallState) → n.scan < S.callers → n.steps + steps_left_in_scan S n ≤ bound S → (b : Bool) → nat_lt (n.scan + 1) S.callers ≡ b → MachineIsWithinBound S (next_scanned_caller n b) (next_scanned_caller n b).place
  next_within n l h true e = record {
    told = λ q. cc;
    steps = next_sum n.steps (S.instrs + 1) ((S.callers - (n.scan + 1) - 1) * (S.instrs + 1)) ((S.callers - n.scan - 1) * (S.instrs + 1)) (unknown_cell_count n.known) (4 * S.cells + 6) (steps_left_in_rounds S n) (bound S)
        (row_cost S.callers n.scan (S.instrs + 1) (let z : n.scan + 1 < S.callers = grind (arith, nat_tests) in z)) h;
  }
  next_within n l h false e = record { told = λ q. cc; steps = done_sum n.steps ((S.callers - n.scan - 1) * (S.instrs + 1)) (unknown_cell_count n.known) (4 * S.cells + 6) (steps_left_in_rounds S n) (bound S) h }

  weighed_within : (n : CallState) → n.scan < S.callers → n.steps + (S.instrs + steps_left_in_scan S n) ≤ bound S → (b : Bool) → MachineIsWithinBound S (weigh S n b) (weigh S n b).place
  weighed_within n l h true = record { told = λ q. cc; steps = row_begun n.steps S.instrs (steps_left_in_scan S n) (bound S) h }
  weighed_within n l h false = next_within n l (row_skipped n.steps S.instrs (steps_left_in_scan S n) (bound S) h) (nat_lt (n.scan + 1) S.callers) refl

  ran_within : (n : CallState) → n.scan < S.callers → n.steps + steps_left_in_scan S n ≤ bound S → (r : WalkEnd) → MachineIsWithinBound S (after_script_run S n r) (after_script_run S n r).place
  ran_within n l h (Needs a) = record { told = λ q. cc; steps = h }
  ran_within n l h (Gives es r) = next_within (with_call_run S n es r) l h (nat_lt (n.scan + 1) S.callers) refl

  asks_within : (n : CallState) (x j : ℕ) → n.steps + (S.instrs - x) ≤ bound S → x ≤ j → (r : Option ℕ) → ((k : ℕ) → r ≡ Some k → x ≤ k) → MachineIsWithinBound S (next_reply_place n r) (next_reply_place n r).place
  asks_within n x j h l None f = record { steps = omega arith; told = λ q. omega arith }
  asks_within n x j h l (Some k) f = record { told = λ q. cc; steps = replies_skipped n.steps S.instrs x k (bound S) h (f k refl) }

  reads_within : (n : CallState) → n.steps + (unknown_cell_count n.known + steps_left_in_tries S n) ≤ bound S → MachineIsWithinBound S (read_on S n) (read_on S n).place
  reads_within n h = go (S.meaning.walk n.known n.op)
    where
      fewer_by : (s x l : ℕ) → s + x ≤ l → s ≤ l
      fewer_by s x l h = omega arith

      go : (r : WalkEnd) → MachineIsWithinBound S (after_read_run n r) (after_read_run n r).place
      go (Needs a) = record { told = λ q. cc; steps = h }
      go (Gives es r) = record { steps = omega arith; told = λ q. fewer_by n.steps (unknown_cell_count n.known + steps_left_in_tries S n) (bound S) h }

  tried_within : (n : CallState) → n.steps + (S.cells + steps_left_in_tries S n) ≤ bound S → MachineIsWithinBound S (begin_reading S n) (begin_reading S n).place
  tried_within n h = reads_within (record n { known = no_cell_known S; helps = false }) (rw (unknowns_all S.cells) h)

  resumed_within : (n : CallState) (b : Bool) → n.steps + steps_left_after_help S n b ≤ bound S → MachineIsWithinBound S (resume S n b) (resume S n b).place
  resumed_within n true h = tried_within n h
  resumed_within n false h = record { told = λ q. cc; steps = h }

  module _ (Lawful : List ℕ → Type 0) (B : TableStart) (w : Moment) (g : MeetsCore S Lawful B w) (i : ℕ) (m : CallState) (h : i < S.callers) where
    -- with the step counted
    abbrev now : CallState
    now = record m { steps = m.steps + 1 }

    pub n_cells : (j : ℕ) → IsApplying S B w.words w.batches i m j → length m.log ≤ S.cells
    n_cells j p = rw p.log.many (omega (arith, (g.shared.counted.logs m.seq p.after p.upto).few, room_upto S.callers S.cells))

    words_row : S.instrs + 1 ≤ S.callers * (S.instrs + 1)
    words_row = let r : i * (S.instrs + 1) + (S.instrs + 1) ≤ S.callers * (S.instrs + 1) = row_within i S.callers (S.instrs + 1) h in omega arith

    -- each step leaves one less
    pub within : (p : Place) → HoldsAtPlace S B w.words w.batches i m p → MachineIsWithinBound S m p → m.place ≡ p
        → MachineIsWithinBound S (take_word_at S (with_step_counted p m) (get_or w.words (word_of (want_at S m p)) 0) p) (take_word_at S (with_step_counted p m) (get_or w.words (word_of (want_at S m p)) 0) p).place
    within Idle a t e = subst (λ (q : Place). MachineIsWithinBound S m q) (sym e) t
    within TryCurrent a t e = record { told = λ q. cc; steps = sum m.steps S.cells ((MOST_TRIES - (m.tries + 1)) * (7 * S.cells + 7)) ((MOST_TRIES - m.tries) * (7 * S.cells + 7)) (steps_left_announced S) (bound S) (try_cost m.tries (7 * S.cells + 7) a.few) t.steps }
      where
        sum : (s c x y r l : ℕ) → x + (7 * c + 7) ≡ y → s + (y + r) ≤ l → s + 1 + (7 * c + 6 + (x + r)) ≤ l
        sum s c x y r l e h = omega arith
    within TryRequest a t e = go (is_request_open m.seq (get_or w.words (m.owner + 1) 0))
      where
        opens : (s c r l : ℕ) → s + (7 * c + 6 + r) ≤ l → s + 1 + (2 * c + 1 - 0 + 1 + (4 * c + 3) + (c + r)) ≤ l
        opens s c r l h = omega arith

        closed : (s c r l : ℕ) → s + (7 * c + 6 + r) ≤ l → s + 1 + (c + r) ≤ l
        closed s c r l h = omega arith

        trying : (b : Bool) → (m.rounds == 0) ≡ b → m.steps + 1 + (2 * S.cells + 1 - 0 + 1 + steps_to_apply S + steps_left_after_help S m b) ≤ bound S
        trying true q = opens m.steps S.cells (steps_left_in_tries S m) (bound S) t.steps
        trying false q = absurd (differ m.rounds 0 q a.trying.fresh.rounds)

        go : (b : Bool) → MachineIsWithinBound S (after_try_request S now b) (after_try_request S now b).place
        go true = record { told = λ q. cc; steps = trying (m.rounds == 0) refl }
        go false = tried_within now (closed m.steps S.cells (steps_left_in_tries S m) (bound S) t.steps)
    within (TryCell x) a t e = go (nat_lt m.seq (seq_of found))
      where
        found : ℕ
        found = get_or w.words (word_of (want_at S m (TryCell x))) 0

        one : unknown_cell_count (with_cell_known S m x found) + 1 ≡ unknown_cell_count m.known
        one = unknowns_set m.known x (payload_of found) (omega (arith, a.state.all, a.in_cells)) a.unknown

        aloud : (s u v x y r l : ℕ) → v + 1 ≡ u → s + (u + (x + (y + 1 + r))) ≤ l → s + 1 + (y - 0 + 1 + r) ≤ l
        aloud s u v x y r l e h = omega arith

        over : (b : Bool) → MachineIsWithinBound S (end_try now b) (end_try now b).place
        over true = record { told = λ q. cc; steps = try_lost m.steps (unknown_cell_count m.known) (unknown_cell_count (with_cell_known S m x found)) (steps_left_in_tries S m) (bound S) one t.steps }
        over false = record { told = λ q. cc; steps = aloud m.steps (unknown_cell_count m.known) (unknown_cell_count (with_cell_known S m x found)) ((MOST_TRIES - m.tries) * (7 * S.cells + 7)) S.instrs (3 * lost_round_steps S + steps_to_apply S) (bound S) one t.steps }

        go : (b : Bool) → MachineIsWithinBound S (after_try_cell S now x found b) (after_try_cell S now x found b).place
        go true = over (nat_lt m.tries MOST_TRIES)
        go false = reads_within (record now { known = with_cell_known S m x found }) (cell_learnt m.steps (unknown_cell_count m.known) (unknown_cell_count (with_cell_known S m x found)) (steps_left_in_tries S m) (bound S) one t.steps)
    within (StoreScript j) a t e = go (nat_lt (j + 1) (length m.op))
      where
        j_in : j < S.instrs
        j_in = omega (arith, a.more, a.fresh.words)

        go : (b : Bool) → MachineIsWithinBound S (after_store_script now j b) (after_store_script now j b).place
        go true = record { told = λ q. cc; steps = word_stored m.steps S.instrs j (3 * lost_round_steps S + steps_to_apply S) (bound S) j_in t.steps }
        go false = record { told = λ q. cc; steps = words_stored m.steps S.instrs j (3 * lost_round_steps S + steps_to_apply S) (bound S) j_in t.steps }
    within StoreAnnouncement a t e = record { told = λ q. cc; steps = sum m.steps m.rounds (lost_round_steps S) (steps_to_apply S) (bound S) a.fresh.rounds t.steps }
      where
        sum : (s r q x l : ℕ) → r ≡ 0 → s + (1 + (3 * q + x)) ≤ l → s + 1 + ((3 - r) * q + x) ≤ l
        sum s r q x l e h = rw e (omega arith)
    within LoadCurrent a t e = record { told = λ q. cc; steps = round_sum m.steps S.cells (S.callers * (S.instrs + 1)) ((3 - (m.rounds + 1)) * lost_round_steps S) ((3 - m.rounds) * lost_round_steps S) (bound S) (round_cost m.rounds (lost_round_steps S) a.between.few) t.steps }
    within LoadRequest a t e = go (is_request_open m.seq (get_or w.words (m.owner + 1) 0))
      where
        opens : (s c x l : ℕ) → s + (6 * c + 6 + x) ≤ l → s + 1 + (2 * c + 1 - 0 + 1 + (4 * c + 3) + x) ≤ l
        opens s c x l h = omega arith

        closed : (s c x l : ℕ) → s + (6 * c + 6 + x) ≤ l → s + 1 + x ≤ l
        closed s c x l h = omega arith

        round : (b : Bool) → (m.rounds == 0) ≡ b → m.steps + 1 + (2 * S.cells + 1 - 0 + 1 + steps_to_apply S + steps_left_after_help S m b) ≤ bound S
        round false q = opens m.steps S.cells (round_steps_after_help S + steps_left_in_rounds S m) (bound S) t.steps
        round true q = let z : m.rounds ≡ 0 = grind (arith, nat_tests) in absurd (omega (arith, a.round.begun_one))

        go : (b : Bool) → MachineIsWithinBound S (after_load_request S now b) (after_load_request S now b).place
        go true = record { told = λ q. cc; steps = round (m.rounds == 0) refl }
        go false = record { told = λ q. cc; steps = closed m.steps S.cells (round_steps_after_help S + steps_left_in_rounds S m) (bound S) t.steps }
    within (CopyLog x) a t e = go (nat_lt (x + 1) (2 * get_or (with_log_word_copied m found) 0 0 + 1))
      where
        found : ℕ
        found = get_or w.words (word_of (want_at S m (CopyLog x))) 0

        go : (b : Bool) → MachineIsWithinBound S (after_copy_log now x found b) (after_copy_log now x found b).place
        go true = record { told = λ q. cc; steps = word_copied m.steps (2 * S.cells + 1) x (steps_to_apply S) (steps_left_after_help S m (m.rounds == 0)) (bound S) (omega (arith, a.in_log, room_upto S.callers S.cells)) t.steps }
        go false = record { told = λ q. cc; steps = words_copied m.steps (2 * S.cells + 1) x (steps_to_apply S) (steps_left_after_help S m (m.rounds == 0)) (bound S) (omega (arith, a.in_log, room_upto S.callers S.cells)) t.steps }
    within LookAgain a t e = go (get_or w.words (m.owner + 1) 0 == pack m.seq 0) (m.rounds == 0) t.steps
      where
        helping : (b : Bool) → b ≡ true → m.steps + 1 + (steps_to_apply S + steps_left_after_apply S m b) ≤ bound S
        helping true q = still_open m.steps (steps_to_apply S) (steps_left_after_help S m (m.rounds == 0)) (bound S) t.steps
        helping false q = cc

        go : (b d : Bool) → m.steps + (1 + steps_to_apply S + steps_left_after_help S m d) ≤ bound S → MachineIsWithinBound S (after_look_again S now b d) (after_look_again S now b d).place
        go true d u = record { told = λ q. cc; steps = helping m.helps a.copies.helps }
        go false d u = resumed_within now d (now_closed m.steps (steps_to_apply S) (steps_left_after_help S m d) (bound S) u)
    within LoadOwnTicket a t e = go (nat_lt m.seq (seq_of found)) (payload_of found == m.made) (m.seq == S.limit)
      where
        found : ℕ
        found = get_or w.words (word_of (want_at S m LoadOwnTicket)) 0

        shape : (s k c p r l : ℕ) → k + 1 ≤ p → s + (5 * c + p + 6 + r) ≤ l → s + 1 + (k + 1) ≤ l
        shape s k c p r l z h = omega arith

        call : (s k c p u y r l : ℕ) → u + 1 ≡ c → k + y ≡ p → s + (5 * c + p + 6 + r) ≤ l → s + 1 + (k + (y + u + (4 * c + 6) + r)) ≤ l
        call s k c p u y r l z q h = omega arith

        cells_in : ticket_cell S m.caller < S.cells
        cells_in = rw a.looks.round.begun.caller (ticket_in_cells g h i h)

        known_one : unknown_cell_count (with_cell_known S m (ticket_cell S m.caller) found) + 1 ≡ S.cells
        known_one = unknowns_set m.known (ticket_cell S m.caller) (payload_of found) (omega (arith, a.looks.state.all, cells_in)) (rw a.no_cell (none_at S.cells (ticket_cell S m.caller))) ∙ ap unknown_cell_count a.no_cell ∙ unknowns_all S.cells

        go : (b c d : Bool) → MachineIsWithinBound S (after_own_ticket S now found b c d) (after_own_ticket S now found b c d).place
        go true c d = record { told = λ q. cc; steps = round_lost m.steps (round_steps_after_help S) (steps_left_in_rounds S m) (bound S) (omega arith) t.steps }
        go false true d = record { told = λ q. cc; steps = shape m.steps S.instrs S.cells (S.callers * (S.instrs + 1)) (steps_left_in_rounds S m) (bound S) words_row t.steps }
        go false false true = record { steps = omega arith; told = λ q. tt }
        go false false false = record {
          told = λ q. cc;
          steps = call m.steps (S.instrs + 1) S.cells (S.callers * (S.instrs + 1)) (unknown_cell_count (with_cell_known S m (ticket_cell S m.caller) found)) ((S.callers - m.scan - 1) * (S.instrs + 1)) (steps_left_in_rounds S m) (bound S)
              known_one (first_row S.callers m.scan (S.instrs + 1) a.no_scan (omega arith)) t.steps;
        }
    within LoadShape a t e = go (nat_lt m.seq (seq_of found)) refl
      where
        found : ℕ
        found = data_word S w.words (shape_cell S m.caller)

        fresh : seq_of (data_word S w.words (shape_cell S m.caller)) ≤ m.seq
        fresh = rw a.looks.round.begun.caller (own_row_old g h m a.looks (done_now g h m a.finds) (shape_cell S i) (omega arith, omega arith))

        go : (b : Bool) → nat_lt m.seq (seq_of found) ≡ b → MachineIsWithinBound S (after_load_shape S now found b) (after_load_shape S now found b).place
        go true q = let z : m.seq < seq_of found = grind (arith, nat_tests) in absurd (omega (arith, fresh))
        go false q = asks_within (with_shape S now found) 0 0 (shape_read m.steps S.instrs (bound S) t.steps) (omega arith) (first_marked_place (payload_of found) 0 S.instrs) (λ k z. omega arith)
    within (LoadReply j) a t e = go (nat_lt m.seq (seq_of found)) refl
      where
        found : ℕ
        found = data_word S w.words (reply_cell S m.caller j)

        fresh : seq_of (data_word S w.words (reply_cell S m.caller j)) ≤ m.seq
        fresh = rw a.looks.round.begun.caller (own_row_old g h m a.looks (done_now g h m a.finds) (reply_cell S i j) (omega arith, omega (arith, a.in_reply)))

        go : (b : Bool) → nat_lt m.seq (seq_of found) ≡ b → MachineIsWithinBound S (after_load_reply S now j found b) (after_load_reply S now j found b).place
        go true q = let z : m.seq < seq_of found = grind (arith, nat_tests) in absurd (omega (arith, fresh))
        go false q = asks_within (with_reply now j found) (j + 1) (j + 1) (reply_read m.steps S.instrs j (bound S) a.in_reply t.steps) (omega arith) (first_marked_place m.raw.shape (j + 1) (S.instrs - j - 1)) (λ k z. (mark_some m.raw.shape (j + 1) (S.instrs - j - 1) k z).0)
    within LoadAnnouncement a t e = go (get_or m.known (ticket_cell S m.scan) None)
      where
        found : ℕ
        found = get_or w.words (word_of (want_at S m LoadAnnouncement)) 0

        go : (r : Option ℕ) → MachineIsWithinBound S (after_announcement S now found r) (after_announcement S now found r).place
        go None = record { told = λ q. cc; steps = row_heard m.steps S.instrs (steps_left_in_scan S m) (bound S) t.steps }
        go (Some v) = weighed_within (record now { heard = found }) a.in_range (row_heard m.steps S.instrs (steps_left_in_scan S m) (bound S) t.steps) (nat_lt v (seq_of found))
    within LoadTicket a t e = go (nat_lt m.seq (seq_of found))
      where
        found : ℕ
        found = get_or w.words (word_of (want_at S m LoadTicket)) 0

        go : (b : Bool) → MachineIsWithinBound S (after_load_ticket S now found b) (after_load_ticket S now found b).place
        go true = record { told = λ q. cc; steps = again_sum m.steps S.instrs ((S.callers - m.scan - 1) * (S.instrs + 1)) (unknown_cell_count m.known) (4 * S.cells + 6) (steps_left_in_rounds S m) (bound S) (omega arith) t.steps }
        go false = weighed_within (record now { known = with_cell_known S m (ticket_cell S m.scan) found }) a.scanning.in_range
            (known_sum m.steps S.instrs ((S.callers - m.scan - 1) * (S.instrs + 1)) (unknown_cell_count m.known) (unknown_cell_count (with_cell_known S m (ticket_cell S m.scan) found)) (4 * S.cells + 6) (steps_left_in_rounds S m) (bound S)
            (unknowns_set m.known (ticket_cell S m.scan) (payload_of found) (omega (arith, a.scanning.past.looks.state.all, ticket_in_cells g h m.scan a.scanning.in_range)) a.unknown) t.steps)
            (nat_lt (payload_of found) (seq_of m.heard))
    within (LoadScript j) a t e = go (nat_lt (j + 1) (payload_of m.heard))
      where
        found : ℕ
        found = get_or w.words (word_of (want_at S m (LoadScript j))) 0

        j_in : j < S.instrs
        j_in = omega (arith, a.more, a.heard.small)

        go : (b : Bool) → MachineIsWithinBound S (after_load_script S now j found b) (after_load_script S now j found b).place
        go true = record { told = λ q. cc; steps = word_loaded m.steps S.instrs j (steps_left_in_scan S m) (bound S) j_in t.steps }
        go false = ran_within (record now { script = with_script_word m found }) a.scanning.in_range (words_loaded m.steps S.instrs j (steps_left_in_scan S m) (bound S) j_in t.steps) (S.meaning.walk (overlaid m.known m.log) (with_script_word m found))
    within (LoadCell x) a t e = go (nat_lt m.seq (seq_of found))
      where
        found : ℕ
        found = get_or w.words (word_of (want_at S m (LoadCell x))) 0

        go : (b : Bool) → MachineIsWithinBound S (after_load_cell S now x found b) (after_load_cell S now x found b).place
        go true = record { told = λ q. cc; steps = again_sum0 m.steps ((S.callers - m.scan - 1) * (S.instrs + 1)) (unknown_cell_count m.known) (4 * S.cells + 6) (steps_left_in_rounds S m) (bound S) (omega arith) t.steps }
        go false = ran_within (record now { known = with_cell_known S m x found }) a.scanning.in_range
            (known_sum0 m.steps ((S.callers - m.scan - 1) * (S.instrs + 1)) (unknown_cell_count m.known) (unknown_cell_count (with_cell_known S m x found)) (4 * S.cells + 6) (steps_left_in_rounds S m) (bound S)
            (unknowns_set m.known x (payload_of found) (omega (arith, a.scanning.past.looks.state.all, a.in_cells)) a.unknown) t.steps)
            (S.meaning.walk (overlaid (with_cell_known S m x found) m.log) m.script)
    within RaiseOld a t e = record { told = λ q. cc; steps = sum m.steps S.cells (steps_left_in_rounds S m) (bound S) t.steps }
      where
        sum : (s c r l : ℕ) → s + (4 * c + 6 + r) ≤ l → s + 1 + (2 * (2 * c + 1 - 0) + 3 + r) ≤ l
        sum s c r l h = omega arith
    within (StoreLog x) a t e = record { told = λ q. cc; steps = log_word_stored m.steps (2 * (2 * S.cells + 1 - x)) (steps_left_in_rounds S m) (bound S) t.steps }
    within (RaiseLog x) a t e = go (nat_lt (x + 1) (length (log_words m.log)))
      where
        x_in : x < 2 * S.cells + 1
        x_in = omega (arith, length-log_words m.log, a.storing.stored.over.over.is_log.few, a.more, room_upto S.callers S.cells)

        go : (b : Bool) → MachineIsWithinBound S (after_raise_log now x b) (after_raise_log now x b).place
        go true = record { told = λ q. cc; steps = log_word_raised m.steps (2 * S.cells + 1) x (steps_left_in_rounds S m) (bound S) x_in t.steps }
        go false = record { told = λ q. cc; steps = log_raised m.steps (2 * S.cells + 1) x (steps_left_in_rounds S m) (bound S) x_in t.steps }
    within StoreRequest a t e = record { told = λ q. cc; steps = fewer m.steps (3 + steps_left_in_rounds S m) (2 + steps_left_in_rounds S m) (bound S) t.steps (omega arith) }
    within RaiseRequest a t e = record { told = λ q. cc; steps = fewer m.steps (2 + steps_left_in_rounds S m) (1 + steps_left_in_rounds S m) (bound S) t.steps (omega arith) }
    within ExchangeCurrent a t e = go (get_or w.words 0 0 == pack m.seq m.owner)
      where
        won : (s y k l : ℕ) → s + (1 + (y + k)) ≤ l → s + 1 + (k + 0) ≤ l
        won s y k l h = omega arith

        go : (b : Bool) → MachineIsWithinBound S (after_commit_exchange now b) (after_commit_exchange now b).place
        go true = record { told = λ q. cc; steps = won m.steps ((3 - m.rounds) * lost_round_steps S) (steps_to_apply S) (bound S) t.steps }
        go false = record { told = λ q. cc; steps = fewer m.steps (1 + steps_left_in_rounds S m) (steps_left_in_rounds S m) (bound S) t.steps (omega arith) }
    within RaiseCurrent a t e = go (nat_lt 0 (length m.log))
      where
        more : (s c r l : ℕ) → s + (4 * c + 3 + r) ≤ l → s + 1 + (4 * (c - 0) + 2 + r) ≤ l
        more s c r l h = omega arith

        none : (s c r l : ℕ) → s + (4 * c + 3 + r) ≤ l → s + 1 + (2 + r) ≤ l
        none s c r l h = omega arith

        go : (b : Bool) → MachineIsWithinBound S (after_raise_current now b) (after_raise_current now b).place
        go true = record { told = λ q. cc; steps = more m.steps S.cells (steps_left_after_apply S m m.helps) (bound S) t.steps }
        go false = record { told = λ q. cc; steps = none m.steps S.cells (steps_left_after_apply S m m.helps) (bound S) t.steps }
    within (LoadTarget j) a t e = go (nat_lt (seq_of found) m.seq)
      where
        found : ℕ
        found = get_or w.words (word_of (want_at S m (LoadTarget j))) 0

        go : (b : Bool) → MachineIsWithinBound S (after_load_target now j found b) (after_load_target now j found b).place
        go true = record { told = λ q. cc; steps = older_found m.steps (4 * (S.cells - j)) (steps_left_after_apply S m m.helps) (bound S) t.steps }
        go false = record { told = λ q. cc; steps = newer_found m.steps (4 * (S.cells - j)) (steps_left_after_apply S m m.helps) (bound S) t.steps }
    within (ExchangeTarget j f) a t e = record { told = λ q. cc; steps = entry_exchanged m.steps (4 * (S.cells - j)) (steps_left_after_apply S m m.helps) (bound S) t.steps }
    within (ReloadTarget j) a t e = record { told = λ q. cc; steps = sum m.steps S.cells j (steps_left_after_apply S m m.helps) (bound S) (omega (arith, a.entry.more, n_cells j a.entry.applies)) t.steps }
      where
        sum : (s c j r l : ℕ) → j < c → s + (4 * (c - j) + r) ≤ l → s + 1 + (4 * (c - j) - 1 + r) ≤ l
        sum s c j r l z h = omega arith
    within (RaiseTarget j f) a t e = go (nat_lt (j + 1) (length m.log))
      where
        j_in : j < S.cells
        j_in = omega (arith, a.entry.more, n_cells j a.entry.applies)

        go : (b : Bool) → MachineIsWithinBound S (next_entry now j b) (next_entry now j b).place
        go true = record { told = λ q. cc; steps = entry_raised m.steps S.cells j (steps_left_after_apply S m m.helps) (bound S) j_in t.steps }
        go false = record { told = λ q. cc; steps = entries_raised m.steps S.cells j (steps_left_after_apply S m m.helps) (bound S) j_in t.steps }
    within CloseRequest a t e = record { told = λ q. cc; steps = request_closed m.steps (steps_left_after_apply S m m.helps) (bound S) t.steps }
    within RaiseClosed a t e = go m.helps (m.rounds == 0) refl t.steps
      where
        sum0 : (s l : ℕ) → s + (1 + 0) ≤ l → s + 1 ≤ l
        sum0 s l h = omega arith

        go : (b d : Bool) → (m.rounds == 0) ≡ d → m.steps + (1 + steps_left_after_apply S m b) ≤ bound S → MachineIsWithinBound S (after_raise_closed S now b d) (after_raise_closed S now b d).place
        go true d q u = resumed_within now d (subst (λ (x : Bool). m.steps + 1 + steps_left_after_help S m x ≤ bound S) q (apply_ended m.steps (steps_left_after_help S m (m.rounds == 0)) (bound S) u))
        go false d q u = record { steps = omega arith; told = λ q. sum0 m.steps (bound S) u }
