-- No call makes more steps than what it touches allows.
use Rattle.std.proofs.Common.{◌≡◌, ◌⊎◌, inl, inr, ℕ, ◌+◌, ◌*◌, ◌-◌, ◌<◌, ◌≤◌, ◌==◌, List, [], ◌∷◌, length, get_or, refl, sym, ◌∙◌, ap, subst, arith, Option, Some, None, Bool, true, false, nat_lt}
use Rattle.std.proofs.lemmas.Bool.{cases_eq}
use Rattle.std.proofs.lemmas.Bool.Decides.{nat_tests}
use Rattle.std.proofs.lemmas.List.{get_or-set_same, get_or-set_other}
use Rattle.of_core.specs.declared.machine.trying.TheConstants.{MOST_TRIES}
use Rattle.of_cell.specs.Words.{pack, seq_of, payload_of}
use Rattle.of_cell.proofs.Places.{row_within}
use Rattle.of_mem.specs.Meaning.{WalkEnd, Needs, Gives, IsSoundMeaning}
use Rattle.of_mem.specs.Part.{overlaid}
use Rattle.of_core.specs.declared.place.Place.{Place}
use Rattle.of_core.specs.declared.place.Place.TheVariants.{Idle, TryCurrent, TryRequest, TryCell, StoreScript, StoreAnnouncement, LoadCurrent, LoadRequest, CopyLog, LookAgain, LoadOwnTicket, LoadShape, LoadReply, LoadAnnouncement, LoadTicket, LoadScript, LoadCell, RaiseOld, StoreLog, RaiseLog, StoreRequest, RaiseRequest, ExchangeCurrent, RaiseCurrent, LoadTarget, ExchangeTarget, ReloadTarget, RaiseTarget, CloseRequest, RaiseClosed}
use Rattle.of_core.specs.Table.{Setup, first_operation_cell, ticket_cell, shape_cell, reply_cell, data_word}
use Rattle.of_core.specs.Machine.{CallState, IsOpen, is_idle, no_machine, no_cell_known, with_cell_known, log_words, begin_call, first_place}
use Rattle.of_core.specs.Steps.{read_on, after_read_run, begin_reading, resume, after_try_request, end_try, after_try_cell, want, want_at, word_of, word_found, take_word, take_word_at, with_step_counted, after_store_script, after_load_request, after_copy_log, after_look_again, after_own_ticket, after_load_shape, with_shape, after_load_reply, with_reply, next_reply_place, first_marked_place, after_announcement, weigh, after_load_ticket, after_load_script, with_script_word, after_script_run, next_scanned_caller, with_call_run, after_load_cell, after_raise_log, after_commit_exchange, after_raise_current, after_load_target, next_entry, after_raise_closed, is_request_open, with_log_word_copied}
use Rattle.of_core.specs.TableMoment.{Moment, TableStart}
use Rattle.of_core.specs.Invariant.{HoldsAtPlace, MeetsCore, MeetsInvariant}
use Rattle.of_core.specs.Events.{Event, Begins, Turns, Loads, Evicts, Raises, Revives, after_event, MayHappen, machine_in, after_events, turn_count, turns_in_event, IsSchedule, KeepsMachine, StaysOpen}
use Rattle.of_core.specs.Footprint.{knowns, next_load, Touches, TouchesOnly, apply_steps, help_steps, store_steps, try_steps, round_steps, footprint, HasFootprint}
use Rattle.of_core.proofs.KnownCells.{knowns_none, knowns_set}
use Rattle.of_core.proofs.Logs.{length-log_words}
use Rattle.of_core.proofs.Tests.{differ, mark_some, is_newer}
use Rattle.of_core.proofs.Rounds.{own_row_old}
use Rattle.of_core.proofs.OwnReply.{done_now}
use Rattle.of_core.proofs.Scans.{ticket_in_cells}
use Rattle.of_core.proofs.Happenings.{event_good}
use Rattle.of_core.proofs.InTime.{steps_rise, of_machine, now_open}
use Rattle.of_mem.proofs.Lists.{none_at}
use Rattle.of_core.proofs.StepSums.{fewer, row_cost, first_row, next_sum, done_sum, known_sum, known_sum0, again_sum, again_sum0, try_lost, cell_learnt, word_stored, words_stored, word_copied, words_copied, still_open, now_closed, round_lost, shape_read, reply_read, replies_skipped, row_heard, row_begun, row_skipped, word_loaded, words_loaded, log_word_stored, log_word_raised, log_raised, older_found, newer_found, entry_exchanged, entry_raised, entries_raised, request_closed, apply_ended}

one_more : (r q : ℕ) → (r + 1) * q ≡ r * q + q
one_more r q = grind arith

-- What is left of a try or a round, and behind it.
module _ (S : Setup) (W R : ℕ) where
  -- what the call may make, with the tries and rounds that it has begun
  abbrev pub allowed : CallState → ℕ
  allowed m = footprint S m.op W R m.tries m.rounds

  -- behind a try: the announcement, and an apply of one's own
  abbrev pub announced : CallState → ℕ
  announced m = length m.op + 1 + apply_steps W

  abbrev pub behind_help : ℕ
  behind_help = R + S.callers * (S.instrs + 1) + store_steps W

  abbrev pub helped : CallState → (in_try : Bool) → ℕ
  helped m true = R + announced m
  helped m false = behind_help + apply_steps W

  abbrev pub behind_apply : CallState → Bool → ℕ
  behind_apply m true = helped m (m.rounds == 0)
  behind_apply m false = 0

  abbrev pub scan_left : CallState → ℕ
  scan_left m = (S.callers - m.scan - 1) * (S.instrs + 1) + (R - knowns m.known) + store_steps W + apply_steps W

  -- what is left at a place, without further tries and rounds
  abbrev pub left_at : CallState → Place → ℕ
  left_at m Idle = 0
  left_at m TryCurrent = announced m
  left_at m TryRequest = 1 + help_steps W + R + announced m
  left_at m (TryCell a) = R - knowns m.known + announced m
  left_at m (StoreScript j) = length m.op - j + 1 + apply_steps W
  left_at m StoreAnnouncement = 1 + apply_steps W
  left_at m LoadCurrent = apply_steps W
  left_at m LoadRequest = 1 + help_steps W + (behind_help + apply_steps W)
  left_at m (CopyLog x) = 2 * W + 1 - x + 1 + apply_steps W + helped m (m.rounds == 0)
  left_at m LookAgain = 1 + apply_steps W + helped m (m.rounds == 0)
  left_at m LoadOwnTicket = behind_help + apply_steps W
  left_at m LoadShape = S.instrs + 1
  left_at m (LoadReply j) = S.instrs - j
  left_at m LoadAnnouncement = S.instrs + 1 + scan_left m
  left_at m LoadTicket = S.instrs + scan_left m
  left_at m (LoadScript j) = S.instrs - j + scan_left m
  left_at m (LoadCell a) = scan_left m
  left_at m RaiseOld = store_steps W + apply_steps W
  left_at m (StoreLog x) = 2 * (2 * W + 1 - x) + 3 + apply_steps W
  left_at m (RaiseLog x) = 2 * (2 * W + 1 - x) + 2 + apply_steps W
  left_at m StoreRequest = 3 + apply_steps W
  left_at m RaiseRequest = 2 + apply_steps W
  left_at m ExchangeCurrent = 1 + apply_steps W
  left_at m RaiseCurrent = apply_steps W + behind_apply m m.helps
  left_at m (LoadTarget j) = 4 * (W - j) + 2 + behind_apply m m.helps
  left_at m (ExchangeTarget j f) = 4 * (W - j) + 1 + behind_apply m m.helps
  left_at m (ReloadTarget j) = 4 * (W - j) + behind_apply m m.helps
  left_at m (RaiseTarget j f) = 4 * (W - j) - 1 + behind_apply m m.helps
  left_at m CloseRequest = 2 + behind_apply m m.helps
  left_at m RaiseClosed = 1 + behind_apply m m.helps

-- the tries and rounds of a call
abbrev pub Few : Setup → CallState → Type 0
Few S m = (m.tries ≤ MOST_TRIES) × (m.rounds ≤ 3) × (S.meaning.reads_only m.op ≡ false → m.tries ≡ 0)

-- a helper copies no more words than its log has
abbrev pub CopiesUpto : ℕ → Place → Type 0
CopiesUpto W (CopyLog x) = x < 2 * W + 1
CopiesUpto W p = Unit {0}

-- the steps made and those left are at most what is allowed
pub record Spares (S : Setup) (W R : ℕ) (m : CallState) (p : Place) : Type 0 where
  pub steps : m.steps + left_at S W R m p ≤ allowed S W R m
  pub few : Few S m
  pub copies : CopiesUpto W p

-- a call that opens
pub opens_sparing : (S : Setup) (W R : ℕ) (m : CallState) (op : List ℕ) → Spares S W R (begin_call S m op) (begin_call S m op).place
opens_sparing S W R m op = go (S.meaning.reads_only op)
  where
    few : Few S (begin_call S m op)
    few = (omega arith, omega arith, λ q. refl)

    first : (o a q r : ℕ) → 0 + (o + 1 + a) ≤ 0 * q + (o + 1) + (0 * r + a)
    first o a q r = omega arith

    sum : (o a q r : ℕ) → 0 + (o - 0 + 1 + a) ≤ 0 * q + (o + 1) + (0 * r + a)
    sum o a q r = omega arith

    go : (b : Bool) → Spares S W R (record (begin_call S m op) { place = first_place b }) (first_place b)
    go true = record { copies = tt; few = few; steps = first (length op) (apply_steps W) (try_steps W R) (round_steps S W R) }
    go false = record { copies = tt; few = few; steps = sum (length op) (apply_steps W) (try_steps W R) (round_steps S W R) }

module _ (S : Setup) (W R : ℕ) where
  -- the scan goes on behind the caller that it has come to
  next_sparing : (n : CallState) → Few S n → n.scan < S.callers → n.steps + scan_left S W R n ≤ allowed S W R n → (b : Bool) → nat_lt (n.scan + 1) S.callers ≡ b → Spares S W R (next_scanned_caller n b) (next_scanned_caller n b).place
  next_sparing n f l h true e = record {
    copies = tt;
    few = f;
    steps = next_sum n.steps (S.instrs + 1) ((S.callers - (n.scan + 1) - 1) * (S.instrs + 1)) ((S.callers - n.scan - 1) * (S.instrs + 1)) (R - knowns n.known) (store_steps W) (apply_steps W) (allowed S W R n)
        (row_cost S.callers n.scan (S.instrs + 1) (is_newer (n.scan + 1) S.callers e)) h;
  }
  next_sparing n f l h false e = record { copies = tt; few = f; steps = done_sum n.steps ((S.callers - n.scan - 1) * (S.instrs + 1)) (R - knowns n.known) (store_steps W) (apply_steps W) (allowed S W R n) h }

  weighed_sparing : (n : CallState) → Few S n → n.scan < S.callers → n.steps + (S.instrs + scan_left S W R n) ≤ allowed S W R n → (b : Bool) → Spares S W R (weigh S n b) (weigh S n b).place
  weighed_sparing n f l h true = record { copies = tt; few = f; steps = row_begun n.steps S.instrs (scan_left S W R n) (allowed S W R n) h }
  weighed_sparing n f l h false = next_sparing n f l (row_skipped n.steps S.instrs (scan_left S W R n) (allowed S W R n) h) (nat_lt (n.scan + 1) S.callers) refl

  ran_sparing : (n : CallState) → Few S n → n.scan < S.callers → n.steps + scan_left S W R n ≤ allowed S W R n → (r : WalkEnd) → Spares S W R (after_script_run S n r) (after_script_run S n r).place
  ran_sparing n f l h (Needs a) = record { copies = tt; few = f; steps = h }
  ran_sparing n f l h (Gives es r) = next_sparing (with_call_run S n es r) f l h (nat_lt (n.scan + 1) S.callers) refl

  asks_sparing : (n : CallState) (x : ℕ) → Few S n → n.steps + (S.instrs - x) ≤ allowed S W R n → (r : Option ℕ) → ((k : ℕ) → r ≡ Some k → x ≤ k) → Spares S W R (next_reply_place n r) (next_reply_place n r).place
  asks_sparing n x f h None g = record { copies = tt; few = f; steps = none n.steps (S.instrs - x) (allowed S W R n) h }
    where
      none : (s y l : ℕ) → s + y ≤ l → 0 + 0 ≤ l
      none s y l h = omega arith
  asks_sparing n x f h (Some k) g = record { copies = tt; few = f; steps = replies_skipped n.steps S.instrs x k (allowed S W R n) h (g k refl) }

  reads_sparing : (n : CallState) → Few S n → n.steps + (R - knowns n.known + announced S W R n) ≤ allowed S W R n → Spares S W R (read_on S n) (read_on S n).place
  reads_sparing n f h = go (S.meaning.walk n.known n.op)
    where
      go : (r : WalkEnd) → Spares S W R (after_read_run n r) (after_read_run n r).place
      go (Needs a) = record { copies = tt; few = f; steps = h }
      go (Gives es r) = record { copies = tt; few = f; steps = omega arith }

  tried_sparing : (n : CallState) → Few S n → n.steps + (R + announced S W R n) ≤ allowed S W R n → Spares S W R (begin_reading S n) (begin_reading S n).place
  tried_sparing n f h = reads_sparing (record n { known = no_cell_known S; helps = false }) f (all n.steps R (knowns (no_cell_known S)) (announced S W R n) (allowed S W R n) (knowns_none S.cells) h)
    where
      all : (s r k a l : ℕ) → k ≡ 0 → s + (r + a) ≤ l → s + (r - k + a) ≤ l
      all s r k a l e h = omega arith

  entered_sum : (s x l : ℕ) → s + x ≤ l → s + x ≤ l
  entered_sum s x l h = h

  resumed_sparing : (n : CallState) (b : Bool) → Few S n → n.steps + helped S W R n b ≤ allowed S W R n → Spares S W R (resume S n b) (resume S n b).place
  resumed_sparing n true f h = tried_sparing n f h
  resumed_sparing n false f h = record { copies = tt; few = f; steps = h }

  module _ (Lawful : List ℕ → Type 0) (B : TableStart) (w : Moment) (g : MeetsCore S Lawful B w) (i : ℕ) (m : CallState) (h : i < S.callers) (u : Touches m W R) where
    -- with the step counted
    abbrev now : CallState
    now = record m { steps = m.steps + 1 }

    words_row : S.instrs + 1 ≤ S.callers * (S.instrs + 1)
    words_row = let r : i * (S.instrs + 1) + (S.instrs + 1) ≤ S.callers * (S.instrs + 1) = row_within i S.callers (S.instrs + 1) h in omega arith

    -- the cells that are known, and the one that the place loads
    loads_upto : (p : Place) → m.place ≡ p → knowns m.known + next_load p ≤ R
    loads_upto p e = subst (λ (q : Place). knowns m.known + next_load q ≤ R) e u.cells

    -- a cell that is loaded leaves one less to load
    learns : (p : Place) (a v : ℕ) → m.place ≡ p → next_load p ≡ 1 → a < length m.known → get_or m.known a None ≡ None → R - knowns (with_cell_known S m a v) + 1 ≡ R - knowns m.known
    learns p a v e one l n = sum R (knowns m.known) (next_load p) (knowns (with_cell_known S m a v)) one (loads_upto p e) (knowns_set m.known a (payload_of v) l n)
      where
        sum : (r k o x : ℕ) → o ≡ 1 → k + o ≤ r → x ≡ k + 1 → r - x + 1 ≡ r - k
        sum r k o x q z y = omega arith

    -- the step from the place p, which leads to this machine
    abbrev stepped_to : Place → CallState
    stepped_to p = take_word_at S (with_step_counted p m) (get_or w.words (word_of (want_at S m p)) 0) p

    -- each step leaves one less
    sparing : (p : Place) → IsOpen p → HoldsAtPlace S B w.words w.batches i m p → Spares S W R m p → m.place ≡ p → Touches (stepped_to p) W R → Spares S W R (stepped_to p) (stepped_to p).place
    sparing Idle o a t e v = cc
    sparing TryCurrent o a t e v = record {
      copies = tt;
      few = (omega (arith, a.few), t.few.1, λ q. let z : true ≡ false = sym a.reads ∙ q in cc);
      steps = sum m.steps W R (m.tries * try_steps W R) ((m.tries + 1) * try_steps W R) (length m.op + 1) (m.rounds * round_steps S W R) (one_more m.tries (try_steps W R)) t.steps;
    }
      where
        sum : (s c r x y k q : ℕ) → y ≡ x + try_steps c r → s + (k + apply_steps c) ≤ x + k + (q + apply_steps c)
            → s + 1 + (1 + help_steps c + r + (k + apply_steps c)) ≤ y + k + (q + apply_steps c)
        sum s c r x y k q e h = omega arith
    sparing TryRequest o a t e v = go (is_request_open m.seq (get_or w.words (m.owner + 1) 0))
      where
        opens : (s c r x l : ℕ) → s + (1 + help_steps c + r + x) ≤ l → s + 1 + (2 * c + 1 - 0 + 1 + apply_steps c + (r + x)) ≤ l
        opens s c r x l h = omega arith

        closed : (s k r x l : ℕ) → s + (1 + k + r + x) ≤ l → s + 1 + (r + x) ≤ l
        closed s k r x l h = omega arith

        trying : (b : Bool) → (m.rounds == 0) ≡ b → m.steps + 1 + (2 * W + 1 - 0 + 1 + apply_steps W + helped S W R m b) ≤ allowed S W R m
        trying true q = opens m.steps W R (announced S W R m) (allowed S W R m) t.steps
        trying false q = absurd (differ m.rounds 0 q a.trying.fresh.rounds)

        go : (b : Bool) → Spares S W R (after_try_request S now b) (after_try_request S now b).place
        go true = record { copies = omega arith; few = t.few; steps = trying (m.rounds == 0) refl }
        go false = tried_sparing now t.few (closed m.steps (help_steps W) R (announced S W R m) (allowed S W R m) t.steps)
    sparing (TryCell x) o a t e v = go (nat_lt m.seq (seq_of found))
      where
        found : ℕ
        found = get_or w.words (word_of (want_at S m (TryCell x))) 0

        one : R - knowns (with_cell_known S m x found) + 1 ≡ R - knowns m.known
        one = learns (TryCell x) x found e refl (omega (arith, a.state.all, a.in_cells)) a.unknown

        aloud : (s u v y r l : ℕ) → v + 1 ≡ u → s + (u + (y + 1 + r)) ≤ l → s + 1 + (y - 0 + 1 + r) ≤ l
        aloud s u v y r l e h = omega arith

        over : (b : Bool) → Spares S W R (end_try now b) (end_try now b).place
        over true = record { copies = tt; few = t.few; steps = try_lost m.steps (R - knowns m.known) (R - knowns (with_cell_known S m x found)) (announced S W R m) (allowed S W R m) one t.steps }
        over false = record { copies = tt; few = t.few; steps = aloud m.steps (R - knowns m.known) (R - knowns (with_cell_known S m x found)) (length m.op) (apply_steps W) (allowed S W R m) one t.steps }

        go : (b : Bool) → Spares S W R (after_try_cell S now x found b) (after_try_cell S now x found b).place
        go true = over (nat_lt m.tries MOST_TRIES)
        go false = reads_sparing (record now { known = with_cell_known S m x found }) t.few (cell_learnt m.steps (R - knowns m.known) (R - knowns (with_cell_known S m x found)) (announced S W R m) (allowed S W R m) one t.steps)
    sparing (StoreScript j) o a t e v = go (nat_lt (j + 1) (length m.op))
      where
        go : (b : Bool) → Spares S W R (after_store_script now j b) (after_store_script now j b).place
        go true = record { copies = tt; few = t.few; steps = word_stored m.steps (length m.op) j (apply_steps W) (allowed S W R m) a.more t.steps }
        go false = record { copies = tt; few = t.few; steps = words_stored m.steps (length m.op) j (apply_steps W) (allowed S W R m) a.more t.steps }
    sparing StoreAnnouncement o a t e v = record { copies = tt; few = t.few; steps = fewer m.steps (1 + apply_steps W) (apply_steps W) (allowed S W R m) t.steps (omega arith) }
    sparing LoadCurrent o a t e v = record {
      copies = tt;
      few = (t.few.0, omega (arith, a.between.few), t.few.2);
      steps = sum m.steps W R (S.callers * (S.instrs + 1)) (m.tries * try_steps W R + (length m.op + 1)) (m.rounds * round_steps S W R) ((m.rounds + 1) * round_steps S W R) (one_more m.rounds (round_steps S W R)) t.steps;
    }
      where
        sum : (s c r p k x y : ℕ) → y ≡ x + (2 + help_steps c + r + p + store_steps c) → s + apply_steps c ≤ k + (x + apply_steps c)
            → s + 1 + (1 + help_steps c + (r + p + store_steps c + apply_steps c)) ≤ k + (y + apply_steps c)
        sum s c r p k x y e h = omega arith
    sparing LoadRequest o a t e v = go (is_request_open m.seq (get_or w.words (m.owner + 1) 0))
      where
        opens : (s c x l : ℕ) → s + (1 + help_steps c + x) ≤ l → s + 1 + (2 * c + 1 - 0 + 1 + apply_steps c + x) ≤ l
        opens s c x l h = omega arith

        closed : (s k x l : ℕ) → s + (1 + k + x) ≤ l → s + 1 + x ≤ l
        closed s k x l h = omega arith

        round : (b : Bool) → (m.rounds == 0) ≡ b → m.steps + 1 + (2 * W + 1 - 0 + 1 + apply_steps W + helped S W R m b) ≤ allowed S W R m
        round false q = opens m.steps W (behind_help S W R + apply_steps W) (allowed S W R m) t.steps
        round true q = let z : m.rounds ≡ 0 = grind (arith, nat_tests) in absurd (omega (arith, a.round.begun_one))

        go : (b : Bool) → Spares S W R (after_load_request S now b) (after_load_request S now b).place
        go true = record { copies = omega arith; few = t.few; steps = round (m.rounds == 0) refl }
        go false = record { copies = tt; few = t.few; steps = closed m.steps (help_steps W) (behind_help S W R + apply_steps W) (allowed S W R m) t.steps }
    sparing (CopyLog x) o a t e v = go (nat_lt (x + 1) (2 * get_or (with_log_word_copied m found) 0 0 + 1)) refl v
      where
        found : ℕ
        found = get_or w.words (word_of (want_at S m (CopyLog x))) 0

        under : (x n c : ℕ) → x < 2 * n + 1 → n ≤ c → x < 2 * c + 1
        under x n c l k = omega arith

        go : (b : Bool) → nat_lt (x + 1) (2 * get_or (with_log_word_copied m found) 0 0 + 1) ≡ b → Touches (after_copy_log now x found b) W R → Spares S W R (after_copy_log now x found b) (after_copy_log now x found b).place
        go true q v = record {
          copies = under (x + 1) (get_or (with_log_word_copied m found) 0 0) W (is_newer (x + 1) (2 * get_or (with_log_word_copied m found) 0 0 + 1) q) v.copy;
          few = t.few;
          steps = word_copied m.steps (2 * W + 1) x (apply_steps W) (helped S W R m (m.rounds == 0)) (allowed S W R m) t.copies t.steps;
        }
        go false q v = record { copies = tt; few = t.few; steps = words_copied m.steps (2 * W + 1) x (apply_steps W) (helped S W R m (m.rounds == 0)) (allowed S W R m) t.copies t.steps }
    sparing LookAgain o a t e v = go (get_or w.words (m.owner + 1) 0 == pack m.seq 0) (m.rounds == 0) t.steps
      where
        helping : (b : Bool) → b ≡ true → m.steps + 1 + (apply_steps W + behind_apply S W R m b) ≤ allowed S W R m
        helping true q = still_open m.steps (apply_steps W) (helped S W R m (m.rounds == 0)) (allowed S W R m) t.steps
        helping false q = cc

        go : (b d : Bool) → m.steps + (1 + apply_steps W + helped S W R m d) ≤ allowed S W R m → Spares S W R (after_look_again S now b d) (after_look_again S now b d).place
        go true d z = record { copies = tt; few = t.few; steps = helping m.helps a.copies.helps }
        go false d z = resumed_sparing now d t.few (now_closed m.steps (apply_steps W) (helped S W R m d) (allowed S W R m) z)
    sparing LoadOwnTicket o a t e v = go (nat_lt m.seq (seq_of found)) (payload_of found == m.made) (m.seq == S.limit)
      where
        found : ℕ
        found = get_or w.words (word_of (want_at S m LoadOwnTicket)) 0

        shape : (s k r p d x l : ℕ) → k + 1 ≤ p → 1 ≤ d → s + (r + p + d + x) ≤ l → s + 1 + (k + 1) ≤ l
        shape s k r p d x l z q h = omega arith

        call : (s k r p u y d x l : ℕ) → u + 1 ≡ r → k + y ≡ p → s + (r + p + d + x) ≤ l → s + 1 + (k + (y + u + d + x)) ≤ l
        call s k r p u y d x l z q h = omega arith

        none : (s x l : ℕ) → s + x ≤ l → 0 + 0 ≤ l
        none s x l h = omega arith

        cells_in : ticket_cell S m.caller < S.cells
        cells_in = rw a.looks.round.begun.caller (ticket_in_cells g h i h)

        known_one : R - knowns (with_cell_known S m (ticket_cell S m.caller) found) + 1 ≡ R
        known_one = learns LoadOwnTicket (ticket_cell S m.caller) found e refl (omega (arith, a.looks.state.all, cells_in)) (rw a.no_cell (none_at S.cells (ticket_cell S m.caller))) ∙ all (knowns m.known) (ap knowns a.no_cell ∙ knowns_none S.cells)
          where
            all : (k : ℕ) → k ≡ 0 → R - k ≡ R
            all k e = omega arith

        go : (b c d : Bool) → Spares S W R (after_own_ticket S now found b c d) (after_own_ticket S now found b c d).place
        go true c d = record { copies = tt; few = t.few; steps = round_lost m.steps (behind_help S W R) (apply_steps W) (allowed S W R m) (omega arith) t.steps }
        go false true d = record { copies = tt; few = t.few; steps = shape m.steps S.instrs R (S.callers * (S.instrs + 1)) (store_steps W) (apply_steps W) (allowed S W R m) words_row (omega arith) t.steps }
        go false false true = record { copies = tt; few = t.few; steps = none m.steps (behind_help S W R + apply_steps W) (allowed S W R m) t.steps }
        go false false false = record {
          copies = tt;
          few = t.few;
          steps = call m.steps (S.instrs + 1) R (S.callers * (S.instrs + 1)) (R - knowns (with_cell_known S m (ticket_cell S m.caller) found)) ((S.callers - m.scan - 1) * (S.instrs + 1)) (store_steps W) (apply_steps W) (allowed S W R m)
              known_one (first_row S.callers m.scan (S.instrs + 1) a.no_scan (omega arith)) t.steps;
        }
    sparing LoadShape o a t e v = go (nat_lt m.seq (seq_of found)) refl
      where
        found : ℕ
        found = data_word S w.words (shape_cell S m.caller)

        fresh : seq_of (data_word S w.words (shape_cell S m.caller)) ≤ m.seq
        fresh = rw a.looks.round.begun.caller (own_row_old g h m a.looks (done_now g h m a.finds) (shape_cell S i) (omega arith, omega arith))

        go : (b : Bool) → nat_lt m.seq (seq_of found) ≡ b → Spares S W R (after_load_shape S now found b) (after_load_shape S now found b).place
        go true q = let z : m.seq < seq_of found = is_newer m.seq (seq_of found) q in absurd (omega (arith, fresh))
        go false q = asks_sparing (with_shape S now found) 0 t.few (shape_read m.steps S.instrs (allowed S W R m) t.steps) (first_marked_place (payload_of found) 0 S.instrs) (λ k z. omega arith)
    sparing (LoadReply j) o a t e v = go (nat_lt m.seq (seq_of found)) refl
      where
        found : ℕ
        found = data_word S w.words (reply_cell S m.caller j)

        fresh : seq_of (data_word S w.words (reply_cell S m.caller j)) ≤ m.seq
        fresh = rw a.looks.round.begun.caller (own_row_old g h m a.looks (done_now g h m a.finds) (reply_cell S i j) (omega arith, omega (arith, a.in_reply)))

        go : (b : Bool) → nat_lt m.seq (seq_of found) ≡ b → Spares S W R (after_load_reply S now j found b) (after_load_reply S now j found b).place
        go true q = let z : m.seq < seq_of found = is_newer m.seq (seq_of found) q in absurd (omega (arith, fresh))
        go false q = asks_sparing (with_reply now j found) (j + 1) t.few (reply_read m.steps S.instrs j (allowed S W R m) a.in_reply t.steps) (first_marked_place m.raw.shape (j + 1) (S.instrs - j - 1)) (λ k z. (mark_some m.raw.shape (j + 1) (S.instrs - j - 1) k z).0)
    sparing LoadAnnouncement o a t e v = go (get_or m.known (ticket_cell S m.scan) None)
      where
        found : ℕ
        found = get_or w.words (word_of (want_at S m LoadAnnouncement)) 0

        go : (r : Option ℕ) → Spares S W R (after_announcement S now found r) (after_announcement S now found r).place
        go None = record { copies = tt; few = t.few; steps = row_heard m.steps S.instrs (scan_left S W R m) (allowed S W R m) t.steps }
        go (Some x) = weighed_sparing (record now { heard = found }) t.few a.in_range (row_heard m.steps S.instrs (scan_left S W R m) (allowed S W R m) t.steps) (nat_lt x (seq_of found))
    sparing LoadTicket o a t e v = go (nat_lt m.seq (seq_of found))
      where
        found : ℕ
        found = get_or w.words (word_of (want_at S m LoadTicket)) 0

        go : (b : Bool) → Spares S W R (after_load_ticket S now found b) (after_load_ticket S now found b).place
        go true = record { copies = tt; few = t.few; steps = again_sum m.steps S.instrs ((S.callers - m.scan - 1) * (S.instrs + 1)) (R - knowns m.known) (store_steps W) (apply_steps W) (allowed S W R m) (omega arith) t.steps }
        go false = weighed_sparing (record now { known = with_cell_known S m (ticket_cell S m.scan) found }) t.few a.scanning.in_range
            (known_sum m.steps S.instrs ((S.callers - m.scan - 1) * (S.instrs + 1)) (R - knowns m.known) (R - knowns (with_cell_known S m (ticket_cell S m.scan) found)) (store_steps W) (apply_steps W) (allowed S W R m)
            (learns LoadTicket (ticket_cell S m.scan) found e refl (omega (arith, a.scanning.past.looks.state.all, ticket_in_cells g h m.scan a.scanning.in_range)) a.unknown) t.steps)
            (nat_lt (payload_of found) (seq_of m.heard))
    sparing (LoadScript j) o a t e v = go (nat_lt (j + 1) (payload_of m.heard))
      where
        found : ℕ
        found = get_or w.words (word_of (want_at S m (LoadScript j))) 0

        j_in : j < S.instrs
        j_in = omega (arith, a.more, a.heard.small)

        go : (b : Bool) → Spares S W R (after_load_script S now j found b) (after_load_script S now j found b).place
        go true = record { copies = tt; few = t.few; steps = word_loaded m.steps S.instrs j (scan_left S W R m) (allowed S W R m) j_in t.steps }
        go false = ran_sparing (record now { script = with_script_word m found }) t.few a.scanning.in_range (words_loaded m.steps S.instrs j (scan_left S W R m) (allowed S W R m) j_in t.steps) (S.meaning.walk (overlaid m.known m.log) (with_script_word m found))
    sparing (LoadCell x) o a t e v = go (nat_lt m.seq (seq_of found))
      where
        found : ℕ
        found = get_or w.words (word_of (want_at S m (LoadCell x))) 0

        go : (b : Bool) → Spares S W R (after_load_cell S now x found b) (after_load_cell S now x found b).place
        go true = record { copies = tt; few = t.few; steps = again_sum0 m.steps ((S.callers - m.scan - 1) * (S.instrs + 1)) (R - knowns m.known) (store_steps W) (apply_steps W) (allowed S W R m) (omega arith) t.steps }
        go false = ran_sparing (record now { known = with_cell_known S m x found }) t.few a.scanning.in_range
            (known_sum0 m.steps ((S.callers - m.scan - 1) * (S.instrs + 1)) (R - knowns m.known) (R - knowns (with_cell_known S m x found)) (store_steps W) (apply_steps W) (allowed S W R m)
            (learns (LoadCell x) x found e refl (omega (arith, a.scanning.past.looks.state.all, a.in_cells)) a.unknown) t.steps)
            (S.meaning.walk (overlaid (with_cell_known S m x found) m.log) m.script)
    sparing RaiseOld o a t e v = record { copies = tt; few = t.few; steps = sum m.steps W (apply_steps W) (allowed S W R m) t.steps }
      where
        sum : (s c r l : ℕ) → s + (store_steps c + r) ≤ l → s + 1 + (2 * (2 * c + 1 - 0) + 3 + r) ≤ l
        sum s c r l h = omega arith
    sparing (StoreLog x) o a t e v = record { copies = tt; few = t.few; steps = log_word_stored m.steps (2 * (2 * W + 1 - x)) (apply_steps W) (allowed S W R m) t.steps }
    sparing (RaiseLog x) o a t e v = go (nat_lt (x + 1) (length (log_words m.log)))
      where
        x_in : x < 2 * W + 1
        x_in = sum x (length m.log) (length (log_words m.log)) W (length-log_words m.log) u.log a.more
          where
            sum : (x n k c : ℕ) → k ≡ 2 * n + 1 → n ≤ c → x < k → x < 2 * c + 1
            sum x n k c e l z = omega arith

        go : (b : Bool) → Spares S W R (after_raise_log now x b) (after_raise_log now x b).place
        go true = record { copies = tt; few = t.few; steps = log_word_raised m.steps (2 * W + 1) x (apply_steps W) (allowed S W R m) x_in t.steps }
        go false = record { copies = tt; few = t.few; steps = log_raised m.steps (2 * W + 1) x (apply_steps W) (allowed S W R m) x_in t.steps }
    sparing StoreRequest o a t e v = record { copies = tt; few = t.few; steps = fewer m.steps (3 + apply_steps W) (2 + apply_steps W) (allowed S W R m) t.steps (omega arith) }
    sparing RaiseRequest o a t e v = record { copies = tt; few = t.few; steps = fewer m.steps (2 + apply_steps W) (1 + apply_steps W) (allowed S W R m) t.steps (omega arith) }
    sparing ExchangeCurrent o a t e v = go (get_or w.words 0 0 == pack m.seq m.owner)
      where
        won : (s k l : ℕ) → s + (1 + k) ≤ l → s + 1 + (k + 0) ≤ l
        won s k l h = omega arith

        go : (b : Bool) → Spares S W R (after_commit_exchange now b) (after_commit_exchange now b).place
        go true = record { copies = tt; few = t.few; steps = won m.steps (apply_steps W) (allowed S W R m) t.steps }
        go false = record { copies = tt; few = t.few; steps = fewer m.steps (1 + apply_steps W) (apply_steps W) (allowed S W R m) t.steps (omega arith) }
    sparing RaiseCurrent o a t e v = go (nat_lt 0 (length m.log))
      where
        more : (s c r l : ℕ) → s + (apply_steps c + r) ≤ l → s + 1 + (4 * (c - 0) + 2 + r) ≤ l
        more s c r l h = omega arith

        none : (s c r l : ℕ) → s + (apply_steps c + r) ≤ l → s + 1 + (2 + r) ≤ l
        none s c r l h = omega arith

        go : (b : Bool) → Spares S W R (after_raise_current now b) (after_raise_current now b).place
        go true = record { copies = tt; few = t.few; steps = more m.steps W (behind_apply S W R m m.helps) (allowed S W R m) t.steps }
        go false = record { copies = tt; few = t.few; steps = none m.steps W (behind_apply S W R m m.helps) (allowed S W R m) t.steps }
    sparing (LoadTarget j) o a t e v = go (nat_lt (seq_of found) m.seq)
      where
        found : ℕ
        found = get_or w.words (word_of (want_at S m (LoadTarget j))) 0

        go : (b : Bool) → Spares S W R (after_load_target now j found b) (after_load_target now j found b).place
        go true = record { copies = tt; few = t.few; steps = older_found m.steps (4 * (W - j)) (behind_apply S W R m m.helps) (allowed S W R m) t.steps }
        go false = record { copies = tt; few = t.few; steps = newer_found m.steps (4 * (W - j)) (behind_apply S W R m m.helps) (allowed S W R m) t.steps }
    sparing (ExchangeTarget j f) o a t e v = record { copies = tt; few = t.few; steps = entry_exchanged m.steps (4 * (W - j)) (behind_apply S W R m m.helps) (allowed S W R m) t.steps }
    sparing (ReloadTarget j) o a t e v = record { copies = tt; few = t.few; steps = sum m.steps W j (length m.log) (behind_apply S W R m m.helps) (allowed S W R m) a.entry.more u.log t.steps }
      where
        sum : (s c j n r l : ℕ) → j < n → n ≤ c → s + (4 * (c - j) + r) ≤ l → s + 1 + (4 * (c - j) - 1 + r) ≤ l
        sum s c j n r l z q h = omega arith
    sparing (RaiseTarget j f) o a t e v = go (nat_lt (j + 1) (length m.log))
      where
        j_in : j < W
        j_in = omega (arith, a.entry.more, u.log)

        go : (b : Bool) → Spares S W R (next_entry now j b) (next_entry now j b).place
        go true = record { copies = tt; few = t.few; steps = entry_raised m.steps W j (behind_apply S W R m m.helps) (allowed S W R m) j_in t.steps }
        go false = record { copies = tt; few = t.few; steps = entries_raised m.steps W j (behind_apply S W R m m.helps) (allowed S W R m) j_in t.steps }
    sparing CloseRequest o a t e v = record { copies = tt; few = t.few; steps = request_closed m.steps (behind_apply S W R m m.helps) (allowed S W R m) t.steps }
    sparing RaiseClosed o a t e v = go m.helps (m.rounds == 0) refl t.steps
      where
        none : (l : ℕ) → 0 + 0 ≤ l
        none l = omega arith

        go : (b d : Bool) → (m.rounds == 0) ≡ d → m.steps + (1 + behind_apply S W R m b) ≤ allowed S W R m → Spares S W R (after_raise_closed S now b d) (after_raise_closed S now b d).place
        go true d q z = resumed_sparing now d t.few (subst (λ (x : Bool). m.steps + 1 + helped S W R m x ≤ allowed S W R m) q (apply_ended m.steps (helped S W R m (m.rounds == 0)) (allowed S W R m) z))
        go false d q z = record { copies = tt; few = t.few; steps = none (allowed S W R m) }

    -- an open call has a step left
    some_left : (p : Place) → IsOpen p → HoldsAtPlace S B w.words w.batches i m p → Spares S W R m p → (x : ℕ) → left_at S W R m p ≡ x → 1 ≤ x
    some_left Idle o a t x e = cc
    some_left TryCurrent o a t x e = omega arith
    some_left TryRequest o a t x e = omega arith
    some_left (TryCell c) o a t x e = omega arith
    some_left (StoreScript j) o a t x e = omega arith
    some_left StoreAnnouncement o a t x e = omega arith
    some_left LoadCurrent o a t x e = omega arith
    some_left LoadRequest o a t x e = omega arith
    some_left (CopyLog k) o a t x e = omega arith
    some_left LookAgain o a t x e = omega arith
    some_left LoadOwnTicket o a t x e = omega arith
    some_left LoadShape o a t x e = omega arith
    some_left (LoadReply j) o a t x e = omega (arith, a.in_reply)
    some_left LoadAnnouncement o a t x e = omega arith
    some_left LoadTicket o a t x e = omega arith
    some_left (LoadScript j) o a t x e = omega arith
    some_left (LoadCell c) o a t x e = omega arith
    some_left RaiseOld o a t x e = omega arith
    some_left (StoreLog k) o a t x e = omega arith
    some_left (RaiseLog k) o a t x e = omega arith
    some_left StoreRequest o a t x e = omega arith
    some_left RaiseRequest o a t x e = omega arith
    some_left ExchangeCurrent o a t x e = omega arith
    some_left RaiseCurrent o a t x e = omega arith
    some_left (LoadTarget j) o a t x e = omega arith
    some_left (ExchangeTarget j f) o a t x e = omega arith
    some_left (ReloadTarget j) o a t x e = omega (arith, a.entry.more, u.log)
    some_left (RaiseTarget j f) o a t x e = omega (arith, a.entry.more, u.log)
    some_left CloseRequest o a t x e = omega arith
    some_left RaiseClosed o a t x e = omega arith

module _ (S : Setup) (Lawful : List ℕ → Type 0) (sound : IsSoundMeaning S.meaning Lawful (first_operation_cell S) S.cells) (B : TableStart) (i : ℕ) (h : i < S.callers) (W R : ℕ) where
  abbrev Sparing : Moment → Type 0
  Sparing w = Spares S W R (machine_in w i) (machine_in w i).place

  own_turn : (w : Moment) → MeetsInvariant S Lawful B w → (m : CallState) → get_or w.machines i m ≡ m → IsOpen m.place → Touches m W R
      → Touches (take_word S m (word_found S w.words m)) W R → Spares S W R m m.place → Spares S W R (take_word S m (word_found S w.words m)) (take_word S m (word_found S w.words m)).place
  unfolding want take_word
  own_turn w g m e o u v t = sparing S W R Lawful B w g.core i m h u m.place o (g.core.each i m h e) t refl v

  pub own_kept : (w : Moment) → MeetsInvariant S Lawful B w → IsOpen (machine_in w i).place → Touches (machine_in w i) W R
      → Touches (machine_in (after_event S w (Turns i)) i) W R → Sparing w → Sparing (after_event S w (Turns i))
  own_kept w g o u v t =
      let x : machine_in (after_event S w (Turns i)) i ≡ take_word S (machine_in w i) (word_found S w.words (machine_in w i)) = get_or-set_same w.machines i _ no_machine (omega (arith, g.core.members)) in
      subst (λ (d : CallState). Spares S W R d d.place) (sym x) (own_turn w g (machine_in w i) (of_machine S Lawful sound B i h w g) o u (subst (λ (d : CallState). Touches d W R) x v) t)

  -- no event of a schedule lets the call make more
  kept : (w : Moment) → MeetsInvariant S Lawful B w → (e : Event) → MayHappen S w e → KeepsMachine e i → IsOpen (machine_in w i).place → Touches (machine_in w i) W R
      → Touches (machine_in (after_event S w e) i) W R → Sparing w → Sparing (after_event S w e)
  kept w g (Loads c) may same o u v t = t
  kept w g (Evicts k) may same o u v t = t
  kept w g (Raises c) may same o u v t = t
  kept w g (Revives j made) may same o u v t = subst (λ (d : CallState). Spares S W R d d.place) (sym (get_or-set_other w.machines j i _ no_machine (λ e. same (sym e)))) t
  kept w g (Begins j op) may same o u v t = go (cases_eq j i)
    where
      go : (j ≡ i) ⊎ (j ≡ i → ⊥) → Sparing (after_event S w (Begins j op))
      go (inl e) = let z : true ≡ false = sym (ap is_idle may.1) ∙ ap (λ (k : ℕ). is_idle (machine_in w k).place) e ∙ o in cc
      go (inr n) = subst (λ (d : CallState). Spares S W R d d.place) (sym (get_or-set_other w.machines j i _ no_machine (λ e. n (sym e)))) t
  kept w g (Turns j) may same o u v t = go (cases_eq j i)
    where
      go : (j ≡ i) ⊎ (j ≡ i → ⊥) → Sparing (after_event S w (Turns j))
      go (inl e) = subst (λ (k : ℕ). Sparing (after_event S w (Turns k))) (sym e) (own_kept w g o u (subst (λ (k : ℕ). Touches (machine_in (after_event S w (Turns k)) i) W R) e v) t)
      go (inr n) = subst (λ (d : CallState). Spares S W R d d.place) (sym (get_or-set_other w.machines j i _ no_machine (λ e. n (sym e)))) t

  touches_now : (w : Moment) (es : List Event) → TouchesOnly S w es i W R → Touches (machine_in w i) W R
  touches_now w [] u = u
  touches_now w (e ∷ es) u = u.0

  fewer_than : (s x y : ℕ) → s + x ≤ y → 1 ≤ x → s < y
  fewer_than s x y l u = omega arith

  pub at_end : (w : Moment) → MeetsInvariant S Lawful B w → (m : CallState) → get_or w.machines i m ≡ m → IsOpen m.place → Touches m W R → Spares S W R m m.place → HasFootprint S W R m m.steps
  at_end w g m e o u t = record {
    within = fewer_than m.steps (left_at S W R m m.place) (allowed S W R m) t.steps (some_left S W R Lawful B w g.core i m h u m.place o (g.core.each i m h e) t (left_at S W R m m.place) refl);
    tries = t.few.0;
    rounds = t.few.1;
    untried = t.few.2;
  }

  -- so it is at the end
  at_last : (es : List Event) (w : Moment) → MeetsInvariant S Lawful B w → IsSchedule S w es → StaysOpen S w es i → TouchesOnly S w es i W R → Sparing w
      → HasFootprint S W R (machine_in (after_events S w es) i) ((machine_in w i).steps + turn_count i es)
  at_last [] w g s o u t = subst (HasFootprint S W R (machine_in w i)) (plus_none (machine_in w i).steps) (at_end w g (machine_in w i) (of_machine S Lawful sound B i h w g) o u t)
    where
      plus_none : (x : ℕ) → x ≡ x + 0
      plus_none x = omega arith
  at_last (e ∷ es) w g s o u t =
      let good : MeetsInvariant S Lawful B (after_event S w e) = event_good S Lawful B w g sound e s.0 in
      let still : IsOpen (machine_in (after_event S w e) i).place = now_open S Lawful sound B i h (after_event S w e) es o.1 in
      let more : (machine_in (after_event S w e) i).steps ≡ (machine_in w i).steps + turns_in_event i e = steps_rise S Lawful sound B i h w g e s.0 o.2 o.0 still in
      subst (HasFootprint S W R (machine_in (after_events S (after_event S w e) es) i)) (sum (machine_in w i).steps (turns_in_event i e) (turn_count i es) (machine_in (after_event S w e) i).steps more)
      (at_last es (after_event S w e) good s.1 o.1 u.1 (kept w g e s.0 o.2 o.0 u.0 (touches_now (after_event S w e) es u.1) t))
    where
      sum : (x y z v : ℕ) → v ≡ x + y → v + z ≡ x + (y + z)
      sum x y z v e = omega arith

pub by_footprint : (S : Setup) (Lawful : List ℕ → Type 0) → IsSoundMeaning S.meaning Lawful (first_operation_cell S) S.cells → (B : TableStart) (w : Moment) → MeetsInvariant S Lawful B w
    → (i : ℕ) (op : List ℕ) → MayHappen S w (Begins i op) → (es : List Event) → IsSchedule S (after_event S w (Begins i op)) es → StaysOpen S (after_event S w (Begins i op)) es i
    → (W R : ℕ) → TouchesOnly S (after_event S w (Begins i op)) es i W R → HasFootprint S W R (machine_in (after_events S (after_event S w (Begins i op)) es) i) (turn_count i es)
by_footprint S Lawful sound B w g i op may es s o W R u =
    subst (HasFootprint S W R (machine_in (after_events S v es) i)) (none (machine_in v i).steps (turn_count i es) (ap (λ (d : CallState). d.steps) new))
    (at_last S Lawful sound B i may.0 W R es v (event_good S Lawful B w g sound (Begins i op) may) s o u (subst (λ (d : CallState). Spares S W R d d.place) (sym new) (opens_sparing S W R (machine_in w i) op)))
  where
    v : Moment
    v = after_event S w (Begins i op)

    new : machine_in v i ≡ begin_call S (machine_in w i) op
    new = get_or-set_same w.machines i (begin_call S (machine_in w i) op) no_machine (omega (arith, g.core.members, may.0))

    none : (x y : ℕ) → x ≡ 0 → x + y ≡ y
    none x y e = omega arith

-- one caller that stores to one register, in one round, with a log of four entries and one load
worked : (S : Setup) → S.callers ≡ 1 → S.instrs ≡ 16 → footprint S (7 ∷ []) 4 1 0 1 ≡ 92
worked S e d = rw (e, d) refl
