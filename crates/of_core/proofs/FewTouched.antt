-- If operations touch few cells, so does each machine: its log has room for what each caller's
-- operation writes, and it knows of each caller what its operation reads.
use Rattle.std.proofs.Common.{◌≡◌, ◌⊎◌, inl, inr, ℕ, ◌+◌, ◌*◌, ◌-◌, ◌<◌, ◌≤◌, ◌==◌, List, [], ◌∷◌, ◌++◌, length, get_or, take, refl, sym, ◌∙◌, ap, subst, arith, length-append, Option, Some, None, Bool, true, false, nat_lt, if◌then◌else◌}
use Rattle.std.proofs.lemmas.Bool.{cases_eq}
use Rattle.std.proofs.lemmas.Bool.Decides.{nat_tests}
use Rattle.std.proofs.lemmas.List.{take_all, length-take, get_or_push, get_or_append_left}
use Rattle.of_core.specs.declared.machine.trying.TheConstants.{MOST_TRIES}
use Rattle.of_cell.specs.Words.{pack, seq_of, payload_of}
use Rattle.of_cell.proofs.Places.{row_within}
use Rattle.of_mem.specs.declared.work.TheConstants.{LEAST_ABORT}
use Rattle.of_mem.specs.declared.work.RawReply.{RawReply}
use Rattle.of_mem.specs.CellMap.{put_all}
use Rattle.of_mem.specs.Meaning.{WalkEnd, Needs, Gives, Agrees, IsSoundMeaning}
use Rattle.of_mem.specs.Part.{overlaid}
use Rattle.of_mem.specs.Touching.{StaysWithin, TouchesFew}
use Rattle.of_mem.proofs.Lists.{none_at}
use Rattle.of_mem.proofs.Writes.{put_all_few}
use Rattle.of_core.specs.declared.place.Place.{Place}
use Rattle.of_core.specs.declared.place.Place.TheVariants.{Idle, TryCurrent, TryRequest, TryCell, StoreScript, StoreAnnouncement, LoadCurrent, LoadRequest, CopyLog, LookAgain, LoadOwnTicket, LoadShape, LoadReply, LoadAnnouncement, LoadTicket, LoadScript, LoadCell, RaiseOld, StoreLog, RaiseLog, StoreRequest, RaiseRequest, ExchangeCurrent, RaiseCurrent, LoadTarget, ExchangeTarget, ReloadTarget, RaiseTarget, CloseRequest, RaiseClosed}
use Rattle.of_core.specs.Table.{Setup, first_operation_cell, ticket_cell, log_word_of, request_of, data_word}
use Rattle.of_core.specs.Machine.{CallState, no_cell_known, with_cell_known, log_words, log_of, entries_going_round, cells_from, own_cells, begin_call, first_place}
use Rattle.of_core.specs.Steps.{read_on, after_read_run, begin_reading, resume, after_try_request, end_try, after_try_cell, want_at, word_of, take_word_at, with_step_counted, after_store_script, after_load_request, after_copy_log, after_look_again, after_own_ticket, after_load_shape, with_shape, after_load_reply, with_reply, next_reply_place, first_marked_place, after_announcement, weigh, after_load_ticket, after_load_script, with_script_word, after_script_run, next_scanned_caller, with_call_run, after_load_cell, after_raise_log, after_commit_exchange, after_raise_current, after_load_target, next_entry, after_raise_closed, is_request_open, with_log_word_copied}
use Rattle.of_core.specs.TableMoment.{Moment, TableStart}
use Rattle.of_core.specs.History.{batch_at}
use Rattle.of_core.specs.Invariant.{HoldsAtPlace, MeetsCore}
use Rattle.of_core.specs.Footprint.{knowns, next_load, Touches}
use Rattle.of_core.specs.Touched.{longest_log, most_loads}
use Rattle.of_core.proofs.Logs.{length-listed, turned_is}
use Rattle.of_core.proofs.Puts.{log_of_words}
use Rattle.of_core.proofs.Tests.{not_newer}
use Rattle.of_core.proofs.Rounds.{learn_past}
use Rattle.of_core.proofs.Scans.{ticket_in_cells}
use Rattle.of_core.proofs.KnownCells.{knowns_none, knowns_set, lacking, lacking_upto, lacking_some, lacking_less, agrees_before}
use Rattle.of_core.proofs.KnownStates.{try_state, scan_state}

-- what a call writes into its own cells
own_few : (row ticket count : ℕ) (r : RawReply) → length (own_cells row ticket count r) ≤ count + 2
own_few row ticket count r = rw length-append (omega (arith, go (nat_lt r.shape LEAST_ABORT)))
  where
    go : (b : Bool) → length (if b then cells_from (row + 2) (take count r.values) else []) ≤ count
    go false = omega arith
    go true = rw (length-listed, length-take) (omega arith)

module _ (S : Setup) (R W : ℕ) where
  -- what each caller's operation has of a log
  abbrev pub share : ℕ
  share = W + (S.instrs + 2)

  -- However the operation is read on what is seen, what the machine knows, with what the operation
  -- may need still, is at most so much.
  abbrev pub LoadsFew : CallState → (seen : List (Option ℕ)) → (op : List ℕ) → (limit : ℕ) → Type 0
  LoadsFew m seen op limit = (xs cells : List ℕ) → length cells ≤ R → Agrees seen xs → StaysWithin S.meaning xs op cells W → knowns m.known + lacking m.known cells ≤ limit

  -- of each caller before the one that the scan has come to it knows what its operation reads, and
  -- the log has what it writes
  abbrev pub ScansFew : CallState → (more : ℕ) → Type 0
  ScansFew m more = (knowns m.known ≤ m.scan * (R + 1) + more) × (length m.log ≤ m.scan * share)

  abbrev pub KnowsFew : CallState → Place → Type 0
  KnowsFew m (TryCell a) = (S.meaning.walk m.known m.op ≡ Needs a) × LoadsFew m m.known m.op R
  KnowsFew m LoadAnnouncement = ScansFew m 1
  KnowsFew m LoadTicket = ScansFew m 1
  KnowsFew m (LoadScript j) = ScansFew m 2
  KnowsFew m (LoadCell a) = (S.meaning.walk (overlaid m.known m.log) m.script ≡ Needs a) × LoadsFew m (overlaid m.known m.log) m.script (m.scan * (R + 1) + (R + 2)) × (length m.log ≤ m.scan * share)
  KnowsFew m p = knowns m.known ≤ most_loads S R

  pub record Frugal (m : CallState) (p : Place) : Type 0 where
    pub log : length m.log ≤ longest_log S W
    pub copy : get_or m.copy 0 0 ≤ longest_log S W
    pub at : KnowsFew m p

  -- nothing is known yet
  none_known : (n : ℕ) → knowns (no_cell_known S) ≤ n
  none_known n = omega (arith, knowns_none S.cells)

  -- a call that opens
  pub opens_frugal : (m : CallState) (op : List ℕ) → Frugal (begin_call S m op) (begin_call S m op).place
  opens_frugal m op = go (S.meaning.reads_only op)
    where
      go : (b : Bool) → Frugal (record (begin_call S m op) { place = first_place b }) (first_place b)
      go true = record { log = omega arith; copy = omega arith; at = none_known (most_loads S R) }
      go false = record { log = omega arith; copy = omega arith; at = none_known (most_loads S R) }

  module _ (n : CallState) (log : length n.log ≤ longest_log S W) (copy : get_or n.copy 0 0 ≤ longest_log S W) where
    reads_frugal : knowns n.known ≤ most_loads S R → LoadsFew n n.known n.op R → Frugal (read_on S n) (read_on S n).place
    reads_frugal k few = go (S.meaning.walk n.known n.op) refl
      where
        go : (r : WalkEnd) → S.meaning.walk n.known n.op ≡ r → Frugal (after_read_run n r) (after_read_run n r).place
        go (Needs a) e = record { log = log; copy = copy; at = (e, few) }
        go (Gives es r) e = record { log = log; copy = copy; at = k }

    asks_frugal : knowns n.known ≤ most_loads S R → (r : Option ℕ) → Frugal (next_reply_place n r) (next_reply_place n r).place
    asks_frugal k None = record { log = log; copy = copy; at = k }
    asks_frugal k (Some j) = record { log = log; copy = copy; at = k }

  tried_frugal : (n : CallState) → length n.log ≤ longest_log S W → get_or n.copy 0 0 ≤ longest_log S W → Frugal (begin_reading S n) (begin_reading S n).place
  tried_frugal n log copy = reads_frugal (record n { known = no_cell_known S; helps = false }) log copy (none_known (most_loads S R)) (λ xs cells l a s. omega (arith, l, none_known 0, lacking_upto (no_cell_known S) cells))

  resumed_frugal : (n : CallState) (b : Bool) → length n.log ≤ longest_log S W → get_or n.copy 0 0 ≤ longest_log S W → Frugal (resume S n b) (resume S n b).place
  resumed_frugal n true log copy = tried_frugal n log copy
  resumed_frugal n false log copy = record { log = omega arith; copy = copy; at = none_known (most_loads S R) }

  row_more : (n k : ℕ) → (n + 1) * k ≡ n * k + k
  row_more n k = grind arith

  -- a scan that has come so far knows no more than at its end
  scanned_upto : (n k x : ℕ) → n < S.callers → k ≤ n * (R + 1) + x → x ≤ R + 2 → k ≤ most_loads S R
  scanned_upto n k x l u v = let r : n * (R + 1) + (R + 1) ≤ S.callers * (R + 1) = row_within n S.callers (R + 1) l in omega arith

  -- the scan goes on behind the caller that it has come to
  next_frugal : (n : CallState) → n.scan < S.callers → get_or n.copy 0 0 ≤ longest_log S W → knowns n.known ≤ n.scan * (R + 1) + (R + 2) → length n.log ≤ n.scan * share + share → (b : Bool) → Frugal (next_scanned_caller n b) (next_scanned_caller n b).place
  next_frugal n l copy k log b = go b
    where
      long : n.scan * share + share ≤ S.callers * share
      long = row_within n.scan S.callers share l

      go : (b : Bool) → Frugal (next_scanned_caller n b) (next_scanned_caller n b).place
      go true = record { log = omega (arith, long); copy = copy; at = (omega (arith, row_more n.scan (R + 1)), omega (arith, row_more n.scan share)) }
      go false = record { log = omega (arith, long); copy = copy; at = scanned_upto n.scan (knowns n.known) (R + 2) l k (omega arith) }

  module _ (n : CallState) (l : n.scan < S.callers) (log : length n.log ≤ longest_log S W) (copy : get_or n.copy 0 0 ≤ longest_log S W) (short : length n.log ≤ n.scan * share) where
    weighed_frugal : knowns n.known ≤ n.scan * (R + 1) + 2 → (b : Bool) → Frugal (weigh S n b) (weigh S n b).place
    weighed_frugal k true = record { log = log; copy = copy; at = (k, short) }
    weighed_frugal k false = next_frugal n l copy (omega arith) (omega arith) (nat_lt (n.scan + 1) S.callers)

    -- a call is run, as far as its cells are known
    ran_frugal : (xs cells : List ℕ) → Agrees (overlaid n.known n.log) xs → StaysWithin S.meaning xs n.script cells W → length n.script ≤ S.instrs → knowns n.known ≤ n.scan * (R + 1) + (R + 2)
        → LoadsFew n (overlaid n.known n.log) n.script (n.scan * (R + 1) + (R + 2)) → (r : WalkEnd) → S.meaning.walk (overlaid n.known n.log) n.script ≡ r → Frugal (after_script_run S n r) (after_script_run S n r).place
    ran_frugal xs cells a s few k t (Needs x) e = record { log = log; copy = copy; at = (e, t, short) }
    ran_frugal xs cells a s few k t (Gives es r) e = next_frugal (with_call_run S n es r) l copy k longer (nat_lt (n.scan + 1) S.callers)
      where
        own : List (ℕ × ℕ)
        own = own_cells (ticket_cell S n.scan) (seq_of n.heard) (length n.script) r

        longer : length (put_all n.log (es ++ own)) ≤ n.scan * share + share
        longer = omega (arith, put_all_few n.log (es ++ own), length-append es own, own_few (ticket_cell S n.scan) (seq_of n.heard) (length n.script) r, s.gives (overlaid n.known n.log) es r a e, short, few)

  module _ (Lawful : List ℕ → Type 0) (sound : IsSoundMeaning S.meaning Lawful (first_operation_cell S) S.cells) (few : TouchesFew S.meaning Lawful S.cells R W) (B : TableStart) (w : Moment) (g : MeetsCore S Lawful B w) (i : ℕ) (m : CallState) (h : i < S.callers) where
    -- the cells of an operation on a list that agrees with what is seen
    record Within (seen : List (Option ℕ)) (op : List ℕ) : Type 0 where
      pub numbers : List ℕ
      pub cells : List ℕ
      pub short : length cells ≤ R
      pub agrees : Agrees seen numbers
      pub stays : StaysWithin S.meaning numbers op cells W

    within : (seen : List (Option ℕ)) (op : List ℕ) → length op ≤ S.instrs → (xs : List ℕ) × (length xs ≡ S.cells) × Lawful xs × Agrees seen xs → Within seen op
    within seen op l a = let f = few a.0 op a.1 a.2 (omega (arith, l, g.shared.narrow)) in record { numbers = a.0; cells = f.0; short = f.1; agrees = a.3; stays = f.2 }

    -- the cell that a run needs is one of those that its operation may need
    needs_one : (seen : List (Option ℕ)) (op : List ℕ) (a limit : ℕ) → Within seen op → S.meaning.walk seen op ≡ Needs a → get_or m.known a None ≡ None → LoadsFew m seen op limit → knowns m.known + 1 ≤ limit
    needs_one seen op a limit v e none t =
        omega (arith, t v.numbers v.cells v.short v.agrees v.stays, lacking_some m.known v.cells a none (v.stays.needs seen a v.agrees e))

    -- once it is learnt the run needs one less
    learns_one : (es : List (ℕ × ℕ)) (op : List ℕ) (a found limit : ℕ) → a < length m.known → get_or m.known a None ≡ None → S.meaning.walk (overlaid m.known es) op ≡ Needs a → LoadsFew m (overlaid m.known es) op limit
        → (xs cells : List ℕ) → length cells ≤ R → Agrees (overlaid (with_cell_known S m a found) es) xs → StaysWithin S.meaning xs op cells W → knowns (with_cell_known S m a found) + lacking (with_cell_known S m a found) cells ≤ limit
    learns_one es op a found limit l none e t xs cells u agrees s =
        let before : Agrees (overlaid m.known es) xs = agrees_before m.known a (payload_of found) l none es xs agrees in
        omega (arith, t xs cells u before s, knowns_set m.known a (payload_of found) l none, lacking_less m.known a (payload_of found) l none cells (s.needs (overlaid m.known es) a before e))

    -- the run of a try at a cell
    try_within : (a : ℕ) → HoldsAtPlace S B w.words w.batches i m (TryCell a) → Within m.known m.op
    try_within a p = within m.known m.op p.trying.fresh.words (try_state g h m.seq m.owner m.known p.current_word p.state)

    script_few : (a : ℕ) → HoldsAtPlace S B w.words w.batches i m (LoadCell a) → length m.script ≤ S.instrs
    script_few a p = omega (arith, p.loaded.many, p.heard.small)

    -- that of a scan
    scan_within : (a : ℕ) → HoldsAtPlace S B w.words w.batches i m (LoadCell a) → Within (overlaid m.known m.log) m.script
    scan_within a p = within (overlaid m.known m.log) m.script (script_few a p) (scan_state g h sound m p.scanning.past p.scanning.scan)

    -- so a machine touches few cells
    loads_few : (p : Place) → HoldsAtPlace S B w.words w.batches i m p → KnowsFew m p → knowns m.known + next_load p ≤ most_loads S R
    loads_few (TryCell a) p k =
        let one : knowns m.known + 1 ≤ R = needs_one m.known m.op a R (try_within a p) k.0 p.unknown k.1 in
        let row : 0 * (R + 1) + (R + 1) ≤ S.callers * (R + 1) = row_within 0 S.callers (R + 1) (omega arith) in
        omega arith
    loads_few LoadOwnTicket p k = let none : knowns m.known ≡ 0 = ap knowns p.no_cell ∙ knowns_none S.cells in omega arith
    loads_few LoadAnnouncement p k = omega (arith, scanned_upto m.scan (knowns m.known) 1 p.in_range k.0 (omega arith))
    loads_few LoadTicket p k = omega (arith, scanned_upto m.scan (knowns m.known + 1) 2 p.scanning.in_range (omega (arith, k.0)) (omega arith))
    loads_few (LoadScript j) p k = omega (arith, scanned_upto m.scan (knowns m.known) 2 p.scanning.in_range k.0 (omega arith))
    loads_few (LoadCell a) p k = scanned_upto m.scan (knowns m.known + 1) (R + 2) p.scanning.in_range (needs_one (overlaid m.known m.log) m.script a (m.scan * (R + 1) + (R + 2)) (scan_within a p) k.0 p.unknown k.1) (omega arith)
    loads_few Idle p k = omega (arith, k)
    loads_few TryCurrent p k = omega (arith, k)
    loads_few TryRequest p k = omega (arith, k)
    loads_few (StoreScript j) p k = omega (arith, k)
    loads_few StoreAnnouncement p k = omega (arith, k)
    loads_few LoadCurrent p k = omega (arith, k)
    loads_few LoadRequest p k = omega (arith, k)
    loads_few (CopyLog x) p k = omega (arith, k)
    loads_few LookAgain p k = omega (arith, k)
    loads_few LoadShape p k = omega (arith, k)
    loads_few (LoadReply j) p k = omega (arith, k)
    loads_few RaiseOld p k = omega (arith, k)
    loads_few (StoreLog x) p k = omega (arith, k)
    loads_few (RaiseLog x) p k = omega (arith, k)
    loads_few StoreRequest p k = omega (arith, k)
    loads_few RaiseRequest p k = omega (arith, k)
    loads_few ExchangeCurrent p k = omega (arith, k)
    loads_few RaiseCurrent p k = omega (arith, k)
    loads_few (LoadTarget j) p k = omega (arith, k)
    loads_few (ExchangeTarget j f) p k = omega (arith, k)
    loads_few (ReloadTarget j) p k = omega (arith, k)
    loads_few (RaiseTarget j f) p k = omega (arith, k)
    loads_few CloseRequest p k = omega (arith, k)
    loads_few RaiseClosed p k = omega (arith, k)

    pub touches_few : HoldsAtPlace S B w.words w.batches i m m.place → Frugal m m.place → Touches m (longest_log S W) (most_loads S R)
    touches_few p t = record { log = t.log; copy = t.copy; cells = loads_few m.place p t.at }

    abbrev now : CallState
    now = record m { steps = m.steps + 1 }

    abbrev stepped_to : Place → CallState
    stepped_to p = take_word_at S (with_step_counted p m) (get_or w.words (word_of (want_at S m p)) 0) p

    -- each step keeps it, where no count of a log is above its room
    module _ (counts : (j : ℕ) → j < S.callers → payload_of (log_word_of S w.words j 0) ≤ longest_log S W) where
      pub frugal : (p : Place) → m.place ≡ p → HoldsAtPlace S B w.words w.batches i m p → Frugal m p → Frugal (stepped_to p) (stepped_to p).place
      frugal Idle e a t = subst (Frugal m) (sym e) t
      frugal TryCurrent e a t = record { log = t.log; copy = t.copy; at = t.at }
      frugal TryRequest e a t = go (is_request_open m.seq (get_or w.words (m.owner + 1) 0))
        where
          go : (b : Bool) → Frugal (after_try_request S now b) (after_try_request S now b).place
          go true = record { log = t.log; copy = omega arith; at = t.at }
          go false = tried_frugal now t.log t.copy
      frugal (TryCell x) e a t = go (nat_lt m.seq (seq_of found)) refl
        where
          found : ℕ
          found = data_word S w.words x

          one : knowns m.known + 1 ≤ R
          one = needs_one m.known m.op x R (try_within x a) t.at.0 a.unknown t.at.1

          most : R ≤ most_loads S R
          most = let row : 0 * (R + 1) + (R + 1) ≤ S.callers * (R + 1) = row_within 0 S.callers (R + 1) (omega arith) in omega arith

          over : (b : Bool) → Frugal (end_try now b) (end_try now b).place
          over true = record { log = t.log; copy = t.copy; at = omega (arith, one, most) }
          over false = record { log = t.log; copy = t.copy; at = omega (arith, one, most) }

          go : (b : Bool) → nat_lt m.seq (seq_of found) ≡ b → Frugal (after_try_cell S now x found b) (after_try_cell S now x found b).place
          go true q = over (nat_lt m.tries MOST_TRIES)
          go false q = reads_frugal (record now { known = with_cell_known S m x found }) t.log t.copy
              (omega (arith, knowns_set m.known x (payload_of found) (omega (arith, a.state.all, a.in_cells)) a.unknown, one, most))
              (learns_one [] m.op x found R (omega (arith, a.state.all, a.in_cells)) a.unknown t.at.0 t.at.1)
      frugal (StoreScript j) e a t = go (nat_lt (j + 1) (length m.op))
        where
          go : (b : Bool) → Frugal (after_store_script now j b) (after_store_script now j b).place
          go true = record { log = t.log; copy = t.copy; at = t.at }
          go false = record { log = t.log; copy = t.copy; at = t.at }
      frugal StoreAnnouncement e a t = record { log = t.log; copy = t.copy; at = t.at }
      frugal LoadCurrent e a t = record { log = t.log; copy = t.copy; at = t.at }
      frugal LoadRequest e a t = go (is_request_open m.seq (get_or w.words (m.owner + 1) 0))
        where
          go : (b : Bool) → Frugal (after_load_request S now b) (after_load_request S now b).place
          go true = record { log = t.log; copy = omega arith; at = t.at }
          go false = record { log = omega arith; copy = t.copy; at = none_known (most_loads S R) }
      frugal (CopyLog x) e a t = go (nat_lt (x + 1) (2 * get_or (with_log_word_copied m found) 0 0 + 1))
        where
          found : ℕ
          found = log_word_of S w.words m.owner x

          count_of : (x ≡ 0) ⊎ (x ≡ 0 → ⊥) → get_or (with_log_word_copied m found) 0 0 ≤ longest_log S W
          count_of (inl z) =
              let e : get_or (m.copy ++ payload_of found ∷ []) 0 0 ≡ payload_of found = get_or_push m.copy (payload_of found) 0 0 (a.copies.many ∙ z) in
              let f : payload_of (log_word_of S w.words m.owner x) ≡ payload_of (log_word_of S w.words m.owner 0) = ap (λ (k : ℕ). payload_of (log_word_of S w.words m.owner k)) z in
              omega (arith, e, f, counts m.owner a.copies.helping.current_word.owner_in)
          count_of (inr z) =
              let e : get_or (m.copy ++ payload_of found ∷ []) 0 0 ≡ get_or m.copy 0 0 = get_or_append_left m.copy (payload_of found ∷ []) 0 0 (omega (arith, a.copies.many)) in
              omega (arith, e, t.copy)

          go : (b : Bool) → Frugal (after_copy_log now x found b) (after_copy_log now x found b).place
          go true = record { log = t.log; copy = count_of (cases_eq x 0); at = t.at }
          go false = record { log = t.log; copy = count_of (cases_eq x 0); at = t.at }
      frugal LookAgain e a t = go (get_or w.words (m.owner + 1) 0 == pack m.seq 0) refl (m.rounds == 0)
        where
          logged : request_of w.words m.owner ≡ pack m.seq 0 → length (entries_going_round (S.begins m.caller (length (log_of m.copy))) (log_of m.copy)) ≤ longest_log S W
          logged o =
              let es : List (ℕ × ℕ) = (batch_at B w.batches m.seq).log in
              let copied : m.copy ≡ log_words es = (a.copies.copied o).1 ∙ take_all (length m.copy) (log_words es) (omega (arith, a.whole o)) in
              let log_is : log_of m.copy ≡ es = ap log_of copied ∙ log_of_words es in
              let count : get_or m.copy 0 0 ≡ length es = ap (λ (ws : List ℕ). get_or ws 0 0) copied in
              let all : length (log_of m.copy) ≡ length es = ap length log_is in
              omega (arith, t.copy, count, all, (turned_is (S.begins m.caller (length (log_of m.copy))) (log_of m.copy)).many)

          go : (b : Bool) → (get_or w.words (m.owner + 1) 0 == pack m.seq 0) ≡ b → (d : Bool) → Frugal (after_look_again S now b d) (after_look_again S now b d).place
          go true q d = record { log = logged (grind (arith, nat_tests)); copy = t.copy; at = t.at }
          go false q d = resumed_frugal now d t.log t.copy
      frugal LoadOwnTicket e a t = go (nat_lt m.seq (seq_of found)) (payload_of found == m.made) (m.seq == S.limit)
        where
          found : ℕ
          found = get_or w.words (word_of (want_at S m LoadOwnTicket)) 0

          cells_in : ticket_cell S m.caller < S.cells
          cells_in = rw a.looks.round.begun.caller (ticket_in_cells g h i h)

          one : knowns (with_cell_known S m (ticket_cell S m.caller) found) ≡ 1
          one =
              let none : knowns m.known ≡ 0 = ap knowns a.no_cell ∙ knowns_none S.cells in
              let more : knowns (with_cell_known S m (ticket_cell S m.caller) found) ≡ knowns m.known + 1 = knowns_set m.known (ticket_cell S m.caller) (payload_of found) (omega (arith, a.looks.state.all, cells_in)) (rw a.no_cell (none_at S.cells (ticket_cell S m.caller))) in
              omega arith

          empty : length m.log ≡ 0
          empty = ap length a.no_log

          go : (b c d : Bool) → Frugal (after_own_ticket S now found b c d) (after_own_ticket S now found b c d).place
          go true c d = record { log = t.log; copy = t.copy; at = t.at }
          go false true d = record { log = t.log; copy = t.copy; at = t.at }
          go false false true = record { log = t.log; copy = t.copy; at = t.at }
          go false false false = record { log = t.log; copy = t.copy; at = (omega (arith, one), omega (arith, empty)) }
      frugal LoadShape e a t = go (nat_lt m.seq (seq_of found))
        where
          found : ℕ
          found = get_or w.words (word_of (want_at S m LoadShape)) 0

          go : (b : Bool) → Frugal (after_load_shape S now found b) (after_load_shape S now found b).place
          go true = record { log = t.log; copy = t.copy; at = t.at }
          go false = asks_frugal (with_shape S now found) t.log t.copy t.at (first_marked_place (payload_of found) 0 S.instrs)
      frugal (LoadReply j) e a t = go (nat_lt m.seq (seq_of found))
        where
          found : ℕ
          found = get_or w.words (word_of (want_at S m (LoadReply j))) 0

          go : (b : Bool) → Frugal (after_load_reply S now j found b) (after_load_reply S now j found b).place
          go true = record { log = t.log; copy = t.copy; at = t.at }
          go false = asks_frugal (with_reply now j found) t.log t.copy t.at (first_marked_place m.raw.shape (j + 1) (S.instrs - j - 1))
      frugal LoadAnnouncement e a t = go (get_or m.known (ticket_cell S m.scan) None)
        where
          found : ℕ
          found = get_or w.words (word_of (want_at S m LoadAnnouncement)) 0

          go : (r : Option ℕ) → Frugal (after_announcement S now found r) (after_announcement S now found r).place
          go None = record { log = t.log; copy = t.copy; at = t.at }
          go (Some x) = weighed_frugal (record now { heard = found }) a.in_range t.log t.copy t.at.1 (omega (arith, t.at.0)) (nat_lt x (seq_of found))
      frugal LoadTicket e a t = go (nat_lt m.seq (seq_of found))
        where
          found : ℕ
          found = get_or w.words (word_of (want_at S m LoadTicket)) 0

          known_more : knowns (with_cell_known S m (ticket_cell S m.scan) found) ≤ m.scan * (R + 1) + 2
          known_more = omega (arith, t.at.0, knowns_set m.known (ticket_cell S m.scan) (payload_of found) (omega (arith, a.scanning.past.looks.state.all, ticket_in_cells g h m.scan a.scanning.in_range)) a.unknown)

          go : (b : Bool) → Frugal (after_load_ticket S now found b) (after_load_ticket S now found b).place
          go true = record { log = t.log; copy = t.copy; at = scanned_upto m.scan (knowns m.known) 1 a.scanning.in_range t.at.0 (omega arith) }
          go false = weighed_frugal (record now { known = with_cell_known S m (ticket_cell S m.scan) found }) a.scanning.in_range t.log t.copy t.at.1 known_more (nat_lt (payload_of found) (seq_of m.heard))
      frugal (LoadScript j) e a t = go (nat_lt (j + 1) (payload_of m.heard))
        where
          found : ℕ
          found = get_or w.words (word_of (want_at S m (LoadScript j))) 0

          words : length (with_script_word m found) ≤ S.instrs
          words = rw length-append (omega (arith, a.loaded.many, a.more, a.heard.small))

          v : Within (overlaid m.known m.log) (with_script_word m found)
          v = within (overlaid m.known m.log) (with_script_word m found) words (scan_state g h sound m a.scanning.past a.scanning.scan)

          go : (b : Bool) → Frugal (after_load_script S now j found b) (after_load_script S now j found b).place
          go true = record { log = t.log; copy = t.copy; at = t.at }
          go false = ran_frugal (record now { script = with_script_word m found }) a.scanning.in_range t.log t.copy t.at.1 v.numbers v.cells v.agrees v.stays words (omega (arith, t.at.0))
              (λ xs cells l u s. omega (arith, t.at.0, l, lacking_upto m.known cells)) (S.meaning.walk (overlaid m.known m.log) (with_script_word m found)) refl
      frugal (LoadCell x) e a t = go (nat_lt m.seq (seq_of found)) refl
        where
          found : ℕ
          found = data_word S w.words x

          one : knowns m.known + 1 ≤ m.scan * (R + 1) + (R + 2)
          one = needs_one (overlaid m.known m.log) m.script x (m.scan * (R + 1) + (R + 2)) (scan_within x a) t.at.0 a.unknown t.at.1

          x_in : x < length m.known
          x_in = omega (arith, a.scanning.past.looks.state.all, a.in_cells)

          n : CallState
          n = record now { known = with_cell_known S m x found }

          v : seq_of found ≤ m.seq → Within (overlaid (with_cell_known S m x found) m.log) m.script
          v fresh = within (overlaid (with_cell_known S m x found) m.log) m.script (script_few x a) (scan_state g h sound (record m { known = with_cell_known S m x found }) (learn_past g h m a.scanning.past x a.in_cells fresh) a.scanning.scan)

          go : (b : Bool) → nat_lt m.seq (seq_of found) ≡ b → Frugal (after_load_cell S now x found b) (after_load_cell S now x found b).place
          go true q = record { log = t.log; copy = t.copy; at = scanned_upto m.scan (knowns m.known) (R + 2) a.scanning.in_range (omega (arith, one)) (omega arith) }
          go false q =
              let u = v (not_newer m.seq (seq_of found) q) in
              ran_frugal n a.scanning.in_range t.log t.copy t.at.2 u.numbers u.cells u.agrees u.stays (script_few x a) (omega (arith, one, knowns_set m.known x (payload_of found) x_in a.unknown))
              (learns_one m.log m.script x found (m.scan * (R + 1) + (R + 2)) x_in a.unknown t.at.0 t.at.1) (S.meaning.walk (overlaid (with_cell_known S m x found) m.log) m.script) refl
      frugal RaiseOld e a t = record { log = t.log; copy = t.copy; at = t.at }
      frugal (StoreLog x) e a t = record { log = t.log; copy = t.copy; at = t.at }
      frugal (RaiseLog x) e a t = go (nat_lt (x + 1) (length (log_words m.log)))
        where
          go : (b : Bool) → Frugal (after_raise_log now x b) (after_raise_log now x b).place
          go true = record { log = t.log; copy = t.copy; at = t.at }
          go false = record { log = t.log; copy = t.copy; at = t.at }
      frugal StoreRequest e a t = record { log = t.log; copy = t.copy; at = t.at }
      frugal RaiseRequest e a t = record { log = t.log; copy = t.copy; at = t.at }
      frugal ExchangeCurrent e a t = go (get_or w.words 0 0 == pack m.seq m.owner)
        where
          go : (b : Bool) → Frugal (after_commit_exchange now b) (after_commit_exchange now b).place
          go true = record { log = t.log; copy = t.copy; at = t.at }
          go false = record { log = t.log; copy = t.copy; at = t.at }
      frugal RaiseCurrent e a t = go (nat_lt 0 (length m.log))
        where
          go : (b : Bool) → Frugal (after_raise_current now b) (after_raise_current now b).place
          go true = record { log = t.log; copy = t.copy; at = t.at }
          go false = record { log = t.log; copy = t.copy; at = t.at }
      frugal (LoadTarget j) e a t = go (nat_lt (seq_of found) m.seq)
        where
          found : ℕ
          found = get_or w.words (word_of (want_at S m (LoadTarget j))) 0

          go : (b : Bool) → Frugal (after_load_target now j found b) (after_load_target now j found b).place
          go true = record { log = t.log; copy = t.copy; at = t.at }
          go false = record { log = t.log; copy = t.copy; at = t.at }
      frugal (ExchangeTarget j f) e a t = record { log = t.log; copy = t.copy; at = t.at }
      frugal (ReloadTarget j) e a t = record { log = t.log; copy = t.copy; at = t.at }
      frugal (RaiseTarget j f) e a t = go (nat_lt (j + 1) (length m.log))
        where
          go : (b : Bool) → Frugal (next_entry now j b) (next_entry now j b).place
          go true = record { log = t.log; copy = t.copy; at = t.at }
          go false = record { log = t.log; copy = t.copy; at = t.at }
      frugal CloseRequest e a t = record { log = t.log; copy = t.copy; at = t.at }
      frugal RaiseClosed e a t = go m.helps (m.rounds == 0)
        where
          go : (b d : Bool) → Frugal (after_raise_closed S now b d) (after_raise_closed S now b d).place
          go true d = resumed_frugal now d t.log t.copy
          go false d = record { log = t.log; copy = t.copy; at = t.at }
