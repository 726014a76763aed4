-- A new machine takes the place of one that is lost: what it relies on holds of the words, and of what the lost one relied on.
use Rattle.std.proofs.Common.{◌≡◌, ℕ, zero, suc, ◌+◌, ◌-◌, ◌*◌, ◌<◌, ◌≤◌, ◌⊎◌, inl, inr, List, [], ◌∷◌, length, get_or, set, take, max, refl, sym, ◌∙◌, ap, subst, arith, length-append, Bool, true, false, nat_lt, ◌==◌, None}
use Rattle.std.specs.List.{All}
use Rattle.std.proofs.lemmas.Bool.{cases_eq, cases_lt, cases_order, ne_eqb}
use Rattle.std.proofs.lemmas.List.{get_or-set_same, get_or-set_other, get_or_default, take-append-le, take_all}
use Rattle.std.proofs.Math.Nat.{mul_comm}
use Rattle.of_cell.specs.Words.{pack, seq_of, payload_of}
use Rattle.of_cell.proofs.Order.{seq_word, pay_word, pay_small, seq_mono, seq_from, seq_zero, word_eta}
use Rattle.of_core.specs.declared.place.Place.{Place}
use Rattle.of_core.specs.declared.place.Place.TheVariants.{Idle, TryCurrent, TryRequest, TryCell, StoreScript, StoreAnnouncement, LoadCurrent, LoadRequest, CopyLog, LookAgain, LoadOwnTicket, LoadShape, LoadReply, LoadAnnouncement, LoadTicket, LoadScript, LoadCell, RaiseOld, StoreLog, RaiseLog, StoreRequest, RaiseRequest, ExchangeCurrent, RaiseCurrent, LoadTarget, ExchangeTarget, ReloadTarget, RaiseTarget, CloseRequest, RaiseClosed}
use Rattle.of_core.specs.Table.{most_entries, Setup, ticket_cell, request_at, current_word, request_of, data_word, log_word_of, durable_request, script_word, script_words_of, announcement_of, committed_seq, committed_owner}
use Rattle.of_core.specs.Machine.{Call, no_call, CallState, IsOpen, no_machine, log_words, is_idle}
use Rattle.of_core.specs.TableMoment.{Moment, TableStart, Batch}
use Rattle.of_core.specs.History.{batch_at, data_word_after, last_ticket_by, HasNoCallBetween, IsCellOfCaller, IsNewestCall}
use Rattle.of_core.specs.WordsMatch.{WordsMatchHistory, IsLastOpen}
use Rattle.of_core.specs.Rounds.{IsAnnounced, MayHelp, HasSettledCells, HasNothingUnderWay}
use Rattle.of_core.specs.Transaction.{IsApplying, AppliesAs, OwnsTransaction, HasStoredLog}
use Rattle.of_core.specs.Invariant.{MeetsInvariant, MeetsCore, HoldsAtPlace}
use Rattle.of_core.specs.Order.{KeepsCallOrder, HasOnlyOlderCalls, HasBegunTry, WasMadeBefore}
use Rattle.of_core.specs.Bound.{MachineIsWithinBound}
use Rattle.of_core.specs.Least.{HasMadeLeastSteps, made_helping, made_applying, least_steps_at}
use Rattle.of_core.specs.Guarantees.{Guarantees}
use Rattle.of_core.specs.Events.{machine_in}
use Rattle.of_core.specs.Facts.{ReadsFrom}
use Rattle.of_core.specs.Calls.{IsSplitAt}
use Rattle.of_core.specs.Remains.{remains_of, MayRevive, IsOwnOpen, announces_open_call, revived_if, revived_machine, CountsOn, after_revival}
use Rattle.of_core.specs.Revived.{HasOlderReads, CountsReads}
use Rattle.of_core.proofs.Assembling.{assemble, moves_not, logs_of, small_words}
use Rattle.of_core.proofs.Idle.{idle_or_open}
use Rattle.of_core.proofs.Least.{idle_late}
use Rattle.of_core.proofs.OpenCalls.{Holds, open_holds as held_how, upto_at}
use Rattle.of_core.proofs.Ordering.{announces_at}
use Rattle.of_core.proofs.Rounds.{own_seq, row_in}
use Rattle.of_core.proofs.States.{old}
use Rattle.of_core.proofs.Tests.{is_newer, not_newer}
use Rattle.of_core.proofs.Tickets.{tickets_grow, ticket_upto}

pub said_length : (S : Setup) (ws : List ℕ) (i n : ℕ) → length (script_words_of S ws i n) ≡ n
said_length S ws i zero = refl
said_length S ws i (suc n) = length-append (script_words_of S ws i n) (script_word S ws i n ∷ []) ∙ ap (λ (k : ℕ). k + 1) (said_length S ws i n) ∙ (let e : n + 1 ≡ suc n = omega arith in e)

-- the first words of a script that is read as far as n
pub said_front : (S : Setup) (ws : List ℕ) (i k n : ℕ) → k ≤ n → take k (script_words_of S ws i n) ≡ script_words_of S ws i k
said_front S ws i k zero l = let e : k ≡ 0 = omega arith in rw e refl
said_front S ws i k (suc n) l = go (cases_lt n k) (said_front S ws i k n)
  where
    go : (n < k) ⊎ (k ≤ n) → (k ≤ n → take k (script_words_of S ws i n) ≡ script_words_of S ws i k) → take k (script_words_of S ws i (suc n)) ≡ script_words_of S ws i k
    go (inl u) front = let e : k ≡ suc n = omega arith in rw e (take_all (suc n) (script_words_of S ws i (suc n)) (omega (arith, said_length S ws i (suc n))))
    go (inr u) front = take-append-le k (script_words_of S ws i n) (script_word S ws i n ∷ []) (omega (arith, said_length S ws i n)) ∙ front u

-- the steps that its announcement has taken, and all that are left in three rounds
rounds_within : (k i m p : ℕ) → k ≤ i → k + 1 + ((3 - 0) * (11 * m + p + 13) + (4 * m + 3)) ≤ i + 1 + 3 * (15 * m + p + 15) + 4 * (7 * m + 7)
rounds_within k i m p l = omega arith

module _ {S : Setup} {Lawful : List ℕ → Type 0} {B : TableStart} where
  -- what lets the machine of caller j be replaced stays so at another's step
  module _ {ws vs : List ℕ} {bs cs : List Batch} (shared : WordsMatchHistory S Lawful B ws bs) {i : ℕ} (v : Guarantees S B i ws bs vs cs) (j : ℕ) (member : j < S.callers) (other : j ≡ i → ⊥) (may : MayRevive (remains_of S ws j) j) where
    grows : committed_seq ws ≤ committed_seq vs
    grows = seq_mono (current_word ws) (current_word vs) (v.rise 0 (omega arith))

    asked : seq_of (request_of ws j) ≤ committed_seq ws
    asked = may.request

    was_logged : seq_of (log_word_of S ws j 0) ≤ committed_seq ws
    was_logged = may.log

    level : durable_request S ws j ≡ request_of ws j
    level = may.durable

    pub stays : request_of vs j ≡ request_of ws j
    stays = go (v.requests j member other)
      where
        go : (request_of vs j ≡ request_of ws j) ⊎ ((B.seq < committed_seq ws) × ((batch_at B bs (committed_seq ws)).owner ≡ j) × (request_of ws j ≡ pack (committed_seq ws) 0) × (request_of vs j ≡ pack (committed_seq ws) 1)) → request_of vs j ≡ request_of ws j
        go (inl q) = q
        go (inr q) = absurd (may.closed (shared.counted.owner q.0 ∙ q.1, omega (arith, q.0), q.2))

    still_shut : (committed_seq ws < committed_seq vs) ⊎ (committed_seq vs ≤ committed_seq ws) → IsOwnOpen (remains_of S vs j) j → ⊥
    still_shut (inl new) o = omega (arith, asked, ap seq_of stays, ap seq_of o.2, seq_word (committed_seq vs) 0 (omega arith))
    still_shut (inr past) o =
        let e : committed_seq vs ≡ committed_seq ws = omega (arith, grows) in
        may.closed (sym (v.same e) ∙ o.0, omega (arith, o.1, e), sym stays ∙ o.2 ∙ ap (λ (s : ℕ). pack s 0) e)

    risen : durable_request S vs j ≡ request_of vs j
    risen = omega (arith, stays, level, v.durs (request_at j) (omega arith), v.low (request_at j) (omega arith))

    old_log : seq_of (log_word_of S vs j 0) ≤ committed_seq vs
    old_log = omega (arith, was_logged, grows, ap seq_of (v.logs j member other 0 (omega arith)))

    old_request : seq_of (request_of vs j) ≤ committed_seq vs
    old_request = omega (arith, asked, grows, ap seq_of stays)

    pub leaves : MayRevive (remains_of S vs j) j
    leaves = record { log = old_log; request = old_request; closed = still_shut (cases_lt (committed_seq ws) (committed_seq vs)); durable = risen }

  -- the machine of caller i is lost, and its words let another take its place
  module _ {w : Moment} (g : MeetsCore S Lawful B w) (i : ℕ) (h : i < S.callers) (may : MayRevive (remains_of S w.words i) i) where
    abbrev n : ℕ
    n = committed_seq w.words

    abbrev m : CallState
    m = machine_in w i

    -- the ticket that is announced, the number of its words, and the ticket cell's word
    abbrev a : ℕ
    a = seq_of (announcement_of S w.words i)

    abbrev k : ℕ
    k = payload_of (announcement_of S w.words i)

    abbrev cell : ℕ
    cell = data_word S w.words (ticket_cell S i)

    abbrev last : ℕ → ℕ
    last s = last_ticket_by S B w.batches s i

    n_is : n ≡ B.seq + length w.batches
    n_is = g.shared.counted.count

    mine : get_or w.machines i m ≡ m
    mine = get_or_default w.machines i m no_machine (omega (arith, g.members))

    held : HoldsAtPlace S B w.words w.batches i m m.place
    held = g.each i m h mine

    logged : seq_of (log_word_of S w.words i 0) ≤ n
    logged = may.log

    -- all its log words are as old as the first
    calm_logs : (s : ℕ) → s ≤ n → HasNothingUnderWay S B w.words w.batches i s → (y : ℕ) → y < 2 * most_entries S + 1 → seq_of (log_word_of S w.words i y) ≤ n
    calm_logs s l c y u = omega (arith, c.logs y u)

    mode_logs : (b : Bool) → m.seq ≤ n → AppliesAs S B w.words w.batches i m b → (y : ℕ) → y < 2 * most_entries S + 1 → seq_of (log_word_of S w.words i y) ≤ n
    mode_logs true l q y u = calm_logs m.seq l q.calm y u
    mode_logs false l q y u = omega (arith, q.logs y u)

    apply_logs : {j : ℕ} → IsApplying S B w.words w.batches i m j → (y : ℕ) → y < 2 * most_entries S + 1 → seq_of (log_word_of S w.words i y) ≤ n
    apply_logs q y u = mode_logs m.helps q.upto q.mode y u

    stored_logs : (x z : ℕ) → HasStoredLog S B w.words w.batches i m x z → (y : ℕ) → y < 2 * most_entries S + 1 → seq_of (log_word_of S w.words i y) ≤ n
    stored_logs x z s y u = go (cases_lt y x)
      where
        new : (p : ℕ) → p < x → seq_of (log_word_of S w.words i p) ≡ m.seq + 1
        new p l = ap seq_of (s.each p l) ∙ seq_word (m.seq + 1) (get_or (log_words m.log) p 0) (small_words m.log g.shared.little s.over.over.is_log p)

        go : (y < x) ⊎ (x ≤ y) → seq_of (log_word_of S w.words i y) ≤ n
        go (inl l) = omega (arith, new y l, new 0 (omega arith), logged)
        go (inr l) = omega (arith, s.rest y l u, s.past.looks.round.current_word.upto)

    logs_at : (p : Place) → HoldsAtPlace S B w.words w.batches i m p → (y : ℕ) → y < 2 * most_entries S + 1 → seq_of (log_word_of S w.words i y) ≤ n
    logs_at Idle q = calm_logs n (omega arith) q.calm
    logs_at TryCurrent q = calm_logs n (omega arith) q.calm
    logs_at TryRequest q = calm_logs m.seq q.current_word.upto q.calm
    logs_at (TryCell x) q = calm_logs m.seq q.current_word.upto q.calm
    logs_at (StoreScript j) q = calm_logs n (omega arith) q.calm
    logs_at StoreAnnouncement q = calm_logs n (omega arith) q.calm
    logs_at LoadCurrent q = calm_logs n (omega arith) q.calm
    logs_at LoadRequest q = calm_logs m.seq q.round.current_word.upto q.calm
    logs_at (CopyLog x) q = calm_logs m.seq q.copies.helping.current_word.upto q.copies.helping.calm
    logs_at LookAgain q = calm_logs m.seq q.copies.helping.current_word.upto q.copies.helping.calm
    logs_at LoadOwnTicket q = calm_logs m.seq q.looks.round.current_word.upto q.calm
    logs_at LoadShape q = calm_logs m.seq q.looks.round.current_word.upto q.calm
    logs_at (LoadReply j) q = calm_logs m.seq q.looks.round.current_word.upto q.calm
    logs_at LoadAnnouncement q = calm_logs m.seq q.past.looks.round.current_word.upto q.calm
    logs_at LoadTicket q = calm_logs m.seq q.scanning.past.looks.round.current_word.upto q.scanning.calm
    logs_at (LoadScript j) q = calm_logs m.seq q.scanning.past.looks.round.current_word.upto q.scanning.calm
    logs_at (LoadCell x) q = calm_logs m.seq q.scanning.past.looks.round.current_word.upto q.scanning.calm
    logs_at RaiseOld q = calm_logs m.seq q.past.looks.round.current_word.upto q.calm
    logs_at (StoreLog x) q = stored_logs x x q.storing.stored
    logs_at (RaiseLog x) q = stored_logs (x + 1) x q.storing.stored
    logs_at StoreRequest q = stored_logs (length (log_words m.log)) (length (log_words m.log)) q.stored
    logs_at RaiseRequest q = stored_logs (length (log_words m.log)) (length (log_words m.log)) q.stored
    logs_at ExchangeCurrent q = stored_logs (length (log_words m.log)) (length (log_words m.log)) q.stored
    logs_at RaiseCurrent q = apply_logs q
    logs_at (LoadTarget j) q = apply_logs q.applies
    logs_at (ExchangeTarget j f) q = apply_logs q.entry.applies
    logs_at (ReloadTarget j) q = apply_logs q.entry.applies
    logs_at (RaiseTarget j f) q = apply_logs q.entry.applies
    logs_at CloseRequest q = apply_logs q.applies
    logs_at RaiseClosed q = apply_logs q.applies

    -- nothing of it is under way
    shut : (s : ℕ) → B.seq < s → s ≤ n → (batch_at B w.batches s).owner ≡ i → (s < n) ⊎ (n ≤ s) → pack s 0 < request_of w.words i
    shut s l u o (inl v) = subst (λ (j : ℕ). pack s 0 < request_of w.words j) o (g.shared.requests.closed s l v)
    shut s l u o (inr v) = go (cases_order (request_of w.words i) (pack n 0))
      where
        e : s ≡ n
        e = omega arith

        owned : committed_owner w.words ≡ i
        owned = g.shared.counted.owner (omega arith) ∙ ap (λ (x : ℕ). (batch_at B w.batches x).owner) (sym e) ∙ o

        go : (request_of w.words i ≡ pack n 0) ⊎ ((request_of w.words i < pack n 0) ⊎ (pack n 0 < request_of w.words i)) → pack s 0 < request_of w.words i
        go (inl q) = absurd (may.closed (owned, omega (arith, l, u), q))
        go (inr (inl q)) = absurd (omega (arith, q, g.shared.requests.latest (omega (arith, l, u)), ap (request_of w.words) owned))
        go (inr (inr q)) = omega (arith, q, ap (λ (x : ℕ). pack x 0) e)

    calm : HasNothingUnderWay S B w.words w.batches i n
    calm = record { own = may.request; level = may.durable; shut = λ s l u o. shut s l u o (cases_lt s n); logs = logs_at m.place held }

    in_row : ticket_cell S i < S.cells
    in_row = row_in g h (ticket_cell S i) (omega arith, omega arith)

    -- the ticket cell is of the state of the last batch, or of the one before an open batch that has not reached it
    shown : (cell ≡ data_word_after B w.batches n (ticket_cell S i)) ⊎ (IsLastOpen B w.words × (payload_of cell ≡ last (n - 1)) × (seq_of cell < n))
    shown = go (g.shared.data_cells.each (ticket_cell S i) in_row)
      where
        go : (cell ≡ data_word_after B w.batches n (ticket_cell S i)) ⊎ (IsLastOpen B w.words × (cell ≡ data_word_after B w.batches (n - 1) (ticket_cell S i))) → (cell ≡ data_word_after B w.batches n (ticket_cell S i)) ⊎ (IsLastOpen B w.words × (payload_of cell ≡ last (n - 1)) × (seq_of cell < n))
        go (inl q) = inl q
        go (inr q) = inr (q.0, ap payload_of q.1, omega (arith, ap seq_of q.1, q.0.any, old S B w.batches g.shared.start (logs_of g) (n - 1) (ticket_cell S i) (omega (arith, q.0.any)) (omega (arith, n_is)) in_row))

    -- it is no older than the start, and no newer than the last batch
    low : last B.seq ≤ payload_of cell
    low = go shown
      where
        go : (cell ≡ data_word_after B w.batches n (ticket_cell S i)) ⊎ (IsLastOpen B w.words × (payload_of cell ≡ last (n - 1)) × (seq_of cell < n)) → last B.seq ≤ payload_of cell
        go (inl q) = omega (arith, ap payload_of q, tickets_grow S Lawful B w.batches g.shared.stands B.seq n i (omega arith) (omega (arith, n_is)) (omega (arith, n_is)) h)
        go (inr q) = omega (arith, q.1, tickets_grow S Lawful B w.batches g.shared.stands B.seq (n - 1) i (omega arith) (omega (arith, q.0.any)) (omega (arith, n_is)) h)

    high : payload_of cell ≤ last n
    high = go shown
      where
        go : (cell ≡ data_word_after B w.batches n (ticket_cell S i)) ⊎ (IsLastOpen B w.words × (payload_of cell ≡ last (n - 1)) × (seq_of cell < n)) → payload_of cell ≤ last n
        go (inl q) = omega (arith, ap payload_of q)
        go (inr q) = omega (arith, q.1, tickets_grow S Lawful B w.batches g.shared.stands (n - 1) n i (omega (arith, q.0.any)) (omega arith) (omega (arith, n_is)) h)

    reached : last n ≤ max (last B.seq) a
    reached = g.shared.heard.reached i h

    -- if the open transaction has a call of the caller that its ticket cell doesn't show, the lost machine has announced that call, and has not ended it
    module _ (o : IsLastOpen B w.words) (missed : last (n - 1) < last n) (stale : seq_of cell < n) where
      unsettled : HasSettledCells S B w.words w.batches i → ⊥
      unsettled s = go (s o)
        where
          go : (last n ≤ last (n - 1)) ⊎ (n ≤ seq_of cell) → ⊥
          go (inl q) = omega arith
          go (inr q) = omega arith

      helper_begun : MayHelp S B w.words w.batches i m → IsAnnounced S B w.words w.batches i m
      helper_begun (inl q) = q.begun
      helper_begun (inr q) = absurd (unsettled q.fresh.settled)

      -- it isn't its owner
      not_owner : B.seq < m.seq → m.seq ≤ n → (batch_at B w.batches m.seq).owner ≡ m.owner → OwnsTransaction S B w.words w.batches i m → (m.seq < n) ⊎ (n ≤ m.seq) → ⊥
      not_owner after upto committed q (inl l) = omega (arith, missed, q.upto, has, tickets_grow S Lawful B w.batches g.shared.stands m.seq (n - 1) i (omega arith) (omega arith) (omega (arith, n_is)) h)
        where
          has : m.made ≤ last m.seq
          has =
              let c : Call = get_or (batch_at B w.batches m.seq).calls q.call.place no_call in
              let t : c.ticket ≤ last_ticket_by S B w.batches m.seq c.caller = ticket_upto S Lawful B w.batches g.shared.stands m.seq m.seq after (omega arith) (omega (arith, upto, n_is)) q.call.place no_call q.call.among in
              omega (arith, t, q.call.ticket, ap (last_ticket_by S B w.batches m.seq) q.call.caller)
      not_owner after upto committed q (inr l) = may.closed (owned, omega (arith, after), ap (request_of w.words) (sym owned) ∙ o.asks)
        where
          e : n ≡ m.seq
          e = omega arith

          owned : committed_owner w.words ≡ i
          owned = g.shared.counted.owner o.any ∙ ap (λ (x : ℕ). (batch_at B w.batches x).owner) e ∙ committed ∙ q.owner

      mode_begun : (b : Bool) → B.seq < m.seq → m.seq ≤ n → (batch_at B w.batches m.seq).owner ≡ m.owner → AppliesAs S B w.words w.batches i m b → IsAnnounced S B w.words w.batches i m
      mode_begun true after upto committed q = helper_begun q.helper
      mode_begun false after upto committed q = absurd (not_owner after upto committed q (cases_lt m.seq n))

      apply_begun : {j : ℕ} → IsApplying S B w.words w.batches i m j → IsAnnounced S B w.words w.batches i m
      apply_begun q = mode_begun m.helps q.after q.upto q.committed q.mode

      begun_at : (p : Place) → HoldsAtPlace S B w.words w.batches i m p → IsAnnounced S B w.words w.batches i m
      begun_at Idle q = absurd (unsettled q.settled)
      begun_at TryCurrent q = absurd (unsettled q.fresh.settled)
      begun_at TryRequest q = absurd (unsettled q.trying.fresh.settled)
      begun_at (TryCell x) q = absurd (unsettled q.trying.fresh.settled)
      begun_at (StoreScript j) q = absurd (unsettled q.fresh.settled)
      begun_at StoreAnnouncement q = absurd (unsettled q.fresh.settled)
      begun_at LoadCurrent q = q.begun
      begun_at LoadRequest q = q.round.begun
      begun_at (CopyLog x) q = helper_begun q.copies.helping.helper
      begun_at LookAgain q = helper_begun q.copies.helping.helper
      begun_at LoadOwnTicket q = q.looks.round.begun
      begun_at LoadShape q = q.looks.round.begun
      begun_at (LoadReply j) q = q.looks.round.begun
      begun_at LoadAnnouncement q = q.past.looks.round.begun
      begun_at LoadTicket q = q.scanning.past.looks.round.begun
      begun_at (LoadScript j) q = q.scanning.past.looks.round.begun
      begun_at (LoadCell x) q = q.scanning.past.looks.round.begun
      begun_at RaiseOld q = q.past.looks.round.begun
      begun_at (StoreLog x) q = q.storing.stored.past.looks.round.begun
      begun_at (RaiseLog x) q = q.storing.stored.past.looks.round.begun
      begun_at StoreRequest q = q.stored.past.looks.round.begun
      begun_at RaiseRequest q = q.stored.past.looks.round.begun
      begun_at ExchangeCurrent q = q.stored.past.looks.round.begun
      begun_at RaiseCurrent q = apply_begun q
      begun_at (LoadTarget j) q = apply_begun q.applies
      begun_at (ExchangeTarget j f) q = apply_begun q.entry.applies
      begun_at (ReloadTarget j) q = apply_begun q.entry.applies
      begun_at (RaiseTarget j f) q = apply_begun q.entry.applies
      begun_at CloseRequest q = apply_begun q.applies
      begun_at RaiseClosed q = apply_begun q.applies

      lost_begun : IsAnnounced S B w.words w.batches i m × IsOpen m.place
      lost_begun = (begun_at m.place held, go (idle_or_open m.place))
        where
          go : (m.place ≡ Idle) ⊎ IsOpen m.place → IsOpen m.place
          go (inl e) = absurd (unsettled (subst (λ (p : Place). HoldsAtPlace S B w.words w.batches i m p) e held).settled)
          go (inr q) = q

    -- the announced call has not run, as far as the ticket cell tells
    module _ (made : ℕ) (lag : payload_of cell < a) where
      abbrev d : CallState
      d = revived_if S (remains_of S w.words i) i made true

      few : k ≤ S.instrs
      few = g.shared.heard.small i h

      op_is : d.op ≡ script_words_of S w.words i k
      op_is = said_front S w.words i k S.instrs few

      many : length d.op ≡ k
      many = ap length op_is ∙ said_length S w.words i k

      -- a call that the ticket cell doesn't show
      behind : a ≤ last n → IsAnnounced S B w.words w.batches i m × IsOpen m.place
      behind l = go shown
        where
          go : (cell ≡ data_word_after B w.batches n (ticket_cell S i)) ⊎ (IsLastOpen B w.words × (payload_of cell ≡ last (n - 1)) × (seq_of cell < n)) → IsAnnounced S B w.words w.batches i m × IsOpen m.place
          go (inl q) = absurd (omega (arith, ap payload_of q))
          go (inr q) = lost_begun q.0 (omega (arith, q.1)) q.2

      lost_op : IsAnnounced S B w.words w.batches i m → m.op ≡ d.op
      lost_op p =
          let e : k ≡ length m.op = ap payload_of p.says ∙ pay_word m.made (length m.op) (omega (arith, p.words, g.shared.narrow)) in
          sym p.script ∙ ap (script_words_of S w.words i) (sym e) ∙ sym op_is

      -- a batch that has the call has it with the words that are announced
      one_op : (s : ℕ) → B.seq < s → s ≤ n → All (λ (c : Call). c.caller ≡ i → c.ticket ≡ a → c.op ≡ d.op) (batch_at B w.batches s).calls
      one_op s l u y e z q t =
          let c : Call = get_or (batch_at B w.batches s).calls y e in
          let v : c.ticket ≤ last_ticket_by S B w.batches n c.caller = ticket_upto S Lawful B w.batches g.shared.stands s n l u (omega (arith, n_is)) y e z in
          let p : IsAnnounced S B w.words w.batches i m × IsOpen m.place = behind (omega (arith, v, t, ap (last_ticket_by S B w.batches n) q)) in
          p.0.mine s l u y e z q (t ∙ own_seq g h m p.0) ∙ lost_op p.0

      -- the lost machine's open call, if it is the announced one, has these words
      holds_op : a ≡ m.made → Holds S Lawful B w g i m h → m.op ≡ d.op
      holds_op says (inl f) = absurd (omega (arith, says, f.newer))
      holds_op says (inr (inl p)) = lost_op p
      holds_op says (inr (inr q)) = let c = q.0.call in sym c.same ∙ one_op m.seq q.1 q.2 c.place no_call c.among c.caller (c.ticket ∙ sym says)

      pub same_op : a ≡ m.made → IsOpen m.place → m.op ≡ d.op
      same_op says o = holds_op says (held_how S Lawful B w g i m h m.place o held)

      begun : IsAnnounced S B w.words w.batches i d
      begun = record {
        caller = refl;
        ticket = g.shared.heard.tickets i h;
        words = omega (arith, many, few);
        some = omega (arith, many, g.shared.heard.some i h (omega arith));
        kept = record { low = omega arith; held = λ l. absurd (omega (arith, l, seq_zero)) };
        says = sym (word_eta (announcement_of S w.words i)) ∙ ap (pack a) (sym many);
        script = ap (script_words_of S w.words i) many ∙ sym op_is;
        upto = omega (arith, reached, low);
        beyond = omega (arith, low);
        mine = one_op;
        known = λ l. absurd (omega arith);
      }

      open_holds : HoldsAtPlace S B w.words w.batches i d LoadCurrent
      open_holds = record { begun = begun; calm = calm; between = record { few = omega arith; later = λ l. absurd (omega arith) } }

      open_within : MachineIsWithinBound S d LoadCurrent
      open_within = record { told = λ q. cc; steps = rw (mul_comm (S.instrs + 1) S.callers) (rounds_within k S.instrs S.cells (S.callers * (S.instrs + 1)) few) }

      open_late : HasMadeLeastSteps S d LoadCurrent
      open_late = record { steps = omega (arith, many); rests = λ q. cc; told = λ q. cc }

      -- below the limit the lost machine has begun no later call
      pub lost_open : n < S.limit → IsOpen m.place × (a ≡ m.made)
      lost_open under = go (cases_lt (last n) a)
        where
          go : (last n < a) ⊎ (a ≤ last n) → IsOpen m.place × (a ≡ m.made)
          go (inl l) = announces_at S Lawful B w.words w.batches g.shared i m m.place held (λ q. elim q [ inl z ↦ omega (arith, z) | inr z ↦ omega (arith, z) ])
          go (inr l) = let p = behind l in (p.1, own_seq g h m p.0)

    -- no announced call is left
    module _ (made : ℕ) (done : a ≤ payload_of cell) where
      top : last n ≤ payload_of cell
      top = omega (arith, reached, low)

      -- if the last call is in the last batch, its cell shows it
      newest : last (n - 1) < last n → B.seq < n → IsNewestCall S B w.batches n i → n ≤ seq_of (data_word_after B w.batches n (ticket_cell S i))
      newest l after c = go (cases_lt c.number n)
        where
          last_call : Call
          last_call = get_or (batch_at B w.batches c.number).calls c.place no_call

          now : last_ticket_by S B w.batches c.number last_call.caller ≡ last_call.ticket
          now = (g.shared.stands.now c.number c.from (omega (arith, c.upto, n_is)) c.place no_call c.among).1

          row : data_word_after B w.batches n (ticket_cell S i) ≡ pack c.number last_call.ticket
          row = ap (λ (x : ℕ). data_word_after B w.batches n (ticket_cell S x)) (sym c.caller) ∙ c.shows.ticket

          ticket : last n ≡ last_call.ticket
          ticket = ap payload_of row ∙ pay_word c.number last_call.ticket (omega (arith, now, pay_small (data_word_after B w.batches c.number (ticket_cell S last_call.caller))))

          go : (c.number < n) ⊎ (n ≤ c.number) → n ≤ seq_of (data_word_after B w.batches n (ticket_cell S i))
          go (inl v) =
              let t : last_call.ticket ≤ last_ticket_by S B w.batches (n - 1) last_call.caller = ticket_upto S Lawful B w.batches g.shared.stands c.number (n - 1) c.from (omega arith) (omega (arith, n_is)) c.place no_call c.among in
              absurd (omega (arith, l, t, ticket, ap (last_ticket_by S B w.batches (n - 1)) c.caller))
          go (inr v) = omega (arith, v, seq_from c.number last_call.ticket (data_word_after B w.batches n (ticket_cell S i)) (omega (arith, row)))

      settled : HasSettledCells S B w.words w.batches i
      settled o = go shown (cases_lt (last (n - 1)) (last n))
        where
          is_newest : last (n - 1) < last n → (HasNoCallBetween B w.batches i B.seq n × ((x : ℕ) → IsCellOfCaller S i x → data_word_after B w.batches n x ≡ data_word_after B w.batches B.seq x)) ⊎ IsNewestCall S B w.batches n i → IsNewestCall S B w.batches n i
          is_newest l (inl q) =
              let t : last n ≡ last B.seq = ap payload_of (q.1 (ticket_cell S i) (omega arith, omega arith)) in
              absurd (omega (arith, l, t, tickets_grow S Lawful B w.batches g.shared.stands B.seq (n - 1) i (omega arith) (omega (arith, o.any)) (omega (arith, n_is)) h))
          is_newest l (inr c) = c

          go : (cell ≡ data_word_after B w.batches n (ticket_cell S i)) ⊎ (IsLastOpen B w.words × (payload_of cell ≡ last (n - 1)) × (seq_of cell < n)) → (last (n - 1) < last n) ⊎ (last n ≤ last (n - 1)) → (last n ≤ last (n - 1)) ⊎ (n ≤ seq_of cell)
          go q (inr l) = inl l
          go (inr q) (inl l) = absurd (omega (arith, l, q.1, top))
          go (inl q) (inl l) = inr (omega (arith, ap seq_of q, newest l o.any (is_newest l (g.shared.stands.last n i (omega (arith, n_is)) (omega (arith, n_is)) h))))

      idle_holds : HoldsAtPlace S B w.words w.batches i (revived_if S (remains_of S w.words i) i made false) Idle
      idle_holds = record {
        caller = refl;
        calm = calm;
        kept = record { low = omega arith; held = λ l. absurd (omega (arith, l, seq_zero)) };
        quieted = inl (omega (arith, high));
        settled = settled;
        upto = omega (arith, top);
        older = omega arith;
        told = tt;
      }

    -- the new machine, by the test of what is announced
    holds_if : (made : ℕ) (b : Bool) → nat_lt (payload_of cell) a ≡ b → HoldsAtPlace S B w.words w.batches i (revived_if S (remains_of S w.words i) i made b) (revived_if S (remains_of S w.words i) i made b).place
    holds_if made true e = open_holds made (is_newer (payload_of cell) a e)
    holds_if made false e = idle_holds made (not_newer (payload_of cell) a e)

    pub revived_core : (made : ℕ) → MeetsCore S Lawful B (after_revival S i made w)
    revived_core made = (assemble g h w.words w.batches (revived_machine S (remains_of S w.words i) i made) (moves_not i g.shared) g.shared (holds_if made (nat_lt (payload_of cell) a) refl)).core

    within_if : (made : ℕ) (b : Bool) → nat_lt (payload_of cell) a ≡ b → MachineIsWithinBound S (revived_if S (remains_of S w.words i) i made b) (revived_if S (remains_of S w.words i) i made b).place
    within_if made true e = open_within made (is_newer (payload_of cell) a e)
    within_if made false e = record { steps = omega arith; told = λ q. tt }

    late_if : (made : ℕ) (b : Bool) → nat_lt (payload_of cell) a ≡ b → HasMadeLeastSteps S (revived_if S (remains_of S w.words i) i made b) (revived_if S (remains_of S w.words i) i made b).place
    late_if made true e = open_late made (is_newer (payload_of cell) a e)
    late_if made false e = idle_late S i (max made (payload_of cell))

    -- what is announced has run if the new machine is idle, and has not run if it isn't and no transaction is open
    pub has_run : announces_open_call (remains_of S w.words i) ≡ false → a ≤ last n
    has_run e = omega (arith, high, not_newer (payload_of cell) a e)

    pub has_not_run : announces_open_call (remains_of S w.words i) ≡ true → (IsLastOpen B w.words → ⊥) → last n < a
    has_not_run e closed = go shown
      where
        go : (cell ≡ data_word_after B w.batches n (ticket_cell S i)) ⊎ (IsLastOpen B w.words × (payload_of cell ≡ last (n - 1)) × (seq_of cell < n)) → last n < a
        go (inl q) = omega (arith, ap payload_of q, is_newer (payload_of cell) a e)
        go (inr q) = absurd (closed q.0)

    -- if it counts on, an open call is the announced one of the lost machine, with its words
    pub op_if : (made : ℕ) (b : Bool) → nat_lt (payload_of cell) a ≡ b → CountsOn m (revived_if S (remains_of S w.words i) i made b) → IsOpen (revived_if S (remains_of S w.words i) i made b).place → (revived_if S (remains_of S w.words i) i made b).op ≡ m.op
    op_if made true e c o = sym (same_op made (is_newer (payload_of cell) a e) c.0 (c.1 o))
    op_if made false e c o = cc

    pub says_if : (made : ℕ) (b : Bool) → CountsOn m (revived_if S (remains_of S w.words i) i made b) → IsOpen (revived_if S (remains_of S w.words i) i made b).place → a ≡ m.made
    says_if made true c o = c.0
    says_if made false c o = cc

    -- it has no answer, and has lost nothing
    pub silent_if : (made : ℕ) (b : Bool) → (revived_if S (remains_of S w.words i) i made b).answer ≡ None
    silent_if made true = refl
    silent_if made false = refl

    pub none_lost : (made : ℕ) (b : Bool) → ((revived_if S (remains_of S w.words i) i made b).tries ≡ 0) × ((revived_if S (remains_of S w.words i) i made b).rounds ≡ 0)
    none_lost made true = (refl, refl)
    none_lost made false = (refl, refl)

    -- it has begun no try
    no_try : (made : ℕ) (b : Bool) → HasBegunTry (revived_if S (remains_of S w.words i) i made b) (revived_if S (remains_of S w.words i) i made b).place → ⊥
    no_try made true t = t
    no_try made false t = t

    pub reads_if : (made : ℕ) (b : Bool) (s : ℕ) → ReadsFrom s (revived_if S (remains_of S w.words i) i made b)
    unfolding ReadsFrom
    reads_if made b s t = absurd (no_try made b t)

    -- the calls of the caller so far are in the batches so far
    pub split_now : (t : ℕ) → t ≡ m.made → IsSplitAt B w i t n
    split_now t e x l u y z f q = (
      λ v. omega (arith, u, n_is),
      λ v. omega (
        arith,
        ticket_upto S Lawful B w.batches g.shared.stands x n l (omega (arith, u, n_is)) (omega (arith, n_is)) y z f,
        ap (λ (j : ℕ). last_ticket_by S B w.batches n j) q,
        upto_at S Lawful B w g i m h m.place held,
        e,
      ),
    )

  -- the whole invariant
  module _ {w : Moment} (g : MeetsInvariant S Lawful B w) (i : ℕ) (h : i < S.callers) (may : MayRevive (remains_of S w.words i) i) (made : ℕ) where
    abbrev next : CallState
    next = revived_machine S (remains_of S w.words i) i made

    -- what holds of the new machine and of each other holds of all
    each_now : (P : ℕ → CallState → Type 0) → ((j : ℕ) (x : CallState) → j < S.callers → get_or w.machines j x ≡ x → P j x) → P i next
        → (j : ℕ) (x : CallState) → j < S.callers → get_or (set w.machines i next) j x ≡ x → P j x
    each_now P others own j x l q = go (cases_eq j i)
      where
        go : (j ≡ i) ⊎ (j ≡ i → ⊥) → P j x
        go (inl e) =
            let i_in : i < length w.machines = omega (arith, g.core.members) in
            let same : next ≡ x = sym (get_or-set_same w.machines i next x i_in) ∙ (rw e at q) in
            subst (λ (y : CallState). P j y) same (rw e own)
        go (inr e) = others j x l (sym (get_or-set_other w.machines i j next x e) ∙ q)

    -- it counts the answered reads of its caller if it counts the lost machine's calls
    counts_reads : CountsOn (machine_in w i) next → CountsReads S w i made
    counts_reads c y r l q = go (is_idle (machine_in w i).place) (is_idle next.place) refl refl ((g.order.behind i (machine_in w i) h own).older y r l q)
      where
        own : get_or w.machines i (machine_in w i) ≡ machine_in w i
        own = get_or_default w.machines i (machine_in w i) no_machine (omega (arith, g.core.members))

        go : (a b : Bool) → is_idle (machine_in w i).place ≡ a → is_idle next.place ≡ b → WasMadeBefore (machine_in w i) (get_or w.reads y r) a → WasMadeBefore next (get_or w.reads y r) b
        go true true e f p = omega (arith, p, c.0)
        go false true e f p = omega (arith, p, c.0)
        go false false e f p = omega (arith, p, c.0)
        go true false e f p = let z : true ≡ false = sym e ∙ c.1 f in cc

    order_now : HasOlderReads w i next → KeepsCallOrder S B (after_revival S i made w)
    order_now older = record {
      ordered = g.order.ordered;
      behind = each_now (λ (j : ℕ) (x : CallState). HasOnlyOlderCalls S B w.words w.batches w.reads j x x.place) g.order.behind
          (record { older = older; seen = λ t. absurd (no_try g.core i h may made (announces_open_call (remains_of S w.words i)) t); still = λ t. absurd (no_try g.core i h may made (announces_open_call (remains_of S w.words i)) t) });
    }

    pub revived_good : CountsReads S w i made → MeetsInvariant S Lawful B (after_revival S i made w)
    revived_good older = record {
      core = revived_core g.core i h may made;
      order = order_now older;
      within = each_now (λ (j : ℕ) (x : CallState). MachineIsWithinBound S x x.place) g.within (within_if g.core i h may made (announces_open_call (remains_of S w.words i)) refl);
      late = each_now (λ (j : ℕ) (x : CallState). HasMadeLeastSteps S x x.place) g.late (late_if g.core i h may made (announces_open_call (remains_of S w.words i)) refl);
    }

    pub counted_good : CountsOn (machine_in w i) next → MeetsInvariant S Lawful B (after_revival S i made w)
    counted_good c = revived_good (counts_reads c)

    -- an announced call has made the steps of its announcement
    announced_steps : (m : CallState) → seq_of (announcement_of S w.words i) ≡ m.made → (p : Place) → IsOpen p → HoldsAtPlace S B w.words w.batches i m p → length m.op + 1 ≤ least_steps_at m p
    announced_steps m says p o a = at p o a
      where
        helper_steps : MayHelp S B w.words w.batches i m → length m.op + 1 ≤ made_helping m.op (m.rounds == 0)
        helper_steps (inl r) = rw (ne_eqb m.rounds 0 (λ e. omega (arith, e, r.begun_one))) (omega arith)
        helper_steps (inr t) = absurd (omega (arith, says, t.fresh.newer))

        mode_steps : (b : Bool) → AppliesAs S B w.words w.batches i m b → length m.op + 1 ≤ made_applying m.op (m.rounds == 0) b
        mode_steps true q = helper_steps q.helper
        mode_steps false q = omega arith

        at : (p : Place) → IsOpen p → HoldsAtPlace S B w.words w.batches i m p → length m.op + 1 ≤ least_steps_at m p
        at Idle o a = cc
        at TryCurrent o a = absurd (omega (arith, says, a.fresh.newer))
        at TryRequest o a = absurd (omega (arith, says, a.trying.fresh.newer))
        at (TryCell x) o a = absurd (omega (arith, says, a.trying.fresh.newer))
        at (StoreScript j) o a = absurd (omega (arith, says, a.fresh.newer))
        at StoreAnnouncement o a = absurd (omega (arith, says, a.fresh.newer))
        at LoadCurrent o a = omega arith
        at LoadRequest o a = omega arith
        at (CopyLog x) o a = helper_steps a.copies.helping.helper
        at LookAgain o a = helper_steps a.copies.helping.helper
        at LoadOwnTicket o a = omega arith
        at LoadShape o a = omega arith
        at (LoadReply j) o a = omega arith
        at LoadAnnouncement o a = omega arith
        at LoadTicket o a = omega arith
        at (LoadScript j) o a = omega arith
        at (LoadCell x) o a = omega arith
        at RaiseOld o a = omega arith
        at (StoreLog x) o a = omega arith
        at (RaiseLog x) o a = omega arith
        at StoreRequest o a = omega arith
        at RaiseRequest o a = omega arith
        at ExchangeCurrent o a = omega arith
        at RaiseCurrent o a = mode_steps m.helps a.mode
        at (LoadTarget j) o a = mode_steps m.helps a.applies.mode
        at (ExchangeTarget j f) o a = mode_steps m.helps a.entry.applies.mode
        at (ReloadTarget j) o a = mode_steps m.helps a.entry.applies.mode
        at (RaiseTarget j f) o a = mode_steps m.helps a.entry.applies.mode
        at CloseRequest o a = mode_steps m.helps a.applies.mode
        at RaiseClosed o a = mode_steps m.helps a.applies.mode

    -- so it has made no more steps than the lost machine
    pub fewer_steps : CountsOn (machine_in w i) next → next.steps ≤ (machine_in w i).steps
    fewer_steps c = go (announces_open_call (remains_of S w.words i)) refl c
      where
        own : get_or w.machines i (machine_in w i) ≡ machine_in w i
        own = get_or_default w.machines i (machine_in w i) no_machine (omega (arith, g.core.members))

        go : (b : Bool) → announces_open_call (remains_of S w.words i) ≡ b → CountsOn (machine_in w i) (revived_if S (remains_of S w.words i) i made b) → (revived_if S (remains_of S w.words i) i made b).steps ≤ (machine_in w i).steps
        go false e c = omega arith
        go true e c =
            let o : IsOpen (machine_in w i).place = c.1 refl in
            let op : (machine_in w i).op ≡ (revived_if S (remains_of S w.words i) i made true).op = sym (op_if g.core i h may made true e c refl) in
            omega (
              arith,
              announced_steps (machine_in w i) c.0 (machine_in w i).place o (g.core.each i (machine_in w i) h own),
              (g.late i (machine_in w i) h own).steps,
              ap length op,
              many g.core i h may made (is_newer (payload_of (data_word S w.words (ticket_cell S i))) (seq_of (announcement_of S w.words i)) e),
            )

    -- below the limit an open call is newer than all reads of its caller
    pub open_counts : announces_open_call (remains_of S w.words i) ≡ true → committed_seq w.words < S.limit → CountsReads S w i made
    open_counts e under = rw e older
      where
        lag : payload_of (data_word S w.words (ticket_cell S i)) < seq_of (announcement_of S w.words i)
        lag = is_newer (payload_of (data_word S w.words (ticket_cell S i))) (seq_of (announcement_of S w.words i)) e

        was : IsOpen (machine_in w i).place × (seq_of (announcement_of S w.words i) ≡ (machine_in w i).made)
        was = lost_open g.core i h may made lag under

        own : get_or w.machines i (machine_in w i) ≡ machine_in w i
        own = get_or_default w.machines i (machine_in w i) no_machine (omega (arith, g.core.members))

        older : HasOlderReads w i (revived_if S (remains_of S w.words i) i made true)
        older y r l q =
            let p : WasMadeBefore (machine_in w i) (get_or w.reads y r) false = subst (λ (b : Bool). WasMadeBefore (machine_in w i) (get_or w.reads y r) b) was.0 ((g.order.behind i (machine_in w i) h own).older y r l q) in
            omega (arith, p, was.1)

    -- below the limit it counts on from the lost machine's number
    pub counts_on : made ≡ (machine_in w i).made → committed_seq w.words < S.limit → CountsOn (machine_in w i) next
    counts_on e under = go (announces_open_call (remains_of S w.words i)) refl
      where
        cell : ℕ
        cell = payload_of (data_word S w.words (ticket_cell S i))

        go : (b : Bool) → announces_open_call (remains_of S w.words i) ≡ b → CountsOn (machine_in w i) (revived_if S (remains_of S w.words i) i made b)
        go true q =
            let p = lost_open g.core i h may made (is_newer cell (seq_of (announcement_of S w.words i)) q) under in
            (p.1, λ o. p.0)
        go false q = (omega (arith, e, high g.core i h may, upto_at S Lawful B w g.core i (machine_in w i) h (machine_in w i).place (held g.core i h may)), λ o. cc)
