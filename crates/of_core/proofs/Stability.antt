-- What one machine's step leaves true of the others.
use Rattle.std.proofs.Common.{◌≡◌, ℕ, zero, suc, ◌+◌, ◌-◌, ◌<◌, ◌≤◌, ◌⊎◌, inl, inr, List, length, get_or, Bool, true, false, ◌*◌, refl, sym, ◌∙◌, ap, subst, arith, Option, Some, None}
use Rattle.std.specs.List.{All}
use Rattle.std.proofs.lemmas.Bool.{cases_lt, cases_order}
use Rattle.of_cell.proofs.Order.{seq_word, word_inj, seq_mono}
use Rattle.of_cell.specs.Words.{pack, seq_of, payload_of}
use Rattle.of_cell.proofs.Places.{row_within}
use Rattle.of_mem.specs.declared.work.RawReply.{RawReply}
use Rattle.of_core.specs.declared.place.Place.{Place}
use Rattle.of_core.specs.declared.place.Place.TheVariants.{Idle, TryCurrent, TryRequest, TryCell, StoreScript, StoreAnnouncement, LoadCurrent, LoadRequest, CopyLog, LookAgain, LoadOwnTicket, LoadShape, LoadReply, LoadAnnouncement, LoadTicket, LoadScript, LoadCell, RaiseOld, StoreLog, RaiseLog, StoreRequest, RaiseRequest, ExchangeCurrent, RaiseCurrent, LoadTarget, ExchangeTarget, ReloadTarget, RaiseTarget, CloseRequest, RaiseClosed}
use Rattle.of_core.specs.declared.place.Outcome.{Outcome}
use Rattle.of_core.specs.declared.place.Outcome.TheVariants.{Answered, Spent, Lost}
use Rattle.of_core.specs.Table.{most_entries, Setup, ticket_cell, cell_count, request_at, data_at, log_at, script_words_of, script_word, announcement_of, current_word, request_of, data_word, log_word_of, durable_word, durable_request, durable_cell, committed_seq, committed_owner, durable_seq}
use Rattle.of_core.specs.Machine.{CallState, Call, log_entry, log_words}
use Rattle.of_core.specs.TableMoment.{Batch, TableStart}
use Rattle.of_core.specs.History.{state_after, batch_at, last_ticket_by, ticket_in_state}
use Rattle.of_core.specs.WordsMatch.{IsEntry, AnnouncementsAreServed, WordsHaveTheirKind, IsRequest, IsLogWord, WordsMatchHistory, WasHeldByCell, IsLastOpen}
use Rattle.of_core.specs.Rounds.{KnowsOwnRequest, WasCurrent, IsInTry, MayHelp, KnowsClosedState, IsAnnounced, IsUnannounced, IsInRound, IsPastRequest, IsPastOwnTicket, HasOneOperation, AnnouncesNothingNew, HasSettledCells, HasNothingUnderWay}
use Rattle.of_core.specs.Scan.{HasScannedUpTo, HasLoadedAnnouncement, HasLoadedScript, WasTakenByScan, IsAnnouncedCall}
use Rattle.of_core.specs.Transaction.{IsHelping, IsApplying, AppliesAs, OwnsTransaction, IsStoringLog, IsCopyingLog, HasStoredLog, HasClosedDurably}
use Rattle.of_core.specs.Places.{LastOutcomeStands, IsAtCaller, IsAtEntry}
use Rattle.of_core.specs.Invariant.{HoldsAtPlace, WasHeldByCurrent, IsLoaded}
use Rattle.of_core.specs.Guarantees.{Guarantees}
use Rattle.of_core.proofs.Logs.{length-log_words}

-- a batch's owner has a request of at least its sequence
pub floor_of : (S : Setup) (Lawful : List ℕ → Type 0) (B : TableStart) (ws : List ℕ) (bs : List Batch) → WordsMatchHistory S Lawful B ws bs → (k : ℕ) → B.seq < k → k ≤ committed_seq ws → pack k 0 ≤ request_of ws (batch_at B bs k).owner
floor_of S Lawful B ws bs g k l u = go (cases_lt k (committed_seq ws))
  where
    go : (k < committed_seq ws) ⊎ (committed_seq ws ≤ k) → pack k 0 ≤ request_of ws (batch_at B bs k).owner
    go (inl v) = omega (arith, g.requests.closed k l v)
    go (inr v) =
        let e : committed_seq ws ≡ k = omega arith in
        let o : committed_owner ws ≡ (batch_at B bs k).owner = rw e at (g.counted.owner (omega (arith, l))) in
        rw (← o) (rw e at (g.requests.latest (omega (arith, l))))

pub said_as : (S : Setup) (ws vs : List ℕ) (c n : ℕ) → ((x : ℕ) → script_word S vs c x ≡ script_word S ws c x) → script_words_of S vs c n ≡ script_words_of S ws c n
said_as S ws vs c zero f = refl
said_as S ws vs c (suc n) f = rw (said_as S ws vs c n f, f n) refl

pub heard_as : (S : Setup) (B : TableStart) (ws vs : List ℕ) (bs : List Batch) → ((i : ℕ) → i < S.callers → announcement_of S vs i ≡ announcement_of S ws i) → committed_seq vs ≡ committed_seq ws → ((i : ℕ) → i < S.callers → payload_of (log_word_of S vs i 0) ≤ most_entries S) → AnnouncementsAreServed S B ws bs → AnnouncementsAreServed S B vs bs
heard_as S B ws vs bs same n counts h = record {
  small = λ i l. rw (same i l) (h.small i l);
  tickets = λ i l. rw (same i l) (h.tickets i l);
  some = λ i l. rw (same i l) (h.some i l);
  before = λ k i l u m. rw (same i m) (h.before k i l (rw n at u) m);
  met = λ k i l u m. rw (same i m) (h.met k i l (rw n at u) m);
  reached = λ i l. rw (same i l, n) (h.reached i l);
  counts = counts;
}

pub log_in : (S : Setup) (j x : ℕ) → j < S.callers → x < 2 * most_entries S + 1 → log_at S j x < cell_count S
log_in S j x l u = let r : j * (2 * most_entries S + 1) + (2 * most_entries S + 1) ≤ S.callers * (2 * most_entries S + 1) = row_within j S.callers (2 * most_entries S + 1) l in omega arith

-- two places in rows of the same width
pub same_row : (j i k y x : ℕ) → y < k → x < k → j * k + y ≡ i * k + x → j ≡ i
same_row j i k y x l u e = go (cases_order j i)
  where
    lower : (p q : ℕ) → p < q → p * k + k ≤ q * k
    lower p q v = row_within p q k v

    go : (j ≡ i) ⊎ ((j < i) ⊎ (i < j)) → j ≡ i
    go (inl q) = q
    go (inr (inl q)) = absurd (omega (arith, lower j i q))
    go (inr (inr q)) = absurd (omega (arith, lower i j q))

-- the entries that a machine applies are of its batch's log, and its owner is a caller
module _ {S : Setup} {Lawful : List ℕ → Type 0} {B : TableStart} {ws : List ℕ} {bs : List Batch} (shared : WordsMatchHistory S Lawful B ws bs) {i n : ℕ} {m : CallState} (a : IsApplying S B ws bs i m n) where
  pub entry_in : (k : ℕ) → k < length m.log → IsEntry S (log_entry m k)
  entry_in k l = let t = a.log.each k l in subst (λ (e : ℕ × ℕ). IsEntry S e) t.2 ((shared.counted.logs m.seq a.after a.upto).entries t.0 (0, 0) t.1)

  pub owner_in : m.owner < S.callers
  owner_in = rw (← a.committed) (shared.counted.owners m.seq a.after a.upto)

module _ (S : Setup) (Lawful : List ℕ → Type 0) (B : TableStart) (i : ℕ) (ws : List ℕ) (bs : List Batch) (vs : List ℕ) (cs : List Batch) (v : Guarantees S B i ws bs vs cs) (shared : WordsMatchHistory S Lawful B ws bs) where
  grows : committed_seq ws ≤ committed_seq vs
  grows = seq_mono (current_word ws) (current_word vs) (v.rise 0 (omega arith))

  req_up : (j : ℕ) → j < S.callers → request_of ws j ≤ request_of vs j
  req_up j l = v.rise (j + 1) (omega arith)

  cell_up : (a : ℕ) → a < S.cells → data_word S ws a ≤ data_word S vs a
  cell_up a l = v.rise (S.callers + 1 + a) (omega arith)

  risen_up : durable_seq S ws ≤ durable_seq S vs
  risen_up = seq_mono (durable_word S ws 0) (durable_word S vs 0) (v.durs 0 (omega arith))

  held_stable : (a w : ℕ) → WasHeldByCell B ws bs a w → WasHeldByCell B vs cs a w
  held_stable a w h = (h.0, h.1, omega (arith, h.2, grows), h.3 ∙ ap (λ (xs : List ℕ). get_or xs a 0) (sym (v.states h.0 h.1 h.2)))

  request_stable : (j w : ℕ) → IsRequest B ws bs j w → IsRequest B vs cs j w
  request_stable j w h l = go (h l)
    where
      go : (payload_of w ≡ 0) ⊎ ((payload_of w ≡ 1) × (seq_of w ≤ committed_seq ws) × ((batch_at B bs (seq_of w)).owner ≡ j)) → (payload_of w ≡ 0) ⊎ ((payload_of w ≡ 1) × (seq_of w ≤ committed_seq vs) × ((batch_at B cs (seq_of w)).owner ≡ j))
      go (inl q) = inl q
      go (inr q) = inr (q.0, omega (arith, q.1, grows), ap (λ (b : Batch). b.owner) (v.batches (seq_of w) l q.1) ∙ q.2)

  -- a log word that was loaded
  loaded_log : WordsHaveTheirKind S B vs cs → (j x w : ℕ) → j < S.callers → x < 2 * most_entries S + 1 → w ≤ log_word_of S ws j x → IsLogWord B ws bs j x w → (seq_of w ≡ seq_of (log_word_of S ws j x) → w ≡ log_word_of S ws j x)
      → IsLogWord B vs cs j x w × (seq_of w ≡ seq_of (log_word_of S vs j x) → w ≡ log_word_of S vs j x)
  loaded_log kinds j x w l u low h same = (λ a b o. is a b o (cases_lt (committed_seq ws) (seq_of w)), now)
    where
      under : seq_of w ≤ seq_of (log_word_of S ws j x)
      under = seq_mono w (log_word_of S ws j x) low

      now : seq_of w ≡ seq_of (log_word_of S vs j x) → w ≡ log_word_of S vs j x
      now q = go (v.log_how j x l u)
        where
          go : (log_word_of S vs j x ≡ log_word_of S ws j x) ⊎ (seq_of (log_word_of S ws j x) < seq_of (log_word_of S vs j x)) → w ≡ log_word_of S vs j x
          go (inl e) = same (q ∙ ap seq_of e) ∙ sym e
          go (inr e) = absurd (omega (arith, under))

      is : B.seq < seq_of w → seq_of w ≤ committed_seq vs → (batch_at B cs (seq_of w)).owner ≡ j → (committed_seq ws < seq_of w) ⊎ (seq_of w ≤ committed_seq ws)
          → (x < length (log_words (batch_at B cs (seq_of w)).log)) × (payload_of w ≡ get_or (log_words (batch_at B cs (seq_of w)).log) x 0)
      is a b o (inr old) =
          let e = v.batches (seq_of w) a old in
          subst (λ (b : Batch). (x < length (log_words b.log)) × (payload_of w ≡ get_or (log_words b.log) x 0)) (sym e) (h a old (ap (λ (b : Batch). b.owner) (sym e) ∙ o))
      is a b o (inl new) =
          let me : j ≡ i = sym o ∙ v.newer_owner (seq_of w) new b in
          let top : seq_of (log_word_of S vs i x) ≤ seq_of w = v.newer_logs (seq_of w) x new b u in
          let top' : seq_of (log_word_of S vs j x) ≤ seq_of w = rw me top in
          let durable_at : seq_of (log_word_of S ws j x) ≤ seq_of (log_word_of S vs j x) = seq_mono (log_word_of S ws j x) (log_word_of S vs j x) (v.rise (log_at S j x) (log_in S j x l u)) in
          let e : w ≡ log_word_of S vs j x = now (omega (arith, top', durable_at, under)) in
          let k : IsLogWord B vs cs j x (log_word_of S vs j x) = kinds.logs j x l u in
          let k' : IsLogWord B vs cs j x w = subst (λ (y : ℕ). IsLogWord B vs cs j x y) (sym e) k in
          k' a b o

  pub loaded_stable : WordsHaveTheirKind S B vs cs → (e : ℕ × ℕ) → IsLoaded S B ws bs e → IsLoaded S B vs cs e
  loaded_stable kinds e h = record {
    place = h.place;
    low = omega (arith, h.low, v.rise e.0 h.place);
    was_cur = λ q. was (h.was_cur q) (seq_mono e.1 (current_word ws) (rw q at h.low));
    held = λ a l q. held_stable a e.1 (h.held a l q);
    request = λ j l q. request_stable j e.1 (h.request j l q);
    log = λ j x l u q. let p = h.log j x l u q in loaded_log kinds j x e.1 l u (rw q at h.low) p.0 p.1;
  }
    where
      was : WasHeldByCurrent B ws bs e.1 → seq_of e.1 ≤ committed_seq ws → WasHeldByCurrent B vs cs e.1
      was q u = (q.0, λ l. q.1 l ∙ ap (λ (b : Batch). b.owner) (sym (v.batches (seq_of e.1) l u)), q.2)

  from_start : B.seq ≤ committed_seq ws
  from_start = omega (arith, shared.counted.count)

  -- a ticket cell stays, or takes the ticket that its caller announces
  pub tick_how : (j : ℕ) → j < S.callers → (last_ticket_by S B cs (committed_seq vs) j ≡ last_ticket_by S B bs (committed_seq ws) j)
      ⊎ ((last_ticket_by S B cs (committed_seq vs) j ≡ seq_of (announcement_of S ws j)) × (last_ticket_by S B bs (committed_seq ws) j < seq_of (announcement_of S ws j)) × (committed_seq ws < S.limit))
  tick_how j l = go (cases_lt (committed_seq ws) (committed_seq vs))
    where
      go : (committed_seq ws < committed_seq vs) ⊎ (committed_seq vs ≤ committed_seq ws) → (last_ticket_by S B cs (committed_seq vs) j ≡ last_ticket_by S B bs (committed_seq ws) j)
          ⊎ ((last_ticket_by S B cs (committed_seq vs) j ≡ seq_of (announcement_of S ws j)) × (last_ticket_by S B bs (committed_seq ws) j < seq_of (announcement_of S ws j)) × (committed_seq ws < S.limit))
      go (inl u) = v.tickets (committed_seq vs) j u (omega arith) l
      go (inr u) =
          let e : committed_seq vs ≡ committed_seq ws = omega (arith, grows) in
          inl (ap (λ (k : ℕ). last_ticket_by S B cs k j) e ∙ ap (λ (xs : List ℕ). ticket_in_state S xs j) (v.states (committed_seq ws) from_start (omega arith)))

  tick_up : (j : ℕ) → j < S.callers → last_ticket_by S B bs (committed_seq ws) j ≤ last_ticket_by S B cs (committed_seq vs) j
  tick_up j l = go (tick_how j l)
    where
      go : (last_ticket_by S B cs (committed_seq vs) j ≡ last_ticket_by S B bs (committed_seq ws) j) ⊎ ((last_ticket_by S B cs (committed_seq vs) j ≡ seq_of (announcement_of S ws j)) × (last_ticket_by S B bs (committed_seq ws) j < seq_of (announcement_of S ws j)) × (committed_seq ws < S.limit)) → last_ticket_by S B bs (committed_seq ws) j ≤ last_ticket_by S B cs (committed_seq vs) j
      go (inl q) = omega arith
      go (inr q) = omega (arith, q.0, q.1)

  pub tick_same : (s j : ℕ) → B.seq ≤ s → s ≤ committed_seq ws → last_ticket_by S B cs s j ≡ last_ticket_by S B bs s j
  tick_same s j l u = ap (λ (xs : List ℕ). ticket_in_state S xs j) (v.states s l u)

  -- of a caller that announces something to be run no word changes
  word_kept : (c x : ℕ) → c < S.callers → x < S.instrs + 1 → (AnnouncesNothingNew S B ws bs c → ⊥) → script_word S vs c x ≡ script_word S ws c x
  word_kept c x l u away = go (v.script_of c x l u)
    where
      go : (script_word S vs c x ≡ script_word S ws c x) ⊎ ((c ≡ i) × AnnouncesNothingNew S B ws bs c) → script_word S vs c x ≡ script_word S ws c x
      go (inl q) = q
      go (inr q) = absurd (away q.1)

  said_kept : (c n : ℕ) → c < S.callers → n ≤ S.instrs → ((x : ℕ) → x < S.instrs + 1 → script_word S vs c x ≡ script_word S ws c x) → script_words_of S vs c n ≡ script_words_of S ws c n
  said_kept c zero l u f = refl
  said_kept c (suc n) l u f = rw (said_kept c n l (omega arith) f, f n (omega arith)) refl

  loud : (s c t : ℕ) → s ≡ committed_seq ws → s < S.limit → last_ticket_by S B bs s c < t → seq_of (announcement_of S ws c) ≡ t → AnnouncesNothingNew S B ws bs c → ⊥
  loud s c t e l u q (inl z) = omega (arith, ap (λ (k : ℕ). last_ticket_by S B bs k c) e)
  loud s c t e l u q (inr z) = omega arith

  announced_stable : (s : ℕ) (c : Call) → s ≡ committed_seq ws → s < S.limit → WasTakenByScan S (state_after B bs s) c → IsAnnouncedCall S ws c → IsAnnouncedCall S vs c
  announced_stable s c e l t a =
      let n : seq_of (announcement_of S ws c.caller) ≡ c.ticket = ap seq_of a.says ∙ seq_word c.ticket (length c.op) (omega (arith, t.words, shared.narrow)) in
      let f : (x : ℕ) → x < S.instrs + 1 → script_word S vs c.caller x ≡ script_word S ws c.caller x = λ x u. word_kept c.caller x t.caller u (loud s c.caller c.ticket e l t.above n) in
      record { says = f S.instrs (omega arith) ∙ a.says; script = said_kept c.caller (length c.op) t.caller t.words f ∙ a.script }

  -- a scan at s
  module _ (s : ℕ) (from : B.seq ≤ s) (upto : s ≤ committed_seq ws) (under : s < S.limit) where
    now_before : s ≡ committed_seq vs → s ≡ committed_seq ws
    now_before e = omega (arith, grows)

    -- an announcement that stood before batch s
    stood_before : (c : ℕ) → c < S.callers → B.seq < s → (batch_at B cs s).announcements c ≡ announcement_of S vs c → (announcement_of S vs c ≡ announcement_of S ws c) × ((batch_at B bs s).announcements c ≡ announcement_of S ws c)
    stood_before c l after q = go (v.announcements c l)
      where
        q' : (batch_at B bs s).announcements c ≡ announcement_of S vs c
        q' = ap (λ (b : Batch). b.announcements c) (sym (v.batches s after upto)) ∙ q

        go : (announcement_of S vs c ≡ announcement_of S ws c) ⊎ ((c ≡ i) × ((k : ℕ) → B.seq < k → k ≤ committed_seq ws → (batch_at B bs k).announcements c ≡ announcement_of S vs c → ⊥)) → (announcement_of S vs c ≡ announcement_of S ws c) × ((batch_at B bs s).announcements c ≡ announcement_of S ws c)
        go (inl e) = (e, q' ∙ e)
        go (inr e) = absurd (e.1 s after upto q')

    over_stable : (j made : ℕ) (op : List ℕ) (raw : RawReply) (calls : List Call) (es : List (ℕ × ℕ)) (n : ℕ) → HasScannedUpTo S B ws bs j s made op raw calls es n → HasScannedUpTo S B vs cs j s made op raw calls es n
    over_stable j made op raw calls es n h = record {
      over = rw (v.states s from upto) h.over;
      taken = rw (v.states s from upto) h.taken;
      below = h.below;
      short = h.short;
      ordered = h.ordered;
      announced = λ e k d l. announced_stable s (get_or calls k d) (now_before e) under (h.taken k d l) (h.announced (now_before e) k d l);
      own = λ e l. h.own (now_before e) l;
      met = λ after c l u q. let b = stood_before c u after q in
          rw (b.0, v.states s from upto) (h.met after c l u b.1);
    }

    hears_stable : (j c heard : ℕ) → c < S.callers → (c ≡ j → announcement_of S vs c ≡ announcement_of S ws c) → HasLoadedAnnouncement S B ws bs j s c heard → HasLoadedAnnouncement S B vs cs j s c heard
    hears_stable j c heard l same h = record {
      own = λ q. same q ∙ h.own q;
      ticket = h.ticket;
      fresh = λ e t. let t' : last_ticket_by S B bs s c < seq_of heard = rw (v.states s from upto) at t in
          let a : announcement_of S ws c ≡ heard = h.fresh (now_before e) t' in
          word_kept c S.instrs l (omega arith) (loud s c (seq_of heard) (now_before e) under t' (ap seq_of a)) ∙ a;
      stood = λ after q. let b = stood_before c l after q in b.0 ∙ h.stood after b.1;
      small = h.small;
      some = h.some;
    }

    reads_stable : (me c heard j : ℕ) (script : List ℕ) → c < S.callers → HasLoadedAnnouncement S B ws bs me s c heard → HasLoadedScript S (state_after B bs s) ws s c heard script j → HasLoadedScript S (state_after B cs s) vs s c heard script j
    reads_stable me c heard j script l h r = record {
      new = rw (v.states s from upto) r.new;
      words = λ e. let a : announcement_of S ws c ≡ heard = h.fresh (now_before e) r.new in
          r.words (now_before e) ∙ sym (said_kept c j l (omega (arith, r.within, h.small)) (λ x u. word_kept c x l u (loud s c (seq_of heard) (now_before e) under r.new (ap seq_of a))));
      many = r.many;
      within = r.within;
    }

  module _ (j : ℕ) (member : j < S.callers) (other : j ≡ i → ⊥) where
    word_same : (x : ℕ) → x < S.instrs + 1 → script_word S vs j x ≡ script_word S ws j x
    word_same x u = go (v.script_of j x member u)
      where
        go : (script_word S vs j x ≡ script_word S ws j x) ⊎ ((j ≡ i) × AnnouncesNothingNew S B ws bs j) → script_word S vs j x ≡ script_word S ws j x
        go (inl q) = q
        go (inr q) = absurd (other q.0)

    ann_same : announcement_of S vs j ≡ announcement_of S ws j
    ann_same = word_same S.instrs (omega arith)

    ann_seq : seq_of (announcement_of S vs j) ≡ seq_of (announcement_of S ws j)
    ann_seq = ap seq_of ann_same

    said_same : (n : ℕ) → n ≤ S.instrs → script_words_of S vs j n ≡ script_words_of S ws j n
    said_same n u = said_kept j n member u word_same

    quieted_stable : AnnouncesNothingNew S B ws bs j → AnnouncesNothingNew S B vs cs j
    quieted_stable (inl q) = inl (omega (arith, q, ann_seq, tick_up j member))
    quieted_stable (inr q) = inr (omega (arith, q, grows, v.limit))

    -- a batch that comes has no call of a caller that announces nothing to be run
    settled_stable : AnnouncesNothingNew S B ws bs j → HasSettledCells S B ws bs j → HasSettledCells S B vs cs j
    settled_stable quiet h pending = go (cases_lt (committed_seq ws) (committed_seq vs))
      where
        -- the ticket cell after each batch that has come
        unmoved : (k : ℕ) → committed_seq ws ≤ k → k ≤ committed_seq vs → (committed_seq ws < k) ⊎ (k ≤ committed_seq ws) → last_ticket_by S B cs k j ≡ last_ticket_by S B bs (committed_seq ws) j
        unmoved k l u (inl new) = pick (v.tickets k j new u member) quiet
          where
            pick : (last_ticket_by S B cs k j ≡ last_ticket_by S B bs (committed_seq ws) j) ⊎ ((last_ticket_by S B cs k j ≡ seq_of (announcement_of S ws j)) × (last_ticket_by S B bs (committed_seq ws) j < seq_of (announcement_of S ws j)) × (committed_seq ws < S.limit))
                → AnnouncesNothingNew S B ws bs j → last_ticket_by S B cs k j ≡ last_ticket_by S B bs (committed_seq ws) j
            pick (inl e) q = e
            pick (inr e) (inl z) = absurd (omega (arith, e.1))
            pick (inr e) (inr z) = absurd (omega (arith, e.2))
        unmoved k l u (inr past) =
            let e : k ≡ committed_seq ws = omega arith in
            ap (λ (s : ℕ). last_ticket_by S B cs s j) e ∙ tick_same (committed_seq ws) j from_start (omega arith)

        row : j * (S.instrs + 2) + (S.instrs + 2) ≤ S.callers * (S.instrs + 2)
        row = row_within j S.callers (S.instrs + 2) member

        go : (committed_seq ws < committed_seq vs) ⊎ (committed_seq vs ≤ committed_seq ws) → (last_ticket_by S B cs (committed_seq vs) j ≤ last_ticket_by S B cs (committed_seq vs - 1) j) ⊎ (committed_seq vs ≤ seq_of (data_word S vs (ticket_cell S j)))
        go (inl new) =
            let a = unmoved (committed_seq vs) (omega arith) (omega arith) (inl new) in
            let b = unmoved (committed_seq vs - 1) (omega arith) (omega arith) (cases_lt (committed_seq ws) (committed_seq vs - 1)) in
            inl (omega (arith, a, b))
        go (inr past) =
            let e : committed_seq vs ≡ committed_seq ws = omega (arith, grows) in
            let a : last_ticket_by S B cs (committed_seq vs) j ≡ last_ticket_by S B bs (committed_seq ws) j = ap (λ (s : ℕ). last_ticket_by S B cs s j) e ∙ tick_same (committed_seq ws) j from_start (omega arith) in
            let after : B.seq < committed_seq ws = omega (arith, pending.any, e) in
            let b : last_ticket_by S B cs (committed_seq vs - 1) j ≡ last_ticket_by S B bs (committed_seq ws - 1) j = ap (λ (s : ℕ). last_ticket_by S B cs (s - 1) j) e ∙ tick_same (committed_seq ws - 1) j (omega arith) (omega arith) in
            let asks : request_of vs (committed_owner ws) ≡ pack (committed_seq ws) 0 = ap (request_of vs) (sym (v.same e)) ∙ pending.asks ∙ ap (λ (s : ℕ). pack s 0) e in
            let was : IsLastOpen B ws = record { any = after; asks = omega (arith, asks, req_up (committed_owner ws) shared.counted.owner_in, shared.requests.latest after) } in
            as_before e a b (h was)
          where
            as_before : committed_seq vs ≡ committed_seq ws → last_ticket_by S B cs (committed_seq vs) j ≡ last_ticket_by S B bs (committed_seq ws) j → last_ticket_by S B cs (committed_seq vs - 1) j ≡ last_ticket_by S B bs (committed_seq ws - 1) j
                → (last_ticket_by S B bs (committed_seq ws) j ≤ last_ticket_by S B bs (committed_seq ws - 1) j) ⊎ (committed_seq ws ≤ seq_of (data_word S ws (ticket_cell S j)))
                → (last_ticket_by S B cs (committed_seq vs) j ≤ last_ticket_by S B cs (committed_seq vs - 1) j) ⊎ (committed_seq vs ≤ seq_of (data_word S vs (ticket_cell S j)))
            as_before e a b (inl q) = inl (omega (arith, a, b, q))
            as_before e a b (inr q) = inr (omega (arith, e, q, seq_mono (data_word S ws (ticket_cell S j)) (data_word S vs (ticket_cell S j)) (cell_up (ticket_cell S j) (omega (arith, row, shared.own_in)))))

    -- a ticket cell that isn't above t, where t is at least what is announced
    under_stable : (t : ℕ) → seq_of (announcement_of S ws j) ≤ t → last_ticket_by S B bs (committed_seq ws) j ≤ t → last_ticket_by S B cs (committed_seq vs) j ≤ t
    under_stable t a l = go (tick_how j member)
      where
        go : (last_ticket_by S B cs (committed_seq vs) j ≡ last_ticket_by S B bs (committed_seq ws) j) ⊎ ((last_ticket_by S B cs (committed_seq vs) j ≡ seq_of (announcement_of S ws j)) × (last_ticket_by S B bs (committed_seq ws) j < seq_of (announcement_of S ws j)) × (committed_seq ws < S.limit)) → last_ticket_by S B cs (committed_seq vs) j ≤ t
        go (inl q) = omega arith
        go (inr q) = omega (arith, q.0)

    kept_stable : (u : ℕ) → KnowsOwnRequest B ws bs j u → KnowsOwnRequest B vs cs j u
    kept_stable u h = record { low = omega (arith, h.low, req_up j member); held = request_stable j u h.held }

    fresh_stable : (m : CallState) → IsUnannounced S B ws bs j m → IsUnannounced S B vs cs j m
    fresh_stable m h = record {
      caller = h.caller;
      ticket = h.ticket;
      words = h.words;
      some = h.some;
      kept = kept_stable m.kept h.kept;
      rounds = h.rounds;
      above = let z : last_ticket_by S B cs (committed_seq vs) j ≤ m.made - 1 = under_stable (m.made - 1) (omega (arith, h.newer)) (omega (arith, h.above)) in omega (arith, h.above);
      quieted = quieted_stable h.quieted;
      settled = settled_stable h.quieted h.settled;
      newer = omega (arith, h.newer, ann_seq);
    }

    mine_stable : (m : CallState) → length m.op ≤ S.instrs → announcement_of S ws j ≡ pack m.made (length m.op) → script_words_of S ws j (length m.op) ≡ m.op → HasOneOperation B ws bs j m.made m.op → HasOneOperation B vs cs j m.made m.op
    mine_stable m few says script h k l u = go (cases_lt (committed_seq ws) k)
      where
        go : (committed_seq ws < k) ⊎ (k ≤ committed_seq ws) → All (λ (c : Call). c.caller ≡ j → c.ticket ≡ m.made → c.op ≡ m.op) (batch_at B cs k).calls
        go (inr old) = rw (v.batches k l old) (h k l old)
        go (inl new) = λ x d y q t. this (get_or (batch_at B cs k).calls x d) q t (v.newer k new u x d y).0 (v.newer k new u x d y).1
          where
            this : (c : Call) → c.caller ≡ j → c.ticket ≡ m.made → IsAnnouncedCall S ws c → length c.op ≤ S.instrs → c.op ≡ m.op
            this c q t a n =
                let e : pack c.ticket (length c.op) ≡ pack m.made (length m.op) = sym a.says ∙ ap (announcement_of S ws) q ∙ says in
                let same : length c.op ≡ length m.op = (word_inj c.ticket (length c.op) m.made (length m.op) (omega (arith, n, shared.narrow)) (omega (arith, few, shared.narrow)) e).1 in
                sym a.script ∙ ap (λ (x : ℕ). script_words_of S ws x (length c.op)) q ∙ ap (script_words_of S ws j) same ∙ script

    begun_stable : (m : CallState) → IsAnnounced S B ws bs j m → IsAnnounced S B vs cs j m
    begun_stable m h = record {
      caller = h.caller;
      ticket = h.ticket;
      words = h.words;
      some = h.some;
      kept = kept_stable m.kept h.kept;
      says = ann_same ∙ h.says;
      script = said_same (length m.op) h.words ∙ h.script;
      upto = under_stable m.made (omega (arith, ap seq_of h.says, seq_word m.made (length m.op) (omega (arith, h.words, shared.narrow)))) h.upto;
      beyond = rw (tick_same B.seq j (omega arith) from_start) h.beyond;
      mine = mine_stable m h.words h.says h.script h.mine;
      known = λ l. ((h.known l).0, λ k u n. known k (h.known l).0 (h.known l).1 u n (cases_lt (committed_seq ws) k));
    }
      where
        known : (k : ℕ) → B.seq ≤ m.first → ((k : ℕ) → m.first < k → k ≤ committed_seq ws → (batch_at B bs k).announcements j ≡ announcement_of S ws j) → m.first < k → k ≤ committed_seq vs → (committed_seq ws < k) ⊎ (k ≤ committed_seq ws) → (batch_at B cs k).announcements j ≡ announcement_of S vs j
        known k from f u n (inl new) = v.snapshot k j new n member ∙ sym ann_same
        known k from f u n (inr old) = rw (v.batches k (omega arith) old) (f k u old) ∙ sym ann_same

    -- no batch of j's own comes
    unowned_stable : (n : ℕ) → B.seq ≤ n → ((k : ℕ) → n < k → k ≤ committed_seq ws → (batch_at B bs k).owner ≡ j → ⊥) → (k : ℕ) → n < k → k ≤ committed_seq vs → (batch_at B cs k).owner ≡ j → ⊥
    unowned_stable n f h k l u = go (cases_lt (committed_seq ws) k)
      where
        go : (committed_seq ws < k) ⊎ (k ≤ committed_seq ws) → (batch_at B cs k).owner ≡ j → ⊥
        go (inl new) q = other (sym q ∙ v.newer_owner k new u)
        go (inr past) q = h k l past (rw (v.batches k (omega arith) past) at q)

    current_stable : (s o : ℕ) → WasCurrent S B ws bs s o → WasCurrent S B vs cs s o
    current_stable s o h = let g = grows in record {
      from = h.from;
      owner_in = h.owner_in;
      upto = omega (arith, h.upto);
      same = λ e. let q : committed_seq vs ≡ committed_seq ws = omega (arith, h.upto) in h.same (e ∙ q) ∙ sym (v.same q);
      committed = λ l. rw (v.batches s l h.upto) (h.committed l);
      first = h.first;
    }

    round_stable : (m : CallState) → IsInRound S B ws bs j m → IsInRound S B vs cs j m
    round_stable m h = record {
      begun = begun_stable m h.begun;
      current_word = current_stable m.seq m.owner h.current_word;
      unowned = unowned_stable m.seq h.current_word.from h.unowned;
      later = h.later;
      begun_one = h.begun_one;
      few = h.few;
    }

    trying_stable : (m : CallState) → IsInTry S B ws bs j m → IsInTry S B vs cs j m
    trying_stable m h = record { fresh = fresh_stable m h.fresh; reads = h.reads; few = h.few }

    helper_stable : (m : CallState) → MayHelp S B ws bs j m → MayHelp S B vs cs j m
    helper_stable m (inl h) = inl (round_stable m h)
    helper_stable m (inr h) = inr (trying_stable m h)

    watches_stable : (s : ℕ) (known : List (Option ℕ)) → B.seq ≤ s → s ≤ committed_seq ws → KnowsClosedState S B ws bs s known → KnowsClosedState S B vs cs s known
    watches_stable s known f u h = let g = grows in record {
      quiet = λ e l. let q : committed_seq vs ≡ committed_seq ws = omega arith in
          let p : pack s 0 < request_of ws (committed_owner ws) = h.quiet (e ∙ q) l in
          rw (v.same q) (omega (arith, req_up (committed_owner ws) shared.counted.owner_in));
      agrees = rw (v.states s f u) h.agrees;
      all = h.all;
    }

    looks_stable : (m : CallState) → IsPastRequest S B ws bs j m → IsPastRequest S B vs cs j m
    looks_stable m h = record { round = round_stable m h.round; state = watches_stable m.seq m.known h.round.current_word.from h.round.current_word.upto h.state }

    past_stable : (m : CallState) → IsPastOwnTicket S B ws bs j m → IsPastOwnTicket S B vs cs j m
    past_stable m h = record { looks = looks_stable m h.looks; under = h.under; left = rw (v.states m.seq h.looks.round.current_word.from h.looks.round.current_word.upto) h.left }

    scans_stable : (m : CallState) (n : ℕ) → IsPastOwnTicket S B ws bs j m → HasScannedUpTo S B ws bs j m.seq m.made m.op m.raw m.calls m.log n → HasScannedUpTo S B vs cs j m.seq m.made m.op m.raw m.calls m.log n
    scans_stable m n p h = over_stable m.seq p.looks.round.current_word.from p.looks.round.current_word.upto p.under j m.made m.op m.raw m.calls m.log n h

    heard_stable : (m : CallState) → IsAtCaller S B ws bs j m → HasLoadedAnnouncement S B ws bs j m.seq m.scan m.heard → HasLoadedAnnouncement S B vs cs j m.seq m.scan m.heard
    heard_stable m p h = hears_stable m.seq p.past.looks.round.current_word.from p.past.looks.round.current_word.upto p.past.under j m.scan m.heard p.in_range (λ q. rw q ann_same) h

    script_stable : (m : CallState) (n : ℕ) → IsAtCaller S B ws bs j m → HasLoadedAnnouncement S B ws bs j m.seq m.scan m.heard → HasLoadedScript S (state_after B bs m.seq) ws m.seq m.scan m.heard m.script n → HasLoadedScript S (state_after B cs m.seq) vs m.seq m.scan m.heard m.script n
    script_stable m n p h r = reads_stable m.seq p.past.looks.round.current_word.from p.past.looks.round.current_word.upto p.past.under j m.scan m.heard n m.script p.in_range h r

    -- the durable word of a cell that stays, and that has reached its cell, stays
    level_stable : (c : ℕ) → c < cell_count S → get_or vs c 0 ≡ get_or ws c 0 → durable_word S ws c ≡ get_or ws c 0 → durable_word S vs c ≡ durable_word S ws c
    level_stable c l q d = omega (arith, v.durs c l, v.low c l)

    shut_stable : ((k : ℕ) → B.seq < k → k ≤ committed_seq ws → (batch_at B bs k).owner ≡ j → pack k 0 < request_of ws j) → (k : ℕ) → B.seq < k → k ≤ committed_seq vs → (batch_at B cs k).owner ≡ j → pack k 0 < request_of vs j
    shut_stable h k l u q = go (cases_lt (committed_seq ws) k)
      where
        go : (committed_seq ws < k) ⊎ (k ≤ committed_seq ws) → pack k 0 < request_of vs j
        go (inl new) = absurd (other (sym q ∙ v.newer_owner k new u))
        go (inr past) = omega (arith, h k l past (rw (v.batches k l past) at q), req_up j member)

    closed_stable : HasClosedDurably S B ws bs j → HasClosedDurably S B vs cs j
    closed_stable h k l u q = go (cases_lt (committed_seq ws) k)
      where
        go : (committed_seq ws < k) ⊎ (k ≤ committed_seq ws) → pack k 0 < durable_request S vs j
        go (inl new) = absurd (other (sym q ∙ v.newer_owner k new u))
        go (inr past) = omega (arith, h k l past (rw (v.batches k l past) at q), v.durs (request_at j) (omega arith))

    req_stays : ((k : ℕ) → B.seq < k → k ≤ committed_seq ws → (batch_at B bs k).owner ≡ j → pack k 0 < request_of ws j) → request_of vs j ≡ request_of ws j
    req_stays h = go (v.requests j member other)
      where
        go : (request_of vs j ≡ request_of ws j) ⊎ ((B.seq < committed_seq ws) × ((batch_at B bs (committed_seq ws)).owner ≡ j) × (request_of ws j ≡ pack (committed_seq ws) 0) × (request_of vs j ≡ pack (committed_seq ws) 1)) → request_of vs j ≡ request_of ws j
        go (inl q) = q
        go (inr q) = absurd (omega (arith, h (committed_seq ws) q.0 (omega arith) q.1, q.2))

    calm_stable : (n k : ℕ) → n ≤ k → HasNothingUnderWay S B ws bs j n → HasNothingUnderWay S B vs cs j k
    calm_stable n k l h = let q = req_stays h.shut in record {
      own = rw q (omega (arith, h.own));
      level = level_stable (request_at j) (omega arith) q h.level ∙ h.level ∙ sym q;
      shut = shut_stable h.shut;
      logs = λ y u. rw (v.logs j member other y u) (omega (arith, h.logs y u));
    }

    calm_at : (n : ℕ) → HasNothingUnderWay S B ws bs j n → HasNothingUnderWay S B vs cs j n
    calm_at n h = calm_stable n n (omega arith) h

    calm_now : HasNothingUnderWay S B ws bs j (committed_seq ws) → HasNothingUnderWay S B vs cs j (committed_seq vs)
    calm_now h = calm_stable (committed_seq ws) (committed_seq vs) grows h

    scanning_stable : (m : CallState) → IsAtCaller S B ws bs j m → IsAtCaller S B vs cs j m
    scanning_stable m h = record { past = past_stable m h.past; calm = calm_at m.seq h.calm; scan = scans_stable m m.scan h.past h.scan; in_range = h.in_range }

    owns_stable : (m : CallState) → B.seq < m.seq → m.seq ≤ committed_seq ws → OwnsTransaction S B ws bs j m → OwnsTransaction S B vs cs j m
    owns_stable m l u h = record {
      caller = h.caller;
      owner = h.owner;
      says = ap seq_of ann_same ∙ h.says;
      upto = under_stable m.made (omega (arith, h.says)) h.upto;
      reached = omega (arith, h.reached, tick_up j member);
      call = rw (v.batches m.seq l u) h.call;
      asks = go h.asks (v.requests j member other);
      unowned = unowned_stable m.seq (omega arith) h.unowned;
      logs = λ y t. rw (v.logs j member other y t) (h.logs y t);
    }
      where
        go : (request_of ws j ≡ pack m.seq 0) ⊎ (request_of ws j ≡ pack m.seq 1) → (request_of vs j ≡ request_of ws j) ⊎ ((B.seq < committed_seq ws) × ((batch_at B bs (committed_seq ws)).owner ≡ j) × (request_of ws j ≡ pack (committed_seq ws) 0) × (request_of vs j ≡ pack (committed_seq ws) 1))
            → (request_of vs j ≡ pack m.seq 0) ⊎ (request_of vs j ≡ pack m.seq 1)
        go (inl a) (inl q) = inl (q ∙ a)
        go (inr a) (inl q) = inr (q ∙ a)
        go (inl a) (inr q) = let s : m.seq ≡ committed_seq ws = (word_inj m.seq 0 (committed_seq ws) 0 (omega arith) (omega arith) (sym a ∙ q.2)).0 in inr (q.3 ∙ ap (λ (k : ℕ). pack k 1) (sym s))
        go (inr a) (inr q) = let z : ◌≡◌ {A = ℕ} 1 0 = (word_inj m.seq 1 (committed_seq ws) 0 (omega arith) (omega arith) (sym a ∙ q.2)).1 in absurd (omega arith)

    helping_stable : (m : CallState) → IsHelping S B ws bs j m → IsHelping S B vs cs j m
    helping_stable m h = record { helper = helper_stable m h.helper; current_word = current_stable m.seq m.owner h.current_word; calm = calm_at m.seq h.calm }

    mode_stable : (m : CallState) (b : Bool) → B.seq < m.seq → m.seq ≤ committed_seq ws → AppliesAs S B ws bs j m b → AppliesAs S B vs cs j m b
    mode_stable m true l u h = helping_stable m h
    mode_stable m false l u h = owns_stable m l u h

    applies_stable : (m : CallState) (n : ℕ) → n ≤ length m.log → IsApplying S B ws bs j m n → IsApplying S B vs cs j m n
    applies_stable m n fits h = let same = v.batches m.seq h.after h.upto in record {
      mode = mode_stable m m.helps h.after h.upto h.mode;
      after = h.after;
      upto = omega (arith, h.upto, grows);
      committed = rw same h.committed;
      log = rw same h.log;
      done = λ k l. let e : (log_entry m k).0 < S.cells = (entry_in shared h k (omega arith)).0 in record {
        cell = omega (arith, seq_mono (data_word S ws (log_entry m k).0) (data_word S vs (log_entry m k).0) (cell_up (log_entry m k).0 e), (h.done k l).cell);
        durable = omega (arith, seq_mono (durable_cell S ws (log_entry m k).0) (durable_cell S vs (log_entry m k).0) (v.durs (data_at S (log_entry m k).0) (omega arith)), (h.done k l).durable);
      };
    }

    entry_stable : (m : CallState) (n : ℕ) → IsAtEntry S B ws bs j m n → IsAtEntry S B vs cs j m n
    entry_stable m n h = record { applies = applies_stable m n (omega (arith, h.more)) h.applies; more = h.more; durable = omega (arith, h.durable, risen_up) }

    -- a request that is open at m.seq was so before
    open_before : (m : CallState) → WasCurrent S B ws bs m.seq m.owner → B.seq < m.seq → request_of vs m.owner ≡ pack m.seq 0 → request_of ws m.owner ≡ pack m.seq 0
    open_before m h l q =
        let o : (batch_at B bs m.seq).owner ≡ m.owner = h.committed l in
        let floor : pack m.seq 0 ≤ request_of ws m.owner = rw o at (floor_of S Lawful B ws bs shared m.seq l h.upto) in
        omega (arith, req_up m.owner h.owner_in)

    copies_stable : (m : CallState) (x : ℕ) → IsCopyingLog S B ws bs j m x → IsCopyingLog S B vs cs j m x
    copies_stable m x h = record {
      helping = helping_stable m h.helping;
      helps = h.helps;
      after = h.after;
      many = h.many;
      count = h.count;
      copied = λ q. rw (v.batches m.seq h.after h.helping.current_word.upto) (h.copied (open_before m h.helping.current_word h.after q));
    }

    stored_stable : (m : CallState) (x z : ℕ) → x ≤ length (log_words m.log) → z ≤ x → HasStoredLog S B ws bs j m x z → HasStoredLog S B vs cs j m x z
    stored_stable m x z fits less h = record {
      past = past_stable m h.past;
      over = scans_stable m S.callers h.past h.over;
      each = λ y l. here y (in_log y l) ∙ h.each y l;
      durable = λ y l. level_stable (log_at S j y) (log_in S j y member (in_log y (omega arith))) (here y (in_log y (omega arith))) (h.durable y l ∙ sym (h.each y (omega arith))) ∙ h.durable y l;
      rest = λ y l u. rw (here y u) (h.rest y l u);
    }
      where
        in_log : (y : ℕ) → y < x → y < 2 * most_entries S + 1
        in_log y l = omega (arith, length-log_words m.log, h.over.over.is_log.few)

        here : (y : ℕ) → y < 2 * most_entries S + 1 → log_word_of S vs j y ≡ log_word_of S ws j y
        here y u = v.logs j member other y u

    logs_stable : (m : CallState) (x z : ℕ) → x ≤ length (log_words m.log) → z ≤ x → IsStoringLog S B ws bs j m x z → IsStoringLog S B vs cs j m x z
    logs_stable m x z fits less h = let q = req_stays h.shut in record {
      stored = stored_stable m x z fits less h.stored;
      own = rw q h.own;
      level = level_stable (request_at j) (omega arith) q h.level ∙ h.level ∙ sym q;
      shut = shut_stable h.shut;
    }

    told_stable : (m : CallState) (o : Option Outcome) → seq_of (announcement_of S ws j) ≤ m.made → LastOutcomeStands S B ws bs j m o → LastOutcomeStands S B vs cs j m o
    told_stable m None a h = tt
    told_stable m (Some (Answered s false raw steps)) a h = record { from = h.from; durable = omega (arith, h.durable, risen_up); upto = omega (arith, h.upto, grows); reply = rw (v.states s h.from h.upto) h.reply; reads = h.reads }
    told_stable m (Some (Answered s true raw steps)) a h = record { from = h.from; durable = omega (arith, h.durable, risen_up); upto = omega (arith, h.upto, grows); call = rw (v.batches s h.from h.upto) h.call }
    told_stable m (Some (Lost s)) a h = absurd h
    told_stable m (Some (Spent s)) a h =
        let e : committed_seq vs ≡ committed_seq ws = omega (arith, h.limit, h.last, v.limit, grows) in record {
          left = rw (ap (λ (k : ℕ). last_ticket_by S B cs k j) e, tick_same (committed_seq ws) j from_start (omega arith)) h.left;
          limit = h.limit;
          last = e ∙ h.last;
          durable = omega (arith, h.durable, risen_up);
        }

    -- a request that waits for its exchange isn't closed by another
    waits : (m : CallState) → IsInRound S B ws bs j m → request_of ws j ≡ pack (m.seq + 1) 0 → request_of vs j ≡ request_of ws j
    waits m h e = go (v.requests j member other)
      where
        go : (request_of vs j ≡ request_of ws j) ⊎ ((B.seq < committed_seq ws) × ((batch_at B bs (committed_seq ws)).owner ≡ j) × (request_of ws j ≡ pack (committed_seq ws) 0) × (request_of vs j ≡ pack (committed_seq ws) 1)) → request_of vs j ≡ request_of ws j
        go (inl q) = q
        go (inr q) =
            let s : m.seq + 1 ≡ committed_seq ws = (word_inj (m.seq + 1) 0 (committed_seq ws) 0 (omega arith) (omega arith) (sym e ∙ q.2)).0 in
            absurd (h.unowned (committed_seq ws) (omega arith) (omega arith) q.1)

    pub at_stable : (m : CallState) (p : Place) → HoldsAtPlace S B ws bs j m p → HoldsAtPlace S B vs cs j m p
    at_stable m Idle h = record {
      caller = h.caller;
      calm = calm_now h.calm;
      kept = kept_stable m.kept h.kept;
      quieted = quieted_stable h.quieted;
      settled = settled_stable h.quieted h.settled;
      upto = under_stable m.made h.older h.upto;
      older = omega (arith, h.older, ann_seq);
      told = told_stable m m.answer h.older h.told;
    }
    at_stable m TryCurrent h = record { fresh = fresh_stable m h.fresh; calm = calm_now h.calm; reads = h.reads; few = h.few }
    at_stable m TryRequest h = record { trying = trying_stable m h.trying; current_word = current_stable m.seq m.owner h.current_word; calm = calm_at m.seq h.calm }
    at_stable m (TryCell x) h = record {
      trying = trying_stable m h.trying;
      current_word = current_stable m.seq m.owner h.current_word;
      calm = calm_at m.seq h.calm;
      state = watches_stable m.seq m.known h.current_word.from h.current_word.upto h.state;
      in_cells = h.in_cells;
      unknown = h.unknown;
    }
    at_stable m (StoreScript x) h = record { fresh = fresh_stable m h.fresh; calm = calm_now h.calm; more = h.more; script = said_same x (omega (arith, h.more, h.fresh.words)) ∙ h.script }
    at_stable m StoreAnnouncement h = record { fresh = fresh_stable m h.fresh; calm = calm_now h.calm; script = said_same (length m.op) h.fresh.words ∙ h.script }
    at_stable m LoadCurrent h = record {
      begun = begun_stable m h.begun;
      calm = calm_now h.calm;
      between = record { few = h.between.few; later = λ l. omega (arith, h.between.later l, grows) };
    }
    at_stable m LoadRequest h = record { round = round_stable m h.round; calm = calm_at m.seq h.calm }
    at_stable m (CopyLog x) h = record {
      copies = copies_stable m x h.copies;
      more = λ q. rw (v.batches m.seq h.copies.after h.copies.helping.current_word.upto) (h.more (open_before m h.copies.helping.current_word h.copies.after q));
      in_log = h.in_log;
    }
    at_stable m LookAgain h = record {
      copies = copies_stable m (length m.copy) h.copies;
      whole = λ q. rw (v.batches m.seq h.copies.after h.copies.helping.current_word.upto) (h.whole (open_before m h.copies.helping.current_word h.copies.after q));
    }
    at_stable m LoadOwnTicket h = record { looks = looks_stable m h.looks; calm = calm_at m.seq h.calm; no_cell = h.no_cell; no_log = h.no_log; no_calls = h.no_calls; no_scan = h.no_scan }
    at_stable m LoadShape h = record { looks = looks_stable m h.looks; calm = calm_at m.seq h.calm; finds = rw (v.states m.seq h.looks.round.current_word.from h.looks.round.current_word.upto) h.finds }
    at_stable m (LoadReply y) h = record {
      looks = looks_stable m h.looks;
      calm = calm_at m.seq h.calm;
      finds = rw (v.states m.seq h.looks.round.current_word.from h.looks.round.current_word.upto) h.finds;
      reply = rw (v.states m.seq h.looks.round.current_word.from h.looks.round.current_word.upto) h.reply;
      in_reply = h.in_reply;
      marked = h.marked;
    }
    at_stable m LoadAnnouncement h = scanning_stable m h
    at_stable m LoadTicket h = record { scanning = scanning_stable m h.scanning; heard = heard_stable m h.scanning h.heard; unknown = h.unknown }
    at_stable m (LoadScript x) h = record { scanning = scanning_stable m h.scanning; heard = heard_stable m h.scanning h.heard; loaded = script_stable m x h.scanning h.heard h.loaded; more = h.more }
    at_stable m (LoadCell a) h = record {
      scanning = scanning_stable m h.scanning;
      heard = heard_stable m h.scanning h.heard;
      loaded = script_stable m (payload_of m.heard) h.scanning h.heard h.loaded;
      in_cells = h.in_cells;
      unknown = h.unknown;
    }
    at_stable m RaiseOld h = record { past = past_stable m h.past; calm = calm_at m.seq h.calm; scan = scans_stable m S.callers h.past h.scan }
    at_stable m (StoreLog x) h = record { storing = logs_stable m x x (omega (arith, h.more)) (omega arith) h.storing; more = h.more }
    at_stable m (RaiseLog x) h = record { storing = logs_stable m (x + 1) x (omega (arith, h.more)) (omega arith) h.storing; more = h.more }
    at_stable m StoreRequest h = logs_stable m (length (log_words m.log)) (length (log_words m.log)) (omega arith) (omega arith) h
    at_stable m RaiseRequest h = record {
      stored = stored_stable m (length (log_words m.log)) (length (log_words m.log)) (omega arith) (omega arith) h.stored;
      asks = waits m h.stored.past.looks.round h.asks ∙ h.asks;
      shut = closed_stable h.shut;
    }
    at_stable m ExchangeCurrent h =
        let q = waits m h.stored.past.looks.round h.asks in record {
          stored = stored_stable m (length (log_words m.log)) (length (log_words m.log)) (omega arith) (omega arith) h.stored;
          asks = q ∙ h.asks;
          raised = level_stable (request_at j) (omega arith) q (h.raised ∙ sym h.asks) ∙ h.raised;
        }
    at_stable m RaiseCurrent h = applies_stable m 0 (omega arith) h
    at_stable m (LoadTarget n) h = entry_stable m n h
    at_stable m (ExchangeTarget n f) h = record { entry = entry_stable m n h.entry; older = h.older; found = go h.found (v.changes (log_entry m n).0 (entry_in shared h.entry.applies n h.entry.more).0) }
      where
        go : (data_word S ws (log_entry m n).0 ≡ f) ⊎ (m.seq ≤ seq_of (data_word S ws (log_entry m n).0)) → (data_word S vs (log_entry m n).0 ≡ data_word S ws (log_entry m n).0) ⊎ (committed_seq ws ≤ seq_of (data_word S vs (log_entry m n).0))
            → (data_word S vs (log_entry m n).0 ≡ f) ⊎ (m.seq ≤ seq_of (data_word S vs (log_entry m n).0))
        go (inl x) (inl y) = inl (y ∙ x)
        go (inr x) (inl y) = inr (rw y x)
        go x (inr y) = inr (omega (arith, h.entry.applies.upto))
    at_stable m (ReloadTarget n) h = record {
      entry = entry_stable m n h.entry;
      newer = omega (arith, h.newer, seq_mono (data_word S ws (log_entry m n).0) (data_word S vs (log_entry m n).0) (cell_up (log_entry m n).0 (entry_in shared h.entry.applies n h.entry.more).0));
    }
    at_stable m (RaiseTarget n f) h = record {
      entry = entry_stable m n h.entry;
      newer = h.newer;
      low = omega (arith, h.low, cell_up (log_entry m n).0 (entry_in shared h.entry.applies n h.entry.more).0);
      held = held_stable (log_entry m n).0 f h.held;
    }
    at_stable m CloseRequest h = record { applies = applies_stable m (length m.log) (omega arith) h.applies; durable = omega (arith, h.durable, risen_up) }
    at_stable m RaiseClosed h =
        let o : m.owner < S.callers = owner_in shared h.applies in record {
          applies = applies_stable m (length m.log) (omega arith) h.applies;
          durable = omega (arith, h.durable, risen_up);
          closed = omega (arith, h.closed, req_up m.owner o);
        }
