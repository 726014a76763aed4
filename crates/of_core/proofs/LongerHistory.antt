-- One batch more: the history stands, and the own cells hold the last calls.
use Rattle.std.proofs.Common.{◌≡◌, ℕ, zero, suc, ◌+◌, ◌<◌, ◌≤◌, ◌⊎◌, inl, inr, List, [], ◌∷◌, ◌++◌, length, get_or, refl, sym, ◌∙◌, ap, subst, arith, length-append, map}
use Rattle.std.specs.List.{All}
use Rattle.std.proofs.lemmas.Bool.{cases_eq, cases_lt, cases_order}
use Rattle.std.proofs.lemmas.List.{length-map, get_or_default}
use Rattle.of_cell.specs.declared.word.TheConstants.{PAYLOADS}
use Rattle.of_cell.specs.Words.{pack, payload_of}
use Rattle.of_cell.proofs.Order.{pay_word}
use Rattle.of_cell.proofs.Places.{row_within}
use Rattle.of_mem.specs.Meaning.{IsSoundMeaning, SameFrom, with_writes_in}
use Rattle.of_core.specs.Table.{Setup, first_operation_cell, ticket_cell, shape_cell, reply_cell}
use Rattle.of_core.specs.Machine.{Call, no_call}
use Rattle.of_core.specs.TableMoment.{Batch, TableStart}
use Rattle.of_core.specs.History.{state_after, batch_at, data_word_after, with_log_applied, ShowsCall, OwnCellsShowLast, HasNoCallBetween, IsCellOfCaller, CallersRise, last_ticket_by, numbers_after, numbers_after_calls, CallsHaveReplies}
use Rattle.of_core.specs.WordsMatch.{IsLog, IsStart, StatesFollowBatches}
use Rattle.of_core.specs.Scan.{LogsCell, LogsOwnCells, IsOverlayOf, WasTakenByScan}
use Rattle.of_core.proofs.States.{state_same, batch_same, batch_new, state_next, state_length, old, changed_at, changed_other}
use Rattle.of_mem.proofs.Writes.{written_length}
use Rattle.of_core.proofs.Logs.{pay_changed}
use Rattle.of_core.proofs.Overlays.{calls_length, calls_lawful}

-- some call is the caller's, or none is
pub cases_called : (cs : List Call) (i : ℕ) → ((y : ℕ) × (y < length cs) × ((get_or cs y no_call).caller ≡ i)) ⊎ ((y : ℕ) → y < length cs → (get_or cs y no_call).caller ≡ i → ⊥)
cases_called [] i = inr (λ j l q. omega arith)
cases_called (c ∷ cs) i = go (cases_eq c.caller i) (cases_called cs i)
  where
    go : (c.caller ≡ i) ⊎ (c.caller ≡ i → ⊥) → ((y : ℕ) × (y < length cs) × ((get_or cs y no_call).caller ≡ i)) ⊎ ((y : ℕ) → y < length cs → (get_or cs y no_call).caller ≡ i → ⊥)
        → ((y : ℕ) × (y < length (c ∷ cs)) × ((get_or (c ∷ cs) y no_call).caller ≡ i)) ⊎ ((y : ℕ) → y < length (c ∷ cs) → (get_or (c ∷ cs) y no_call).caller ≡ i → ⊥)
    go (inl q) r = inl (0, omega arith, q)
    go (inr away) (inl r) = inl (suc r.0, omega (arith, r.1), r.2)
    go (inr away) (inr none) = inr none_of
      where
        none_of : (j : ℕ) → j < length (c ∷ cs) → (get_or (c ∷ cs) j no_call).caller ≡ i → ⊥
        none_of zero l q = away q
        none_of (suc j) l q = none j (omega arith) q

pub one_row : (S : Setup) (i j a : ℕ) → IsCellOfCaller S i a → IsCellOfCaller S j a → i ≡ j
one_row S i j a p q = go (cases_order i j)
  where
    go : (i ≡ j) ⊎ ((i < j) ⊎ (j < i)) → i ≡ j
    go (inl e) = e
    go (inr (inl l)) = absurd (omega (arith, p, q, row_within i j (S.instrs + 2) l))
    go (inr (inr l)) = absurd (omega (arith, p, q, row_within j i (S.instrs + 2) l))

module _ (S : Setup) (Lawful : List ℕ → Type 0) (sound : IsSoundMeaning S.meaning Lawful (first_operation_cell S) S.cells) (B : TableStart) (bs : List Batch) (start : IsStart S B) (logs : (k : ℕ) → B.seq < k → k ≤ B.seq + length bs → IsLog S (batch_at B bs k).log) (own_in : first_operation_cell S ≤ S.cells) (st : StatesFollowBatches S Lawful B bs)
    (b : Batch) (n : ℕ) (n_is : n ≡ B.seq + length bs) (over : IsOverlayOf S (numbers_after B bs n) b.calls b.log) (taken : All (WasTakenByScan S (state_after B bs n)) b.calls) (rising : CallersRise b.calls) (nonempty : 0 < length b.calls) where
  abbrev cs : List Batch
  cs = bs ++ b ∷ []

  longer : length cs ≡ length bs + 1
  longer = length-append bs (b ∷ [])

  states : (k : ℕ) → k ≤ n → state_after B cs k ≡ state_after B bs k
  states k l = state_same B bs (b ∷ []) k (omega (arith, n_is))

  batches : (k : ℕ) → B.seq < k → k ≤ n → batch_at B cs k ≡ batch_at B bs k
  batches k l u = batch_same B bs (b ∷ []) k l (omega (arith, n_is))

  new_batch : batch_at B cs (n + 1) ≡ b
  new_batch = batch_new B bs b (n + 1) (omega (arith, n_is))

  which : (k : ℕ) → k ≤ B.seq + length cs → (k ≤ n) ⊎ (k ≡ n + 1)
  which k l = pick (cases_lt n k)
    where
      pick : (n < k) ⊎ (k ≤ n) → (k ≤ n) ⊎ (k ≡ n + 1)
      pick (inl x) = inr (omega (arith, longer, n_is))
      pick (inr x) = inl x

  pub new_logs : (k : ℕ) → B.seq < k → k ≤ B.seq + length cs → IsLog S (batch_at B cs k).log
  new_logs k l u = go (which k u)
    where
      go : (k ≤ n) ⊎ (k ≡ n + 1) → IsLog S (batch_at B cs k).log
      go (inl v) = rw (batches k l v) (logs k l (omega (arith, n_is)))
      go (inr v) = rw (v, new_batch) over.is_log

  from : B.seq ≤ n
  from = omega (arith, n_is)

  size : length (state_after B bs n) ≡ S.cells
  size = state_length S B bs start logs n from (omega (arith, n_is))

  state_new : state_after B cs (n + 1) ≡ with_log_applied (n + 1) (state_after B bs n) b.log
  state_new = state_next B cs n from (omega (arith, n_is, longer)) ∙ rw (new_batch, states n (omega arith)) refl

  pub new_numbers : numbers_after B cs (n + 1) ≡ with_writes_in (numbers_after B bs n) b.log
  new_numbers = ap (λ (ys : List ℕ). map payload_of ys) state_new ∙ pay_changed (n + 1) (state_after B bs n) b.log (λ k d l. (over.is_log.entries k d l).1)

  named : (a v : ℕ) → LogsCell b.log a v → data_word_after B cs (n + 1) a ≡ pack (n + 1) v
  named a v x = rw state_new (subst (λ (e : ℕ × ℕ). get_or (with_log_applied (n + 1) (state_after B bs n) b.log) e.0 0 ≡ pack (n + 1) e.1) x.names (changed_at S (n + 1) (state_after B bs n) b.log x.place over.is_log (omega (arith, size)) x.among))

  small : (a v : ℕ) → LogsCell b.log a v → v < PAYLOADS
  small a v x = (subst (λ (e : ℕ × ℕ). (e.0 < S.cells) × (e.1 < PAYLOADS)) x.names (over.is_log.entries x.place (0, 0) x.among)).1

  -- the own cells of a caller without a call stay
  row_stays : (i a : ℕ) → i < S.callers → ((y : ℕ) → y < length b.calls → (get_or b.calls y no_call).caller ≡ i → ⊥) → IsCellOfCaller S i a → data_word_after B cs (n + 1) a ≡ data_word_after B bs n a
  row_stays i a l none r = rw state_new (changed_other (n + 1) (state_after B bs n) b.log a (λ j u q. away j u q))
    where
      away : (j : ℕ) → j < length b.log → (get_or b.log j (0, 0)).0 ≡ a → ⊥
      away j u q =
          let z = over.rows j u (omega (arith, r, q, row_within i S.callers (S.instrs + 2) l)) in
          none z.0 z.1 (one_row S (get_or b.calls z.0 no_call).caller i a (subst (λ (x : ℕ). IsCellOfCaller S (get_or b.calls z.0 no_call).caller x) q z.2) r)

  now_of : (y : ℕ) (d : Call) → y < length b.calls → ((get_or b.calls y d).caller < S.callers) × (last_ticket_by S B cs (n + 1) (get_or b.calls y d).caller ≡ (get_or b.calls y d).ticket)
  now_of y d l =
      let c : Call = get_or b.calls y d in
      let o : LogsOwnCells S b.log c = over.own y d l in
      ((taken y d l).caller, ap payload_of (named (ticket_cell S c.caller) c.ticket o.ticket) ∙ pay_word (n + 1) c.ticket (small (ticket_cell S c.caller) c.ticket o.ticket))

  -- a ticket cell stays, or has the ticket of a call of the new batch
  pub ticket_new : (i : ℕ) → i < S.callers → (last_ticket_by S B cs (n + 1) i ≡ last_ticket_by S B bs n i) ⊎ ((y : ℕ) × (y < length b.calls) × ((get_or b.calls y no_call).caller ≡ i) × (last_ticket_by S B cs (n + 1) i ≡ (get_or b.calls y no_call).ticket))
  ticket_new i l = go (cases_called b.calls i)
    where
      go : ((y : ℕ) × (y < length b.calls) × ((get_or b.calls y no_call).caller ≡ i)) ⊎ ((y : ℕ) → y < length b.calls → (get_or b.calls y no_call).caller ≡ i → ⊥)
          → (last_ticket_by S B cs (n + 1) i ≡ last_ticket_by S B bs n i) ⊎ ((y : ℕ) × (y < length b.calls) × ((get_or b.calls y no_call).caller ≡ i) × (last_ticket_by S B cs (n + 1) i ≡ (get_or b.calls y no_call).ticket))
      go (inl q) = inr (q.0, q.1, q.2, rw q.2 at (now_of q.0 no_call q.1).1)
      go (inr none) = inl (ap payload_of (row_stays i (ticket_cell S i) l none (omega arith, omega arith)))

  -- what is said of the batches before is so still
  absent_as : (i lo hi : ℕ) → B.seq ≤ lo → hi ≤ n → HasNoCallBetween B bs i lo hi → HasNoCallBetween B cs i lo hi
  absent_as i lo hi f u h k l v = rw (batches k (omega arith) (omega arith)) (h k l v)

  at_as : (k a : ℕ) → k ≤ n → data_word_after B cs k a ≡ data_word_after B bs k a
  at_as k a l = ap (λ (xs : List ℕ). get_or xs a 0) (states k l)

  shows_as : (k j : ℕ) (c : Call) → k ≤ n → ShowsCall S B bs k j c → ShowsCall S B cs k j c
  shows_as k j c l h = record { ticket = at_as k (ticket_cell S c.caller) l ∙ h.ticket; shape = ap payload_of (at_as k (shape_cell S c.caller) l) ∙ h.shape; replies = λ y u m. ap payload_of (at_as k (reply_cell S c.caller y) l) ∙ h.replies y u m; rest = h.rest }

  last_as : (k i : ℕ) → B.seq ≤ k → k ≤ n → OwnCellsShowLast S B bs k i → OwnCellsShowLast S B cs k i
  last_as k i f l (inl q) = inl (absent_as i B.seq k (omega arith) l q.0, λ a r. at_as k a l ∙ q.1 a r ∙ sym (at_as B.seq a from))
  last_as k i f l (inr c) = let e = batches c.number c.from (omega (arith, c.upto)) in inr record {
    number = c.number;
    from = c.from;
    upto = c.upto;
    place = c.place;
    among = rw e c.among;
    caller = rw e c.caller;
    shows = rw e (shows_as k c.number (get_or (batch_at B bs c.number).calls c.place no_call) l c.shows);
    absent = absent_as i c.number k (omega (arith, c.from)) l c.absent;
    old = λ a r. rw (at_as k a l) (c.old a r);
  }

  last_new : (i : ℕ) → i < S.callers → OwnCellsShowLast S B cs (n + 1) i
  last_new i l = go (cases_called b.calls i) (st.last n i from (omega (arith, n_is)) l)
    where
      row_in : (a : ℕ) → IsCellOfCaller S i a → a < S.cells
      row_in a r = omega (arith, r, row_within i S.callers (S.instrs + 2) l)

      absent_more : (lo : ℕ) → B.seq ≤ lo → ((y : ℕ) → y < length b.calls → (get_or b.calls y no_call).caller ≡ i → ⊥) → HasNoCallBetween B bs i lo n → HasNoCallBetween B cs i lo (n + 1)
      absent_more lo f none h k v u = pick (which k (omega (arith, n_is, longer)))
        where
          pick : (k ≤ n) ⊎ (k ≡ n + 1) → All (λ (c : Call). c.caller ≡ i → ⊥) (batch_at B cs k).calls
          pick (inl w) = rw (batches k (omega arith) w) (h k v w)
          pick (inr w) = rw (w, new_batch) (λ y d m q. none y m (ap (λ (c : Call). c.caller) (get_or_default b.calls y no_call d m) ∙ q))

      go : ((y : ℕ) × (y < length b.calls) × ((get_or b.calls y no_call).caller ≡ i)) ⊎ ((y : ℕ) → y < length b.calls → (get_or b.calls y no_call).caller ≡ i → ⊥) → OwnCellsShowLast S B bs n i → OwnCellsShowLast S B cs (n + 1) i
      go (inl q) h = inr record {
        number = n + 1;
        from = omega (arith, from);
        upto = omega arith;
        place = q.0;
        among = rw new_batch q.1;
        caller = rw new_batch q.2;
        shows = rw new_batch shows;
        absent = λ k v u. absurd (omega arith);
        old = λ a r. old S B cs start new_logs (n + 1) a (omega (arith, from)) (omega (arith, n_is, longer)) (row_in a r);
      }
        where
          c : Call
          c = get_or b.calls q.0 no_call

          o : LogsOwnCells S b.log (get_or b.calls q.0 no_call)
          o = over.own q.0 no_call q.1

          shows : ShowsCall S B cs (n + 1) (n + 1) (get_or b.calls q.0 no_call)
          shows = record {
            ticket = named (ticket_cell S c.caller) c.ticket o.ticket;
            shape = ap payload_of (named (shape_cell S c.caller) c.raw.shape o.shape) ∙ pay_word (n + 1) c.raw.shape (small (shape_cell S c.caller) c.raw.shape o.shape);
            replies = λ y u m. let x = o.replies y u m in ap payload_of (named (reply_cell S c.caller y) (get_or c.raw.values y 0) x) ∙ pay_word (n + 1) (get_or c.raw.values y 0) (small (reply_cell S c.caller y) (get_or c.raw.values y 0) x);
            rest = o.rest;
          }
      go (inr none) (inl q) = inl (absent_more B.seq (omega arith) none q.0, λ a r. row_stays i a l none r ∙ q.1 a r ∙ sym (at_as B.seq a from))
      go (inr none) (inr c) = let e = batches c.number c.from c.upto in inr record {
        number = c.number;
        from = c.from;
        upto = omega (arith, c.upto);
        place = c.place;
        among = rw e c.among;
        caller = rw e c.caller;
        shows = rw e shows;
        absent = absent_more c.number (omega (arith, c.from)) none c.absent;
        old = λ a r. rw (row_stays i a l none r) (c.old a r);
      }
        where
          d : Call
          d = get_or (batch_at B bs c.number).calls c.place no_call

          stays : (a : ℕ) → IsCellOfCaller S d.caller a → data_word_after B cs (n + 1) a ≡ data_word_after B bs n a
          stays a r = row_stays i a l none (subst (λ (x : ℕ). IsCellOfCaller S x a) c.caller r)

          shows : ShowsCall S B cs (n + 1) c.number (get_or (batch_at B bs c.number).calls c.place no_call)
          shows = record {
            ticket = stays (ticket_cell S d.caller) (omega arith, omega arith) ∙ c.shows.ticket;
            shape = ap payload_of (stays (shape_cell S d.caller) (omega arith, omega arith)) ∙ c.shows.shape;
            replies = λ y u m. ap payload_of (stays (reply_cell S d.caller y) (omega arith, omega arith)) ∙ c.shows.replies y u m;
            rest = c.shows.rest;
          }

  -- the history with the new batch
  pub grown : StatesFollowBatches S Lawful B cs
  grown = record {
    lawful = λ k l u. lawful_at k l (which k u);
    leads = λ k l u. leads_at k l (cases_lt k n) (omega (arith, longer, n_is));
    replies = λ k l u. replies_at k l (cases_lt k n) (omega (arith, longer, n_is));
    last = λ k i l u m. last_at k i l m (which k u);
    rises = λ k l u. rises_at k l (cases_lt k n) (omega (arith, longer, n_is));
    now = λ k l u. now_at k l (which k u);
    grow = λ k i l u m. grow_at k i l m (cases_lt k n) (omega (arith, longer, n_is));
    ordered = λ k l u. ordered_at k l (which k u);
    some = λ k l u. some_at k l (which k u);
  }
    where
      xs : List ℕ
      xs = numbers_after B bs n

      xs_size : length (numbers_after B bs n) ≡ S.cells
      xs_size = length-map (state_after B bs n) payload_of ∙ size

      new_size : length (numbers_after B cs (n + 1)) ≡ S.cells
      new_size = rw (new_numbers, written_length) xs_size

      same_from : SameFrom (first_operation_cell S) (numbers_after B cs (n + 1)) (numbers_after_calls S.meaning (numbers_after B bs n) b.calls)
      same_from = rw new_numbers over.effect

      lawful : Lawful (numbers_after B bs n)
      lawful = st.lawful n from (omega (arith, n_is))

      lawful_at : (k : ℕ) → B.seq ≤ k → (k ≤ n) ⊎ (k ≡ n + 1) → Lawful (numbers_after B cs k)
      lawful_at k l (inl u) = rw (states k u) (st.lawful k l (omega (arith, n_is)))
      lawful_at k l (inr u) = rw u (sound.lawful_from (numbers_after_calls S.meaning xs b.calls) (numbers_after B cs (n + 1)) (calls_length S Lawful sound xs b.calls xs_size) new_size (sym same_from) (calls_lawful S Lawful sound xs b.calls xs_size lawful))

      at_n : (k : ℕ) → (n ≤ k) → k ≤ n → k ≡ n
      at_n k l u = omega arith

      leads_at : (k : ℕ) → B.seq ≤ k → (k < n) ⊎ (n ≤ k) → k ≤ n → SameFrom (first_operation_cell S) (numbers_after B cs (k + 1)) (numbers_after_calls S.meaning (numbers_after B cs k) (batch_at B cs (k + 1)).calls)
      leads_at k l (inl u) v = rw (states (k + 1) (omega arith), states k v, batches (k + 1) (omega arith) (omega arith)) (st.leads k l (omega (arith, n_is)))
      leads_at k l (inr u) v = rw (at_n k u v, new_batch, states n (omega arith)) same_from

      replies_at : (k : ℕ) → B.seq ≤ k → (k < n) ⊎ (n ≤ k) → k ≤ n → CallsHaveReplies S.meaning (numbers_after B cs k) (batch_at B cs (k + 1)).calls
      replies_at k l (inl u) v = rw (states k v, batches (k + 1) (omega arith) (omega arith)) (st.replies k l (omega (arith, n_is)))
      replies_at k l (inr u) v = rw (at_n k u v, new_batch, states n (omega arith)) over.replies

      last_at : (k i : ℕ) → B.seq ≤ k → i < S.callers → (k ≤ n) ⊎ (k ≡ n + 1) → OwnCellsShowLast S B cs k i
      last_at k i l m (inl u) = last_as k i l u (st.last k i l (omega (arith, n_is)) m)
      last_at k i l m (inr u) = subst (λ (x : ℕ). OwnCellsShowLast S B cs x i) (sym u) (last_new i m)

      rises_at : (k : ℕ) → B.seq ≤ k → (k < n) ⊎ (n ≤ k) → k ≤ n → All (λ (c : Call). last_ticket_by S B cs k c.caller < c.ticket) (batch_at B cs (k + 1)).calls
      rises_at k l (inl u) v = rw (states k v, batches (k + 1) (omega arith) (omega arith)) (st.rises k l (omega (arith, n_is)))
      rises_at k l (inr u) v = rw (at_n k u v, new_batch, states n (omega arith)) (λ y d m. (taken y d m).above)

      now_at : (k : ℕ) → B.seq < k → (k ≤ n) ⊎ (k ≡ n + 1) → All (λ (c : Call). (c.caller < S.callers) × (last_ticket_by S B cs k c.caller ≡ c.ticket)) (batch_at B cs k).calls
      now_at k l (inl u) = rw (states k u, batches k l u) (st.now k l (omega (arith, n_is)))
      now_at k l (inr u) = rw (u, new_batch) (λ y d m. now_of y d m)

      grow_at : (k i : ℕ) → B.seq ≤ k → i < S.callers → (k < n) ⊎ (n ≤ k) → k ≤ n → last_ticket_by S B cs k i ≤ last_ticket_by S B cs (k + 1) i
      grow_at k i l m (inl u) v = rw (states k v, states (k + 1) (omega arith)) (st.grow k i l (omega (arith, n_is)) m)
      grow_at k i l m (inr u) v = rw (at_n k u v, states n (omega arith)) (pick (ticket_new i m))
        where
          pick : (last_ticket_by S B cs (n + 1) i ≡ last_ticket_by S B bs n i) ⊎ ((y : ℕ) × (y < length b.calls) × ((get_or b.calls y no_call).caller ≡ i) × (last_ticket_by S B cs (n + 1) i ≡ (get_or b.calls y no_call).ticket)) → last_ticket_by S B bs n i ≤ last_ticket_by S B cs (n + 1) i
          pick (inl q) = omega arith
          pick (inr q) = let z : last_ticket_by S B bs n i < (get_or b.calls q.0 no_call).ticket = rw q.2 at (taken q.0 no_call q.1).above in omega (arith, q.3)

      ordered_at : (k : ℕ) → B.seq < k → (k ≤ n) ⊎ (k ≡ n + 1) → CallersRise (batch_at B cs k).calls
      ordered_at k l (inl u) = rw (batches k l u) (st.ordered k l (omega (arith, n_is)))
      ordered_at k l (inr u) = rw (u, new_batch) rising

      some_at : (k : ℕ) → B.seq < k → (k ≤ n) ⊎ (k ≡ n + 1) → 0 < length (batch_at B cs k).calls
      some_at k l (inl u) = rw (batches k l u) (st.some k l (omega (arith, n_is)))
      some_at k l (inr u) = rw (u, new_batch) nonempty
