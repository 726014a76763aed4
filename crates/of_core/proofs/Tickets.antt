-- Tickets rise, and the own cells of a caller with no newer call are old.
use Rattle.std.proofs.Common.{◌≡◌, ℕ, zero, suc, ◌+◌, ◌-◌, ◌<◌, ◌≤◌, ◌⊎◌, inl, inr, List, length, get_or, ap, arith}
use Rattle.std.specs.List.{All}
use Rattle.std.proofs.lemmas.Bool.{cases_lt}
use Rattle.of_cell.specs.Words.{seq_of}
use Rattle.of_cell.proofs.Places.{row_within}
use Rattle.of_core.specs.Table.{Setup, first_operation_cell}
use Rattle.of_core.specs.Machine.{Call, no_call}
use Rattle.of_core.specs.TableMoment.{Batch, TableStart}
use Rattle.of_core.specs.History.{batch_at, data_word_after, OwnCellsShowLast, IsNewestCall, IsCellOfCaller, last_ticket_by}
use Rattle.of_core.specs.WordsMatch.{StatesFollowBatches, IsLog, IsStart}
use Rattle.of_core.proofs.States.{old}

module _ (S : Setup) (Lawful : List ℕ → Type 0) (B : TableStart) (bs : List Batch) (st : StatesFollowBatches S Lawful B bs) where
  grow_by : (d k i : ℕ) → B.seq ≤ k → k + d ≤ B.seq + length bs → i < S.callers → last_ticket_by S B bs k i ≤ last_ticket_by S B bs (k + d) i
  grow_by zero k i l u m = let e : k + 0 ≡ k = omega arith in rw e (omega arith)
  grow_by (suc d) k i l u m =
      let e : k + suc d ≡ k + d + 1 = omega arith in
      rw e (omega (arith, grow_by d k i l (omega arith) m, st.grow (k + d) i (omega arith) (omega arith) m))

  pub tickets_grow : (j k i : ℕ) → B.seq ≤ j → j ≤ k → k ≤ B.seq + length bs → i < S.callers → last_ticket_by S B bs j i ≤ last_ticket_by S B bs k i
  tickets_grow j k i l u m n = let e : j + (k - j) ≡ k = omega arith in rw e at (grow_by (k - j) j i l (omega arith) n)

  -- a batch's call has its ticket in its caller's ticket cell at most ever after
  pub ticket_upto : (k n : ℕ) → B.seq < k → k ≤ n → n ≤ B.seq + length bs → All (λ (c : Call). c.ticket ≤ last_ticket_by S B bs n c.caller) (batch_at B bs k).calls
  ticket_upto k n l u m x d y =
      let c : Call = get_or (batch_at B bs k).calls x d in
      let p = st.now k l (omega arith) x d y in
      omega (arith, p.1, tickets_grow k n c.caller (omega arith) u m p.0)

  -- each caller's tickets rise from batch to batch
  pub tickets_rise : (j k : ℕ) → B.seq < j → j < k → k ≤ B.seq + length bs
      → All (λ (c : Call). All (λ (d : Call). d.caller ≡ c.caller → c.ticket < d.ticket) (batch_at B bs k).calls) (batch_at B bs j).calls
  tickets_rise j k l u m y c v z d x q =
      let e : k - 1 + 1 ≡ k = omega arith in
      let a : (get_or (batch_at B bs j).calls y c).ticket ≤ last_ticket_by S B bs (k - 1) (get_or (batch_at B bs j).calls y c).caller = ticket_upto j (k - 1) l (omega arith) (omega arith) y c v in
      let b : last_ticket_by S B bs (k - 1) (get_or (batch_at B bs k).calls z d).caller < (get_or (batch_at B bs k).calls z d).ticket = (rw e at (st.rises (k - 1) (omega arith) (omega arith))) z d x in
      omega (arith, a, b, ap (last_ticket_by S B bs (k - 1)) q)

  module _ (start : IsStart S B) (logs : (k : ℕ) → B.seq < k → k ≤ B.seq + length bs → IsLog S (batch_at B bs k).log) (own_in : first_operation_cell S ≤ S.cells) where
    -- the last call of caller i up to k is in a batch of at most s, where its ticket cell hasn't changed since
    pub number_old : (s k i : ℕ) → B.seq ≤ s → s ≤ k → k ≤ B.seq + length bs → i < S.callers → last_ticket_by S B bs k i ≤ last_ticket_by S B bs s i → (c : IsNewestCall S B bs k i) → c.number ≤ s
    number_old s k i l u m n t c = go (cases_lt s c.number)
      where
        go : (s < c.number) ⊎ (c.number ≤ s) → c.number ≤ s
        go (inr v) = v
        go (inl v) =
            let e : c.number - 1 + 1 ≡ c.number = omega arith in
            let r : last_ticket_by S B bs (c.number - 1) (get_or (batch_at B bs c.number).calls c.place no_call).caller < (get_or (batch_at B bs c.number).calls c.place no_call).ticket =
            (rw e at (st.rises (c.number - 1) (omega arith) (omega (arith, c.upto)))) c.place no_call c.among in
            let r' : last_ticket_by S B bs (c.number - 1) i < (get_or (batch_at B bs c.number).calls c.place no_call).ticket = rw c.caller at r in
            let q = (st.now c.number c.from (omega (arith, c.upto)) c.place no_call c.among).1 in
            let q' : last_ticket_by S B bs c.number i ≡ (get_or (batch_at B bs c.number).calls c.place no_call).ticket = rw c.caller at q in
            absurd (omega (arith, r', q', t, tickets_grow s (c.number - 1) i l (omega arith) (omega (arith, c.upto)) n, tickets_grow c.number k i (omega arith) c.upto m n))

    pub row_old : (s k i a : ℕ) → B.seq ≤ s → s ≤ k → k ≤ B.seq + length bs → i < S.callers → last_ticket_by S B bs k i ≤ last_ticket_by S B bs s i → IsCellOfCaller S i a → seq_of (data_word_after B bs k a) ≤ s
    row_old s k i a l u m n t r = go (st.last k i (omega arith) m n)
      where
        a_in : a < S.cells
        a_in = omega (arith, r, row_within i S.callers (S.instrs + 2) n)

        go : OwnCellsShowLast S B bs k i → seq_of (data_word_after B bs k a) ≤ s
        go (inl q) = rw (q.1 a r) (omega (arith, old S B bs start logs B.seq a (omega arith) (omega arith) a_in))
        go (inr c) = omega (arith, c.old a r, number_old s k i l u m n t c)
