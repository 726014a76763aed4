-- A history that the invariant speaks of step by step is legal as a replay from the start.
use Rattle.std.proofs.Common.{◌≡◌, ℕ, zero, suc, ◌+◌, ◌<◌, ◌≤◌, List, [], ◌∷◌, ◌++◌, length, get_or, take, refl, sym, ◌∙◌, ap, arith, map}
use Rattle.std.proofs.lemmas.List.{take_more, length-map}
use Rattle.of_cell.specs.Words.{payload_of}
use Rattle.of_mem.specs.Meaning.{IsSoundMeaning, SameFrom}
use Rattle.of_core.specs.Table.{Setup, first_operation_cell}
use Rattle.of_core.specs.Machine.{Call}
use Rattle.of_core.specs.TableMoment.{Moment, TableStart, Batch}
use Rattle.of_core.specs.History.{state_after, batch_at, no_batch, numbers_after_calls, CallsHaveReplies, numbers_after, numbers_after_batches, IsLegalHistory}
use Rattle.of_core.specs.Invariant.{MeetsCore}
use Rattle.of_core.proofs.States.{state_length, state_start, batch_is}
use Rattle.of_core.proofs.Assembling.{logs_of}
use Rattle.of_core.proofs.Overlays.{calls_length}

module _ (S : Setup) (Lawful : List ℕ → Type 0) (sound : IsSoundMeaning S.meaning Lawful (first_operation_cell S) S.cells) (B : TableStart) where
  pub calls_from : (xs ys : List ℕ) (cs : List Call) → length xs ≡ S.cells → length ys ≡ S.cells → SameFrom (first_operation_cell S) xs ys → SameFrom (first_operation_cell S) (numbers_after_calls S.meaning xs cs) (numbers_after_calls S.meaning ys cs)
  calls_from xs ys [] h l s = s
  calls_from xs ys (c ∷ cs) h l s = calls_from (S.meaning.cells xs c.op) (S.meaning.cells ys c.op) cs (sound.keeps_length xs c.op h) (sound.keeps_length ys c.op l) (sound.cells_from xs ys c.op h l s)

  pub replies_from : (xs ys : List ℕ) (cs : List Call) → length xs ≡ S.cells → length ys ≡ S.cells → SameFrom (first_operation_cell S) xs ys → CallsHaveReplies S.meaning xs cs → CallsHaveReplies S.meaning ys cs
  replies_from xs ys [] h l s r = tt
  replies_from xs ys (c ∷ cs) h l s r = (sym (sound.reply_from xs ys c.op h l s) ∙ r.0, replies_from (S.meaning.cells xs c.op) (S.meaning.cells ys c.op) cs (sound.keeps_length xs c.op h) (sound.keeps_length ys c.op l) (sound.cells_from xs ys c.op h l s) r.1)

  replay_push : (xs : List ℕ) (bs : List Batch) (b : Batch) → numbers_after_batches S.meaning xs (bs ++ b ∷ []) ≡ numbers_after_calls S.meaning (numbers_after_batches S.meaning xs bs) b.calls
  replay_push xs [] b = refl
  replay_push xs (c ∷ cs) b = replay_push (numbers_after_calls S.meaning xs c.calls) cs b

  pub replay_length : (xs : List ℕ) (bs : List Batch) → length xs ≡ S.cells → length (numbers_after_batches S.meaning xs bs) ≡ S.cells
  replay_length xs [] h = h
  replay_length xs (b ∷ bs) h = replay_length (numbers_after_calls S.meaning xs b.calls) bs (calls_length S Lawful sound xs b.calls h)

  legal_push : (xs : List ℕ) (bs : List Batch) (b : Batch) → IsLegalHistory S.meaning xs bs → CallsHaveReplies S.meaning (numbers_after_batches S.meaning xs bs) b.calls → IsLegalHistory S.meaning xs (bs ++ b ∷ [])
  legal_push xs [] b h r = (r, tt)
  legal_push xs (c ∷ cs) b h r = (h.0, legal_push (numbers_after_calls S.meaning xs c.calls) cs b h.1 r)

  module _ (w : Moment) (g : MeetsCore S Lawful B w) where
    abbrev first : List ℕ
    first = map payload_of B.cells

    first_length : length first ≡ S.cells
    first_length = length-map B.cells payload_of ∙ g.shared.start.size

    pub upto : (d : ℕ) → d ≤ length w.batches → SameFrom (first_operation_cell S) (numbers_after B w.batches (B.seq + d)) (numbers_after_batches S.meaning first (take d w.batches)) × IsLegalHistory S.meaning first (take d w.batches)
    upto zero h = let e : B.seq + 0 ≡ B.seq = omega arith in (rw (e, state_start B w.batches) refl, tt)
    upto (suc d) h =
        let p = upto d (omega arith) in
        let l : d < length w.batches = omega arith in
        let t : take (suc d) w.batches ≡ take d w.batches ++ get_or w.batches d no_batch ∷ [] = sym (ap (λ (k : ℕ). take k w.batches) (suc_is d)) ∙ take_more w.batches d no_batch l in
        let here : length (numbers_after B w.batches (B.seq + d)) ≡ S.cells = length-map (state_after B w.batches (B.seq + d)) payload_of ∙ state_length S B w.batches g.shared.start (logs_of g) (B.seq + d) (omega arith) (omega arith) in
        let e : B.seq + suc d ≡ B.seq + d + 1 = omega arith in
        let b : batch_at B w.batches (B.seq + d + 1) ≡ get_or w.batches d no_batch = batch_is B w.batches d in
        let leads : SameFrom (first_operation_cell S) (numbers_after B w.batches (B.seq + d + 1)) (numbers_after_calls S.meaning (numbers_after B w.batches (B.seq + d)) (get_or w.batches d no_batch).calls) = rw b at (g.shared.stands.leads (B.seq + d) (omega arith) (omega arith)) in
        let replies : CallsHaveReplies S.meaning (numbers_after B w.batches (B.seq + d)) (get_or w.batches d no_batch).calls = rw b at (g.shared.stands.replies (B.seq + d) (omega arith) (omega arith)) in
        rw (t, e) (
          rw (replay_push first (take d w.batches) (get_or w.batches d no_batch))
              (leads ∙ calls_from (numbers_after B w.batches (B.seq + d)) (numbers_after_batches S.meaning first (take d w.batches)) (get_or w.batches d no_batch).calls here (replay_length first (take d w.batches) first_length) p.0),
          legal_push first (take d w.batches) (get_or w.batches d no_batch) p.1
              (replies_from (numbers_after B w.batches (B.seq + d)) (numbers_after_batches S.meaning first (take d w.batches)) (get_or w.batches d no_batch).calls here (replay_length first (take d w.batches) first_length) p.0 replies),
        )
      where
        suc_is : (d : ℕ) → d + 1 ≡ suc d
        suc_is d = omega arith
